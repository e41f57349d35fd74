-- How the memory changes with each change of the tree.
use Rattle.std.specs.Prelude.{◌≡◌, ◌+◌, ◌-◌, max, ℕ, Bool, true, false, List, Some}
use Rattle.std.specs.FinMap.{get, insert, remove}
use Rattle.std.specs.Int.{from_be_bytes, w64}
use Rattle.nfs2_types.specs.declared.fattr.Kind.{Kind}
use Rattle.nfs2_types.specs.declared.fattr.Kind.TheVariants.{File, Dir, Link}
use Rattle.server_trait.specs.Tree.{one_if}
use Rattle.server_trait.specs.declared.server.TheConstants.{NAME_BYTES}
use Rattle.log_index.specs.declared.info.NodeInfo.{NodeInfo}
use Rattle.log_index.specs.Memory.{Memory}

-- it is a directory
abbrev pub is_dir : Kind → Bool
is_dir File = false
is_dir Dir = true
is_dir Link = false

-- a node with one name more that leads to it, from a directory, and with one less
abbrev pub led_more : List ℕ → NodeInfo → NodeInfo
led_more dir i = elim i.kind [
  | File ↦ record i { links = i.links + 1 }
  | Dir ↦ record i { parent = dir }
  | Link ↦ record i { links = i.links + 1 }
]

abbrev pub led_less : NodeInfo → NodeInfo
led_less i = elim i.kind [
  | File ↦ record i { links = i.links - 1 }
  | Dir ↦ i
  | Link ↦ record i { links = i.links - 1 }
]

-- a directory with one name more, which leads to a node of this kind, and with one less
abbrev pub wider : Kind → NodeInfo → NodeInfo
wider kind i = record i { size = i.size + 1; links = i.links + one_if (is_dir kind) }

abbrev pub narrower : Kind → NodeInfo → NodeInfo
narrower kind i = record i { size = i.size - 1; links = i.links - one_if (is_dir kind) }

-- a node is put, which uses so many bytes
pub record AddsNode (old : Memory) (id : List ℕ) (info : NodeInfo) (bytes : ℕ) (new : Memory) : Type 0 where
  pub nodes : new.nodes ≡ insert old.nodes id info
  pub count : new.count ≡ old.count + 1
  pub used : new.used ≡ old.used + bytes
  pub next : new.next ≡ max old.next (from_be_bytes w64 id + 1)

-- a node that used so many bytes is gone
pub record DropsNode (old : Memory) (id : List ℕ) (bytes : ℕ) (new : Memory) : Type 0 where
  pub nodes : new.nodes ≡ remove old.nodes id
  pub count : new.count ≡ old.count - 1
  pub used : new.used ≡ old.used - bytes
  pub next : new.next ≡ old.next

-- a directory gets a name that leads to a node
pub record AddsName (old : Memory) (dir child : List ℕ) (new : Memory) : Type 0 where
  pub led : NodeInfo
  pub within : NodeInfo
  pub is_led : get old.nodes child ≡ Some led
  pub is_within : get (insert old.nodes child (led_more dir led)) dir ≡ Some within
  pub nodes : new.nodes ≡ insert (insert old.nodes child (led_more dir led)) dir (wider led.kind within)
  pub count : new.count ≡ old.count
  pub used : new.used ≡ old.used + NAME_BYTES
  pub next : new.next ≡ old.next

-- a directory loses a name that led to a node
pub record DropsName (old : Memory) (dir child : List ℕ) (new : Memory) : Type 0 where
  pub led : NodeInfo
  pub within : NodeInfo
  pub is_led : get old.nodes child ≡ Some led
  pub is_within : get (insert old.nodes child (led_less led)) dir ≡ Some within
  pub nodes : new.nodes ≡ insert (insert old.nodes child (led_less led)) dir (narrower led.kind within)
  pub count : new.count ≡ old.count
  pub used : new.used ≡ old.used - NAME_BYTES
  pub next : new.next ≡ old.next

-- a node has other attributes
pub record SetsNode (old : Memory) (id : List ℕ) (mode uid gid : ℕ) (new : Memory) : Type 0 where
  pub info : NodeInfo
  pub is_info : get old.nodes id ≡ Some info
  pub nodes : new.nodes ≡ insert old.nodes id (record info { mode = mode; uid = uid; gid = gid })
  pub count : new.count ≡ old.count
  pub used : new.used ≡ old.used
  pub next : new.next ≡ old.next

-- a file has so many bytes now
pub record ResizesNode (old : Memory) (id : List ℕ) (size : ℕ) (new : Memory) : Type 0 where
  pub info : NodeInfo
  pub is_info : get old.nodes id ≡ Some info
  pub nodes : new.nodes ≡ insert old.nodes id (record info { size = size })
  pub count : new.count ≡ old.count
  pub used : new.used ≡ (old.used - info.size) + size
  pub next : new.next ≡ old.next
