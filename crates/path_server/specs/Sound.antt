-- What holds of a tree that a path server holds.
use Rattle.std.specs.Prelude.{◌≡◌, ◌≢◌, ◌↔◌, ℕ, ◌<◌, ◌≤◌, true, List, ◌++◌, take, Some, IsSome, IsSomeAnd, max}
use Rattle.std.specs.FinMap.{get, insert, len}
use Rattle.nfs2_types.specs.declared.fattr.Kind.{Kind}
use Rattle.nfs2_types.specs.declared.fattr.Kind.TheVariants.{Dir}
use Rattle.server_trait.specs.Tree.{ByBytes, used, links, subdirs}
use Rattle.server_trait.specs.declared.server.ServerLimits.{ServerLimits}
use Rattle.path_store.specs.Stored.{Paths, Stored, names_of}
use Rattle.path_server.specs.Kept.{Kept, the_tree}
use Rattle.path_store.specs.Tables.{place_of}
use Rattle.path_server.specs.Serials.{serial_bytes}
use Rattle.path_server.specs.declared.node.PathNode.{PathNode}

-- a handle has the serial number of this node, which is below the next
abbrev pub IsSerial : ℕ → List ℕ → PathNode → Type 0
IsSerial next h p = (h ≡ serial_bytes p.number (place_of h)) × (p.number < next)

-- so does each
abbrev pub AreSerials : ByBytes PathNode → ℕ → Type 0
AreSerials nodes next = (h : List ℕ) (p : PathNode) → get nodes h ≡ Some p → IsSerial next h p

-- names are of directories, and lead to nodes
abbrev pub AreNamed : ByBytes PathNode → Paths → Type 0
AreNamed nodes paths = (key h : List ℕ) → get paths key ≡ Some h →
    IsSomeAnd (get nodes (take 32 key)) (λ p. p.kind ≡ Dir) × IsSome (get nodes h)

-- a node counts its names, those of them that lead to directories, and the names that lead to it
pub record IsCounted (k : Kept) (h : List ℕ) (p : PathNode) : Type 0 where
  pub names : p.names ≡ len (names_of k.paths h)
  pub subdirs : p.subdirs ≡ subdirs (the_tree k) (names_of k.paths h)
  pub links : p.links ≡ links (the_tree k) h

-- each node counts right
abbrev pub AreCounted : Kept → Type 0
AreCounted k = (h : List ℕ) (p : PathNode) → get k.nodes h ≡ Some p → IsCounted k h p

-- the counts are right, and within the limits, the root aside
pub record IsSound (limits : ServerLimits) (next bytes : ℕ) (k : Kept) : Type 0 where
  pub serials : AreSerials k.nodes next
  pub named : AreNamed k.nodes k.paths
  pub counted : AreCounted k
  pub bytes_used : bytes ≡ used (the_tree k)
  pub bytes_most : bytes ≤ limits.bytes
  pub nodes_most : len k.nodes ≤ max 1 limits.nodes

-- the store has the paths of exactly the directories that are kept, and a directory has at most one name
pub record IsStored (nodes : ByBytes PathNode) (s : Stored) : Type 0 where
  pub whole : s.whole ≡ true
  pub dirs : (h : List ℕ) → IsSome (get s.dirs h) ↔ IsSomeAnd (get nodes h) (λ p. p.kind ≡ Dir)
  pub once : (h : List ℕ) (p : PathNode) → get nodes h ≡ Some p → p.kind ≡ Dir → p.links ≤ 1

-- one name more leads to a new node of this kind, which has a path where it is a directory
pub record AddsNode (kind : Kind) (old : Stored) (dir name h : List ℕ) (new : Stored) : Type 0 where
  pub whole : new.whole ≡ true
  pub names : new.names ≡ insert old.names (dir ++ name) h
  pub here : IsSome (get new.dirs h) ↔ (kind ≡ Dir)
  pub others : (q : List ℕ) → q ≢ h → get new.dirs q ≡ get old.dirs q
