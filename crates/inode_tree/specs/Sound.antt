-- What ties the tables in memory to what the medium holds.
use Rattle.std.specs.Prelude.{◌≡◌, ◌↔◌, ℕ, ◌+◌, ◌*◌, ◌/◌, ◌%◌, ◌^◌, ◌<◌, ◌≤◌, max, Bool, true, List, [], length, Option, None, Some, IsSome}
use Rattle.std.specs.FinMap.{empty}
use Rattle.std.specs.Option.{option_map}
use Rattle.nfs2_types.specs.declared.fattr.Kind.{Kind}
use Rattle.nfs2_types.specs.declared.fattr.Kind.TheVariants.{File, Dir, Link}
use Rattle.pointer_tree.specs.Tree.{Content as Blocks}
use Rattle.pointer_tree.specs.declared.node.Area.{Area}
use Rattle.server_trait.specs.Tree.{Tree, Node, Content, BytesOf, TextOf, NamesOf}
use Rattle.server_trait.specs.declared.server.ServerLimits.{ServerLimits}
use Rattle.inode_dirs.specs.Slots.{Slots, IsIndexOf}
use Rattle.inode_dirs.specs.Table.{DirSlots, Entry, tree_of}
use Rattle.inode_dirs.specs.Files.{File as AFile, table_of}
use Rattle.inode_dirs.specs.declared.index.Place.{Place}
use Rattle.inode_counts.specs.Counted.{IsCounted}
use Rattle.inode_store.specs.declared.inode.Inode.{Inode}
use Rattle.inode_store.specs.Held.{files_of}
use Rattle.inode_store.specs.Keeps.{Keeps}
use Rattle.inode_tree.specs.Tables.{Tables, AreParents}

-- the kind of an inode, if it is used
abbrev pub kind_at : (ℕ → Option AFile) → ℕ → Option Kind
kind_at files i = option_map (λ (f : AFile). f.kind) (files i)

-- what a new node of a kind contains
abbrev pub empty_of : Kind → Content
empty_of File = BytesOf []
empty_of Dir = NamesOf empty
empty_of Link = TextOf []

-- a node with a text for its content
abbrev pub with_text : List ℕ → Node → Node
with_text text n = record n { content = TextOf text }

-- what an inode tells of its file
pub record Tells (x : Inode) (f : AFile) : Type 0 where
  pub kind : x.kind ≡ f.kind
  pub mode : x.mode ≡ f.mode
  pub uid : x.uid ≡ f.uid
  pub gid : x.gid ≡ f.gid
  pub size : length f.bytes ≡ x.size

-- the tree of so many inodes that hold these files
abbrev pub the_tree : ℕ → (ℕ → Option AFile) → Tables → Tree
the_tree n files t = tree_of t.handle n (table_of files)

-- The tables are those of the files: inodes have handles of their own; each directory's names are indexed, and lead to
-- used inodes, but none to inode 0; the counts and the kinds are right; what has no kind is free; a directory's bytes
-- are whole slots.
pub record IsTied (n : ℕ) (files : ℕ → Option AFile) (t : Tables) : Type 0 where
  pub inodes : t.counts.inodes ≡ n
  pub apart : (i j : ℕ) → i < n → j < n → t.handle i ≡ t.handle j → i ≡ j
  pub few : (i : ℕ) → IsSome (files i) → i < n
  pub index : (i : ℕ) (e : Entry) (slots : Slots) → table_of files i ≡ Some e → e.body ≡ DirSlots slots →
      IsIndexOf (t.place i) slots
  pub led : (i : ℕ) (e : Entry) (slots : Slots) (q : List ℕ) (p : Place) → table_of files i ≡ Some e →
      e.body ≡ DirSlots slots → t.place i q ≡ Some p → IsSome (table_of files p.inode)
  pub counted : IsCounted t.handle n (table_of files) t.counts
  pub kinds : (i : ℕ) → t.kind i ≡ kind_at files i
  pub free : (i : ℕ) → i < n → (t.is_free i ≡ true) ↔ (t.kind i ≡ None)
  pub filled : (i : ℕ) (f : AFile) → files i ≡ Some f → f.kind ≡ Dir →
      length f.bytes % 288 ≡ 0
  pub root : kind_at files 0 ≡ Some Dir
  pub top : t.counts.links 0 ≡ 0
  pub parents : AreParents t

-- The medium has the blocks that the limits ask for, its inodes stand beside its free blocks, the tables are those of
-- what it holds, and its bytes are within the limits.
pub record IsSound (limits : ServerLimits) (area : Area) (n : ℕ) (c : Blocks) (size : ℕ) (m : List Bool) (t : Tables)
    : Type 0 where
  pub keeps : Keeps area n c size m
  pub inodes : n ≡ max 1 limits.nodes
  pub blocks : area.end ≡ 64 + 8 * n + limits.bytes / 256
  pub limited : limits.bytes ≤ 1073741824
  pub tied : IsTied n (files_of area n c) t
  pub within : t.counts.used ≤ limits.bytes

-- The medium has room for the inodes and the blocks that the limits ask for.
pub record IsPlanned (limits : ServerLimits) (area : Area) (n size : ℕ) : Type 0 where
  pub inodes : n ≡ max 1 limits.nodes
  pub first : area.first ≡ 1 + n
  pub blocks : area.end ≡ 64 + 8 * n + limits.bytes / 256
  pub on_medium : area.end ≤ size
  pub small : size < 2 ^ 32
  pub limited : limits.bytes ≤ 1073741824
