-- How the tables in memory change with each change of the tree.
use Rattle.std.specs.Prelude.{◌≡◌, ◌≢◌, ℕ, ◌<◌, List, Bool, true, false, Option, None, Some}
use Rattle.nfs2_types.specs.declared.fattr.Kind.{Kind}
use Rattle.inode_dirs.specs.declared.index.Place.{Place}
use Rattle.std.specs.Option.{option_map}
use Rattle.inode_counts.specs.Changes.{CountsNew, CountsFreed, CountsNamed, CountsUnnamed, CountsResized}
use Rattle.inode_tree.specs.Tables.{Tables}

-- so many inodes, all free
pub record AreBare (t : Tables) (n : ℕ) : Type 0 where
  pub inodes : t.counts.inodes ≡ n
  pub used : t.counts.used ≡ 0
  pub kinds : (i : ℕ) → t.kind i ≡ None
  pub free : (i : ℕ) → i < n → t.is_free i ≡ true

-- a free inode is taken for a node of this kind and of so many bytes, under a handle that may be another
pub record Takes (old new : Tables) (i : ℕ) (kind : Kind) (bytes : ℕ) : Type 0 where
  pub handles : (k : ℕ) → k ≢ i → new.handle k ≡ old.handle k
  pub bare : (q : List ℕ) → new.place i q ≡ None
  pub places : (k : ℕ) → k ≢ i → new.place k ≡ old.place k
  pub counts : CountsNew old.counts new.counts i bytes
  pub kind_here : new.kind i ≡ Some kind
  pub kinds : (k : ℕ) → k ≢ i → new.kind k ≡ old.kind k
  pub parents : new.parent ≡ old.parent
  pub free_here : new.is_free i ≡ false
  pub free : (k : ℕ) → k ≢ i → new.is_free k ≡ old.is_free k

-- an inode of so many bytes is free again
pub record Gives (old new : Tables) (i bytes : ℕ) : Type 0 where
  pub handles : new.handle ≡ old.handle
  pub places : new.place ≡ old.place
  pub counts : CountsFreed old.counts new.counts i bytes
  pub kind_here : new.kind i ≡ None
  pub kinds : (k : ℕ) → k ≢ i → new.kind k ≡ old.kind k
  pub parents : new.parent ≡ old.parent
  pub free_here : new.is_free i ≡ true
  pub free : (k : ℕ) → k ≢ i → new.is_free k ≡ old.is_free k

-- the inode of a place
abbrev pub inode_of : Option Place → Option ℕ
inode_of o = option_map (λ (p : Place). p.inode) o

-- directory i gets a name that leads to inode j, whose parent it is where that is a directory
pub record Names (old new : Tables) (i : ℕ) (name : List ℕ) (j : ℕ) (is_dir : Bool) : Type 0 where
  pub handles : new.handle ≡ old.handle
  pub here : inode_of (new.place i name) ≡ Some j
  pub others : (q : List ℕ) → q ≢ name → inode_of (new.place i q) ≡ inode_of (old.place i q)
  pub places : (k : ℕ) → k ≢ i → new.place k ≡ old.place k
  pub counts : CountsNamed old.counts new.counts i j is_dir
  pub kinds : new.kind ≡ old.kind
  pub parent_here : is_dir ≡ true → new.parent j ≡ i
  pub parents : (k : ℕ) → k ≢ j → new.parent k ≡ old.parent k
  pub free : new.is_free ≡ old.is_free

-- directory i loses a name that led to inode j
pub record Unnames (old new : Tables) (i : ℕ) (name : List ℕ) (j : ℕ) (is_dir : Bool) : Type 0 where
  pub handles : new.handle ≡ old.handle
  pub gone : inode_of (new.place i name) ≡ None
  pub others : (q : List ℕ) → q ≢ name → inode_of (new.place i q) ≡ inode_of (old.place i q)
  pub places : (k : ℕ) → k ≢ i → new.place k ≡ old.place k
  pub counts : CountsUnnamed old.counts new.counts i j is_dir
  pub kinds : new.kind ≡ old.kind
  pub parents : new.parent ≡ old.parent
  pub free : new.is_free ≡ old.is_free

-- a node has other bytes, or other attributes
pub record Resizes (old new : Tables) (before after : ℕ) : Type 0 where
  pub handles : new.handle ≡ old.handle
  pub places : new.place ≡ old.place
  pub counts : CountsResized old.counts new.counts before after
  pub kinds : new.kind ≡ old.kind
  pub parents : new.parent ≡ old.parent
  pub free : new.is_free ≡ old.is_free

-- the rows but for the index, where directory i gets a name that leads to inode j
pub record Named (old new : Tables) (i j : ℕ) (is_dir : Bool) : Type 0 where
  pub handles : new.handle ≡ old.handle
  pub places : new.place ≡ old.place
  pub counts : CountsNamed old.counts new.counts i j is_dir
  pub kinds : new.kind ≡ old.kind
  pub parent_here : is_dir ≡ true → new.parent j ≡ i
  pub parents : (k : ℕ) → k ≢ j → new.parent k ≡ old.parent k
  pub free : new.is_free ≡ old.is_free

-- the same, where it loses one
pub record Unnamed (old new : Tables) (i j : ℕ) (is_dir : Bool) : Type 0 where
  pub handles : new.handle ≡ old.handle
  pub places : new.place ≡ old.place
  pub counts : CountsUnnamed old.counts new.counts i j is_dir
  pub kinds : new.kind ≡ old.kind
  pub parents : new.parent ≡ old.parent
  pub free : new.is_free ≡ old.is_free
