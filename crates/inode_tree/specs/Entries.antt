-- How the tables in memory change with each name that a medium is found to hold.
use Rattle.std.specs.Prelude.{◌≡◌, ◌≢◌, ℕ, List, Bool, true, Some}
use Rattle.inode_dirs.specs.declared.index.Place.{Place}
use Rattle.inode_counts.specs.Changes.{CountsNamed}
use Rattle.inode_tree.specs.Tables.{Tables}

-- a name of directory i is at a place, and the inode that it leads to is a directory or not
pub record Enters (old new : Tables) (i : ℕ) (name : List ℕ) (place : Place) (is_dir : Bool) : Type 0 where
  pub handles : new.handle ≡ old.handle
  pub here : new.place i name ≡ Some place
  pub others : (q : List ℕ) → q ≢ name → new.place i q ≡ old.place i q
  pub places : (k : ℕ) → k ≢ i → new.place k ≡ old.place k
  pub counts : CountsNamed old.counts new.counts i place.inode is_dir
  pub kinds : new.kind ≡ old.kind
  pub parent_here : is_dir ≡ true → new.parent place.inode ≡ i
  pub parents : (k : ℕ) → k ≢ place.inode → new.parent k ≡ old.parent k
  pub free : new.is_free ≡ old.is_free
