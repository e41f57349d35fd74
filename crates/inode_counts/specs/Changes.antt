-- How counts change with each change of the table.
use Rattle.std.specs.Prelude.{◌≡◌, ◌≢◌, ℕ, ◌+◌, Bool}
use Rattle.server_trait.specs.Tree.{one_if}
use Rattle.server_trait.specs.declared.server.TheConstants.{NAME_BYTES}
use Rattle.inode_counts.specs.Counts.{Counts}

-- an inode is taken, with so many bytes and without a name
pub record CountsNew (old new : Counts) (i bytes : ℕ) : Type 0 where
  pub inodes : new.inodes ≡ old.inodes
  pub links_here : new.links i ≡ 0
  pub links_other : (k : ℕ) → k ≢ i → new.links k ≡ old.links k
  pub subdirs_here : new.subdirs i ≡ 0
  pub subdirs_other : (k : ℕ) → k ≢ i → new.subdirs k ≡ old.subdirs k
  pub used : new.used ≡ old.used + bytes

-- an inode of so many bytes is free again
pub record CountsFreed (old new : Counts) (i bytes : ℕ) : Type 0 where
  pub inodes : new.inodes ≡ old.inodes
  pub links_other : (k : ℕ) → k ≢ i → new.links k ≡ old.links k
  pub subdirs_other : (k : ℕ) → k ≢ i → new.subdirs k ≡ old.subdirs k
  pub used : new.used + bytes ≡ old.used

-- directory i gets a name that leads to inode j, which is a directory or not
pub record CountsNamed (old new : Counts) (i j : ℕ) (is_dir : Bool) : Type 0 where
  pub inodes : new.inodes ≡ old.inodes
  pub links_here : new.links j ≡ old.links j + 1
  pub links_other : (k : ℕ) → k ≢ j → new.links k ≡ old.links k
  pub subdirs_here : new.subdirs i ≡ old.subdirs i + one_if is_dir
  pub subdirs_other : (k : ℕ) → k ≢ i → new.subdirs k ≡ old.subdirs k
  pub used : new.used ≡ old.used + NAME_BYTES

-- directory i loses a name that led to inode j, which is a directory or not
pub record CountsUnnamed (old new : Counts) (i j : ℕ) (is_dir : Bool) : Type 0 where
  pub inodes : new.inodes ≡ old.inodes
  pub links_here : new.links j + 1 ≡ old.links j
  pub links_other : (k : ℕ) → k ≢ j → new.links k ≡ old.links k
  pub subdirs_here : new.subdirs i + one_if is_dir ≡ old.subdirs i
  pub subdirs_other : (k : ℕ) → k ≢ i → new.subdirs k ≡ old.subdirs k
  pub used : new.used + NAME_BYTES ≡ old.used

-- an inode has other bytes, or other attributes
pub record CountsResized (old new : Counts) (before after : ℕ) : Type 0 where
  pub inodes : new.inodes ≡ old.inodes
  pub links : (k : ℕ) → new.links k ≡ old.links k
  pub subdirs : (k : ℕ) → new.subdirs k ≡ old.subdirs k
  pub used : new.used + before ≡ old.used + after
