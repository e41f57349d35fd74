-- What a server keeps true of its tree.
use Rattle.std.specs.Prelude.{◌≡◌, ℕ, Bool, true, List}
use Rattle.inode_store.specs.Layout.{superblock}
use Rattle.inode_tree.specs.Sound.{IsPlanned}
use Rattle.inode_tree.specs.Whole.{IsWhole}
use Rattle.inode_tree.specs.declared.tree.InodeTree.{InodeTree}

-- The medium has room for what the limits ask for. Where the server is up, its tables are those of what the medium
-- holds, and block 0 names the limits.
pub record IsReady {M : Type 0} (content : M → ℕ → List ℕ) (size : M → ℕ) (up : Bool) (s : InodeTree M) : Type 0 where
  pub planned : IsPlanned s.limits s.store.area s.store.inodes (size s.store.medium)
  pub whole : up ≡ true → IsWhole content size s
  pub name : up ≡ true → content s.store.medium 0 ≡ superblock s.limits
