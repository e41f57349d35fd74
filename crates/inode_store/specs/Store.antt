-- Words for a store of inodes: what each inode holds, and that the inodes stand beside the free blocks.
use Rattle.std.specs.Prelude.{ℕ, List, Option}
use Rattle.inode_dirs.specs.Files.{File}
use Rattle.inode_store.specs.Inodes.{file_at}
use Rattle.inode_store.specs.Keeps.{Keeps}
use Rattle.inode_store.specs.declared.store.InodeStore.{InodeStore}

module _ {M : Type 0} (content : M → ℕ → List ℕ) where
  -- what inode i holds, if it is used
  abbrev pub file_in : InodeStore M → ℕ → Option File
  file_in store i = file_at store.area (content store.medium) i

  -- each used inode is whole, and each block of the area is used once or free
  abbrev pub IsKept : (M → ℕ) → InodeStore M → Type 0
  IsKept size store = Keeps store.area store.inodes (content store.medium) (size store.medium) store.map
