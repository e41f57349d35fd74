-- A directory of a store with its index, and what a slot more or less is of its bytes.
use Rattle.std.specs.Prelude.{ℕ, ◌-◌, ◌*◌, ◌<◌, List, ◌++◌, length, drop, IsSomeAnd}
use Rattle.std.specs.FinMap.{get}
use Rattle.nfs2_types.specs.Bytes.{resized, overwritten}
use Rattle.server_trait.specs.Tree.{ByBytes}
use Rattle.inode_dirs.specs.Files.{IsDirectory, slots_at}
use Rattle.inode_dirs.specs.SlotBytes.{slot_bytes}
use Rattle.inode_dirs.specs.Slots.{IsIndexOf}
use Rattle.inode_dirs.specs.declared.index.Place.{Place}
use Rattle.inode_store.specs.Store.{file_in, IsKept}
use Rattle.inode_store.specs.declared.store.InodeStore.{InodeStore}

-- inode `dir` of a store is a directory, and the index is that of its slots
pub record IsIndexed {M : Type 0} (content : M → ℕ → List ℕ) (size : M → ℕ) (store : InodeStore M) (dir : ℕ)
    (index : ByBytes Place) : Type 0 where
  pub kept : IsKept content size store
  pub within : dir < store.inodes
  pub directory : IsSomeAnd (file_in content store dir) IsDirectory
  pub indexed : IsIndexOf (λ q. get index q) (slots_at (file_in content store dir))

-- a directory's bytes with a slot behind the others
abbrev pub with_slot : List ℕ → ℕ → List ℕ → List ℕ
with_slot name inode bytes = bytes ++ slot_bytes name inode

-- a directory's bytes, where the last slot has moved into the place of another
abbrev pub without_slot : ℕ → List ℕ → List ℕ
without_slot slot bytes =
    let rest = length bytes - 288 in resized rest (overwritten (288 * slot) (drop rest bytes) bytes)
