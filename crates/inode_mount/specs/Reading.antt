-- The tables of a medium while it is read: those of files of which directories have some of their names so far.
use Rattle.std.specs.Prelude.{◌≡◌, ℕ, ◌*◌, ◌<◌, ◌≤◌, ◌⊎◌, List, take, Option, None}
use Rattle.std.specs.Option.{option_map}
use Rattle.nfs2_types.specs.declared.fattr.Kind.{Kind}
use Rattle.nfs2_types.specs.declared.fattr.Kind.TheVariants.{File as AFile, Dir, Link}
use Rattle.inode_dirs.specs.Files.{File}
use Rattle.inode_store.specs.Held.{files_of}
use Rattle.inode_store.specs.Layout.{HoldsTree}
use Rattle.inode_store.specs.Store.{IsKept}
use Rattle.inode_store.specs.declared.store.InodeStore.{InodeStore}
use Rattle.inode_tree.specs.Changes.{AreBare}
use Rattle.inode_tree.specs.Sound.{IsTied, IsPlanned}
use Rattle.inode_tree.specs.Tables.{Tables}
use Rattle.inode_tree.specs.declared.tree.InodeTree.{InodeTree}

-- the bytes of an inode, which are so many slots where it is a directory
abbrev pub cut_bytes : Kind → ℕ → List ℕ → List ℕ
cut_bytes AFile k bytes = bytes
cut_bytes Dir k bytes = take (288 * k) bytes
cut_bytes Link k bytes = bytes

-- a file, of which a directory has its first slots alone
abbrev pub cut : ℕ → File → File
cut k f = record f { bytes = cut_bytes f.kind k f.bytes }

-- The tables are those of the first k files, whose directories lack their names.
pub record AreEntered (n : ℕ) (files : ℕ → Option File) (k : ℕ) (t : Tables) : Type 0 where
  pub so_far : ℕ → Option File
  pub tied : IsTied n so_far t
  pub below : (i : ℕ) → i < k → so_far i ≡ option_map (cut 0) (files i)
  pub past : (i : ℕ) → k ≤ i → so_far i ≡ None

-- the same, or no file is entered yet
abbrev pub IsEntering : ℕ → (ℕ → Option File) → ℕ → Tables → Type 0
IsEntering n files k t = ((k ≡ 0) × AreBare t n) ⊎ AreEntered n files k t

-- The tables are those of all files, whose directories below one have their names; that one has the first k of its own,
-- and those above it have none.
pub record AreNamed (n : ℕ) (files : ℕ → Option File) (dir k : ℕ) (t : Tables) : Type 0 where
  pub so_far : ℕ → Option File
  pub tied : IsTied n so_far t
  pub below : (i : ℕ) → i < dir → so_far i ≡ files i
  pub here : so_far dir ≡ option_map (cut k) (files dir)
  pub above : (i : ℕ) → dir < i → so_far i ≡ option_map (cut 0) (files i)

module _ {M : Type 0} (content : M → ℕ → List ℕ) where
  -- the files of a store
  abbrev pub files_in : InodeStore M → ℕ → Option File
  files_in store = files_of store.area store.inodes (content store.medium)

-- The medium has room for what the limits ask for and holds a tree, and its free blocks are known.
pub record IsReadable {M : Type 0} (content : M → ℕ → List ℕ) (size : M → ℕ) (s : InodeTree M) : Type 0 where
  pub planned : IsPlanned s.limits s.store.area s.store.inodes (size s.store.medium)
  pub holds : HoldsTree s.limits s.store.area s.store.inodes (content s.store.medium)
  pub kept : IsKept content size s.store
