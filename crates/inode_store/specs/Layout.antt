-- When a medium of inodes holds a tree: what its blocks are, and that what they say goes together.
use Rattle.std.specs.Prelude.{◌≡◌, ◌≢◌, ℕ, ◌*◌, ◌%◌, ◌<◌, ◌≤◌, List, [], ◌++◌, length, slice_get, replicate, codes, Option, None, Some, IsSome, IsSomeAnd}
use Rattle.std.specs.Int.{w32, to_be_bytes}
use Rattle.nfs2_types.specs.declared.fattr.Kind.TheVariants.{File as AFile, Dir, Link}
use Rattle.server_trait.specs.declared.server.ServerLimits.{ServerLimits}
use Rattle.server_trait.specs.declared.server.TheConstants.{NAME_BYTES}
use Rattle.pointer_tree.specs.Tree.{Content, sum_to}
use Rattle.pointer_tree.specs.declared.node.Area.{Area}
use Rattle.inode_dirs.specs.Files.{File, slots_of}
use Rattle.inode_dirs.specs.Slots.{Slots}
use Rattle.inode_store.specs.Held.{files_of}
use Rattle.inode_store.specs.Inodes.{inode_at, IsWhole}
use Rattle.inode_store.specs.Keeps.{all_uses}
use Rattle.inode_store.specs.declared.inode.Inode.{Inode}

-- block 0: eight letters, the most nodes, the most bytes, and zeros
abbrev pub superblock : ServerLimits → List ℕ
superblock limits = codes "BASEINO1" ++ to_be_bytes w32 limits.nodes ++ to_be_bytes w32 limits.bytes
    ++ replicate 496 0

-- the inode is a directory
abbrev pub IsDir : Option File → Type 0
IsDir o = IsSomeAnd o (λ f. f.kind ≡ Dir)

-- the slots of an inode, which are none where it is no directory
abbrev pub names_at : Option File → Slots
names_at None = []
names_at (Some f) = elim f.kind as (λ _. Slots) [ AFile ↦ [] | Dir ↦ slots_of f | Link ↦ [] ]

-- the bytes that an inode uses: those of a file or a link, and so many for each name of a directory
abbrev pub used_at : Option File → ℕ
used_at None = 0
used_at (Some f) = elim f.kind as (λ _. ℕ) [
  | AFile ↦ length f.bytes
  | Dir ↦ NAME_BYTES * length (slots_of f)
  | Link ↦ length f.bytes
]

-- The files of so many inodes go together: inode 0 is a directory; a directory's bytes are whole slots; its names are
-- apart, and each leads to a used inode, but none to inode 0; a directory has one name at most; and all bytes in use
-- are within the limits.
pub record AreSound (limits : ServerLimits) (n : ℕ) (files : ℕ → Option File) : Type 0 where
  pub root : IsDir (files 0)
  pub filled : (i : ℕ) (f : File) → files i ≡ Some f → f.kind ≡ Dir → length f.bytes % 288 ≡ 0
  pub apart : (i k l : ℕ) (name : List ℕ) (a b : ℕ) → slice_get (names_at (files i)) k ≡ Some (name, a) →
      slice_get (names_at (files i)) l ≡ Some (name, b) → k ≡ l
  pub led : (i k : ℕ) (name : List ℕ) (j : ℕ) → slice_get (names_at (files i)) k ≡ Some (name, j) → IsSome (files j)
  pub not_root : (i k : ℕ) (name : List ℕ) (j : ℕ) → slice_get (names_at (files i)) k ≡ Some (name, j) → j ≢ 0
  pub one_name : (h i k l : ℕ) (a b : List ℕ) (j : ℕ) → slice_get (names_at (files h)) k ≡ Some (a, j) →
      slice_get (names_at (files i)) l ≡ Some (b, j) → IsDir (files j) → (h ≡ i) × (k ≡ l)
  pub within : sum_to n (λ i. used_at (files i)) ≤ limits.bytes

-- A medium of n inodes holds a tree within the limits: block 0 names them, each used inode is whole, no block stands in
-- two trees or twice in one, and the files go together. The tree is `held`, whose handles are the server's own.
pub record HoldsTree (limits : ServerLimits) (area : Area) (n : ℕ) (c : Content) : Type 0 where
  pub name : c 0 ≡ superblock limits
  pub whole : (i : ℕ) (x : Inode) → i < n → inode_at area c i ≡ Some x → IsWhole area c x
  pub once : (b : ℕ) → all_uses area c n b ≤ 1
  pub files : AreSound limits n (files_of area n c)
