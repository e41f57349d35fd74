-- The inodes of a medium beside its free blocks, and what a change of one inode leaves.
use Rattle.std.specs.Prelude.{◌≡◌, ◌≢◌, ℕ, ◌+◌, ◌^◌, ◌<◌, ◌≤◌, List, Bool, length, Option, Some}
use Rattle.pointer_tree.specs.Tree.{Content, sum_to, uses}
use Rattle.pointer_tree.specs.Changes.{free}
use Rattle.pointer_tree.specs.declared.node.Area.{Area}
use Rattle.inode_dirs.specs.Files.{File}
use Rattle.inode_store.specs.Inodes.{inode_at, depth_of, top_of, file_at, IsWhole}
use Rattle.inode_store.specs.declared.inode.Inode.{Inode}

-- how often the trees of the first n inodes use a block
abbrev pub all_uses : Area → Content → ℕ → ℕ → ℕ
all_uses area c n b = sum_to n (λ i. uses area c (depth_of (inode_at area c i)) (top_of (inode_at area c i)) b)

-- Each used inode is whole. Each block of the area is used once or free, and no other block is.
pub record Keeps (area : Area) (n : ℕ) (c : Content) (size : ℕ) (m : List Bool) : Type 0 where
  pub first : area.first ≡ 1 + n
  pub ordered : area.first ≤ area.end
  pub on_medium : area.end ≤ size
  pub small : size < 2 ^ 32
  pub in_map : length m ≡ area.end
  pub whole : (i : ℕ) (x : Inode) → i < n → inode_at area c i ≡ Some x → IsWhole area c x
  pub low : (b : ℕ) → b < area.first → all_uses area c n b + free m b ≡ 0
  pub past : (b : ℕ) → area.end ≤ b → all_uses area c n b + free m b ≡ 0
  pub all : (b : ℕ) → area.first ≤ b → b < area.end → all_uses area c n b + free m b ≡ 1

-- inode i is this file now, or free; each other inode is as it was, and so is block 0
pub record Changes (area : Area) (n i : ℕ) (file : Option File) (c : Content) (c' : Content) : Type 0 where
  pub here : file_at area c' i ≡ file
  pub others : (j : ℕ) → j < n → j ≢ i → file_at area c' j ≡ file_at area c j
  pub first : c' 0 ≡ c 0

-- the same, and the inodes stand beside the free blocks again
pub record Becomes (area : Area) (n size i : ℕ) (file : Option File) (c c' : Content) (m' : List Bool) : Type 0 where
  pub kept : Keeps area n c' size m'
  pub changes : Changes area n i file c c'
