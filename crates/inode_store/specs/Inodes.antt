-- Inodes on a medium. Block 0 names what is there; block 1 + i is inode i, one a block; behind them lies the area of
-- which the trees of their bytes are made. Numbers are four bytes, big-endian.
--
--   an inode's block:  0 kind (1 a file, 2 a directory, 3 a link, else free)   4 mode   8 uid   12 gid
--                      16 size in bytes   20 depth of its tree   24 top of its tree   the rest zeros
use Rattle.std.specs.Prelude.{◌≡◌, ℕ, ◌+◌, ◌/◌, ◌^◌, ◌≤◌, List, true, Option, None, Some}
use Rattle.std.specs.Option.{option_map}
use Rattle.pointer_tree.specs.Tree.{Content, word_at, as_pointer, block}
use Rattle.pointer_tree.specs.Bytes.{bytes_from}
use Rattle.pointer_tree.specs.Size.{is_tight}
use Rattle.pointer_tree.specs.declared.node.Area.{Area}
use Rattle.inode_dirs.specs.Files.{File}
use Rattle.inode_store.specs.Kinds.{kind_in}
use Rattle.inode_store.specs.declared.inode.Inode.{Inode}

-- the inode that a block holds, if it is used
unfoldable pub inode_in : Area → List ℕ → Option Inode
inode_in area b = option_map (λ kind. record {
  kind = kind;
  mode = word_at b 4;
  uid = word_at b 8;
  gid = word_at b 12;
  size = word_at b 16;
  depth = word_at b 20;
  top = as_pointer area (word_at b 24);
}) (kind_in (word_at b 0))

-- inode i, if it is used
abbrev pub inode_at : Area → Content → ℕ → Option Inode
inode_at area c i = inode_in area (c (1 + i))

-- the depth and the top of an inode's tree; a free one has none
abbrev pub depth_of : Option Inode → ℕ
depth_of None = 0
depth_of (Some n) = n.depth

abbrev pub top_of : Option Inode → ℕ
top_of None = 0
top_of (Some n) = n.top

-- how many blocks so many bytes take
abbrev pub blocks_in : ℕ → ℕ
blocks_in size = (size + 511) / 512

-- the bytes of an inode
unfoldable pub bytes_of : Area → Content → Inode → List ℕ
bytes_of area c n = bytes_from (block area c n.depth n.top) 0 n.size

-- an inode with its bytes
abbrev pub file_of : Area → Content → Inode → File
file_of area c n = record { kind = n.kind; mode = n.mode; uid = n.uid; gid = n.gid; bytes = bytes_of area c n }

-- what a medium holds as inode i, if it is used
unfoldable pub file_at : Area → Content → ℕ → Option File
file_at area c i = option_map (file_of area c) (inode_at area c i)

-- an inode's tree is of depth 3 at most, has room for its bytes, and has no other blocks
pub record IsWhole (area : Area) (c : Content) (n : Inode) : Type 0 where
  pub depth_in : n.depth ≤ 3
  pub fits : blocks_in n.size ≤ 128 ^ n.depth
  pub tight : is_tight area c n.depth n.top (blocks_in n.size) ≡ true
