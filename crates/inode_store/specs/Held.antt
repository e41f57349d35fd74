-- The tree that a medium holds, handles aside. It is read off the blocks alone: the inodes with their bytes, and of a
-- directory's bytes its slots.
use Rattle.std.specs.Prelude.{ℕ, List, nat_lt, if◌then◌else◌, Option, None}
use Rattle.server_trait.specs.Tree.{Tree}
use Rattle.pointer_tree.specs.Tree.{Content}
use Rattle.pointer_tree.specs.declared.node.Area.{Area}
use Rattle.inode_dirs.specs.Files.{File, table_of}
use Rattle.inode_dirs.specs.Table.{tree_of}
use Rattle.inode_store.specs.Inodes.{file_at}

-- the files of a medium of n inodes
abbrev pub files_of : Area → ℕ → Content → ℕ → Option File
files_of area n c i = if nat_lt i n then file_at area c i else None

-- the tree of a medium of n inodes, where each inode has a handle
abbrev pub held : (ℕ → List ℕ) → Area → ℕ → Content → Tree
held handle area n c = tree_of handle n (table_of (files_of area n c))
