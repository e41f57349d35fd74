-- Over which medium a server is, and which tree that medium holds.
use Rattle.std.specs.Prelude.{ℕ, ◌+◌, max, List}
use Rattle.pointer_tree.specs.Tree.{Content}
use Rattle.pointer_tree.specs.declared.node.Area.{Area}
use Rattle.server_trait.specs.Tree.{Tree}
use Rattle.server_trait.specs.declared.server.ServerLimits.{ServerLimits}
use Rattle.inode_store.specs.Held.{held}
use Rattle.inode_store.specs.Layout.{HoldsTree}
use Rattle.inode_tree.specs.Kept.{tables_of}
use Rattle.inode_tree.specs.Planned.{blocks_for}
use Rattle.inode_server.specs.declared.server.InodeServer.{InodeServer}

-- how many inodes a medium has for the limits
abbrev pub inodes_for : ServerLimits → ℕ
inodes_for limits = max 1 limits.nodes

-- the blocks behind block 0 and the inodes
abbrev pub area_for : ServerLimits → Area
area_for limits = record { first = 1 + inodes_for limits; end = blocks_for limits }

-- blocks hold a tree within the limits
abbrev pub Holds : ServerLimits → Content → Type 0
Holds limits c = HoldsTree limits (area_for limits) (inodes_for limits) c

-- that tree, where each inode has a handle
abbrev pub tree_held : (ℕ → List ℕ) → ServerLimits → Content → Tree
tree_held handle limits c = held handle (area_for limits) (inodes_for limits) c

-- the medium of a server
abbrev pub medium_of : {M : Type 0} {m : _} → InodeServer M m → M
medium_of s = s.tree.store.medium

-- the handle of each inode
abbrev pub handles_of : {M : Type 0} {m : _} → InodeServer M m → ℕ → List ℕ
handles_of s = (tables_of s.tree.tables).handle
