-- A tree on a medium.
use Rattle.std.specs.Prelude.{ℕ, List}
use Rattle.server_trait.specs.Tree.{Tree}
use Rattle.inode_store.specs.Held.{held}
use Rattle.inode_tree.specs.Kept.{tables_of}
use Rattle.inode_tree.specs.Sound.{IsSound}
use Rattle.inode_tree.specs.declared.tree.InodeTree.{InodeTree}

module _ {M : Type 0} (content : M → ℕ → List ℕ) where
  -- the tree that the medium holds, by its blocks and the handles alone
  abbrev pub tree_in : InodeTree M → Tree
  tree_in s = held (tables_of s.tables).handle s.store.area s.store.inodes (content s.store.medium)

  -- the tables in memory are those of what the medium holds
  abbrev pub IsWhole : (M → ℕ) → InodeTree M → Type 0
  IsWhole size s = IsSound s.limits s.store.area s.store.inodes (content s.store.medium) (size s.store.medium)
      s.store.map (tables_of s.tables)
