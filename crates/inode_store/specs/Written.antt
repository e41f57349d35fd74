-- What a change of the bytes of an inode leaves, before the inode's own block is written.
use Rattle.std.specs.Prelude.{◌≡◌, ℕ, List, Bool}
use Rattle.pointer_tree.specs.Tree.{Content}
use Rattle.pointer_tree.specs.Changes.{IsTop, Moves}
use Rattle.pointer_tree.specs.declared.node.Area.{Area}
use Rattle.inode_store.specs.Inodes.{bytes_of, IsWhole}
use Rattle.inode_store.specs.declared.inode.Inode.{Inode}

-- inode x is inode y now: its bytes are changed so, and all but its size and its tree is as it was
pub record Rewrites (area : Area) (x : Inode) (change : List ℕ → List ℕ) (c : Content) (m : List Bool) (y : Inode)
    (c' : Content) (m' : List Bool) : Type 0 where
  pub moves : Moves area x.depth x.top c m y.depth y.top c' m'
  pub bytes : bytes_of area c' y ≡ change (bytes_of area c x)
  pub whole : IsWhole area c' y
  pub top_is : IsTop area y.top
  pub same : y ≡ record x { size = y.size; depth = y.depth; top = y.top }
