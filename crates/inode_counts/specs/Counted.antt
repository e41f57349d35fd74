-- When counts are those of the tree that a table of inodes holds.
use Rattle.std.specs.Prelude.{◌≡◌, ℕ, List, Some, IsSome}
use Rattle.std.specs.FinMap.{get}
use Rattle.server_trait.specs.Tree.{links, subdirs, used}
use Rattle.inode_dirs.specs.Slots.{Slots, names_of}
use Rattle.inode_dirs.specs.Table.{DirSlots, Entry, Table, tree_of}
use Rattle.inode_counts.specs.Counts.{Counts}

-- the counts are those of the tree
pub record IsCounted (handle : ℕ → List ℕ) (n : ℕ) (t : Table) (c : Counts) : Type 0 where
  pub links_are : (i : ℕ) → IsSome (t i) → c.links i ≡ links (tree_of handle n t) (handle i)
  pub subdirs_are : (i : ℕ) (e : Entry) (slots : Slots) → t i ≡ Some e → e.body ≡ DirSlots slots →
      c.subdirs i ≡ subdirs (tree_of handle n t) (names_of handle slots)
  pub used_is : c.used ≡ used (tree_of handle n t)

-- names lead to used inodes
abbrev pub AreLed : (ℕ → List ℕ) → Table → Type 0
AreLed handle t = (i : ℕ) (e : Entry) (slots : Slots) (name h : List ℕ) → t i ≡ Some e → e.body ≡ DirSlots slots →
    get (names_of handle slots) name ≡ Some h → (j : ℕ) × (IsSome (t j)) × (handle j ≡ h)
