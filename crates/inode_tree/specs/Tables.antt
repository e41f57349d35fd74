-- What a server of inodes keeps in memory.
use Rattle.std.specs.Prelude.{◌≡◌, ℕ, zero, suc, ◌≤◌, ◌<◌, Bool, true, false, List, Option, Some}
use Rattle.nfs2_types.specs.declared.fattr.Kind.{Kind}
use Rattle.nfs2_types.specs.declared.fattr.Kind.TheVariants.{File, Dir, Link}
use Rattle.inode_dirs.specs.declared.index.Place.{Place}
use Rattle.inode_counts.specs.Counts.{Counts}

-- whether it is a directory
abbrev pub is_dir_kind : Kind → Bool
is_dir_kind File = false
is_dir_kind Dir = true
is_dir_kind Link = false

-- the handle of each inode, where the names of each directory stand, the counts, the kind of each used inode, the
-- directory that names a directory, and whether an inode is free
pub record Tables : Type 0 where
  pub handle : ℕ → List ℕ
  pub place : ℕ → List ℕ → Option Place
  pub counts : Counts
  pub kind : ℕ → Option Kind
  pub parent : ℕ → ℕ
  pub is_free : ℕ → Bool

-- a directory that has a name has it in its parent, and nowhere else
pub record AreParents (t : Tables) : Type 0 where
  pub up : (j : ℕ) → t.kind j ≡ Some Dir → 1 ≤ t.counts.links j → (t.kind (t.parent j) ≡ Some Dir) ×
      (q : List ℕ) × (p : Place) × (t.place (t.parent j) q ≡ Some p) × (p.inode ≡ j)
  pub only : (i : ℕ) (q : List ℕ) (p : Place) → t.kind i ≡ Some Dir → t.place i q ≡ Some p →
      t.kind p.inode ≡ Some Dir → t.parent p.inode ≡ i
  pub once : (j : ℕ) → t.kind j ≡ Some Dir → t.counts.links j ≤ 1

-- the directory so many steps above one
abbrev pub climb : Tables → ℕ → ℕ → ℕ
climb t zero i = i
climb t (suc k) i = t.parent (climb t k i)

-- a directory is another or lies below it, by the directories that name it
abbrev pub IsUnder : Tables → ℕ → ℕ → Type 0
IsUnder t top i = (k : ℕ) × (climb t k i ≡ top) × ((j : ℕ) → j < k → 1 ≤ t.counts.links (climb t j i))
