-- How the paths of names, their keys and their rows stand together.
use Rattle.std.specs.Prelude.{◌≡◌, ◌≢◌, ℕ, Bool, true, false, ◌||◌, ◌==◌, if◌then◌else◌, List, [], ◌∷◌, ◌++◌, length, Option, Some, None, IsSome, option_and_then}
use Rattle.std.specs.FinMap.{get, entries, from_entries}
use Rattle.slab.specs.Slab.{Slab, get as slot}
use Rattle.nfs2_types.specs.Names.{is_name}
use Rattle.server_trait.specs.Tree.{ByBytes}
use Rattle.path_store.specs.Stored.{Paths, Stored, joined}
use Rattle.path_store.specs.declared.row.PathRow.{PathRow}

-- KEYS AND ROWS

-- the keys of whole paths
abbrev pub Keys : Type 0
Keys = ByBytes ℕ

-- the rows, each under its key
abbrev pub Rows : Type 0
Rows = Slab PathRow

-- the paths of directories
abbrev pub Dirs : Type 0
Dirs = ByBytes (List ℕ)

-- the row at a path
abbrev pub row_at : Keys → Rows → List ℕ → Option PathRow
row_at keys rows path = option_and_then (λ key. slot rows key) (get keys path)

-- NAMES

-- a byte string has a slash
abbrev pub has_slash : List ℕ → Bool
has_slash [] = false
has_slash (b ∷ bs) = (b == 47) || has_slash bs

-- what stands behind the last slash
abbrev pub last_part : List ℕ → List ℕ
last_part [] = []
last_part (b ∷ bs) = if has_slash bs then last_part bs else (if b == 47 then bs else b ∷ bs)

-- a name before others, if its path has a row
abbrev pub with_row : List ℕ → Option PathRow → List (List ℕ × List ℕ) → List (List ℕ × List ℕ)
with_row path None rest = rest
with_row path (Some row) rest = (row.dir ++ last_part path, row.to) ∷ rest

-- the names of these paths, each under its directory's handle
abbrev pub named_rows : Rows → List (List ℕ × ℕ) → List (List ℕ × List ℕ)
named_rows rows [] = []
named_rows rows (e ∷ es) = with_row e.0 (slot rows e.1) (named_rows rows es)

-- the names of all paths
unfoldable pub names_in : Keys → Rows → Paths
names_in keys rows = from_entries (named_rows rows (entries keys))

-- what they stand for
abbrev pub stored_as : Bool → Keys → Rows → Dirs → Stored
stored_as whole keys rows dirs = record { whole = whole; dirs = dirs; names = names_in keys rows }

-- WHAT HOLDS OF A WHOLE STORE

-- each key has a row, and one path, and each row stands under one
pub record IsKeyed (keys : Keys) (rows : Rows) : Type 0 where
  pub has_row : (path : List ℕ) (key : ℕ) → get keys path ≡ Some key → IsSome (slot rows key)
  pub once : (path other : List ℕ) (key : ℕ) → get keys path ≡ Some key → get keys other ≡ Some key →
      path ≡ other
  pub used : (key : ℕ) → IsSome (slot rows key) → (path : List ℕ) × (get keys path ≡ Some key)

-- a row's path is its directory's path with its name
pub record IsRowAt (dirs : Dirs) (path : List ℕ) (row : PathRow) : Type 0 where
  pub in_dir : IsSome (get dirs row.dir)
  pub path_is : (top : List ℕ) → get dirs row.dir ≡ Some top → path ≡ joined top (last_part path)
  pub name_is : is_name (last_part path) ≡ true
  pub to_fits : length row.to ≡ 32

-- the rows lead from directory to directory: one is the root, and to each other leads the row at its path alone
pub record IsTree (look : List ℕ → Option PathRow) (dirs : Dirs) : Type 0 where
  pub placed : (path : List ℕ) (row : PathRow) → look path ≡ Some row → IsRowAt dirs path row
  pub rooted : (dir other : List ℕ) → get dirs dir ≡ Some [] → get dirs other ≡ Some [] → dir ≡ other
  pub there : (dir path : List ℕ) → get dirs dir ≡ Some path → path ≢ [] → IsSome (look path)
  pub own : (dir path : List ℕ) (row : PathRow) → get dirs dir ≡ Some path → look path ≡ Some row → row.to ≡ dir
  pub only : (dir path other : List ℕ) (row : PathRow) → get dirs dir ≡ Some path → look other ≡ Some row →
      row.to ≡ dir → path ≡ other
  pub fits : (dir path : List ℕ) → get dirs dir ≡ Some path → length dir ≡ 32

-- all of it
pub record IsPlaced (keys : Keys) (rows : Rows) (dirs : Dirs) : Type 0 where
  pub keyed : IsKeyed keys rows
  pub tree : IsTree (row_at keys rows) dirs
