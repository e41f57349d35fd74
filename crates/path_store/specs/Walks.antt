-- What a walk over the paths of a directory finds.
use Rattle.std.specs.Prelude.{◌≡◌, ◌⊎◌, ℕ, ◌+◌, ◌<◌, true, false, not, ◌&&◌, if◌then◌else◌, List, [], ◌∷◌, ◌++◌, length, drop, map, Option, Some, None, IfSome, option_map, option_to_list, bytes_eq, nat_lt, slice_get}
use Rattle.std.specs.List.{filter}
use Rattle.std.specs.Ordering.{nat_cmp, is_le}
use Rattle.std.specs.Cmp.Lexicographic.{slice_cmp}
use Rattle.std.specs.FinMap.{get, entries}
use Rattle.slab.specs.Slab.{get as slot}
use Rattle.server_trait.specs.declared.server.Listed.{Listed}
use Rattle.path_store.specs.Stored.{joined, is_under}
use Rattle.path_store.specs.Placed.{Keys, Rows, row_at, has_slash}
use Rattle.path_store.specs.declared.row.PathRow.{PathRow}
use Rattle.path_store.specs.declared.keys.PathKey.{PathKey}

-- an element of a list
abbrev pub IsAmong : {A : Type 0} → A → List A → Type 0
IsAmong x [] = ⊥
IsAmong x (y ∷ ys) = (y ≡ x) ⊎ IsAmong x ys

-- a path with its key
abbrev pub entry_of : PathKey → List ℕ × ℕ
entry_of k = (k.path, k.key)

-- a path with its key, if it has one
abbrev pub IsAlone : List ℕ → Keys → List (List ℕ × ℕ) → Type 0
IsAlone path keys es = es ≡ option_to_list (option_map (λ key. (path, key)) (get keys path))

-- these are all paths under one, itself among them, with their keys
pub record AreUnder (top : List ℕ) (keys : Keys) (es : List (List ℕ × ℕ)) : Type 0 where
  pub sound : (path : List ℕ) (key : ℕ) → IsAmong (path, key) es → (get keys path ≡ Some key) ×
      (is_under top path ≡ true)
  pub complete : (path : List ℕ) (key : ℕ) → get keys path ≡ Some key → is_under top path ≡ true →
      IsAmong (path, key) es

-- LISTS

-- a name with its handle
abbrev pub pair : Listed → List ℕ × List ℕ
pair r = (r.name, r.handle)

-- the name of a path that begins with so many bytes and a slash, where its row is of the directory
abbrev pub listed_at : Option PathRow → List ℕ → ℕ → List ℕ → Option (List ℕ × List ℕ)
listed_at None dir size path = None
listed_at (Some row) dir size path =
    if bytes_eq row.dir dir then
    (if nat_lt size (length path) then Some (drop (size + 1) path, row.to) else None)
    else None

-- the names of these paths
abbrev pub listed_of : Rows → List ℕ → ℕ → List (List ℕ × ℕ) → List (List ℕ × List ℕ)
listed_of rows dir size [] = []
listed_of rows dir size (e ∷ es) = option_to_list (listed_at (slot rows e.1) dir size e.0)
    ++ listed_of rows dir size
    es

-- what follows a path and a slash
abbrev pub GoesOn : List ℕ → List ℕ → Type 0
GoesOn top path = (rest : List ℕ) × (path ≡ top ++ 47 ∷ rest)

-- the rows of a directory stand under its path with a name
abbrev pub StandUnder : List ℕ → List ℕ → Keys → Rows → Type 0
StandUnder dir top keys rows = (path : List ℕ) (row : PathRow) → row_at keys rows path ≡ Some row → row.dir ≡ dir →
    (name : List ℕ) × (path ≡ joined top name) × (has_slash name ≡ false)

-- A path that goes on behind all that lie below a name: a slash follows the name, behind so many bytes at least, and
-- 48 follows the slash, which is 47.
pub record IsPastName (size : ℕ) (path next : List ℕ) : Type 0 where
  pub front : List ℕ
  pub rest : List ℕ
  pub path_is : path ≡ front ++ 47 ∷ rest
  pub behind : size < length front
  pub next_is : next ≡ front ++ 48 ∷ []

-- the paths from one on that lie under a directory's path
abbrev pub paths_from : List ℕ → List ℕ → List (List ℕ × ℕ) → List (List ℕ × ℕ)
paths_from top low es =
    filter (λ e. is_le (slice_cmp nat_cmp low e.0) && not (is_le (slice_cmp nat_cmp (top ++ 48 ∷ []) e.0))) es

-- the names among them
abbrev pub names_from : Rows → List ℕ → List ℕ → Keys → List ℕ → List (List ℕ × List ℕ)
names_from rows dir top keys low = listed_of rows dir (length top) (paths_from top low (entries keys))

-- the names that are left, where the paths go on
abbrev pub names_left : Rows → List ℕ → List ℕ → Keys → Option (List ℕ) → List (List ℕ × List ℕ)
names_left rows dir top keys None = []
names_left rows dir top keys (Some low) = names_from rows dir top keys low

-- more names are listed, from one path on to where the paths go on, and fewer paths are left
pub record ListsFrom (dir top : List ℕ) (keys : Keys) (rows : Rows) (low : List ℕ) (old : List Listed)
    (next : Option (List ℕ)) (new : List Listed) : Type 0 where
  pub listed : map pair new ++ names_left rows dir top keys next ≡ map pair old ++ names_from rows dir top keys low
  pub later : IfSome next (GoesOn top)
  pub fewer : IfSome next (λ n. length (paths_from top n (entries keys)) < length (paths_from top low (entries keys)))

-- a list of the rows of a directory whose path this is
pub record ListsRows (dir top : List ℕ) (keys : Keys) (rows : Rows) (listed : List Listed) : Type 0 where
  pub sound : (k : ℕ) (r : Listed) → slice_get listed k ≡ Some r →
      (row : PathRow) × (row_at keys rows (joined top r.name) ≡ Some row) × (row.dir ≡ dir)
      × (row.to ≡ r.handle)
  pub complete : (name : List ℕ) (row : PathRow) → row_at keys rows (joined top name) ≡ Some row →
      row.dir ≡ dir →
      (k : ℕ) × (slice_get listed k ≡ Some (record { name = name; handle = row.to }))
  pub once : (j k : ℕ) (a b : Listed) → slice_get listed j ≡ Some a → slice_get listed k ≡ Some b →
      a.name ≡ b.name →
      j ≡ k
