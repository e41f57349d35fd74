-- What a store of paths holds: the names of all directories, and the path of each directory.
use Rattle.std.specs.Prelude.{◌≡◌, ◌==◌, ◌&&◌, ℕ, zero, suc, Bool, true, cond, if◌then◌else◌, List, [], ◌∷◌, ◌++◌, length, take, drop, bytes_eq, Some, None, IsSome, option_map, refl}
use Rattle.std.specs.Coded.{Coded, code_by, coded×, coded_bool, coded_ℕ, coded_list}
use Rattle.std.specs.FinMap.{get, insert, remove, empty, entries, from_entries, code}
use Rattle.server_trait.specs.Tree.{ByBytes, Names}

-- NAMES

-- all names, each under its directory's handle with the name after it
abbrev pub Paths : Type 0
Paths = ByBytes (List ℕ)

-- the entries of one directory, under their names alone
abbrev pub entries_in : List ℕ → List (List ℕ × List ℕ) → List (List ℕ × List ℕ)
entries_in dir [] = []
entries_in dir (e ∷ es) =
    cond (bytes_eq (take 32 e.0) dir) ((drop 32 e.0, e.1) ∷ entries_in dir es) (entries_in dir es)

-- the names of a directory
unfoldable pub names_of : Paths → List ℕ → Names
names_of names dir = from_entries (entries_in dir (entries names))

-- so many names lead from one node to the other
abbrev pub LeadsIn : Paths → ℕ → List ℕ → List ℕ → Type 0
LeadsIn names zero h q = h ≡ q
LeadsIn names (suc k) h q = (name : List ℕ) × (x : List ℕ) × (get names (h ++ name) ≡ Some x)
    × LeadsIn names k x q

-- a node is the other or lies below it
abbrev pub IsAtOrBelow : Paths → List ℕ → List ℕ → Type 0
IsAtOrBelow names h q = (k : ℕ) × LeadsIn names k h q

-- PATHS

-- the path of a name of a directory: the directory's path, a slash, and the name; the root's path is empty
abbrev pub joined : List ℕ → List ℕ → List ℕ
joined path name = path ++ 47 ∷ name

-- a path is another or leads on from it: after the other it ends, or a slash follows
abbrev pub is_under : List ℕ → List ℕ → Bool
is_under top path =
    bytes_eq (take (length top) path) top
    && (if length path == length top then true else bytes_eq (take 1 (drop (length top) path)) (47 ∷ []))

-- a path, where what lay under one path lies under another
abbrev pub moved_path : List ℕ → List ℕ → List ℕ → List ℕ
moved_path old new path = if is_under old path then new ++ drop (length old) path else path

-- THE STORE

-- Its directories with their paths, and its names. After want of memory it is not whole, and nothing else is
-- said of it.
pub record Stored : Type 0 where
  pub whole : Bool
  pub dirs : ByBytes (List ℕ)
  pub names : Paths

-- the code of a map from byte strings to byte strings
abbrev pub bytes_code : Coded Paths
bytes_code = code (coded_list coded_ℕ) (coded_list coded_ℕ)

-- a store is stored as the tuple of its parts
abbrev pub stored_code : Coded Stored
stored_code =
    code_by
    (Bool × (ByBytes (List ℕ) × Paths))
    (coded× coded_bool (coded× bytes_code bytes_code))
    (λ s. (s.whole, (s.dirs, s.names)))
    (λ p. record { whole = p.0; dirs = p.1.0; names = p.1.1 })
    (λ _. refl)

-- a root without names
abbrev pub only_root : List ℕ → Stored
only_root root = record { whole = true; dirs = insert empty root []; names = empty }

-- one name more leads to what is no directory
abbrev pub with_name : Stored → List ℕ → List ℕ → List ℕ → Stored
with_name s dir name h = record s { names = insert s.names (dir ++ name) h }

-- it is one that has this handle's directory
abbrev pub IsDir : Stored → List ℕ → Type 0
IsDir s h = IsSome (get s.dirs h)

-- no name leads to the handle
abbrev pub IsUnnamed : Stored → List ℕ → Type 0
IsUnnamed s h = (key : List ℕ) → get s.names key ≡ Some h → ⊥

-- a directory of this handle has no names
abbrev pub HasNoNames : Stored → List ℕ → Type 0
HasNoNames s h = (name : List ℕ) → get s.names (h ++ name) ≡ None

-- one name more leads to a new directory
pub record AddsDir (old : Stored) (dir name h : List ℕ) (new : Stored) : Type 0 where
  pub whole : new.whole ≡ true
  pub names : new.names ≡ insert old.names (dir ++ name) h
  pub dirs : (path : List ℕ) → get old.dirs dir ≡ Some path → new.dirs ≡ insert old.dirs h (joined path name)

-- a name is gone, and with it the directory to which it led, if that was one
pub record Drops (old : Stored) (dir name h : List ℕ) (new : Stored) : Type 0 where
  pub whole : new.whole ≡ true
  pub names : new.names ≡ remove old.names (dir ++ name)
  pub dirs : new.dirs ≡ remove old.dirs h

-- a name has moved, and with it the paths of all directories under it
pub record Moves (old : Stored) (from name to to_name h : List ℕ) (new : Stored) : Type 0 where
  pub whole : new.whole ≡ true
  pub names : new.names ≡ insert (remove old.names (from ++ name)) (to ++ to_name) h
  pub dirs : (p q x : List ℕ) → get old.dirs from ≡ Some p → get old.dirs to ≡ Some q →
      get new.dirs x ≡ option_map (moved_path (joined p name) (joined q to_name)) (get old.dirs x)
