-- What a change does to keys, rows and directories.
use Rattle.std.specs.Prelude.{◌≡◌, ℕ, List, [], ◌∷◌, Option, Some, None, is_some, if◌then◌else◌}
use Rattle.std.specs.FinMap.{get, insert, remove}
use Rattle.slab.specs.Slab.{Updates, get as slot}
use Rattle.path_store.specs.Stored.{joined, moved_path}
use Rattle.path_store.specs.Placed.{Keys, Rows, Dirs}
use Rattle.path_store.specs.Walks.{AreUnder}
use Rattle.path_store.specs.declared.row.PathRow.{PathRow}

-- the path of a name of a directory
abbrev pub IsPathOf : Dirs → List ℕ → List ℕ → List ℕ → Type 0
IsPathOf dirs dir name path = (top : List ℕ) → get dirs dir ≡ Some top → path ≡ joined top name

-- a row more, under a path
pub record PutsRow (keys : Keys) (rows : Rows) (path : List ℕ) (row : PathRow) (new_keys : Keys)
    (new_rows : Rows) : Type 0 where
  pub key : ℕ
  pub vacant : slot rows key ≡ None
  pub keys_are : new_keys ≡ insert keys path key
  pub rows_are : Updates rows new_rows key (Some row)

-- the row under a path is gone
pub record TakesRow (keys : Keys) (rows : Rows) (path : List ℕ) (new_keys : Keys)
    (new_rows : Rows) : Type 0 where
  pub keys_are : new_keys ≡ remove keys path
  pub rows_are : (key : ℕ) → get keys path ≡ Some key → Updates rows new_rows key None

-- these paths, each with its key, have moved one after the other
abbrev pub moved_keys : List ℕ → List ℕ → List (List ℕ × ℕ) → Keys → Keys
moved_keys old new [] keys = keys
moved_keys old new (e ∷ es) keys = moved_keys old new es (insert (remove keys e.0) (moved_path old new e.0) e.1)

-- a directory to which a row leads has another path, if it is one
abbrev pub led_to : Option PathRow → List ℕ → Dirs → Dirs
led_to None path dirs = dirs
led_to (Some row) path dirs = if is_some (get dirs row.to) then insert dirs row.to path else dirs

-- the directories to which these paths lead have moved one after the other
abbrev pub moved_dirs : Rows → List ℕ → List ℕ → List (List ℕ × ℕ) → Dirs → Dirs
moved_dirs rows old new [] dirs = dirs
moved_dirs rows old new (e ∷ es) dirs = moved_dirs rows old new es
    (led_to (slot rows e.1) (moved_path old new e.0)
    dirs)

-- these paths have moved one after the other, and the directories to which they lead
pub record MovesAll (old new : List ℕ) (entries : List (List ℕ × ℕ)) (rows : Rows) (keys : Keys) (dirs : Dirs)
    (new_keys : Keys) (new_dirs : Dirs) : Type 0 where
  pub keys_are : new_keys ≡ moved_keys old new entries keys
  pub dirs_are : new_dirs ≡ moved_dirs rows old new entries dirs

-- all that lies under one path lies under another, and the row there is this
pub record MovesUnder (old new : List ℕ) (row : PathRow) (keys : Keys) (rows : Rows) (dirs : Dirs)
    (new_keys : Keys)
    (new_rows : Rows) (new_dirs : Dirs) : Type 0 where
  pub entries : List (List ℕ × ℕ)
  pub key : ℕ
  pub all_under : AreUnder old keys entries
  pub key_is : get keys old ≡ Some key
  pub rows_are : Updates rows new_rows key (Some row)
  pub keys_are : new_keys ≡ moved_keys old new entries keys
  pub dirs_are : new_dirs ≡ moved_dirs new_rows old new entries dirs
