-- The walk over a server that was rebooted, whose table has the handles of before. Contracts inside the crate and their
-- proofs use it.
use Rattle.std.specs.Prelude.{◌≡◌, ◌≤◌, ◌<◌, ℕ, List, ◌∷◌, [], ◌++◌, Bool, true, false, Option, Some, slice_get, slice_set, length, is_some, count_by, if◌then◌else◌, IsSome, IsSomeAnd}
use Rattle.nfs2_types.specs.declared.Limits.{Limits}
use Rattle.server_trait.specs.Tree.{Tree, target}
use Rattle.server_trait.specs.Calls.{IsMovedTree}
use Rattle.server_trait.specs.declared.server.Listed.{Listed}
use Rattle.server_trait.specs.declared.bench.ConfTable.{ConfTable}
use Rattle.abs_model.specs.declared.entry.Entry.{Entry}
use Rattle.abs_model.specs.declared.entry.NameRow.{NameRow}
use Rattle.abs_model.specs.Objects.{is_dir, names_of, row_of}
use Rattle.abs_model.specs.Array.{entry_at}
use Rattle.abs_model.specs.Valid.{Valid}
use Rattle.conf_map.specs.Stands.{handle_at, export_name, Stands}
use Rattle.restart.specs.Numbers.{IsNumbered}
use Rattle.restart.specs.Rows.{handle_of}
use Rattle.restart.specs.declared.found.Found.{Found}

-- before the reboot server and table stood for a valid array, and now each node is under a handle that may be another
pub record Restarts (s : Option Tree) (table : ConfTable) (A : List Entry) : Type 0 where
  pub limits : Limits
  pub valid : Valid limits A
  pub before : Option Tree
  pub stands : Stands before table A
  pub now : Tree
  pub has_tree : s ≡ Some now
  pub new : List ℕ → List ℕ
  pub moved : IsMovedTree new stands.tree now

-- WHERE IT BEGINS

-- the tree's root has the name of the export directory
abbrev pub IsBegun : Option Tree → Type 0
IsBegun s = IsSomeAnd s (λ t. IsSome (target t t.root export_name))

-- the export directory
abbrev pub IsExport : Option Tree → List ℕ → Type 0
IsExport s h = (t : Tree) → s ≡ Some t → target t t.root export_name ≡ Some h

-- WHAT IT HAS FOUND

-- a row's new handle was found
abbrev pub is_found : Found → ℕ → Bool
is_found f i = is_some (handle_of f.handles.items i)

-- what was found so far is right, and its directories are listed
pub record IsGoing (table : ConfTable) (new : List ℕ → List ℕ) (A : List Entry) (f : Found) : Type 0 where
  pub numbered : IsNumbered table.rows.items f.rows
  pub size : length f.handles.items ≡ length table.rows.items
  pub right : (i : ℕ) (q : List ℕ) → handle_of f.handles.items i ≡ Some q →
      (h : List ℕ) × (handle_at table.rows.items i ≡ Some h) × (q ≡ new h)
  pub dirs_found : (j i : ℕ) → slice_get f.dirs.items j ≡ Some i →
      (is_found f i ≡ true) × (is_dir (entry_at A i) ≡ true)
  pub all_dirs : (i : ℕ) → is_found f i ≡ true → is_dir (entry_at A i) ≡ true →
      (j : ℕ) × (slice_get f.dirs.items j ≡ Some i)
  pub few : length f.dirs.items ≤ count_by (λ o. is_some o) f.handles.items

-- one row more is found, and listed where it is a directory
pub record IsAdded (old : Found) (i : ℕ) (q : List ℕ) (dir : Bool) (new : Found) : Type 0 where
  pub rows : new.rows ≡ old.rows
  pub handles : new.handles.items ≡ slice_set old.handles.items i (Some q)
  pub dirs : new.dirs.items ≡ (if dir then old.dirs.items ++ i ∷ [] else old.dirs.items)

-- a row is noted, unless it was found before
abbrev pub NotedBy : Bool → Found → ℕ → List ℕ → Bool → Found → Type 0
NotedBy true old i q dir new = new ≡ old
NotedBy false old i q dir new = IsAdded old i q dir new

abbrev pub IsNoted : Found → ℕ → List ℕ → Bool → Found → Type 0
IsNoted old i q dir new = NotedBy (is_found old i) old i q dir new

-- what was found stays found, and directories stay listed
pub record Grows (old new : Found) : Type 0 where
  pub size : length new.handles.items ≡ length old.handles.items
  pub found : (i : ℕ) → is_found old i ≡ true → is_found new i ≡ true
  pub dirs : (j i : ℕ) → slice_get old.dirs.items j ≡ Some i → slice_get new.dirs.items j ≡ Some i

-- ITS STEPS

-- each handle of a listing is the new one of a live row
abbrev pub AreLive : ConfTable → (List ℕ → List ℕ) → List Listed → Type 0
AreLive table new listed = (j : ℕ) (r : Listed) → slice_get listed j ≡ Some r →
    (i : ℕ) × (x : List ℕ) × (handle_at table.rows.items i ≡ Some x) × (r.handle ≡ new x)

-- the rows of the first handles of a listing were found
abbrev pub AreSeen : ConfTable → (List ℕ → List ℕ) → List Listed → ℕ → Found → Type 0
AreSeen table new listed n f = (j i : ℕ) (r : Listed) (x : List ℕ) → j < n → slice_get listed j ≡ Some r →
    handle_at table.rows.items i ≡ Some x → r.handle ≡ new x → is_found f i ≡ true

-- every name of a directory leads to a row that was found
abbrev pub AreFoundIn : List Entry → Found → ℕ → Type 0
AreFoundIn A f d = (name : List ℕ) (row : NameRow) → row_of name (names_of (entry_at A d)) ≡ Some row →
    is_found f row.index ≡ true

-- a turn of the walk: the directory found at this place was gone through, or none was found there
abbrev pub IsTurn : List Entry → Found → ℕ → Bool → Found → Type 0
IsTurn A old turn true new = (d : ℕ) × (slice_get old.dirs.items turn ≡ Some d) × AreFoundIn A new d
IsTurn A old turn false new = (new ≡ old) × (length old.dirs.items ≤ turn)
