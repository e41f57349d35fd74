-- RENAME (RFC 1094, 2.2.12): its tests in two parts, what they find, and what a move asks for and changes.
use Rattle.std.specs.Prelude.{◌≡◌, ◌≢◌, ℕ, List, [], ◌∷◌, ◌++◌, Bool, true, false, not, ◌&&◌, ◌||◌, ◌==◌, nat_lt, if◌then◌else◌, length, Option, Some, None, Result, Ok, Err, slice_get, slice_set, ⊤}
use Rattle.nfs2_types.specs.declared.Limits.{Limits}
use Rattle.nfs2_types.specs.declared.Stat.{Stat}
use Rattle.nfs2_types.specs.declared.Time.{Time}
use Rattle.nfs2_types.specs.declared.stat.TheConstants.{PERM, NOENT, ACCES, NOTDIR, ISDIR, NOTEMPTY, STALE}
use Rattle.nfs2_types.specs.Names.{is_bad, is_dot, is_name}
use Rattle.server_trait.specs.Tree.{Server}
use Rattle.server_trait.specs.declared.bench.ConfEntry.{ConfEntry}
use Rattle.server_trait.specs.declared.bench.ConfTable.{ConfTable}
use Rattle.abs_model.specs.declared.entry.Change.{Change}
use Rattle.abs_model.specs.declared.entry.Entry.{Entry}
use Rattle.abs_model.specs.Objects.{is_dir, names_of}
use Rattle.abs_model.specs.Array.{entry_at, changed, live, at, target, has_name, climbs_to}
use Rattle.abs_model.specs.Machine.{Refusal, ◌answers◌, first_of, two_dir_tests, two_name_tests, to_be, unlinked, rows_move, row_to}
use Rattle.abs_model.specs.Valid.{Valid, Walk}
use Rattle.conf_map.specs.Found.{IsLed, NameFound}
use Rattle.conf_map.specs.Stands.{Stands, AreWithin}
use Rattle.conf_map.specs.Tallied.{Tallied}
use Rattle.conf_map.specs.Tables.{IsLive, touched}
use Rattle.conf_map.specs.declared.table.Located.{Located}
use Rattle.wrap_names.specs.declared.ends.Dirs.{Dirs}
use Rattle.wrap_names.specs.declared.ends.Ends.{Ends}
use Rattle.node_changes.specs.Drops.{drops}
use Rattle.node_changes.specs.Moves.{name_moves}

-- TESTS

-- those up to where the first name leads
abbrev pub end_tests : List Entry → List ℕ → List ℕ → List ℕ → List ℕ → List Refusal
end_tests A from name to to_name =
    two_dir_tests A from to
    ++ (two_name_tests name to_name ++ ((not (has_name A (at A from) name) answers NOENT) ∷ []))

-- those of an object that is replaced, by whether what moves is a directory
abbrev pub replace_tests : List Entry → Bool → ℕ → List Refusal
replace_tests A moves_dir j =
    (not moves_dir && is_dir (entry_at A j) answers ISDIR) ∷
    (moves_dir && not (is_dir (entry_at A j)) answers NOTDIR) ∷
    (moves_dir && nat_lt 0 (length (names_of (entry_at A j))) answers NOTEMPTY) ∷ []

-- those of what moves to a directory, by whether another object is replaced and whether both names lead to one
abbrev pub move_tests : List Entry → ℕ → ℕ → ℕ → Bool → Bool → List Refusal
move_tests A i j e over same =
    (over && (not (is_dir (entry_at A i)) && is_dir (entry_at A j)) answers ISDIR) ∷
    (over && (is_dir (entry_at A i) && not (is_dir (entry_at A j))) answers NOTDIR) ∷
    (over && (is_dir (entry_at A i) && nat_lt 0 (length (names_of (entry_at A j)))) answers NOTEMPTY) ∷
    (not same && (is_dir (entry_at A i) && climbs_to A i (length A) e) answers ACCES) ∷ []

-- all of them
abbrev pub rename_tests : List Entry → List ℕ → List ℕ → List ℕ → List ℕ → List Refusal
rename_tests A from name to to_name =
    let i = target A (at A from) name in
    let j = target A (at A to) to_name in
    let has = has_name A (at A to) to_name in
    end_tests A from name to to_name ++ move_tests A i j (at A to) (has && not (i == j)) (has && (i == j))

-- WHAT IS FOUND

-- both directories of a call
pub record AreDirs (A : List Entry) (rows : List ConfEntry) (from to : List ℕ) (p : Dirs) : Type 0 where
  pub from_index : live A from ≡ Some p.from.index
  pub to_index : live A to ≡ Some p.to.index
  pub from_live : IsLive rows p.from
  pub to_live : IsLive rows p.to
  pub from_dir : is_dir (entry_at A p.from.index) ≡ true
  pub to_dir : is_dir (entry_at A p.to.index) ≡ true

-- Two directories, the object to which a name of the first leads, and where a name of the second leads.
pub record AreLed (A : List Entry) (rows : List ConfEntry) (name to_name : List ℕ) (m : Ends) : Type 0 where
  pub from_live : IsLive rows m.from
  pub to_live : IsLive rows m.to
  pub from_dir : is_dir (entry_at A m.from.index) ≡ true
  pub to_dir : is_dir (entry_at A m.to.index) ≡ true
  pub good : is_name name ≡ true
  pub to_good : is_name to_name ≡ true
  pub led : IsLed A rows m.from.index name m.at
  pub found : NameFound A rows m.to.index to_name m.over

-- the same, as the call names them
pub record AreEnds (A : List Entry) (rows : List ConfEntry) (from name to to_name : List ℕ)
    (m : Ends) : Type 0 where
  pub from_index : live A from ≡ Some m.from.index
  pub to_index : live A to ≡ Some m.to.index
  pub led : AreLed A rows name to_name m

-- a name leads to the object at an index
abbrev pub leads_to : Option Located → ℕ → Bool
leads_to None i = false
leads_to (Some o) i = i == o.index

-- what a name leads to, if it is there, is live
abbrev pub IsLiveIf : List ConfEntry → Option Located → Type 0
IsLiveIf rows None = ⊤
IsLiveIf rows (Some o) = IsLive rows o

-- the rows of a move
pub record AreLive (rows : List ConfEntry) (m : Ends) : Type 0 where
  pub from_live : IsLive rows m.from
  pub to_live : IsLive rows m.to
  pub at_live : IsLive rows m.at
  pub over_live : IsLiveIf rows m.over

-- the first refusal by what would be replaced
abbrev pub over_refused : List Entry → Bool → Option Located → Option Stat
over_refused A moves_dir None = None
over_refused A moves_dir (Some o) = first_of (replace_tests A moves_dir o.index)

-- the first refusal of a move of one object in place of another, or of none
abbrev pub move_refused : List Entry → ℕ → ℕ → Option Located → Option Stat
move_refused A i e None = first_of (move_tests A i (length A) e false false)
move_refused A i e (Some o) = first_of (move_tests A i o.index e true false)

-- what is replaced, if anything, is another object, and has no names
abbrev pub IsReplaced : List Entry → ℕ → Option Located → Type 0
IsReplaced A i None = ⊤
IsReplaced A i (Some o) = (o.index ≢ i) × (names_of (entry_at A o.index) ≡ [])

-- both names lead to one object
pub record IsIdle (A : List Entry) (from name to to_name : List ℕ) : Type 0 where
  pub same : (has_name A (at A to) to_name && (target A (at A from) name == target A (at A to) to_name)) ≡ true

-- the name moves
pub record IsMove (A : List Entry) (rows : List ConfEntry) (from name to to_name : List ℕ)
    (m : Ends) : Type 0 where
  pub from_index : live A from ≡ Some m.from.index
  pub to_index : live A to ≡ Some m.to.index
  pub led : AreLed A rows name to_name m
  pub replaced : IsReplaced A m.at.index m.over
  pub not_below : is_dir (entry_at A m.at.index) ≡ true → climbs_to A m.at.index (length A) m.to.index ≡ false

-- what is to be done
abbrev pub IsPlanned : List Entry → List ConfEntry → List ℕ → List ℕ → List ℕ → List ℕ → Option Ends → Type 0
IsPlanned A rows from name to to_name None = IsIdle A from name to to_name
IsPlanned A rows from name to to_name (Some m) = IsMove A rows from name to to_name m

-- WHAT IS DONE

-- what is replaced goes first
abbrev pub clears : List Entry → ℕ → List ℕ → Option Located → Time → List Change
clears A e to_name None t = []
clears A e to_name (Some o) t = drops A e to_name o.index t

-- the array in which the second name is free
abbrev pub cleared : List Entry → ℕ → List ℕ → Option Located → Time → List Entry
cleared A e to_name over t = changed (clears A e to_name over t) A

-- what is replaced loses its name
abbrev pub unlinks : List Entry → Option Located → Time → List Change
unlinks A None t = []
unlinks A (Some o) t = to_be o.index (unlinked A o.index t) ∷ []

-- all that a move changes
abbrev pub moves : List Entry → List ℕ → List ℕ → Ends → Time → List Change
moves A name to_name m t =
    name_moves A m.from.index name m.to.index to_name m.at.index t ++ unlinks A m.over t

-- both directories are told, one of them once, and then what is replaced
abbrev pub told_dirs : ℕ → ℕ → List ℕ
told_dirs d e = if d == e then d ∷ [] else d ∷ e ∷ []

abbrev pub told_over : Option Located → List ℕ
told_over None = []
told_over (Some o) = o.index ∷ []

abbrev pub told_ends : Ends → List ℕ
told_ends m = told_dirs m.from.index m.to.index ++ told_over m.over

-- A server and a table, which stand for a valid array in which a name can move in place of what the other leads
-- to.
pub record CanReplace (server : Server) (table : ConfTable) (A : List Entry) (name to_name : List ℕ) (m : Ends)
    : Type 0 where
  pub limits : Limits
  pub within : AreWithin limits
  pub valid : Valid limits A
  pub stands : Stands server.tree table A
  pub tallied : Tallied table A
  pub led : AreLed A table.rows.items name to_name m
  pub replaced : IsReplaced A m.at.index m.over
  pub not_below : is_dir (entry_at A m.at.index) ≡ true → climbs_to A m.at.index (length A) m.to.index ≡ false
