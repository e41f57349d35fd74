-- Names that a call takes out or adds: their tests, and where they lead (RFC 1094, 2.2.11, 2.2.13 and 2.2.16).
use Rattle.std.specs.Prelude.{◌≡◌, ℕ, true, false, not, nat_lt, if◌then◌else◌, length, List, ◌∷◌, [], ◌++◌, Option, Some, None, Result, Ok, Err}
use Rattle.nfs2_types.specs.declared.Stat.{Stat}
use Rattle.nfs2_types.specs.declared.stat.TheConstants.{PERM, NOENT, NOTDIR, ISDIR, NOTEMPTY}
use Rattle.nfs2_types.specs.Names.{is_name, is_dot}
use Rattle.server_trait.specs.declared.server.NodeAttr.{NodeAttr}
use Rattle.server_trait.specs.declared.bench.ConfEntry.{ConfEntry}
use Rattle.abs_model.specs.declared.entry.Entry.{Entry}
use Rattle.abs_model.specs.Objects.{is_dir, names_of}
use Rattle.abs_model.specs.Array.{entry_at, at, has_name, target}
use Rattle.abs_model.specs.Machine.{Refusal, ◌answers◌, old_name_tests}
use Rattle.conf_map.specs.Found.{is_dir_kind, IsDirCall, IsLed}
use Rattle.wrap_names.specs.declared.find.Found.{Found}

-- NAMES THAT ARE THERE

-- the directory of a call, and the object to which its name leads
pub record IsOld (A : List Entry) (rows : List ConfEntry) (dir name : List ℕ) (f : Found) : Type 0 where
  pub in_dir : IsDirCall A rows dir name f.dir
  pub no_dot : is_dot name ≡ false
  pub good : is_name name ≡ true
  pub led : IsLed A rows f.dir.index name f.at

-- FILES AND LINKS

-- the tests of REMOVE
abbrev pub remove_tests : List Entry → List ℕ → List ℕ → List Refusal
remove_tests A dir name = old_name_tests A dir name ++
    (is_dir (entry_at A (target A (at A dir) name)) answers ISDIR) ∷ []

-- a name that leads to no directory
pub record IsFileName (A : List Entry) (rows : List ConfEntry) (dir name : List ℕ) (f : Found) : Type 0 where
  pub old : IsOld A rows dir name f
  pub no_dir : is_dir (entry_at A f.at.index) ≡ false

-- DIRECTORIES

-- the tests of RMDIR
abbrev pub remove_dir_tests : List Entry → List ℕ → List ℕ → List Refusal
remove_dir_tests A dir name = old_name_tests A dir name ++
    (not (is_dir (entry_at A (target A (at A dir) name))) answers NOTDIR) ∷
    (nat_lt 0 (length (names_of (entry_at A (target A (at A dir) name)))) answers NOTEMPTY) ∷ []

-- why a node is not removed as a directory, if it isn't
abbrev pub no_removal : NodeAttr → Option Stat
no_removal a = if is_dir_kind a.kind then (if nat_lt 0 a.size then Some NOTEMPTY else None) else Some NOTDIR

-- a name that leads to a directory without names
pub record IsDirName (A : List Entry) (rows : List ConfEntry) (dir name : List ℕ) (f : Found) : Type 0 where
  pub old : IsOld A rows dir name f
  pub is_dir : is_dir (entry_at A f.at.index) ≡ true
  pub empty : names_of (entry_at A f.at.index) ≡ []
