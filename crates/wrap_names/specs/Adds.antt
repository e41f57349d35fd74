-- A name more of an object that is there (RFC 1094, 2.2.13).
use Rattle.std.specs.Prelude.{◌≡◌, ℕ, ◌+◌, ◌≤◌, true, false, List, ◌∷◌, [], ◌++◌, Some, None, Result, Ok, Err, IsSomeAnd}
use Rattle.std.specs.FinMap.{len}
use Rattle.nfs2_types.specs.declared.Limits.{Limits}
use Rattle.nfs2_types.specs.declared.Stat.{Stat}
use Rattle.nfs2_types.specs.declared.Time.{Time}
use Rattle.nfs2_types.specs.declared.stat.TheConstants.{PERM, EXIST, STALE}
use Rattle.nfs2_types.specs.Call.{link}
use Rattle.nfs2_types.specs.Names.{is_name, is_dot}
use Rattle.server_trait.specs.Tree.{Tree, Server, names_in, used}
use Rattle.server_trait.specs.Step.{IsNo, LacksName}
use Rattle.server_trait.specs.declared.bench.ConfEntry.{ConfEntry}
use Rattle.server_trait.specs.declared.bench.ConfTable.{ConfTable}
use Rattle.abs_model.specs.declared.entry.Entry.{Entry}
use Rattle.abs_model.specs.declared.entry.Change.{Change}
use Rattle.abs_model.specs.Objects.{is_dir, attr_of, with_attr, placed, changed_at}
use Rattle.abs_model.specs.Objects as objects
use Rattle.abs_model.specs.Array as array
use Rattle.abs_model.specs.Array.{entry_at, at, has_name}
use Rattle.abs_model.specs.Machine.{Refusal, ◌answers◌, first_of, in_dir, is_stale, refusals, row_to, to_be, with_names}
use Rattle.abs_model.specs.Valid.{Valid}
use Rattle.conf_map.specs.Fresh.{HoldsUpTo}
use Rattle.conf_map.specs.Found.{IsDirCall}
use Rattle.conf_map.specs.Stands.{Stands, AreWithin, HasRoom}
use Rattle.conf_map.specs.Tables.{IsLive}
use Rattle.conf_map.specs.declared.table.Located.{Located}
use Rattle.wrap_names.specs.declared.find.Found.{Found}

-- THE TESTS OF LINK

-- those that say nothing of the name
abbrev pub object_tests : List Entry → List ℕ → List ℕ → List Refusal
object_tests A node dir =
    (is_stale A node answers STALE) ∷
    (is_stale A dir answers STALE) ∷
    (is_dir (entry_at A (at A node)) answers PERM) ∷ []

-- a file or a link, beside the handle of a live object
pub record IsAlone (A : List Entry) (rows : List ConfEntry) (node dir : List ℕ) (o : Located) : Type 0 where
  pub is_index : array.live A node ≡ Some o.index
  pub live : IsLive rows o
  pub no_dir : is_dir (entry_at A o.index) ≡ false
  pub dir_live : is_stale A dir ≡ false

-- those of a name that has to be new
abbrev pub new_tests : List Entry → List ℕ → List ℕ → List Refusal
new_tests A dir name =
    in_dir A dir name ++ (is_dot name answers PERM) ∷ (has_name A (at A dir) name answers EXIST) ∷ []

-- a directory without the name
pub record IsNew (A : List Entry) (rows : List ConfEntry) (dir name : List ℕ) (d : Located) : Type 0 where
  pub in_dir : IsDirCall A rows dir name d
  pub no_dot : is_dot name ≡ false
  pub good : is_name name ≡ true
  pub lacks : has_name A d.index name ≡ false

-- the directory and the object of a LINK that is not refused
pub record IsLink (A : List Entry) (limits : Limits) (rows : List ConfEntry) (node dir name : List ℕ)
    (f : Found)
    : Type 0 where
  pub object : IsAlone A rows node dir f.at
  pub new : IsNew A rows dir name f.dir
  pub space : array.used A + 512 ≤ limits.t
