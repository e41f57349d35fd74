-- A name that goes, and with its last name the object to which it leads (RFC 1094, 2.2.11 and 2.2.16).
use Rattle.std.specs.Prelude.{◌≡◌, ℕ, ◌+◌, if◌then◌else◌, Bool, true, false, ◌||◌, nat_le, List, ◌∷◌, [], Some}
use Rattle.std.specs.FinMap as maps
use Rattle.nfs2_types.specs.declared.Limits.{Limits}
use Rattle.nfs2_types.specs.declared.Time.{Time}
use Rattle.nfs2_types.specs.Names.{is_name}
use Rattle.server_trait.specs.Tree.{Tree, Server, names_in, names_at, target}
use Rattle.server_trait.specs.Step.{IsNo}
use Rattle.server_trait.specs.declared.server.NodeAttr.{NodeAttr}
use Rattle.server_trait.specs.declared.bench.ConfTable.{ConfTable}
use Rattle.abs_model.specs.declared.entry.Entry.{Entry}
use Rattle.abs_model.specs.declared.entry.Change.{Change}
use Rattle.abs_model.specs.Objects.{is_dir, names_of, without}
use Rattle.abs_model.specs.Array.{entry_at}
use Rattle.abs_model.specs.Machine.{to_be, with_names, unlinked}
use Rattle.abs_model.specs.Valid.{Valid}
use Rattle.conf_map.specs.Found.{is_dir_kind, IsLed}
use Rattle.conf_map.specs.Stands.{Stands, AreWithin}
use Rattle.conf_map.specs.Tallied.{Tallied}
use Rattle.conf_map.specs.Tables.{IsLive}
use Rattle.conf_map.specs.declared.table.Located.{Located}

-- a name of a directory of the tree leads to a directory without names, or to what is no directory
pub record CanTake (t : Tree) (dir name : List ℕ) (dir_kind : Bool) : Type 0 where
  pub handle : List ℕ
  pub leads : target t dir name ≡ Some handle
  pub no_names : dir_kind ≡ true → names_at t handle ≡ Some maps.empty
  pub no_dir : dir_kind ≡ false → IsNo names_in t handle

-- a node that loses a name has no other: a directory has one alone
abbrev pub last_name : NodeAttr → Bool
last_name a = is_dir_kind a.kind || nat_le a.links 1

-- the bytes of a last name, with those of the file or the link that goes with it
abbrev pub last_bytes_of : NodeAttr → ℕ
last_bytes_of a = if is_dir_kind a.kind then 512 else 512 + a.size

-- a directory's name goes, and the object to which it led loses it
abbrev pub drops : List Entry → ℕ → List ℕ → ℕ → Time → List Change
drops A d name i t = to_be d (with_names (without name) t (entry_at A d)) ∷ to_be i (unlinked A i t) ∷ []

-- A server and a table, which stand for a valid array in which a directory's name leads to a file, a link or a
-- directory without names.
pub record CanDrop (server : Server) (table : ConfTable) (A : List Entry) (name : List ℕ) (dir o : Located)
    : Type 0 where
  pub limits : Limits
  pub within : AreWithin limits
  pub valid : Valid limits A
  pub stands : Stands server.tree table A
  pub tallied : Tallied table A
  pub live : IsLive table.rows.items dir
  pub is_dir : is_dir (entry_at A dir.index) ≡ true
  pub good : is_name name ≡ true
  pub led : IsLed A table.rows.items dir.index name o
  pub empty : names_of (entry_at A o.index) ≡ []
