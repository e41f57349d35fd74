-- A name more of a file or a link that is there (RFC 1094, 2.2.13).
use Rattle.std.specs.Prelude.{◌≡◌, ℕ, ◌+◌, ◌≤◌, true, false, List, ◌∷◌, [], IsSomeAnd}
use Rattle.std.specs.FinMap.{len}
use Rattle.nfs2_types.specs.declared.Limits.{Limits}
use Rattle.nfs2_types.specs.declared.Time.{Time}
use Rattle.nfs2_types.specs.Names.{is_name}
use Rattle.server_trait.specs.Tree.{Tree, Server, names_in, used}
use Rattle.server_trait.specs.Step.{IsNo, LacksName}
use Rattle.server_trait.specs.declared.bench.ConfTable.{ConfTable}
use Rattle.abs_model.specs.declared.entry.Entry.{Entry}
use Rattle.abs_model.specs.declared.entry.Change.{Change}
use Rattle.abs_model.specs.Objects.{is_dir, attr_of, with_attr, placed, changed_at}
use Rattle.abs_model.specs.Objects as objects
use Rattle.abs_model.specs.Array as array
use Rattle.abs_model.specs.Array.{entry_at, has_name}
use Rattle.abs_model.specs.Machine.{row_to, to_be, with_names}
use Rattle.abs_model.specs.Valid.{Valid}
use Rattle.conf_map.specs.Fresh.{HoldsUpTo}
use Rattle.conf_map.specs.Stands.{Stands, AreWithin, HasRoom}
use Rattle.conf_map.specs.Tallied.{Tallied}
use Rattle.conf_map.specs.Tables.{IsLive}
use Rattle.conf_map.specs.declared.table.Located.{Located}

-- a tree that has a file or a link, and a directory which lacks the name, with room for the name
pub record IsRoomToLink (s : Server) (t : Tree) (node dir name : List ℕ) : Type 0 where
  pub no_dir : IsNo names_in t node
  pub lacks : LacksName t dir name
  pub room : HoldsUpTo s.limits (len t.nodes) (used t + 512)

-- the server has such a tree
abbrev pub HasRoomToLink : Server → List ℕ → List ℕ → List ℕ → Type 0
HasRoomToLink s node dir name = IsSomeAnd s.tree (λ t. IsRoomToLink s t node dir name)

-- a directory gets a name, and the object to which it leads is changed
abbrev pub names_both : List Entry → ℕ → List ℕ → ℕ → Time → List Change
names_both A d name i t =
    to_be d (with_names (placed (row_to name i (entry_at A i).generation)) t (entry_at A d)) ∷
    to_be i (with_attr (changed_at t (attr_of (entry_at A i))) (entry_at A i)) ∷ []

-- A server and a table, which stand for a valid array in which a directory has room for a new name of a file or
-- a link.
pub record CanLink (server : Server) (table : ConfTable) (A : List Entry) (name : List ℕ) (dir o : Located)
    : Type 0 where
  pub limits : Limits
  pub within : AreWithin limits
  pub valid : Valid limits A
  pub stands : Stands server.tree table A
  pub tallied : Tallied table A
  pub room : HasRoom limits server.limits
  pub live : IsLive table.rows.items dir
  pub is_dir : is_dir (entry_at A dir.index) ≡ true
  pub good : is_name name ≡ true
  pub lacks : has_name A dir.index name ≡ false
  pub object : IsLive table.rows.items o
  pub no_dir : objects.is_dir (entry_at A o.index) ≡ false
  pub space : array.used A + 512 ≤ limits.t
