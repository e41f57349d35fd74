-- What is set of an object: of its node, of its row and of its entry (RFC 1094, 2.2.3).
use Rattle.std.specs.Prelude.{◌≡◌, ℕ, List, length, true, Option, Some, None, IsSome, IsSomeAnd, is_some, unwrap_or, if◌then◌else◌, ⊤}
use Rattle.nfs2_types.specs.declared.Limits.{Limits}
use Rattle.nfs2_types.specs.declared.Sattr.{Sattr}
use Rattle.nfs2_types.specs.declared.Time.{Time}
use Rattle.nfs2_types.specs.Bytes.{resized}
use Rattle.server_trait.specs.Tree.{Server, Node, node_at, with_attr, with_bytes}
use Rattle.server_trait.specs.declared.server.NodeAttr.{NodeAttr}
use Rattle.server_trait.specs.declared.bench.ConfEntry.{ConfEntry}
use Rattle.server_trait.specs.declared.bench.ConfTable.{ConfTable}
use Rattle.abs_model.specs.declared.entry.Entry.{Entry}
use Rattle.abs_model.specs.declared.entry.Object.TheVariants.{File}
use Rattle.abs_model.specs.Objects.{is_file, bytes_of, attr_of, time_given, set_attr_of}
use Rattle.abs_model.specs.Objects as objects
use Rattle.abs_model.specs.Array.{entry_at, used}
use Rattle.abs_model.specs.Valid.{Valid}
use Rattle.conf_map.specs.Found.{IsSeen}
use Rattle.conf_map.specs.Stands.{Stands, AreWithin, HasRoom}
use Rattle.conf_map.specs.Tallied.{Tallied}
use Rattle.conf_map.specs.Tables.{IsLive}
use Rattle.conf_map.specs.declared.table.Located.{Located}
use Rattle.node_changes.specs.Puts.{CanHold, Suits}

-- the server has a node, which is a file with room for the size if one is given
abbrev pub CanSize : Server → List ℕ → Option ℕ → Type 0
CanSize s h None = IsSomeAnd s.tree (λ t. IsSome (node_at t h))
CanSize s h (Some size) = (b : List ℕ) × CanHold s h b size

-- a node with the size that is given
abbrev pub node_sized : Option ℕ → Node → Node
node_sized None n = n
node_sized (Some size) n = with_bytes (resized size) n

-- and with the mode and the owners that are given, or those that it had
abbrev pub node_set : Sattr → NodeAttr → Node → Node
node_set s a n = with_attr (unwrap_or s.mode a.mode) (unwrap_or s.uid a.uid) (unwrap_or s.gid a.gid)
    (node_sized s.size n)

-- a row with the times that are given; with a size and no mtime its object was written at t
abbrev pub row_set : Sattr → Time → ConfEntry → ConfEntry
row_set s t r = record r {
  atime = time_given s.atime t r.atime;
  mtime = time_given s.mtime t (if is_some s.size then t else r.mtime);
  ctime = t;
}

-- the bytes that go where a size is given
abbrev pub size_goes : NodeAttr → Sattr → ℕ
size_goes a s = if is_some s.size then a.size else 0

-- an entry with what is given
abbrev pub entry_set : Entry → Sattr → Time → Entry
entry_set e s t =
    let new = set_attr_of s t (attr_of e) in
    if is_some s.size then
    record { generation = e.generation; object = File new (resized (unwrap_or s.size 0) (bytes_of e)) }
    else objects.with_attr new e

-- only a file gets a size, and one that suits
abbrev pub SuitsIf : Limits → List Entry → Entry → Option ℕ → Type 0
SuitsIf limits A e None = ⊤
SuitsIf limits A e (Some size) = (is_file e ≡ true) × Suits limits (used A) (length (bytes_of e)) size

-- A server and a table, which stand for a valid array in which an object, of which the server told this, can have
-- what is given.
pub record CanSet (server : Server) (table : ConfTable) (A : List Entry) (attr : NodeAttr) (sattr : Sattr)
    (o : Located) : Type 0 where
  pub limits : Limits
  pub within : AreWithin limits
  pub valid : Valid limits A
  pub stands : Stands server.tree table A
  pub tallied : Tallied table A
  pub room : HasRoom limits server.limits
  pub live : IsLive table.rows.items o
  pub seen : IsSeen (entry_at A o.index) attr
  pub suits : SuitsIf limits A (entry_at A o.index) sattr.size
