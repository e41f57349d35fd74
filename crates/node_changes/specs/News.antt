-- What a new object is to the server, to the table and to the array.
use Rattle.std.specs.Prelude.{◌≡◌, ◌≢◌, ℕ, ◌+◌, ◌<◌, ◌≤◌, true, false, List, ◌∷◌, [], length, Option, Some, None, IsSomeAnd, slice_get, slice_set}
use Rattle.std.specs.FinMap.{insert, len}
use Rattle.nfs2_types.specs.declared.Limits.{Limits}
use Rattle.nfs2_types.specs.declared.Time.{Time}
use Rattle.nfs2_types.specs.Names.{is_name}
use Rattle.server_trait.specs.Tree.{Tree, Server, Node, Content, node_at, with_names}
use Rattle.server_trait.specs.Tree as trees
use Rattle.server_trait.specs.Calls.{IsNewNumber}
use Rattle.server_trait.specs.declared.bench.ConfEntry.{ConfEntry}
use Rattle.server_trait.specs.declared.bench.ConfTable.{ConfTable}
use Rattle.abs_model.specs.declared.entry.Attr.{Attr}
use Rattle.abs_model.specs.declared.entry.Object.{Object}
use Rattle.abs_model.specs.declared.entry.Entry.{Entry}
use Rattle.abs_model.specs.declared.entry.Change.{Change}
use Rattle.abs_model.specs.Objects.{is_null, is_dir, placed}
use Rattle.abs_model.specs.Array.{entry_at, has_name, changed, used}
use Rattle.abs_model.specs.Machine.{to_be, row_to}
use Rattle.abs_model.specs.Machine as machine
use Rattle.conf_map.specs.Fresh.{HoldsUpTo}
use Rattle.abs_model.specs.Valid.{Valid}
use Rattle.conf_map.specs.Stands.{Stands, AreWithin, HasRoom}
use Rattle.conf_map.specs.Tallied.{Tallied}
use Rattle.conf_map.specs.Tables.{IsInStep, IsLive, touched}
use Rattle.conf_map.specs.declared.table.Located.{Located}
use Rattle.node_changes.specs.declared.add.Place.{Place}
use Rattle.node_changes.specs.Objects.{New, byte_count, IsSmall}

-- the tree has room for one node more with so many bytes, and its name
abbrev pub HasRoomFor : Server → ℕ → Type 0
HasRoomFor s bytes = IsSomeAnd s.tree (λ t. HoldsUpTo s.limits (len t.nodes + 1) (trees.used t + (512 + bytes)))

-- a node with the mode and the owners of these attributes
abbrev pub node_with : ℕ → Attr → Content → Node
node_with number attr content =
    record { number = number; mode = attr.mode; uid = attr.uid; gid = attr.gid; content = content }

-- A directory of the tree has a new name, which leads to this node, of a new handle and a new number.
pub record IsMade (t : Tree) (dir name h : List ℕ) (node : Node) (t' : Tree) : Type 0 where
  pub root : t'.root ≡ t.root
  pub new_handle : node_at t h ≡ None
  pub new_number : IsNewNumber t node.number
  pub node_now : node_at t' h ≡ Some node
  pub dir_now : (n : Node) → node_at t dir ≡ Some n →
      node_at t' dir ≡ Some (with_names (λ m. insert m name h) n)
  pub others : (q : List ℕ) → q ≢ h → q ≢ dir → node_at t' q ≡ node_at t q

-- the same, of a node that has no mode and no owners yet
pub record IsBegun (t : Tree) (dir name h : List ℕ) (content : Content) (s : Option Tree) : Type 0 where
  pub number : ℕ
  pub tree : Tree
  pub has_tree : s ≡ Some tree
  pub made : IsMade t dir name h
      (record { number = number; mode = 0; uid = 0; gid = 0; content = content }) tree

-- one row is that of an object that was written, and one is new
pub record AddsRow (old new : ConfTable) (d i : ℕ) (row : ConfEntry) (t : Time) : Type 0 where
  pub rows : (r : ConfEntry) → slice_get old.rows.items d ≡ Some r →
      new.rows.items ≡ slice_set (slice_set old.rows.items d (touched t r)) i row
  pub in_step : IsInStep old → IsInStep new

-- an object of a generation
abbrev pub entry_of : ℕ → Object → Entry
entry_of generation new = record { generation = generation; object = new }

-- a directory is written, and an object takes an index
abbrev pub added : List Entry → ℕ → ℕ → ℕ → List ℕ → Time → Object → List Change
added A d i generation name t new =
    to_be d (machine.with_names (placed (row_to name i generation)) t (entry_at A d)) ∷
    to_be i (entry_of generation new) ∷ []

-- the array with the new object
abbrev pub with_new : List Entry → Place → ℕ → List ℕ → Time → Object → List Entry
with_new A p generation name t new = changed (added A p.dir.index p.index generation name t new) A

-- A server and a table, which stand for a valid array with a null entry, and space for a new object there under a
-- new name of a directory.
pub record CanAdd (server : Server) (table : ConfTable) (A : List Entry) (name : List ℕ) (new : New)
    (p : Place) : Type 0 where
  pub limits : Limits
  pub within : AreWithin limits
  pub valid : Valid limits A
  pub stands : Stands server.tree table A
  pub tallied : Tallied table A
  pub room : HasRoom limits server.limits
  pub live : IsLive table.rows.items p.dir
  pub is_dir : is_dir (entry_at A p.dir.index) ≡ true
  pub good : is_name name ≡ true
  pub lacks : has_name A p.dir.index name ≡ false
  pub small : IsSmall new
  pub below : p.index < length A
  pub is_null : is_null (entry_at A p.index) ≡ true
  pub space : used A + (512 + byte_count new) ≤ limits.t

-- Tree and table stand for the array with the new object, which is live at its index, and the tally is right.
pub record IsAdded (A : List Entry) (p : Place) (generation : ℕ) (name : List ℕ) (t : Time) (new : Object)
    (tree : Option Tree) (table : ConfTable) (at : Located) : Type 0 where
  pub stands : Stands tree table (with_new A p generation name t new)
  pub tallied : Tallied table (with_new A p generation name t new)
  pub live : IsLive table.rows.items at
  pub index : at.index ≡ p.index
