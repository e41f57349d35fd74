-- When a server's tree and a table stand for an array.
use Rattle.std.specs.Prelude.{◌+◌, ◌≤◌, ◌≡◌, ◌≢◌, ◌⊎◌, ◌↔◌, ℕ, List, [], ◌∷◌, true, Option, None, Some, slice_get, length, IsSomeAnd, ⊤}
use Rattle.std.specs.Option.{option_and_then}
use Rattle.std.specs.Ordering.{nat_cmp}
use Rattle.std.specs.Cmp.Lexicographic.{slice_cmp}
use Rattle.std.specs.BTreeMap as ordered
use Rattle.std.specs.FinMap.{get, insert, empty}
use Rattle.nfs2_types.specs.declared.Limits.{Limits}
use Rattle.server_trait.specs.Tree.{Tree, Node, Content, BytesOf, TextOf, Names, node_at, names_at, names_in}
use Rattle.server_trait.specs.declared.server.ServerLimits.{ServerLimits}
use Rattle.server_trait.specs.declared.bench.ConfEntry.{ConfEntry}
use Rattle.server_trait.specs.declared.bench.ConfTable.{ConfTable}
use Rattle.abs_model.specs.declared.entry.Attr.{Attr}
use Rattle.abs_model.specs.declared.entry.NameRow.{NameRow}
use Rattle.abs_model.specs.declared.entry.Object.{Object}
use Rattle.abs_model.specs.declared.entry.Object.TheVariants.{Null, File, Dir, Link}
use Rattle.abs_model.specs.declared.entry.Entry.{Entry}
use Rattle.abs_model.specs.Objects.{is_dir, names_of, row_of}
use Rattle.abs_model.specs.Array.{entry_at}
use Rattle.abs_model.specs.Valid.{Valid}
use Rattle.conf_map.specs.Tallied.{Tallied}
use Rattle.conf_map.specs.declared.space.TheConstants.{SPARE_BYTES}

-- the handle in a row
abbrev pub handle_at : List ConfEntry → ℕ → Option (List ℕ)
handle_at rows i = option_and_then (λ (r : ConfEntry). r.handle) (slice_get rows i)

-- WHERE THE NODES ARE

-- the names of the tree's root
abbrev pub export_name : List ℕ
export_name = 101 ∷ 120 ∷ 112 ∷ 111 ∷ 114 ∷ 116 ∷ []

abbrev pub staging_name : List ℕ
staging_name = 115 ∷ 116 ∷ 97 ∷ 103 ∷ 105 ∷ 110 ∷ 103 ∷ []

abbrev pub root_names : List ℕ → List ℕ → Names
root_names export staging = insert (insert empty export_name export) staging_name staging

abbrev pub DifferInNumber : Tree → Type 0
DifferInNumber t = (p q : List ℕ) (m n : Node) → node_at t p ≡ Some m → node_at t q ≡ Some n →
    m.number ≡ n.number →
    p ≡ q

-- Besides the root and an empty staging directory, each node has its row, and each handle of a row is
-- that of a node. The node of the first row is the export directory. `by_handle` has the row of each handle.
pub record Placed (t : Tree) (table : ConfTable) : Type 0 where
  pub export : List ℕ
  pub staging : List ℕ
  pub root_has : names_at t t.root ≡ Some (root_names export staging)
  pub staging_has : names_at t staging ≡ Some empty
  pub root_apart : staging ≢ t.root
  pub is_export : handle_at table.rows.items 0 ≡ Some export
  pub by_handle : (h : List ℕ) (i : ℕ) → (ordered.get (slice_cmp nat_cmp) table.by_handle h ≡ Some i) ↔
      (handle_at table.rows.items i ≡ Some h)
  pub apart : (i : ℕ) (h : List ℕ) → handle_at table.rows.items i ≡ Some h → (h ≢ t.root) × (h ≢ staging)
  pub covered : (q : List ℕ) (n : Node) → node_at t q ≡ Some n → (q ≡ t.root) ⊎
      ((q ≡ staging) ⊎ ((i : ℕ) × (handle_at table.rows.items i ≡ Some q)))
  pub numbers : DifferInNumber t

-- WHAT A ROW AND ITS NODE HOLD

-- a name's handle is that of the row that the entry's name leads to
abbrev pub Leads : List ConfEntry → Option (List ℕ) → Option NameRow → Type 0
Leads rows None None = ⊤
Leads rows (Some h) (Some row) = handle_at rows row.index ≡ Some h
Leads rows None (Some row) = ⊥
Leads rows (Some h) None = ⊥

abbrev pub SameNames : List ConfEntry → List NameRow → Names → Type 0
SameNames rows names m = (name : List ℕ) → Leads rows (get m name) (row_of name names)

abbrev pub SameContent : List ConfEntry → Object → Content → Type 0
SameContent rows Null c = ⊥
SameContent rows (File attr bytes) c = c ≡ BytesOf bytes
SameContent rows (Dir attr names) c = IsSomeAnd (names_in c) (SameNames rows names)
SameContent rows (Link attr text) c = c ≡ TextOf text

-- a live entry's attributes: the times are the row's, and all else is the node's
pub record SameAttr (a : Attr) (r : ConfEntry) (n : Node) : Type 0 where
  pub number : r.number ≡ n.number
  pub mode : n.mode ≡ a.mode
  pub uid : n.uid ≡ a.uid
  pub gid : n.gid ≡ a.gid
  pub atime : r.atime ≡ a.atime
  pub mtime : r.mtime ≡ a.mtime
  pub ctime : r.ctime ≡ a.ctime

-- the row has a handle, and its node holds the object
pub record Holds (t : Tree) (rows : List ConfEntry) (r : ConfEntry) (o : Object) (a : Attr) : Type 0 where
  pub handle : List ℕ
  pub node : Node
  pub is_handle : r.handle ≡ Some handle
  pub is_node : node_at t handle ≡ Some node
  pub attr : SameAttr a r node
  pub content : SameContent rows o node.content

abbrev pub IsObject : Tree → List ConfEntry → ConfEntry → Object → Type 0
IsObject t rows r Null = r.handle ≡ None
IsObject t rows r (File attr bytes) = Holds t rows r (File attr bytes) attr
IsObject t rows r (Dir attr names) = Holds t rows r (Dir attr names) attr
IsObject t rows r (Link attr text) = Holds t rows r (Link attr text) attr

-- some name leads to an index
abbrev pub LeadTo : List NameRow → ℕ → Type 0
LeadTo names i = (name : List ℕ) × (row : NameRow) × (row_of name names ≡ Some row) × (row.index ≡ i)

-- the directory whose list names an index; the root's is the root
abbrev pub IsParent : List Entry → ℕ → ℕ → Type 0
IsParent A p i = (i ≡ 0 → p ≡ 0) × (i ≢ 0 → LeadTo (names_of (entry_at A p)) i)

pub record RowIs (t : Tree) (rows : List ConfEntry) (A : List Entry) (i : ℕ) (r : ConfEntry)
    (e : Entry) : Type 0 where
  pub generation : r.generation ≡ e.generation
  pub object : IsObject t rows r e.object
  pub parent : is_dir e ≡ true → IsParent A r.parent i

-- TREE AND TABLE STAND FOR THE ARRAY

pub record Stands (server : Option Tree) (table : ConfTable) (A : List Entry) : Type 0 where
  pub tree : Tree
  pub has_tree : server ≡ Some tree
  pub placed : Placed tree table
  pub size : length table.rows.items ≡ length A
  pub each : (i : ℕ) (r : ConfEntry) (e : Entry) → slice_get table.rows.items i ≡ Some r →
      slice_get A i ≡ Some e →
      RowIs tree table.rows.items A i r e

-- the limits are within those of the service
abbrev pub AreWithin : Limits → Type 0
AreWithin limits = (1 ≤ limits.n) × (limits.n ≤ 4096) × (512 ≤ limits.t) × (limits.t ≤ 16777216)

-- They stand for an array that is valid for some limits of the service, and the table's tally of it is right.
pub record StandValid (server : Option Tree) (table : ConfTable) (A : List Entry) : Type 0 where
  pub limits : Limits
  pub within : AreWithin limits
  pub valid : Valid limits A
  pub stands : Stands server table A
  pub tallied : Tallied table A

-- They stand for an array that is valid for these limits, and the table's tally of it is right.
pub record StandsValid (limits : Limits) (server : Option Tree) (table : ConfTable)
    (A : List Entry) : Type 0 where
  pub valid : Valid limits A
  pub stands : Stands server table A
  pub tallied : Tallied table A

-- A server that can hold every array that is valid for these limits, with the root, staging, one node more and spare
-- bytes.
pub record HasRoom (limits : Limits) (most : ServerLimits) : Type 0 where
  pub nodes : limits.n + 3 ≤ most.nodes
  pub bytes : limits.t + SPARE_BYTES ≤ most.bytes
