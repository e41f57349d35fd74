-- The changes that procedures are made of: what a call of the server, a change of the table and one of the array
-- have to say, so that tree and table go on standing for the array.
use Rattle.std.specs.Prelude.{◌≡◌, ◌≢◌, ℕ, List, [], true, Option, Some, None, slice_get, length}
use Rattle.std.specs.FinMap.{get}
use Rattle.std.specs.Ordering.{nat_cmp}
use Rattle.std.specs.Cmp.Lexicographic.{slice_cmp}
use Rattle.std.specs.BTreeMap as ordered
use Rattle.server_trait.specs.Tree.{Tree, Node, Names, node_at, names_in, with_names}
use Rattle.server_trait.specs.Calls.{IsNewNumber}
use Rattle.server_trait.specs.declared.bench.ConfEntry.{ConfEntry}
use Rattle.server_trait.specs.declared.bench.ConfTable.{ConfTable}
use Rattle.abs_model.specs.declared.entry.Attr.{Attr}
use Rattle.abs_model.specs.declared.entry.NameRow.{NameRow}
use Rattle.abs_model.specs.declared.entry.Object.TheVariants.{Null, Dir}
use Rattle.abs_model.specs.declared.entry.Entry.{Entry}
use Rattle.abs_model.specs.Objects.{is_dir, names_of, row_of, attr_of, with_attr}
use Rattle.abs_model.specs.Array.{entry_at}
use Rattle.conf_map.specs.Stands.{SameAttr, IsObject, IsParent}

-- the list with one element in place of another
pub record IsSetAt {X : Type 0} (i : ℕ) (x : X) (old new : List X) : Type 0 where
  pub size : length new ≡ length old
  pub here : slice_get new i ≡ Some x
  pub others : (j : ℕ) → j ≢ i → slice_get new j ≡ slice_get old j

-- only what a row keeps beside its node's place has changed
pub record SameRow (old new : ConfEntry) : Type 0 where
  pub generation : new.generation ≡ old.generation
  pub handle : new.handle ≡ old.handle
  pub number : new.number ≡ old.number

-- a row, its node and its entry
pub record IsAt (t : Tree) (table : ConfTable) (A : List Entry) (i : ℕ) (handle : List ℕ) (row : ConfEntry)
    (node : Node) (entry : Entry) : Type 0 where
  pub is_row : slice_get table.rows.items i ≡ Some row
  pub is_handle : row.handle ≡ Some handle
  pub is_node : node_at t handle ≡ Some node
  pub is_entry : slice_get A i ≡ Some entry

-- 1. The node of one entry has another content or other attributes; its names are the same.
pub record ChangesNode (t : Tree) (table : ConfTable) (A : List Entry) (i : ℕ) (t' : Tree) (table' : ConfTable)
    (A' : List Entry) : Type 0 where
  pub handle : List ℕ
  pub row : ConfEntry
  pub row' : ConfEntry
  pub node : Node
  pub node' : Node
  pub entry : Entry
  pub entry' : Entry
  pub before : IsAt t table A i handle row node entry
  pub root : t'.root ≡ t.root
  pub node_now : node_at t' handle ≡ Some node'
  pub nodes : (q : List ℕ) → q ≢ handle → node_at t' q ≡ node_at t q
  pub number : node'.number ≡ node.number
  pub rows : IsSetAt i row' table.rows.items table'.rows.items
  pub same_row : SameRow row row'
  pub parent : row'.parent ≡ row.parent
  pub by_handle : table'.by_handle ≡ table.by_handle
  pub array : IsSetAt i entry' A A'
  pub generation : entry'.generation ≡ entry.generation
  pub names : names_of entry' ≡ names_of entry
  pub dir : is_dir entry' ≡ is_dir entry
  pub object : IsObject t' table'.rows.items row' entry'.object

-- A directory's name leads to another handle, or to none, and its entry's name to the row that goes with it.
-- Its times may be others.
pub record SetsName (t : Tree) (table : ConfTable) (A : List Entry) (d : ℕ) (name : List ℕ)
    (to : Option (List ℕ))
    (to_row : Option NameRow) (t' : Tree) (table' : ConfTable) (A' : List Entry) : Type 0 where
  pub handle : List ℕ
  pub row : ConfEntry
  pub row' : ConfEntry
  pub node : Node
  pub generation : ℕ
  pub attr : Attr
  pub attr' : Attr
  pub names : List NameRow
  pub names' : List NameRow
  pub node_names : Names
  pub node_names' : Names
  pub before : IsAt t table A d handle row node (record { generation = generation; object = Dir attr names })
  pub is_dir : names_in node.content ≡ Some node_names
  pub node_now : node_at t' handle ≡ Some (with_names (λ _. node_names') node)
  pub name_now : get node_names' name ≡ to
  pub names_now : (x : List ℕ) → x ≢ name → get node_names' x ≡ get node_names x
  pub row_now : slice_get table'.rows.items d ≡ Some row'
  pub same_row : SameRow row row'
  pub parent : row'.parent ≡ row.parent
  pub entry_now : slice_get A' d ≡ Some (record { generation = generation; object = Dir attr' names' })
  pub row_to : row_of name names' ≡ to_row
  pub rows_to : (x : List ℕ) → x ≢ name → row_of x names' ≡ row_of x names
  pub times : SameAttr attr' row' node

-- all but two rows and entries are as they were
pub record OthersStay {X : Type 0} (d i : ℕ) (old new : List X) : Type 0 where
  pub size : length new ≡ length old
  pub others : (j : ℕ) → j ≢ d → j ≢ i → slice_get new j ≡ slice_get old j

-- 2. A name is added, and leads to a new node, which gets the row of a null entry.
pub record MakesNode (t : Tree) (table : ConfTable) (A : List Entry) (d : ℕ) (name : List ℕ) (i : ℕ) (t' : Tree)
    (table' : ConfTable) (A' : List Entry) : Type 0 where
  pub handle : List ℕ
  pub node : Node
  pub old_row : ConfEntry
  pub row : ConfEntry
  pub old_entry : Entry
  pub entry : Entry
  pub to_row : NameRow
  pub in_dir : SetsName t table A d name (Some handle) (Some to_row) t' table' A'
  pub was_new : row_of name in_dir.names ≡ None
  pub to_index : to_row.index ≡ i
  pub was_row : slice_get table.rows.items i ≡ Some old_row
  pub was_entry : slice_get A i ≡ Some old_entry
  pub was_null : old_entry.object ≡ Null
  pub new_handle : node_at t handle ≡ None
  pub new_number : IsNewNumber t node.number
  pub root : t'.root ≡ t.root
  pub node_now : node_at t' handle ≡ Some node
  pub nodes : (q : List ℕ) → q ≢ handle → q ≢ in_dir.handle → node_at t' q ≡ node_at t q
  pub rows : OthersStay d i table.rows.items table'.rows.items
  pub row_now : slice_get table'.rows.items i ≡ Some row
  pub row_handle : row.handle ≡ Some handle
  pub row_parent : row.parent ≡ d
  pub row_generation : row.generation ≡ entry.generation
  pub by_handle : ordered.get (slice_cmp nat_cmp) table'.by_handle handle ≡ Some i
  pub by_handles : (q : List ℕ) → q ≢ handle → ordered.get (slice_cmp nat_cmp) table'.by_handle q
      ≡ ordered.get (slice_cmp nat_cmp) table.by_handle q
  pub array : OthersStay d i A A'
  pub entry_now : slice_get A' i ≡ Some entry
  pub object : IsObject t' table'.rows.items row entry.object

-- An object's row and entry have other times, or another parent; its node is the same.
pub record StaysAs (t : Tree) (table : ConfTable) (A : List Entry) (i : ℕ) (handle : List ℕ) (t' : Tree)
    (table' : ConfTable) (A' : List Entry) : Type 0 where
  pub row : ConfEntry
  pub row' : ConfEntry
  pub node : Node
  pub entry : Entry
  pub entry' : Entry
  pub before : IsAt t table A i handle row node entry
  pub row_now : slice_get table'.rows.items i ≡ Some row'
  pub same_row : SameRow row row'
  pub entry_now : slice_get A' i ≡ Some entry'
  pub entry_is : entry' ≡ with_attr
      (record (attr_of entry) { atime = row'.atime; mtime = row'.mtime; ctime = row'.ctime }) entry
  pub parent : is_dir entry ≡ true → IsParent A' row'.parent i

-- 3. A name is added, or leads elsewhere than before, to a node that was there already.
pub record AddsName (t : Tree) (table : ConfTable) (A : List Entry) (d : ℕ) (name : List ℕ) (i : ℕ) (t' : Tree)
    (table' : ConfTable) (A' : List Entry) : Type 0 where
  pub handle : List ℕ
  pub to_row : NameRow
  pub in_dir : SetsName t table A d name (Some handle) (Some to_row) t' table' A'
  pub was_new : row_of name in_dir.names ≡ None
  pub to_index : to_row.index ≡ i
  pub object : StaysAs t table A i handle t' table' A'
  pub apart : d ≢ i
  pub root : t'.root ≡ t.root
  pub nodes : (q : List ℕ) → q ≢ in_dir.handle → node_at t' q ≡ node_at t q
  pub rows : OthersStay d i table.rows.items table'.rows.items
  pub by_handle : table'.by_handle ≡ table.by_handle
  pub array : OthersStay d i A A'

-- 4. A name is taken out, and the node that it led to stays.
pub record DropsName (t : Tree) (table : ConfTable) (A : List Entry) (d : ℕ) (name : List ℕ) (i : ℕ) (t' : Tree)
    (table' : ConfTable) (A' : List Entry) : Type 0 where
  pub handle : List ℕ
  pub old_row : NameRow
  pub in_dir : SetsName t table A d name None None t' table' A'
  pub was : row_of name in_dir.names ≡ Some old_row
  pub was_index : old_row.index ≡ i
  pub object : StaysAs t table A i handle t' table' A'
  pub apart : d ≢ i
  pub root : t'.root ≡ t.root
  pub nodes : (q : List ℕ) → q ≢ in_dir.handle → node_at t' q ≡ node_at t q
  pub rows : OthersStay d i table.rows.items table'.rows.items
  pub by_handle : table'.by_handle ≡ table.by_handle
  pub array : OthersStay d i A A'

-- 5. A name is taken out, and the node that it led to goes with it: no name of the array leads there any more.
pub record DropsNode (t : Tree) (table : ConfTable) (A : List Entry) (d : ℕ) (name : List ℕ) (i : ℕ) (t' : Tree)
    (table' : ConfTable) (A' : List Entry) : Type 0 where
  pub handle : List ℕ
  pub row : ConfEntry
  pub row' : ConfEntry
  pub node : Node
  pub entry : Entry
  pub entry' : Entry
  pub old_row : NameRow
  pub in_dir : SetsName t table A d name None None t' table' A'
  pub was : row_of name in_dir.names ≡ Some old_row
  pub was_index : old_row.index ≡ i
  pub before : IsAt t table A i handle row node entry
  pub apart : d ≢ i
  pub not_root : i ≢ 0
  pub empty : names_of entry ≡ []
  pub unnamed : (p : ℕ) (x : List ℕ) (r : NameRow) → row_of x (names_of (entry_at A' p)) ≡ Some r → r.index ≢ i
  pub root : t'.root ≡ t.root
  pub node_gone : node_at t' handle ≡ None
  pub nodes : (q : List ℕ) → q ≢ handle → q ≢ in_dir.handle → node_at t' q ≡ node_at t q
  pub rows : OthersStay d i table.rows.items table'.rows.items
  pub row_now : slice_get table'.rows.items i ≡ Some row'
  pub row_null : row'.handle ≡ None
  pub row_generation : row'.generation ≡ row.generation
  pub by_handle : ordered.get (slice_cmp nat_cmp) table'.by_handle handle ≡ None
  pub by_handles : (q : List ℕ) → q ≢ handle → ordered.get (slice_cmp nat_cmp) table'.by_handle q
      ≡ ordered.get (slice_cmp nat_cmp) table.by_handle q
  pub array : OthersStay d i A A'
  pub entry_now : slice_get A' i ≡ Some entry'
  pub entry_null : entry'.object ≡ Null
  pub entry_generation : entry'.generation ≡ entry.generation
