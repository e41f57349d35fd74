-- The steps of which all changes are made: each changes one node alone, and a call of the server is one or two of
-- them.
use Rattle.std.specs.Prelude.{◌≡◌, ◌≢◌, ℕ, List, Option, Some, None, IsSomeAnd, slice_get}
use Rattle.std.specs.FinMap.{get}
use Rattle.server_trait.specs.Tree.{Tree, Node, Names, node_at, names_in, target, with_names, named, unnamed}
use Rattle.server_trait.specs.Step.{LacksName, IsAtOrBelow}
use Rattle.server_trait.specs.Calls.{IsNewNumber}
use Rattle.server_trait.specs.declared.bench.ConfEntry.{ConfEntry}
use Rattle.server_trait.specs.declared.bench.ConfTable.{ConfTable}
use Rattle.abs_model.specs.declared.entry.Attr.{Attr}
use Rattle.abs_model.specs.declared.entry.NameRow.{NameRow}
use Rattle.abs_model.specs.declared.entry.Object.TheVariants.{Null, Dir}
use Rattle.abs_model.specs.declared.entry.Entry.{Entry}
use Rattle.abs_model.specs.Objects.{names_of, row_of}
use Rattle.abs_model.specs.Array.{entry_at}
use Rattle.conf_map.specs.Stands.{handle_at, Leads, IsObject}
use Rattle.conf_map.specs.Moves.{IsSetAt}
use Rattle.conf_map.specs.Tables.{IsInStep}

-- the names of a node: one leads to another handle, or to none
pub record NodeNamed (t : Tree) (handle name : List ℕ) (to : Option (List ℕ)) (t' : Tree) : Type 0 where
  pub node : Node
  pub names : Names
  pub names' : Names
  pub is_node : node_at t handle ≡ Some node
  pub is_dir : names_in node.content ≡ Some names
  pub node_now : node_at t' handle ≡ Some (with_names (λ _. names') node)
  pub name_now : get names' name ≡ to
  pub names_now : (x : List ℕ) → x ≢ name → get names' x ≡ get names x
  pub root : t'.root ≡ t.root
  pub nodes : (q : List ℕ) → q ≢ handle → node_at t' q ≡ node_at t q

-- a list of names: one leads to another row, or to none
pub record ListNamed (names : List NameRow) (name : List ℕ) (to : Option NameRow) (names' : List NameRow) : Type 0 where
  pub here : row_of name names' ≡ to
  pub others : (x : List ℕ) → x ≢ name → row_of x names' ≡ row_of x names

-- 1. A name of a directory leads elsewhere, or nowhere.
pub record NamesIn (t : Tree) (table : ConfTable) (A : List Entry) (d : ℕ) (name : List ℕ) (to : Option (List ℕ))
    (row : Option NameRow) (t' : Tree) (A' : List Entry) : Type 0 where
  pub handle : List ℕ
  pub generation : ℕ
  pub attr : Attr
  pub names : List NameRow
  pub names' : List NameRow
  pub is_handle : handle_at table.rows.items d ≡ Some handle
  pub is_entry : slice_get A d ≡ Some (record { generation = generation; object = Dir attr names })
  pub node : NodeNamed t handle name to t'
  pub list : ListNamed names name row names'
  pub array : IsSetAt d (record { generation = generation; object = Dir attr names' }) A A'
  pub leads : Leads table.rows.items to row

-- 2. A name of the staging directory leads elsewhere, or nowhere.
pub record NamesStaged (t : Tree) (table : ConfTable) (staging : List ℕ) (staged : List NameRow) (name : List ℕ)
    (to : Option (List ℕ)) (row : Option NameRow) (t' : Tree) (staged' : List NameRow) : Type 0 where
  pub node : NodeNamed t staging name to t'
  pub list : ListNamed staged name row staged'
  pub leads : Leads table.rows.items to row

-- 3. An object has another content or other attributes, or its row is another; its node keeps its number.
pub record Fills (t : Tree) (table : ConfTable) (A : List Entry) (i : ℕ) (t' : Tree) (table' : ConfTable)
    (A' : List Entry) : Type 0 where
  pub handle : List ℕ
  pub row : ConfEntry
  pub row' : ConfEntry
  pub node : Node
  pub node' : Node
  pub entry' : Entry
  pub is_row : slice_get table.rows.items i ≡ Some row
  pub is_handle : row.handle ≡ Some handle
  pub is_node : node_at t handle ≡ Some node
  pub root : t'.root ≡ t.root
  pub node_now : node_at t' handle ≡ Some node'
  pub nodes : (q : List ℕ) → q ≢ handle → node_at t' q ≡ node_at t q
  pub number : node'.number ≡ node.number
  pub rows : IsSetAt i row' table.rows.items table'.rows.items
  pub same_handle : row'.handle ≡ row.handle
  pub in_step : IsInStep table'
  pub array : IsSetAt i entry' A A'
  pub generation : row'.generation ≡ entry'.generation
  pub object : IsObject t' table'.rows.items row' entry'.object

-- 4. A new node, to which no name leads yet, gets the row of a null entry.
pub record Makes (t : Tree) (table : ConfTable) (A : List Entry) (i : ℕ) (t' : Tree) (table' : ConfTable)
    (A' : List Entry) : Type 0 where
  pub handle : List ℕ
  pub node : Node
  pub row' : ConfEntry
  pub entry' : Entry
  pub was_null : handle_at table.rows.items i ≡ None
  pub new_handle : node_at t handle ≡ None
  pub new_number : IsNewNumber t node.number
  pub root : t'.root ≡ t.root
  pub node_now : node_at t' handle ≡ Some node
  pub nodes : (q : List ℕ) → q ≢ handle → node_at t' q ≡ node_at t q
  pub rows : IsSetAt i row' table.rows.items table'.rows.items
  pub is_handle : row'.handle ≡ Some handle
  pub in_step : IsInStep table'
  pub array : IsSetAt i entry' A A'
  pub generation : row'.generation ≡ entry'.generation
  pub object : IsObject t' table'.rows.items row' entry'.object

-- 5. A node to which no name leads goes, and its row and entry become null.
pub record Goes (t : Tree) (table : ConfTable) (A : List Entry) (staged : List NameRow) (i : ℕ) (t' : Tree)
    (table' : ConfTable) (A' : List Entry) : Type 0 where
  pub handle : List ℕ
  pub row : ConfEntry
  pub row' : ConfEntry
  pub entry' : Entry
  pub is_row : slice_get table.rows.items i ≡ Some row
  pub is_handle : row.handle ≡ Some handle
  pub not_export : i ≢ 0
  pub unnamed : (p : ℕ) (x : List ℕ) (r : NameRow) → row_of x (names_of (entry_at A p)) ≡ Some r → r.index ≢ i
  pub unstaged : (x : List ℕ) (r : NameRow) → row_of x staged ≡ Some r → r.index ≢ i
  pub root : t'.root ≡ t.root
  pub node_gone : node_at t' handle ≡ None
  pub nodes : (q : List ℕ) → q ≢ handle → node_at t' q ≡ node_at t q
  pub rows : IsSetAt i row' table.rows.items table'.rows.items
  pub row_null : row'.handle ≡ None
  pub in_step : IsInStep table'
  pub array : IsSetAt i entry' A A'
  pub null : entry'.object ≡ Null
  pub generation : row'.generation ≡ entry'.generation

-- 6. A null entry has another generation.
pub record Renews (table : ConfTable) (A : List Entry) (i : ℕ) (table' : ConfTable) (A' : List Entry) : Type 0 where
  pub row : ConfEntry
  pub row' : ConfEntry
  pub entry' : Entry
  pub is_row : slice_get table.rows.items i ≡ Some row
  pub was_null : row.handle ≡ None
  pub rows : IsSetAt i row' table.rows.items table'.rows.items
  pub row_null : row'.handle ≡ None
  pub in_step : IsInStep table'
  pub array : IsSetAt i entry' A A'
  pub null : entry'.object ≡ Null
  pub generation : row'.generation ≡ entry'.generation

-- CALLS

-- A name of one directory can move to one that another lacks: the second does not lie at or below what moves.
pub record CanMove (t : Tree) (from name to to_name : List ℕ) : Type 0 where
  pub moved : List ℕ
  pub leads : target t from name ≡ Some moved
  pub free : LacksName t to to_name
  pub not_below : IsAtOrBelow t moved to → ⊥

-- the name has moved
abbrev pub MovedTo : Tree → List ℕ → List ℕ → List ℕ → List ℕ → Option Tree → Type 0
MovedTo t from name to to_name after =
    IsSomeAnd (target t from name) (λ h. after ≡ Some (named (unnamed t from name) to to_name h))
