-- One object becomes another whose names are the same: its node, its row and its entry change alike.
use Rattle.std.proofs.Common.{◌≡◌, ◌≢◌, inl, inr, ℕ, false, List, length, set, Option, Some, slice_get, slice_set, sym, ap, ◌∙◌, subst}
use Rattle.std.specs.FinMap.{get}
use Rattle.std.proofs.lemmas.List.{length-set}
use Rattle.server_trait.specs.Tree.{Tree, Node, Content, node_at, names_in, edited}
use Rattle.server_trait.proofs.TreeLaws.{some_and, is_some_and, one_or_not, root-edited, node_at-edited_same, node_at-edited_other}
use Rattle.server_trait.specs.declared.bench.ConfEntry.{ConfEntry}
use Rattle.server_trait.specs.declared.bench.ConfTable.{ConfTable}
use Rattle.abs_model.specs.declared.entry.Object.{Object}
use Rattle.abs_model.specs.declared.entry.Object.TheVariants.{Null, File, Dir, Link}
use Rattle.abs_model.specs.declared.entry.Entry.{Entry}
use Rattle.abs_model.specs.Objects.{is_null, is_dir, names_of, row_of, attr_of}
use Rattle.abs_model.specs.Array.{entry_at}
use Rattle.conf_map.specs.Stands.{handle_at, SameNames, SameContent, SameAttr, IsObject, Stands}
use Rattle.conf_map.specs.Moves.{IsAt, SameRow, ChangesNode}
use Rattle.conf_map.proofs.Frames.{entry_at-some, handle_of_row, same_handle, leads_frame}
use Rattle.conf_map.proofs.InStep.{slice_get-set_same, slice_get-set_other}
use Rattle.conf_map.proofs.Kept.{stands_changed}
use Rattle.conf_map.proofs.LiveRows.{at_handle, same_attr, same_content}

-- what is done to a node, to a row and to an entry, so that they go on holding the same
pub record ChangesAlike (rows : List ConfEntry) (e e' : Entry) (node : Node → Node)
    (row : ConfEntry → ConfEntry) : Type 0 where
  pub number : (n : Node) → (node n).number ≡ n.number
  pub same_row : (r : ConfEntry) → SameRow r (row r)
  pub parent : (r : ConfEntry) → (row r).parent ≡ r.parent
  pub generation : e'.generation ≡ e.generation
  pub names : names_of e' ≡ names_of e
  pub dir : is_dir e' ≡ is_dir e
  pub live : is_null e' ≡ false
  pub attr : (r : ConfEntry) (n : Node) → SameAttr (attr_of e) r n → SameAttr (attr_of e') (row r) (node n)
  pub content : (n : Node) → SameContent rows e.object n.content → SameContent rows e'.object (node n).content

-- content goes by the handles of the rows
pub content_frame : (rows rows' : List ConfEntry) (o : Object) (c : Content) →
    ((j : ℕ) → handle_at rows' j ≡ handle_at rows j) → SameContent rows o c → SameContent rows' o c
content_frame rows rows' Null c same k = k
content_frame rows rows' (File a b) c same k = k
content_frame rows rows' (Link a b) c same k = k
content_frame rows rows' (Dir a names) c same k =
    let m = some_and (names_in c) (SameNames rows names) k in
    is_some_and (SameNames rows' names) m.1
    (λ name. leads_frame rows rows' (get m.0 name) (row_of name names) (m.2 name)
    (λ row _ h at. same row.index ∙ at))

-- what a row and its node hold is an object
object_from : (t : Tree) (rows : List ConfEntry) (r : ConfEntry) (g : ℕ) (o : Object) (h : List ℕ) (n : Node) →
    is_null (record { generation = g; object = o }) ≡ false → r.handle ≡ Some h → node_at t h ≡ Some n →
    SameAttr (attr_of (record { generation = g; object = o })) r n → SameContent rows o n.content → IsObject t rows r o
object_from t rows r g Null h n live is at attr content = absurd content
object_from t rows r g (File a b) h n live is at attr content =
    record { handle = h; node = n; is_handle = is; is_node = at; attr = attr; content = content }
object_from t rows r g (Link a b) h n live is at attr content =
    record { handle = h; node = n; is_handle = is; is_node = at; attr = attr; content = content }
object_from t rows r g (Dir a b) h n live is at attr content =
    record { handle = h; node = n; is_handle = is; is_node = at; attr = attr; content = content }

module _ (s : Option Tree) (table : ConfTable) (A : List Entry) (st : Stands s table A) (i : ℕ) (h : List ℕ)
    (live : handle_at table.rows.items i ≡ Some h) where
  -- the row, the node and the entry of a live object
  pub at_index : (r : ConfEntry) × (n : Node) × IsAt st.tree table A i h r n (entry_at A i)
  at_index =
      let k = at_handle s table A st i h live in
      (k.0, k.1, subst (IsAt st.tree table A i h k.0 k.1) (sym (entry_at-some A i k.2 k.3.is_entry)) k.3)

  module _ (s' : Option Tree) (table' : ConfTable) (e' : Entry) (node : Node → Node) (row : ConfEntry → ConfEntry)
      (c : ChangesAlike table.rows.items (entry_at A i) e' node row)
      (tree : (t : Tree) → s ≡ Some t → s' ≡ Some (edited t h node))
      (rows : (r : ConfEntry) → slice_get table.rows.items i ≡ Some r →
      table'.rows.items ≡ slice_set table.rows.items i (row r)) (by : table'.by_handle ≡ table.by_handle) where
    abbrev e : Entry
    e = entry_at A i

    abbrev r : ConfEntry
    r = at_index.0

    abbrev n : Node
    n = at_index.1

    abbrev t' : Tree
    t' = edited st.tree h node

    at : IsAt st.tree table A i h r n e
    at = at_index.2

    row_here : slice_get table'.rows.items i ≡ Some (row r)
    row_here = ap (λ l. slice_get l i) (rows r at.is_row) ∙ slice_get-set_same table.rows.items i (row r) r at.is_row

    row_other : (j : ℕ) → j ≢ i → slice_get table'.rows.items j ≡ slice_get table.rows.items j
    row_other j ne = ap (λ l. slice_get l j) (rows r at.is_row) ∙ slice_get-set_other table.rows.items i j (row r) ne

    handles : (j : ℕ) → handle_at table'.rows.items j ≡ handle_at table.rows.items j
    handles j = elim (one_or_not j i) as (λ _. handle_at table'.rows.items j ≡ handle_at table.rows.items j) [
      | inl e ↦ subst (λ j. handle_at table'.rows.items j ≡ handle_at table.rows.items j) (sym e)
          (handle_of_row table'.rows.items i (row r) row_here ∙ (c.same_row r).handle
          ∙ sym (handle_of_row table.rows.items i r at.is_row))
      | inr ne ↦ same_handle table.rows.items table'.rows.items j (row_other j ne)
    ]

    node_now : node_at t' h ≡ Some (node n)
    node_now = node_at-edited_same st.tree h node n at.is_node

    changes : ChangesNode st.tree table A i t' table' (set A i e')
    changes = record {
      handle = h;
      row = r;
      row' = row r;
      node = n;
      node' = node n;
      entry = e;
      entry' = e';
      before = at;
      root = root-edited st.tree h node;
      node_now = node_now;
      nodes = node_at-edited_other st.tree h node;
      number = c.number n;
      rows = record {
        size = ap length (rows r at.is_row) ∙ length-set table.rows.items i (row r);
        here = row_here;
        others = row_other;
      };
      same_row = c.same_row r;
      parent = c.parent r;
      by_handle = by;
      array = record {
        size = length-set A i e';
        here = slice_get-set_same A i e' e at.is_entry;
        others = λ j ne. slice_get-set_other A i j e' ne;
      };
      generation = c.generation;
      names = c.names;
      dir = c.dir;
      object = object_from t' table'.rows.items (row r) e'.generation e'.object h (node n) c.live
          ((c.same_row r).handle ∙ at.is_handle) node_now
          (c.attr r n (same_attr s table A st i h r n e at))
          (content_frame table.rows.items table'.rows.items e'.object (node n).content handles
          (c.content n (same_content s table A st i h r n e at)));
    }

    -- then they stand for the array with the other entry
    pub stands_alike : Stands s' table' (set A i e')
    stands_alike = stands_changed s s' table table' A (set A i e') t' i st changes (tree st.tree st.has_tree)
