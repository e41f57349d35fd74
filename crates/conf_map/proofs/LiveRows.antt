-- A live row, its node and its entry: where there is one there are the others, and they hold the same.
use Rattle.std.proofs.Common.{◌≡◌, ℕ, true, false, List, slice_get, Option, Some, refl, sym, ap, ◌∙◌, subst}
use Rattle.server_trait.specs.Tree.{Tree, Node, node_at}
use Rattle.server_trait.proofs.TreeLaws.{some_none, some_same, and_then_some, slice_get-along}
use Rattle.server_trait.specs.declared.bench.ConfEntry.{ConfEntry}
use Rattle.server_trait.specs.declared.bench.ConfTable.{ConfTable}
use Rattle.abs_model.specs.declared.entry.Object.{Object}
use Rattle.abs_model.specs.declared.entry.Object.TheVariants.{Null, File, Dir, Link}
use Rattle.abs_model.specs.declared.entry.Entry.{Entry}
use Rattle.abs_model.specs.Objects.{is_null, attr_of}
use Rattle.abs_model.specs.Array.{entry_at}
use Rattle.conf_map.specs.Stands.{handle_at, SameContent, SameAttr, IsObject, Stands}
use Rattle.conf_map.specs.Moves.{IsAt}
use Rattle.conf_map.proofs.Frames.{entry_at-some, handle_of_row, object_node}
use Rattle.conf_map.proofs.ArrayFacts.{live_within, within_at}

-- a row with a handle is that of a live entry
pub live_object : (t : Tree) (rows : List ConfEntry) (r : ConfEntry) (g : ℕ) (o : Object) (h : List ℕ) →
    IsObject t rows r o → r.handle ≡ Some h → is_null (record { generation = g; object = o }) ≡ false
live_object t rows r g Null h k is = absurd (some_none is k)
live_object t rows r g (File a b) h k is = refl
live_object t rows r g (Link a b) h k is = refl
live_object t rows r g (Dir a b) h k is = refl

-- and the row of a live entry has a handle
live_handle : (t : Tree) (rows : List ConfEntry) (r : ConfEntry) (g : ℕ) (o : Object) → IsObject t rows r o →
    is_null (record { generation = g; object = o }) ≡ false → (h : List ℕ) × (r.handle ≡ Some h)
live_handle t rows r g Null k live = absurd (let bad : true ≡ false = live in cc)
live_handle t rows r g (File a b) k live = (k.handle, k.is_handle)
live_handle t rows r g (Link a b) k live = (k.handle, k.is_handle)
live_handle t rows r g (Dir a b) k live = (k.handle, k.is_handle)

-- the node of a live row holds its entry's object
pub object_holds : (t : Tree) (rows : List ConfEntry) (r : ConfEntry) (g : ℕ) (o : Object) (h : List ℕ) (n : Node) →
    IsObject t rows r o → r.handle ≡ Some h → node_at t h ≡ Some n →
    SameAttr (attr_of (record { generation = g; object = o })) r n × SameContent rows o n.content
object_holds t rows r g Null h n k is at = absurd (some_none is k)
object_holds t rows r g (File a b) h n k is at =
    subst (λ n. SameAttr a r n × SameContent rows (File a b) n.content)
    (some_same (ap (node_at t) (some_same is k.is_handle) ∙ k.is_node) at) (k.attr, k.content)
object_holds t rows r g (Link a b) h n k is at =
    subst (λ n. SameAttr a r n × SameContent rows (Link a b) n.content)
    (some_same (ap (node_at t) (some_same is k.is_handle) ∙ k.is_node) at) (k.attr, k.content)
object_holds t rows r g (Dir a b) h n k is at =
    subst (λ n. SameAttr a r n × SameContent rows (Dir a b) n.content)
    (some_same (ap (node_at t) (some_same is k.is_handle) ∙ k.is_node) at) (k.attr, k.content)

module _ (s : Option Tree) (table : ConfTable) (A : List Entry) (st : Stands s table A) where
  -- a row with a handle has its node and its entry
  pub at_row : (i : ℕ) (r : ConfEntry) (h : List ℕ) → slice_get table.rows.items i ≡ Some r → r.handle ≡ Some h →
      (n : Node) × (e : Entry) × IsAt st.tree table A i h r n e
  at_row i r h at is =
      let e = slice_get-along table.rows.items A i r st.size at in
      let n = object_node st.tree table.rows.items r e.0.object (st.each i r e.0 at e.1).object h is in
      (n.0, e.0, record { is_row = at; is_handle = is; is_node = n.1; is_entry = e.1 })

  -- and so has a handle of a row
  pub at_handle : (i : ℕ) (h : List ℕ) → handle_at table.rows.items i ≡ Some h →
      (r : ConfEntry) × (n : Node) × (e : Entry) × IsAt st.tree table A i h r n e
  at_handle i h at =
      let r = and_then_some (λ (r : ConfEntry). r.handle) (slice_get table.rows.items i) h at in
      let n = at_row i r.0 h r.1 r.2 in
      (r.0, n.0, n.1, n.2)

  -- a live entry has its row and its node
  pub at_live : (i : ℕ) → is_null (entry_at A i) ≡ false →
      (h : List ℕ) × (r : ConfEntry) × (n : Node) × IsAt st.tree table A i h r n (entry_at A i)
  at_live i live =
      let e = within_at A i (live_within A i live) in
      let r = slice_get-along A table.rows.items i (entry_at A i) (sym st.size) e in
      let k = (st.each i r.0 (entry_at A i) r.1 e).object in
      let h = live_handle st.tree table.rows.items r.0 (entry_at A i).generation (entry_at A i).object k live in
      let n = object_node st.tree table.rows.items r.0 (entry_at A i).object k h.0 h.1 in
      (h.0, r.0, n.0, record { is_row = r.1; is_handle = h.1; is_node = n.1; is_entry = e })

  module _ (i : ℕ) (h : List ℕ) (r : ConfEntry) (n : Node) (e : Entry) (at : IsAt st.tree table A i h r n e) where
    -- the entry of a row with a handle is live
    pub is_live : is_null (entry_at A i) ≡ false
    is_live = ap is_null (entry_at-some A i e at.is_entry)
        ∙ live_object st.tree table.rows.items r e.generation e.object h
        (st.each i r e at.is_row at.is_entry).object at.is_handle

    -- its handle
    pub has_handle : handle_at table.rows.items i ≡ Some h
    has_handle = handle_of_row table.rows.items i r at.is_row ∙ at.is_handle

    -- row and node have the entry's attributes
    pub same_attr : SameAttr (attr_of e) r n
    same_attr = (object_holds st.tree table.rows.items r e.generation e.object h n
        (st.each i r e at.is_row at.is_entry).object at.is_handle at.is_node).0

    -- and the node has its content
    pub same_content : SameContent table.rows.items e.object n.content
    same_content = (object_holds st.tree table.rows.items r e.generation e.object h n
        (st.each i r e at.is_row at.is_entry).object at.is_handle at.is_node).1
