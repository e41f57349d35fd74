-- Changes at which all rows keep their handles.
use Rattle.std.proofs.Common.{◌≡◌, ◌≢◌, ◌⊎◌, inl, inr, ℕ, true, List, Option, Some, slice_get, sym, ap, ◌∙◌, subst}
use Rattle.std.specs.Option.{option_map}
use Rattle.server_trait.specs.Tree.{Tree, Node, node_at}
use Rattle.server_trait.proofs.TreeLaws.{some_same, one_or_not, bytes_or_not}
use Rattle.server_trait.specs.declared.bench.ConfEntry.{ConfEntry}
use Rattle.server_trait.specs.declared.bench.ConfTable.{ConfTable}
use Rattle.abs_model.specs.declared.entry.Entry.{Entry}
use Rattle.abs_model.specs.Objects.{is_dir, names_of}
use Rattle.abs_model.specs.Array.{entry_at}
use Rattle.conf_map.specs.Stands.{handle_at, Placed, IsParent, LeadTo, RowIs, Stands}
use Rattle.conf_map.specs.Moves.{ChangesNode, OthersStay}
use Rattle.conf_map.proofs.Frames.{same_entry, entry_at-some, handle_of_row, same_handle, row_frame, number_at, placed_kept}

-- a handle is that of one row
pub one_row : (t : Tree) (table : ConfTable) (p : Placed t table) (h : List ℕ) (i j : ℕ) →
    handle_at table.rows.items i ≡ Some h → handle_at table.rows.items j ≡ Some h → i ≡ j
one_row t table p h i j at_i at_j = some_same ((p.by_handle h i).1 at_i) ((p.by_handle h j).1 at_j)

-- at most two nodes, rows and entries change, and all handles and numbers stay
pub record Keeps (t t' : Tree) (table table' : ConfTable) (A A' : List Entry) (d i : ℕ) : Type 0 where
  pub root : t'.root ≡ t.root
  pub nodes : (q : List ℕ) → handle_at table.rows.items d ≢ Some q → handle_at table.rows.items i ≢ Some q →
      node_at t' q ≡ node_at t q
  pub numbers : (q : List ℕ) → number_at t' q ≡ number_at t q
  pub handles : (j : ℕ) → handle_at table'.rows.items j ≡ handle_at table.rows.items j
  pub by_handle : table'.by_handle ≡ table.by_handle
  pub rows : OthersStay d i table.rows.items table'.rows.items
  pub array : OthersStay d i A A'
  pub parents : (j : ℕ) (e : Entry) → j ≢ d → j ≢ i → slice_get A j ≡ Some e → is_dir e ≡ true → (p : ℕ) →
      IsParent A p j → IsParent A' p j

pub stands_kept : (s s' : Option Tree) (table table' : ConfTable) (A A' : List Entry) (t' : Tree) (d i : ℕ)
    (st : Stands s table A) → Keeps st.tree t' table table' A A' d i → s' ≡ Some t' →
    ((r : ConfEntry) (e : Entry) → slice_get table'.rows.items d ≡ Some r → slice_get A' d ≡ Some e →
    RowIs t' table'.rows.items A' d r e) →
    ((r : ConfEntry) (e : Entry) → slice_get table'.rows.items i ≡ Some r → slice_get A' i ≡ Some e →
    RowIs t' table'.rows.items A' i r e) → Stands s' table' A'
stands_kept s s' table table' A A' t' d i st k has at_d at_i = record {
  tree = t';
  has_tree = has;
  placed = placed_kept st.tree t' table table' st.placed k.root fixed k.numbers k.handles k.by_handle;
  size = k.rows.size ∙ st.size ∙ sym k.array.size;
  each = λ j r e is_r is_e. elim (one_or_not j d) as (λ _. RowIs t' table'.rows.items A' j r e) [
    | inl same ↦ subst (λ j. slice_get table'.rows.items j ≡ Some r → slice_get A' j ≡ Some e →
        RowIs t' table'.rows.items A' j r e) (sym same) (at_d r e) is_r is_e
    | inr not_d ↦ elim (one_or_not j i) as (λ _. RowIs t' table'.rows.items A' j r e) [
      | inl same ↦ subst (λ j. slice_get table'.rows.items j ≡ Some r → slice_get A' j ≡ Some e →
          RowIs t' table'.rows.items A' j r e) (sym same) (at_i r e) is_r is_e
      | inr not_i ↦ other j r e not_d not_i (sym (k.rows.others j not_d not_i) ∙ is_r)
          (sym (k.array.others j not_d not_i) ∙ is_e)
    ]
  ];
}
  where
    fixed : (q : List ℕ) → (q ≡ st.tree.root) ⊎ (q ≡ st.placed.staging) → node_at t' q ≡ node_at st.tree q
    fixed q (inl e) = k.nodes q (λ h. (st.placed.apart d q h).0 e) (λ h. (st.placed.apart i q h).0 e)
    fixed q (inr e) = k.nodes q (λ h. (st.placed.apart d q h).1 e) (λ h. (st.placed.apart i q h).1 e)

    other : (j : ℕ) (r : ConfEntry) (e : Entry) → j ≢ d → j ≢ i → slice_get table.rows.items j ≡ Some r →
        slice_get A j ≡ Some e → RowIs t' table'.rows.items A' j r e
    other j r e not_d not_i is_r is_e = row_frame st.tree t' table.rows.items table'.rows.items r
        (λ h is. let at_j : handle_at table.rows.items j ≡ Some h = handle_of_row table.rows.items j r is_r ∙ is in
        k.nodes h (λ at. not_d (one_row st.tree table st.placed h j d at_j at))
        (λ at. not_i (one_row st.tree table st.placed h j i at_j at)))
        A A' j e (λ name row _ h at. k.handles row.index ∙ at) (λ is_d. k.parents j e not_d not_i is_e is_d)
        (st.each j r e is_r is_e)

-- names that are the same make the same parents
pub same_parents : (A A' : List Entry) → ((p : ℕ) → names_of (entry_at A' p) ≡ names_of (entry_at A p)) → (p j : ℕ) →
    IsParent A p j → IsParent A' p j
same_parents A A' same p j h = (h.0, λ ne. subst (λ names. LeadTo names j) (sym (same p)) (h.1 ne))

module _ (s s' : Option Tree) (table table' : ConfTable) (A A' : List Entry) (t' : Tree) (i : ℕ) (st : Stands s table A)
    (c : ChangesNode st.tree table A i t' table' A') where
  abbrev t : Tree
  t = st.tree

  at_handle : handle_at table.rows.items i ≡ Some c.handle
  at_handle = handle_of_row table.rows.items i c.row c.before.is_row ∙ c.before.is_handle

  handles : (j : ℕ) → handle_at table'.rows.items j ≡ handle_at table.rows.items j
  handles j = elim (one_or_not j i) as (λ _. handle_at table'.rows.items j ≡ handle_at table.rows.items j) [
    | inl e ↦ subst (λ j. handle_at table'.rows.items j ≡ handle_at table.rows.items j) (sym e)
        (handle_of_row table'.rows.items i c.row' c.rows.here ∙ c.same_row.handle
        ∙ sym (handle_of_row table.rows.items i c.row c.before.is_row))
    | inr ne ↦ same_handle table.rows.items table'.rows.items j (c.rows.others j ne)
  ]

  numbers : (q : List ℕ) → number_at t' q ≡ number_at t q
  numbers q = elim (bytes_or_not q c.handle) as (λ _. number_at t' q ≡ number_at t q) [
    | inl e ↦ subst (λ q. number_at t' q ≡ number_at t q) (sym e)
        (ap (option_map (λ (n : Node). n.number)) c.node_now ∙ ap Some c.number
        ∙ sym (ap (option_map (λ (n : Node). n.number)) c.before.is_node))
    | inr ne ↦ ap (option_map (λ (n : Node). n.number)) (c.nodes q ne)
  ]

  same_names : (p : ℕ) → names_of (entry_at A' p) ≡ names_of (entry_at A p)
  same_names p = elim (one_or_not p i) as (λ _. names_of (entry_at A' p) ≡ names_of (entry_at A p)) [
    | inl e ↦ subst (λ p. names_of (entry_at A' p) ≡ names_of (entry_at A p)) (sym e)
        (ap names_of (entry_at-some A' i c.entry' c.array.here) ∙ c.names
        ∙ ap names_of (sym (entry_at-some A i c.entry c.before.is_entry)))
    | inr ne ↦ ap names_of (same_entry A' A p (c.array.others p ne))
  ]

  keeps : Keeps t t' table table' A A' i i
  keeps = record {
    root = c.root;
    nodes = λ q ne _. c.nodes q (λ e. ne (at_handle ∙ ap Some (sym e)));
    numbers = numbers;
    handles = handles;
    by_handle = c.by_handle;
    rows = record { size = c.rows.size; others = λ j ne _. c.rows.others j ne };
    array = record { size = c.array.size; others = λ j ne _. c.array.others j ne };
    parents = λ j e _ _ _ _ p h. same_parents A A' same_names p j h;
  }

  here : (r : ConfEntry) (e : Entry) → slice_get table'.rows.items i ≡ Some r → slice_get A' i ≡ Some e →
      RowIs t' table'.rows.items A' i r e
  here r e is_r is_e =
      let old = st.each i c.row c.entry c.before.is_row c.before.is_entry in
      let now : RowIs t' table'.rows.items A' i c.row' c.entry' = record {
        generation = c.same_row.generation ∙ old.generation ∙ sym c.generation;
        object = c.object;
        parent = λ is_d. subst (λ p. IsParent A' p i) (sym c.parent)
            (same_parents A A' same_names c.row.parent i (old.parent (sym c.dir ∙ is_d)));
      } in
      subst (λ r. RowIs t' table'.rows.items A' i r e) (some_same c.rows.here is_r)
      (subst (λ e. RowIs t' table'.rows.items A' i c.row' e) (some_same c.array.here is_e) now)

  -- 1. content or attributes of one node
  pub stands_changed : s' ≡ Some t' → Stands s' table' A'
  stands_changed has = stands_kept s s' table table' A A' t' i i st keeps has here here
