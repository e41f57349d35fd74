-- A directory's name leads elsewhere, and the nodes stay.
use Rattle.std.proofs.Common.{◌≡◌, ◌≢◌, inl, inr, ℕ, List, Option, Some, None, slice_get, refl, sym, ap, ◌∙◌, subst}
use Rattle.std.specs.Option.{option_map}
use Rattle.std.specs.FinMap.{get}
use Rattle.server_trait.specs.Tree.{Tree, Node, node_at, names_in, with_names}
use Rattle.server_trait.proofs.TreeLaws.{some_and, is_some_and, some_none, some_same, one_or_not, bytes_or_not}
use Rattle.server_trait.specs.declared.bench.ConfEntry.{ConfEntry}
use Rattle.server_trait.specs.declared.bench.ConfTable.{ConfTable}
use Rattle.abs_model.specs.declared.entry.NameRow.{NameRow}
use Rattle.abs_model.specs.declared.entry.Object.TheVariants.{Dir}
use Rattle.abs_model.specs.declared.entry.Entry.{Entry}
use Rattle.abs_model.specs.Objects.{names_of, row_of, attr_of, with_attr}
use Rattle.abs_model.specs.Array.{entry_at}
use Rattle.conf_map.specs.Stands.{handle_at, Leads, SameNames, IsParent, LeadTo, RowIs, Stands}
use Rattle.conf_map.specs.Moves.{SetsName, StaysAs, OthersStay, AddsName, DropsName}
use Rattle.conf_map.proofs.Frames.{same_entry, entry_at-some, handle_of_row, same_handle, leads_frame, object_timed, timed, names_of-with_attr, is_dir-with_attr, names_in-with_names, number_at}
use Rattle.conf_map.proofs.Kept.{Keeps, stands_kept, one_row}

module _ (t : Tree) (table : ConfTable) (A : List Entry) (d : ℕ) (name : List ℕ) (to : Option (List ℕ))
    (to_row : Option NameRow) (t' : Tree) (table' : ConfTable) (A' : List Entry)
    (c : SetsName t table A d name to to_row t' table' A') where
  abbrev dir_entry : Entry
  dir_entry = record { generation = c.generation; object = Dir c.attr c.names }

  abbrev dir_entry' : Entry
  dir_entry' = record { generation = c.generation; object = Dir c.attr' c.names' }

  pub dir_handle : handle_at table.rows.items d ≡ Some c.handle
  dir_handle = handle_of_row table.rows.items d c.row c.before.is_row ∙ c.before.is_handle

  pub dir_handle' : handle_at table'.rows.items d ≡ Some c.handle
  dir_handle' = handle_of_row table'.rows.items d c.row' c.row_now ∙ c.same_row.handle ∙ c.before.is_handle

  pub dir_number : number_at t' c.handle ≡ number_at t c.handle
  dir_number = ap (option_map (λ (n : Node). n.number)) c.node_now
      ∙ sym (ap (option_map (λ (n : Node). n.number)) c.before.is_node)

  pub names_before : names_of (entry_at A d) ≡ c.names
  names_before = ap names_of (entry_at-some A d dir_entry c.before.is_entry)

  pub names_after : names_of (entry_at A' d) ≡ c.names'
  names_after = ap names_of (entry_at-some A' d dir_entry' c.entry_now)

  same_names : RowIs t table.rows.items A d c.row dir_entry → SameNames table.rows.items c.names c.node_names
  same_names old =
      let m = some_and (names_in old.object.node.content) (SameNames table.rows.items c.names) old.object.content in
      let node_is : old.object.node ≡ c.node = some_same
      (sym (ap (node_at t) (some_same old.object.is_handle c.before.is_handle))
      ∙ old.object.is_node) c.before.is_node in
      subst (SameNames table.rows.items c.names)
      (some_same m.1 (ap (λ (n : Node). names_in n.content) node_is ∙ c.is_dir)) m.2

  -- the directory's own row
  pub dir_row : RowIs t table.rows.items A d c.row dir_entry →
      ((x : List ℕ) (row : NameRow) → x ≢ name → row_of x c.names ≡ Some row → (h : List ℕ) →
      handle_at table.rows.items row.index ≡ Some h → handle_at table'.rows.items row.index ≡ Some h) →
      Leads table'.rows.items to to_row → IsParent A' c.row'.parent d →
      RowIs t' table'.rows.items A' d c.row' dir_entry'
  dir_row old led leads parent = record {
    generation = c.same_row.generation ∙ old.generation;
    object = record {
      handle = c.handle;
      node = with_names (λ _. c.node_names') c.node;
      is_handle = c.same_row.handle ∙ c.before.is_handle;
      is_node = c.node_now;
      attr = record {
        number = c.times.number;
        mode = c.times.mode;
        uid = c.times.uid;
        gid = c.times.gid;
        atime = c.times.atime;
        mtime = c.times.mtime;
        ctime = c.times.ctime;
      };
      content = is_some_and (SameNames table'.rows.items c.names')
          (names_in-with_names (λ _. c.node_names') c.node c.node_names c.is_dir) now;
    };
    parent = λ _. parent;
  }
    where
      now : SameNames table'.rows.items c.names' c.node_names'
      now x = elim (bytes_or_not x name) as (λ _. Leads table'.rows.items (get c.node_names' x) (row_of x c.names')) [
        | inl e ↦ subst (λ x. Leads table'.rows.items (get c.node_names' x) (row_of x c.names')) (sym e)
            (subst (λ o. Leads table'.rows.items o (row_of name c.names')) (sym c.name_now)
            (subst (λ o. Leads table'.rows.items to o) (sym c.row_to) leads))
        | inr ne ↦ subst (λ o. Leads table'.rows.items o (row_of x c.names')) (sym (c.names_now x ne))
            (subst (λ o. Leads table'.rows.items (get c.node_names x) o) (sym (c.rows_to x ne))
            (leads_frame table.rows.items table'.rows.items (get c.node_names x) (row_of x c.names) (same_names old x)
            (λ row. led x row ne)))
      ]

  -- what was led to by another name is led to still
  pub lead_on : (j : ℕ) → ((row : NameRow) → row_of name c.names ≡ Some row → row.index ≢ j) → LeadTo c.names j →
      LeadTo c.names' j
  lead_on j lost l = elim (bytes_or_not l.0 name) as (λ _. LeadTo c.names' j) [
    | inl e ↦ absurd (lost l.1 (ap (λ x. row_of x c.names) (sym e) ∙ l.2) l.3)
    | inr ne ↦ (l.0, l.1, c.rows_to l.0 ne ∙ l.2, l.3)
  ]

-- a name of one directory is set, and the object of another row stays, at other times or with another parent
module _ (s s' : Option Tree) (table table' : ConfTable) (A A' : List Entry) (t' : Tree) (d i : ℕ)
    (name handle : List ℕ) (to : Option (List ℕ)) (to_row : Option NameRow) (st : Stands s table A)
    (c : SetsName st.tree table A d name to to_row t' table' A') (k : StaysAs st.tree table A i handle t' table' A')
    (apart : d ≢ i)
    (root : t'.root ≡ st.tree.root) (nodes : (q : List ℕ) → q ≢ c.handle → node_at t' q ≡ node_at st.tree q)
    (rows : OthersStay d i table.rows.items table'.rows.items) (by_handle : table'.by_handle ≡ table.by_handle)
    (array : OthersStay d i A A')
    (lost : (row : NameRow) → row_of name c.names ≡ Some row → row.index ≡ i)
    (leads : ((j : ℕ) → handle_at table'.rows.items j ≡ handle_at table.rows.items j) →
    Leads table'.rows.items to to_row) where
  handles : (j : ℕ) → handle_at table'.rows.items j ≡ handle_at table.rows.items j
  handles j = elim (one_or_not j d) as (λ _. handle_at table'.rows.items j ≡ handle_at table.rows.items j) [
    | inl e ↦ subst (λ j. handle_at table'.rows.items j ≡ handle_at table.rows.items j) (sym e)
        (dir_handle' _ _ _ _ _ _ _ _ _ _ c ∙ sym (dir_handle _ _ _ _ _ _ _ _ _ _ c))
    | inr not_d ↦ elim (one_or_not j i) as (λ _. handle_at table'.rows.items j ≡ handle_at table.rows.items j) [
      | inl e ↦ subst (λ j. handle_at table'.rows.items j ≡ handle_at table.rows.items j) (sym e)
          (handle_of_row table'.rows.items i k.row' k.row_now ∙ k.same_row.handle
          ∙ sym (handle_of_row table.rows.items i k.row k.before.is_row))
      | inr not_i ↦ same_handle table.rows.items table'.rows.items j (rows.others j not_d not_i)
    ]
  ]

  numbers : (q : List ℕ) → number_at t' q ≡ number_at st.tree q
  numbers q = elim (bytes_or_not q c.handle) as (λ _. number_at t' q ≡ number_at st.tree q) [
    | inl e ↦ subst (λ q. number_at t' q ≡ number_at st.tree q) (sym e) (dir_number _ _ _ _ _ _ _ _ _ _ c)
    | inr ne ↦ ap (option_map (λ (n : Node). n.number)) (nodes q ne)
  ]

  names_i : names_of (entry_at A' i) ≡ names_of (entry_at A i)
  names_i = ap names_of (entry_at-some A' i k.entry' k.entry_now ∙ k.entry_is)
      ∙ names_of-with_attr (timed k.row' (attr_of k.entry)) k.entry
      ∙ ap names_of (sym (entry_at-some A i k.entry k.before.is_entry))

  lead_still : (p j : ℕ) → j ≢ i → LeadTo (names_of (entry_at A p)) j → LeadTo (names_of (entry_at A' p)) j
  lead_still p j ne l = elim (one_or_not p d) as (λ _. LeadTo (names_of (entry_at A' p)) j) [
    | inl e ↦ subst (λ names. LeadTo names j)
        (sym (ap (λ p. names_of (entry_at A' p)) e ∙ names_after _ _ _ _ _ _ _ _ _ _ c))
        (lead_on _ _ _ _ _ _ _ _ _ _ c j (λ row is e. ne (sym e ∙ lost row is))
        (subst (λ names. LeadTo names j)
        (ap (λ p. names_of (entry_at A p)) e ∙ names_before _ _ _ _ _ _ _ _ _ _ c) l))
    | inr not_d ↦ elim (one_or_not p i) as (λ _. LeadTo (names_of (entry_at A' p)) j) [
      | inl e ↦ subst (λ names. LeadTo names j)
          (ap (λ p. names_of (entry_at A p)) e ∙ sym names_i ∙ sym (ap (λ p. names_of (entry_at A' p)) e)) l
      | inr not_i ↦ subst (λ names. LeadTo names j)
          (sym (ap names_of (same_entry A' A p (array.others p not_d not_i)))) l
    ]
  ]

  keeps : Keeps st.tree t' table table' A A' d i
  keeps = record {
    root = root;
    nodes = λ q ne _. nodes q (λ e. ne (dir_handle _ _ _ _ _ _ _ _ _ _ c ∙ ap Some (sym e)));
    numbers = numbers;
    handles = handles;
    by_handle = by_handle;
    rows = rows;
    array = array;
    parents = λ j e _ not_i _ _ p h. (h.0, λ ne. lead_still p j not_i (h.1 ne));
  }

  at_dir : (r : ConfEntry) (e : Entry) → slice_get table'.rows.items d ≡ Some r → slice_get A' d ≡ Some e →
      RowIs t' table'.rows.items A' d r e
  at_dir r e is_r is_e =
      let old = st.each d c.row
      (record { generation = c.generation; object = Dir c.attr c.names }) c.before.is_row c.before.is_entry in
      let was = old.parent refl in
      let now = dir_row _ _ _ _ _ _ _ _ _ _ c old (λ x row _ _ h at. handles row.index ∙ at) (leads handles)
      (subst (λ p. IsParent A' p d) (sym c.parent) (was.0, λ ne. lead_still c.row.parent d apart (was.1 ne))) in
      subst (λ r. RowIs t' table'.rows.items A' d r e) (some_same c.row_now is_r)
      (subst (λ e. RowIs t' table'.rows.items A' d c.row' e) (some_same c.entry_now is_e) now)

  at_object : (r : ConfEntry) (e : Entry) → slice_get table'.rows.items i ≡ Some r → slice_get A' i ≡ Some e →
      RowIs t' table'.rows.items A' i r e
  at_object r e is_r is_e =
      let old = st.each i k.row k.entry k.before.is_row k.before.is_entry in
      let node : (h : List ℕ) → k.row.handle ≡ Some h →
      node_at t' h ≡ node_at st.tree h = λ h is. nodes h
      (λ e. apart (one_row st.tree table st.placed h d i (dir_handle _ _ _ _ _ _ _ _ _ _ c ∙ ap Some (sym e))
      (handle_of_row table.rows.items i k.row k.before.is_row ∙ is))) in
      let now : RowIs t' table'.rows.items A' i k.row' (with_attr (timed k.row' (attr_of k.entry)) k.entry) = record {
        generation = k.same_row.generation ∙ old.generation;
        object = object_timed st.tree t' table.rows.items table'.rows.items k.row k.row' k.same_row node k.entry
            (λ name row _ h at. handles row.index ∙ at) old.object;
        parent = λ is. k.parent (sym (is_dir-with_attr (timed k.row' (attr_of k.entry)) k.entry) ∙ is);
      } in
      subst (λ r. RowIs t' table'.rows.items A' i r e) (some_same k.row_now is_r)
      (subst (λ e. RowIs t' table'.rows.items A' i k.row' e) (sym k.entry_is ∙ some_same k.entry_now is_e) now)

  pub stands_set : s' ≡ Some t' → Stands s' table' A'
  stands_set has = stands_kept s s' table table' A A' t' d i st keeps has at_dir at_object

-- 4. a name is added, to a node that was there
pub stands_added : (s s' : Option Tree) (table table' : ConfTable) (A A' : List Entry) (t' : Tree) (d i : ℕ)
    (name : List ℕ) (st : Stands s table A) → AddsName st.tree table A d name i t' table' A' → s' ≡ Some t' →
    Stands s' table' A'
stands_added s s' table table' A A' t' d i name st c has =
    stands_set s s' table table' A A' t' d i name c.handle (Some c.handle)
    (Some c.to_row) st c.in_dir c.object c.apart c.root c.nodes c.rows c.by_handle c.array
    (λ row is. absurd (some_none is c.was_new))
    (λ handles. ap (handle_at table'.rows.items) c.to_index ∙ handles i
    ∙ handle_of_row table.rows.items i c.object.row c.object.before.is_row ∙ c.object.before.is_handle)
    has

-- 5. a name is taken out, and its node stays
pub stands_dropped : (s s' : Option Tree) (table table' : ConfTable) (A A' : List Entry) (t' : Tree) (d i : ℕ)
    (name : List ℕ) (st : Stands s table A) → DropsName st.tree table A d name i t' table' A' → s' ≡ Some t' →
    Stands s' table' A'
stands_dropped s s' table table' A A' t' d i name st c has =
    stands_set s s' table table' A A' t' d i name c.handle None None st c.in_dir c.object c.apart c.root c.nodes c.rows c.by_handle c.array
    (λ row is. ap (λ (r : NameRow). r.index) (some_same is c.was) ∙ c.was_index)
    (λ _. tt)
    has
