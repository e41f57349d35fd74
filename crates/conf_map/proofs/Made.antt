-- A name is added, and leads to a new node.
use Rattle.std.proofs.Common.{◌≡◌, ◌≢◌, ◌⊎◌, inl, inr, ◌↔◌, ℕ, List, [], Option, Some, None, slice_get, refl, sym, ap, ◌∙◌, subst}
use Rattle.std.specs.Option.{option_and_then, option_map}
use Rattle.std.specs.Ordering.{nat_cmp}
use Rattle.std.specs.Cmp.Lexicographic.{slice_cmp}
use Rattle.std.specs.BTreeMap as ordered
use Rattle.server_trait.specs.Tree.{Tree, Node, node_at, names_at, names_in}
use Rattle.server_trait.proofs.TreeLaws.{some_none, some_same, and_then_some, one_or_not, bytes_or_not}
use Rattle.server_trait.specs.declared.bench.ConfEntry.{ConfEntry}
use Rattle.server_trait.specs.declared.bench.ConfTable.{ConfTable}
use Rattle.abs_model.specs.declared.entry.NameRow.{NameRow}
use Rattle.abs_model.specs.declared.entry.Object.{Object}
use Rattle.abs_model.specs.declared.entry.Object.TheVariants.{Null, Dir}
use Rattle.abs_model.specs.declared.entry.Entry.{Entry}
use Rattle.abs_model.specs.Objects.{names_of, row_of}
use Rattle.abs_model.specs.Array.{entry_at}
use Rattle.conf_map.specs.Stands.{handle_at, Placed, IsObject, IsParent, LeadTo, RowIs, Stands}
use Rattle.conf_map.specs.Moves.{MakesNode}
use Rattle.conf_map.proofs.Frames.{same_entry, entry_at-some, handle_of_row, same_handle, row_frame, number_at, map_some, handle_node}
use Rattle.conf_map.proofs.Kept.{one_row}
use Rattle.conf_map.proofs.SetNames.{dir_handle, dir_handle', dir_number, names_before, names_after, dir_row, lead_on}

pub no_names : (e : Entry) → e.object ≡ Null → names_of e ≡ []
no_names e is = ap (λ o. names_of (record { generation = e.generation; object = o })) is

pub null_handle : (t : Tree) (rows : List ConfEntry) (r : ConfEntry) (o : Object) → o ≡ Null → IsObject t rows r o →
    r.handle ≡ None
null_handle t rows r o is k = subst (IsObject t rows r) is k

pub no_lead : (names : List NameRow) (j : ℕ) → names ≡ [] → LeadTo names j → ⊥
no_lead names j none l = some_none (ap (row_of l.0) (sym none) ∙ l.2) refl

-- the root and staging are nodes
pub root_node : (t : Tree) (table : ConfTable) (p : Placed t table) → (n : Node) × (node_at t t.root ≡ Some n)
root_node t table p = let n = and_then_some (λ (n : Node). names_in n.content) (node_at t t.root) _ p.root_has in
    (n.0, n.1)

pub staging_node : (t : Tree) (table : ConfTable) (p : Placed t table) → (n : Node) × (node_at t p.staging ≡ Some n)
staging_node t table p = let n = and_then_some (λ (n : Node). names_in n.content)
    (node_at t p.staging) _ p.staging_has in (n.0, n.1)

module _ (s s' : Option Tree) (table table' : ConfTable) (A A' : List Entry) (t' : Tree) (d i : ℕ) (name : List ℕ)
    (st : Stands s table A) (c : MakesNode st.tree table A d name i t' table' A') where
  abbrev t : Tree
  t = st.tree

  abbrev h : List ℕ
  h = c.handle

  abbrev dh : List ℕ
  dh = c.in_dir.handle

  at_d : handle_at table.rows.items d ≡ Some dh
  at_d = dir_handle _ _ _ _ _ _ _ _ _ _ c.in_dir

  at_i : handle_at table.rows.items i ≡ None
  at_i = handle_of_row table.rows.items i c.old_row c.was_row
      ∙ null_handle t table.rows.items c.old_row c.old_entry.object c.was_null
      (st.each i c.old_row c.old_entry c.was_row c.was_entry).object

  now_i : handle_at table'.rows.items i ≡ Some h
  now_i = handle_of_row table'.rows.items i c.row c.row_now ∙ c.row_handle

  others : (j : ℕ) → j ≢ i → handle_at table'.rows.items j ≡ handle_at table.rows.items j
  others j ne = elim (one_or_not j d) as (λ _. handle_at table'.rows.items j ≡ handle_at table.rows.items j) [
    | inl e ↦ subst (λ j. handle_at table'.rows.items j ≡ handle_at table.rows.items j) (sym e)
        (dir_handle' _ _ _ _ _ _ _ _ _ _ c.in_dir ∙ sym at_d)
    | inr not_d ↦ same_handle table.rows.items table'.rows.items j (c.rows.others j not_d ne)
  ]

  had_not_i : (k : ℕ) (q : List ℕ) → handle_at table.rows.items k ≡ Some q → k ≢ i
  had_not_i k q is e = some_none is (ap (handle_at table.rows.items) e ∙ at_i)

  kept : (k : ℕ) (q : List ℕ) → handle_at table.rows.items k ≡ Some q → handle_at table'.rows.items k ≡ Some q
  kept k q is = others k (had_not_i k q is) ∙ is

  was_node : (q : List ℕ) (n : Node) → node_at t q ≡ Some n → q ≢ h
  was_node q n is e = some_none (ap (node_at t) (sym e) ∙ is) c.new_handle

  numbers : (q : List ℕ) → q ≢ h → number_at t' q ≡ number_at t q
  numbers q ne = elim (bytes_or_not q dh) as (λ _. number_at t' q ≡ number_at t q) [
    | inl e ↦ subst (λ q. number_at t' q ≡ number_at t q) (sym e) (dir_number _ _ _ _ _ _ _ _ _ _ c.in_dir)
    | inr not_d ↦ ap (option_map (λ (n : Node). n.number)) (c.nodes q ne not_d)
  ]

  had : (q : List ℕ) (n : Node) → q ≢ h → node_at t' q ≡ Some n →
      (m : Node) × (node_at t q ≡ Some m) × (m.number ≡ n.number)
  had q n ne at = map_some (λ (n : Node). n.number) (node_at t q) n.number
      (sym (numbers q ne) ∙ ap (option_map (λ (n : Node). n.number)) at)

  at_new : (n : Node) → node_at t' h ≡ Some n → n.number ≡ c.node.number
  at_new n at = ap (λ (n : Node). n.number) (some_same at c.node_now)

  all_numbers : (a b : List ℕ) (m n : Node) → node_at t' a ≡ Some m → node_at t' b ≡ Some n → m.number ≡ n.number →
      a ≡ b
  all_numbers a b m n is_m is_n same = elim (bytes_or_not a h) as (λ _. a ≡ b) [
    | inl e ↦ elim (bytes_or_not b h) as (λ _. a ≡ b) [
      | inl f ↦ e ∙ sym f
      | inr g ↦ let k = had b n g is_n in
          absurd (c.new_number b k.0 k.1 (k.2 ∙ sym same ∙ at_new m (ap (node_at t') (sym e) ∙ is_m)))
    ]
    | inr g ↦ let k = had a m g is_m in elim (bytes_or_not b h) as (λ _. a ≡ b) [
      | inl f ↦ absurd (c.new_number a k.0 k.1 (k.2 ∙ same ∙ at_new n (ap (node_at t') (sym f) ∙ is_n)))
      | inr g' ↦ let l = had b n g' is_n in st.placed.numbers a b k.0 l.0 k.1 l.1 (k.2 ∙ same ∙ sym l.2)
    ]
  ]

  by_handle : (q : List ℕ) (k : ℕ) → (ordered.get (slice_cmp nat_cmp) table'.by_handle q ≡ Some k) ↔
      (handle_at table'.rows.items k ≡ Some q)
  by_handle q k = (there, back)
    where
      there : ordered.get (slice_cmp nat_cmp) table'.by_handle q ≡ Some k → handle_at table'.rows.items k ≡ Some q
      there is = elim (bytes_or_not q h) as (λ _. handle_at table'.rows.items k ≡ Some q) [
        | inl e ↦ ap (handle_at table'.rows.items)
            (some_same (ap (ordered.get (slice_cmp nat_cmp) table'.by_handle) (sym e) ∙ is) c.by_handle) ∙ now_i
            ∙ ap Some (sym e)
        | inr ne ↦ kept k q ((st.placed.by_handle q k).0 (sym (c.by_handles q ne) ∙ is))
      ]

      back : handle_at table'.rows.items k ≡ Some q → ordered.get (slice_cmp nat_cmp) table'.by_handle q ≡ Some k
      back is = elim (one_or_not k i) as (λ _. ordered.get (slice_cmp nat_cmp) table'.by_handle q ≡ Some k) [
        | inl e ↦ ap (ordered.get (slice_cmp nat_cmp) table'.by_handle)
            (some_same is (ap (handle_at table'.rows.items) e ∙ now_i)) ∙ c.by_handle ∙ ap Some (sym e)
        | inr ne ↦
            let was : handle_at table.rows.items k ≡ Some q = sym (others k ne) ∙ is in
            let r = handle_node s table A st k q was in
            c.by_handles q (was_node q r.0 r.1) ∙ (st.placed.by_handle q k).1 was
      ]

  abbrev fixed : (q : List ℕ) → (q ≢ dh) → (n : Node) → node_at t q ≡ Some n → node_at t' q ≡ node_at t q
  fixed q ne n is = c.nodes q (was_node q n is) ne

  placed : Placed t' table'
  placed =
      let r = root_node t table st.placed in
      let g = staging_node t table st.placed in
      let same_root = fixed t.root (λ e. (st.placed.apart d dh at_d).0 (sym e)) r.0 r.1 in
      let same_staging = fixed st.placed.staging (λ e. (st.placed.apart d dh at_d).1 (sym e)) g.0 g.1 in
      record {
        export = st.placed.export;
        staging = st.placed.staging;
        root_has = ap (names_at t') c.root ∙ ap (option_and_then (λ (n : Node). names_in n.content)) same_root
            ∙ st.placed.root_has;
        staging_has = ap (option_and_then (λ (n : Node). names_in n.content)) same_staging ∙ st.placed.staging_has;
        root_apart = λ e. st.placed.root_apart (e ∙ c.root);
        is_export = kept 0 st.placed.export st.placed.is_export;
        by_handle = by_handle;
        apart = apart;
        covered = covered;
        numbers = all_numbers;
      }
    where
      apart : (k : ℕ) (q : List ℕ) → handle_at table'.rows.items k ≡ Some q → (q ≢ t'.root) × (q ≢ st.placed.staging)
      apart k q is = elim (one_or_not k i) as (λ _. (q ≢ t'.root) × (q ≢ st.placed.staging)) [
        | inl e ↦
            let q_is : q ≡ h = some_same is (ap (handle_at table'.rows.items) e ∙ now_i) in (
              (λ x. let r = root_node t table st.placed in was_node t.root r.0 r.1 (sym c.root ∙ sym x ∙ q_is)),
              (λ x. let g = staging_node t table st.placed in was_node st.placed.staging g.0 g.1 (sym x ∙ q_is)),
            )
        | inr ne ↦ let x = st.placed.apart k q (sym (others k ne) ∙ is) in ((λ e. x.0 (e ∙ c.root)), x.1)
      ]

      covered : (q : List ℕ) (n : Node) → node_at t' q ≡ Some n →
          (q ≡ t'.root) ⊎ ((q ≡ st.placed.staging) ⊎ ((k : ℕ) × (handle_at table'.rows.items k ≡ Some q)))
      covered q n is = elim (bytes_or_not q h) as
          (λ _. (q ≡ t'.root) ⊎ ((q ≡ st.placed.staging) ⊎ ((k : ℕ) × (handle_at table'.rows.items k ≡ Some q)))) [
            | inl e ↦ inr (inr (i, now_i ∙ ap Some (sym e)))
            | inr ne ↦ let m = had q n ne is in elim (st.placed.covered q m.0 m.1) as
                (λ _. (q ≡ t'.root) ⊎ ((q ≡ st.placed.staging) ⊎ ((k : ℕ) × (handle_at table'.rows.items k ≡ Some q)))) [
                  | inl e ↦ inl (e ∙ sym c.root)
                  | inr x ↦ inr (elim x as
                      (λ _. (q ≡ st.placed.staging) ⊎
                      ((k : ℕ) × (handle_at table'.rows.items k ≡ Some q))) [
                        | inl e ↦ inl e
                        | inr y ↦ inr
                            (y.0, kept y.0 q y.1)
                      ])
                ]
          ]

  lead_still : (p j : ℕ) → LeadTo (names_of (entry_at A p)) j → LeadTo (names_of (entry_at A' p)) j
  lead_still p j l = elim (one_or_not p d) as (λ _. LeadTo (names_of (entry_at A' p)) j) [
    | inl e ↦ subst (λ names. LeadTo names j)
        (sym (ap (λ p. names_of (entry_at A' p)) e ∙ names_after _ _ _ _ _ _ _ _ _ _ c.in_dir))
        (lead_on _ _ _ _ _ _ _ _ _ _ c.in_dir j (λ row is _. some_none is c.was_new)
        (subst (λ names. LeadTo names j)
        (ap (λ p. names_of (entry_at A p)) e ∙ names_before _ _ _ _ _ _ _ _ _ _ c.in_dir) l))
    | inr not_d ↦ elim (one_or_not p i) as (λ _. LeadTo (names_of (entry_at A' p)) j) [
      | inl e ↦ absurd (no_lead (names_of (entry_at A p)) j
          (ap (λ p. names_of (entry_at A p)) e ∙ ap names_of (entry_at-some A i c.old_entry c.was_entry)
          ∙ no_names c.old_entry c.was_null) l)
      | inr not_i ↦ subst (λ names. LeadTo names j)
          (sym (ap names_of (same_entry A' A p (c.array.others p not_d not_i)))) l
    ]
  ]

  zero_is_export : i ≢ 0
  zero_is_export e = had_not_i 0 st.placed.export st.placed.is_export (sym e)

  at_dir : RowIs t' table'.rows.items A' d c.in_dir.row'
      (record { generation = c.in_dir.generation; object = Dir c.in_dir.attr' c.in_dir.names' })
  at_dir =
      let old = st.each d c.in_dir.row
      (record {
        generation = c.in_dir.generation;
        object =
            Dir c.in_dir.attr c.in_dir.names;
      }) c.in_dir.before.is_row c.in_dir.before.is_entry in
      let was = old.parent refl in
      dir_row _ _ _ _ _ _ _ _ _ _ c.in_dir old (λ x row _ _ q at. kept row.index q at)
      (ap (handle_at table'.rows.items) c.to_index ∙ now_i)
      (subst (λ p. IsParent A' p d) (sym c.in_dir.parent) (was.0, λ ne. lead_still c.in_dir.row.parent d (was.1 ne)))

  at_object : RowIs t' table'.rows.items A' i c.row c.entry
  at_object = record {
    generation = c.row_generation;
    object = c.object;
    parent = λ _. subst (λ p. IsParent A' p i) (sym c.row_parent) (
      (λ e. absurd (zero_is_export e)),
      (λ _. (
        name,
        c.to_row,
        (ap (row_of name) (names_after _ _ _ _ _ _ _ _ _ _ c.in_dir) ∙ c.in_dir.row_to),
        c.to_index,
      )),
    );
  }

  -- 3. a name is added, and leads to a new node
  pub stands_made : s' ≡ Some t' → Stands s' table' A'
  stands_made has = record {
    tree = t';
    has_tree = has;
    placed = placed;
    size = c.rows.size ∙ st.size ∙ sym c.array.size;
    each = λ j r e is_r is_e. elim (one_or_not j d) as (λ _. RowIs t' table'.rows.items A' j r e) [
      | inl same ↦ subst (λ j. slice_get table'.rows.items j ≡ Some r → slice_get A' j ≡ Some e →
          RowIs t' table'.rows.items A' j r e) (sym same)
          (λ is_r is_e. subst (λ r. RowIs t' table'.rows.items A' d r e) (some_same c.in_dir.row_now is_r)
          (subst (λ e. RowIs t' table'.rows.items A' d c.in_dir.row' e)
          (some_same c.in_dir.entry_now is_e) at_dir)) is_r is_e
      | inr not_d ↦ elim (one_or_not j i) as (λ _. RowIs t' table'.rows.items A' j r e) [
        | inl same ↦ subst (λ j. slice_get table'.rows.items j ≡ Some r → slice_get A' j ≡ Some e →
            RowIs t' table'.rows.items A' j r e) (sym same)
            (λ is_r is_e. subst (λ r. RowIs t' table'.rows.items A' i r e) (some_same c.row_now is_r)
            (subst (λ e. RowIs t' table'.rows.items A' i c.row e) (some_same c.entry_now is_e) at_object)) is_r is_e
        | inr not_i ↦ other j r e not_d not_i (sym (c.rows.others j not_d not_i) ∙ is_r)
            (sym (c.array.others j not_d not_i) ∙ is_e)
      ]
    ];
  }
    where
      other : (j : ℕ) (r : ConfEntry) (e : Entry) → j ≢ d → j ≢ i → slice_get table.rows.items j ≡ Some r →
          slice_get A j ≡ Some e → RowIs t' table'.rows.items A' j r e
      other j r e not_d not_i is_r is_e = row_frame t t' table.rows.items table'.rows.items r
          (λ q is.
          let at_j : handle_at table.rows.items j ≡ Some q = handle_of_row table.rows.items j r is_r ∙ is in
          let n = handle_node s table A st j q at_j in
          c.nodes q (was_node q n.0 n.1) (λ e. not_d (one_row t table st.placed dh j d (at_j ∙ ap Some e) at_d)))
          A A' j e (λ x row _ q at. kept row.index q at) (λ _ p h. (h.0, λ ne. lead_still p j (h.1 ne)))
          (st.each j r e is_r is_e)
