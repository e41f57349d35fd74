-- A name is taken out, and the node that it led to goes with it.
use Rattle.std.proofs.Common.{◌≡◌, ◌≢◌, ◌⊎◌, inl, inr, ◌↔◌, ℕ, true, false, List, Option, Some, None, slice_get, refl, sym, ap, ◌∙◌, subst}
use Rattle.std.specs.Option.{option_and_then, option_map}
use Rattle.std.specs.Ordering.{nat_cmp}
use Rattle.std.specs.Cmp.Lexicographic.{slice_cmp}
use Rattle.std.specs.BTreeMap as ordered
use Rattle.server_trait.specs.Tree.{Tree, Node, node_at, names_at, names_in}
use Rattle.server_trait.proofs.TreeLaws.{some_none, some_same, one_or_not, bytes_or_not}
use Rattle.server_trait.specs.declared.bench.ConfEntry.{ConfEntry}
use Rattle.server_trait.specs.declared.bench.ConfTable.{ConfTable}
use Rattle.abs_model.specs.declared.entry.NameRow.{NameRow}
use Rattle.abs_model.specs.declared.entry.Object.TheVariants.{Null, Dir}
use Rattle.abs_model.specs.declared.entry.Entry.{Entry}
use Rattle.abs_model.specs.Objects.{is_dir, names_of, row_of}
use Rattle.abs_model.specs.Array.{entry_at}
use Rattle.conf_map.specs.Stands.{handle_at, Placed, IsObject, IsParent, LeadTo, RowIs, Stands}
use Rattle.conf_map.specs.Moves.{DropsNode}
use Rattle.conf_map.proofs.Frames.{same_entry, entry_at-some, handle_of_row, same_handle, row_frame, number_at, map_some}
use Rattle.conf_map.proofs.Kept.{one_row}
use Rattle.conf_map.proofs.Made.{no_lead}
use Rattle.conf_map.proofs.SetNames.{dir_handle, dir_handle', dir_number, names_before, names_after, dir_row, lead_on}

not_dir_null : (e : Entry) → e.object ≡ Null → is_dir e ≡ true → ⊥
not_dir_null e is d = let bad : false ≡ true = sym
    (ap (λ o. is_dir (record { generation = e.generation; object = o })) is) ∙ d in cc

module _ (s s' : Option Tree) (table table' : ConfTable) (A A' : List Entry) (t' : Tree) (d i : ℕ) (name : List ℕ)
    (st : Stands s table A) (c : DropsNode st.tree table A d name i t' table' A') where
  abbrev t : Tree
  t = st.tree

  abbrev h : List ℕ
  h = c.handle

  abbrev dh : List ℕ
  dh = c.in_dir.handle

  at_d : handle_at table.rows.items d ≡ Some dh
  at_d = dir_handle _ _ _ _ _ _ _ _ _ _ c.in_dir

  at_i : handle_at table.rows.items i ≡ Some h
  at_i = handle_of_row table.rows.items i c.row c.before.is_row ∙ c.before.is_handle

  now_i : handle_at table'.rows.items i ≡ None
  now_i = handle_of_row table'.rows.items i c.row' c.row_now ∙ c.row_null

  others : (j : ℕ) → j ≢ i → handle_at table'.rows.items j ≡ handle_at table.rows.items j
  others j ne = elim (one_or_not j d) as (λ _. handle_at table'.rows.items j ≡ handle_at table.rows.items j) [
    | inl e ↦ subst (λ j. handle_at table'.rows.items j ≡ handle_at table.rows.items j) (sym e)
        (dir_handle' _ _ _ _ _ _ _ _ _ _ c.in_dir ∙ sym at_d)
    | inr not_d ↦ same_handle table.rows.items table'.rows.items j (c.rows.others j not_d ne)
  ]

  still_not_i : (k : ℕ) (q : List ℕ) → handle_at table'.rows.items k ≡ Some q → k ≢ i
  still_not_i k q is e = some_none is (ap (handle_at table'.rows.items) e ∙ now_i)

  -- rows of other handles
  not_i : (k : ℕ) (q : List ℕ) → handle_at table.rows.items k ≡ Some q → q ≢ h → k ≢ i
  not_i k q is ne e = ne (some_same is (ap (handle_at table.rows.items) e ∙ at_i))

  still_node : (q : List ℕ) (n : Node) → node_at t' q ≡ Some n → q ≢ h
  still_node q n is e = some_none is (ap (node_at t') e ∙ c.node_gone)

  numbers : (q : List ℕ) → q ≢ h → number_at t' q ≡ number_at t q
  numbers q ne = elim (bytes_or_not q dh) as (λ _. number_at t' q ≡ number_at t q) [
    | inl e ↦ subst (λ q. number_at t' q ≡ number_at t q) (sym e) (dir_number _ _ _ _ _ _ _ _ _ _ c.in_dir)
    | inr not_d ↦ ap (option_map (λ (n : Node). n.number)) (c.nodes q ne not_d)
  ]

  had : (q : List ℕ) (n : Node) → node_at t' q ≡ Some n → (m : Node) × (node_at t q ≡ Some m) × (m.number ≡ n.number)
  had q n at = map_some (λ (n : Node). n.number) (node_at t q) n.number
      (sym (numbers q (still_node q n at)) ∙ ap (option_map (λ (n : Node). n.number)) at)

  by_handle : (q : List ℕ) (k : ℕ) → (ordered.get (slice_cmp nat_cmp) table'.by_handle q ≡ Some k) ↔
      (handle_at table'.rows.items k ≡ Some q)
  by_handle q k = (there, back)
    where
      there : ordered.get (slice_cmp nat_cmp) table'.by_handle q ≡ Some k → handle_at table'.rows.items k ≡ Some q
      there is =
          let ne : q ≢ h = λ e. some_none is (ap (ordered.get (slice_cmp nat_cmp) table'.by_handle) e ∙ c.by_handle) in
          let was = (st.placed.by_handle q k).0 (sym (c.by_handles q ne) ∙ is) in
          others k (not_i k q was ne) ∙ was

      back : handle_at table'.rows.items k ≡ Some q → ordered.get (slice_cmp nat_cmp) table'.by_handle q ≡ Some k
      back is =
          let ne = still_not_i k q is in
          let was : handle_at table.rows.items k ≡ Some q = sym (others k ne) ∙ is in
          c.by_handles q (λ e. ne (one_row t table st.placed h k i (was ∙ ap Some e) at_i))
          ∙ (st.placed.by_handle q k).1 was

  fixed : (q : List ℕ) → q ≢ h → q ≢ dh → node_at t' q ≡ node_at t q
  fixed q ne nd = c.nodes q ne nd

  placed : Placed t' table'
  placed =
      let same_root = fixed t.root (λ e. (st.placed.apart i h at_i).0 (sym e))
      (λ e. (st.placed.apart d dh at_d).0 (sym e)) in
      let same_staging = fixed st.placed.staging (λ e. (st.placed.apart i h at_i).1 (sym e))
      (λ e. (st.placed.apart d dh at_d).1 (sym e)) in
      record {
        export = st.placed.export;
        staging = st.placed.staging;
        root_has = ap (names_at t') c.root ∙ ap (option_and_then (λ (n : Node). names_in n.content)) same_root
            ∙ st.placed.root_has;
        staging_has = ap (option_and_then (λ (n : Node). names_in n.content)) same_staging ∙ st.placed.staging_has;
        root_apart = λ e. st.placed.root_apart (e ∙ c.root);
        is_export = others 0 (λ e. c.not_root (sym e)) ∙ st.placed.is_export;
        by_handle = by_handle;
        apart = λ k q is. let x = st.placed.apart k q (sym (others k (still_not_i k q is)) ∙ is) in
            ((λ e. x.0 (e ∙ c.root)), x.1);
        covered = covered;
        numbers = λ a b m n is_m is_n same. let x = had a m is_m in let y = had b n is_n in
            st.placed.numbers a b x.0 y.0 x.1 y.1 (x.2 ∙ same ∙ sym y.2);
      }
    where
      covered : (q : List ℕ) (n : Node) → node_at t' q ≡ Some n →
          (q ≡ t'.root) ⊎ ((q ≡ st.placed.staging) ⊎ ((k : ℕ) × (handle_at table'.rows.items k ≡ Some q)))
      covered q n is = let m = had q n is in elim (st.placed.covered q m.0 m.1) as
          (λ _. (q ≡ t'.root) ⊎ ((q ≡ st.placed.staging) ⊎ ((k : ℕ) × (handle_at table'.rows.items k ≡ Some q)))) [
            | inl e ↦ inl (e ∙ sym c.root)
            | inr x ↦ inr (elim x as (λ _. (q ≡ st.placed.staging) ⊎ ((k : ℕ) × (handle_at table'.rows.items k ≡ Some q))) [
              | inl e ↦ inl e
              | inr y ↦ inr (y.0, others y.0 (not_i y.0 q y.1 (still_node q n is)) ∙ y.1)
            ])
          ]

  -- names of other directories lead on to what is no row i
  led : (p : ℕ) (x : List ℕ) (row : NameRow) → row_of x (names_of (entry_at A' p)) ≡ Some row → (q : List ℕ) →
      handle_at table.rows.items row.index ≡ Some q → handle_at table'.rows.items row.index ≡ Some q
  led p x row is q at = others row.index (c.unnamed p x row is) ∙ at

  lead_still : (p j : ℕ) → j ≢ i → LeadTo (names_of (entry_at A p)) j → LeadTo (names_of (entry_at A' p)) j
  lead_still p j ne l = elim (one_or_not p d) as (λ _. LeadTo (names_of (entry_at A' p)) j) [
    | inl e ↦ subst (λ names. LeadTo names j)
        (sym (ap (λ p. names_of (entry_at A' p)) e ∙ names_after _ _ _ _ _ _ _ _ _ _ c.in_dir))
        (lead_on _ _ _ _ _ _ _ _ _ _ c.in_dir j
        (λ row is e. ne (sym e ∙ ap (λ (r : NameRow). r.index) (some_same is c.was) ∙ c.was_index))
        (subst (λ names. LeadTo names j)
        (ap (λ p. names_of (entry_at A p)) e ∙ names_before _ _ _ _ _ _ _ _ _ _ c.in_dir) l))
    | inr not_d ↦ elim (one_or_not p i) as (λ _. LeadTo (names_of (entry_at A' p)) j) [
      | inl e ↦ absurd (no_lead (names_of (entry_at A p)) j
          (ap (λ p. names_of (entry_at A p)) e ∙ ap names_of (entry_at-some A i c.entry c.before.is_entry) ∙ c.empty) l)
      | inr not_i ↦ subst (λ names. LeadTo names j)
          (sym (ap names_of (same_entry A' A p (c.array.others p not_d not_i)))) l
    ]
  ]

  at_dir : RowIs t' table'.rows.items A' d c.in_dir.row'
      (record { generation = c.in_dir.generation; object = Dir c.in_dir.attr' c.in_dir.names' })
  at_dir =
      let old = st.each d c.in_dir.row
      (record {
        generation = c.in_dir.generation;
        object =
            Dir c.in_dir.attr c.in_dir.names;
      }) c.in_dir.before.is_row c.in_dir.before.is_entry in
      let was = old.parent refl in
      dir_row _ _ _ _ _ _ _ _ _ _ c.in_dir old
      (λ x row ne is q at. led d x row
      (ap (row_of x) (names_after _ _ _ _ _ _ _ _ _ _ c.in_dir) ∙ c.in_dir.rows_to x ne ∙ is) q at) tt
      (subst (λ p. IsParent A' p d) (sym c.in_dir.parent)
      (was.0, λ ne. lead_still c.in_dir.row.parent d c.apart (was.1 ne)))

  at_object : RowIs t' table'.rows.items A' i c.row' c.entry'
  at_object = record {
    generation = c.row_generation ∙ (st.each i c.row c.entry c.before.is_row c.before.is_entry).generation
        ∙ sym c.entry_generation;
    object = subst (IsObject t' table'.rows.items c.row') (sym c.entry_null) c.row_null;
    parent = λ is. absurd (not_dir_null c.entry' c.entry_null is);
  }

  -- 6. a name and its node go
  pub stands_gone : s' ≡ Some t' → Stands s' table' A'
  stands_gone has = record {
    tree = t';
    has_tree = has;
    placed = placed;
    size = c.rows.size ∙ st.size ∙ sym c.array.size;
    each = λ j r e is_r is_e. elim (one_or_not j d) as (λ _. RowIs t' table'.rows.items A' j r e) [
      | inl same ↦ subst (λ j. slice_get table'.rows.items j ≡ Some r → slice_get A' j ≡ Some e →
          RowIs t' table'.rows.items A' j r e) (sym same)
          (λ is_r is_e. subst (λ r. RowIs t' table'.rows.items A' d r e) (some_same c.in_dir.row_now is_r)
          (subst (λ e. RowIs t' table'.rows.items A' d c.in_dir.row' e)
          (some_same c.in_dir.entry_now is_e) at_dir)) is_r is_e
      | inr not_d ↦ elim (one_or_not j i) as (λ _. RowIs t' table'.rows.items A' j r e) [
        | inl same ↦ subst (λ j. slice_get table'.rows.items j ≡ Some r → slice_get A' j ≡ Some e →
            RowIs t' table'.rows.items A' j r e) (sym same)
            (λ is_r is_e. subst (λ r. RowIs t' table'.rows.items A' i r e) (some_same c.row_now is_r)
            (subst (λ e. RowIs t' table'.rows.items A' i c.row' e)
            (some_same c.entry_now is_e) at_object)) is_r is_e
        | inr not_i ↦ other j r e not_d not_i is_e (sym (c.rows.others j not_d not_i) ∙ is_r)
            (sym (c.array.others j not_d not_i) ∙ is_e)
      ]
    ];
  }
    where
      other : (j : ℕ) (r : ConfEntry) (e : Entry) → j ≢ d → j ≢ i → slice_get A' j ≡ Some e →
          slice_get table.rows.items j ≡ Some r → slice_get A j ≡ Some e → RowIs t' table'.rows.items A' j r e
      other j r e not_d not_i is_e' is_r is_e = row_frame t t' table.rows.items table'.rows.items r
          (λ q is.
          let at_j : handle_at table.rows.items j ≡ Some q = handle_of_row table.rows.items j r is_r ∙ is in
          c.nodes q (λ e. not_i (one_row t table st.placed h j i (at_j ∙ ap Some e) at_i))
          (λ e. not_d (one_row t table st.placed dh j d (at_j ∙ ap Some e) at_d)))
          A A' j e (λ x row is q at. led j x row
          (ap (λ e. row_of x (names_of e)) (entry_at-some A' j e is_e') ∙ is) q at)
          (λ _ p h. (h.0, λ ne. lead_still p j not_i (h.1 ne))) (st.each j r e is_r is_e)
