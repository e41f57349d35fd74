-- Step 5: a node goes, to which no name leads.
use Rattle.std.proofs.Common.{◌≡◌, ◌≢◌, ◌⊎◌, inl, inr, ℕ, List, Some, None, slice_get, sym, ap, ◌∙◌, subst}
use Rattle.std.specs.Option.{option_and_then}
use Rattle.server_trait.specs.Tree.{Tree, Node, node_at, names_at, names_in}
use Rattle.server_trait.proofs.TreeLaws.{some_and, is_some_and, some_none, some_same, one_or_not}
use Rattle.server_trait.specs.declared.bench.ConfEntry.{ConfEntry}
use Rattle.server_trait.specs.declared.bench.ConfTable.{ConfTable}
use Rattle.abs_model.specs.declared.entry.NameRow.{NameRow}
use Rattle.abs_model.specs.declared.entry.Entry.{Entry}
use Rattle.abs_model.specs.Objects.{names_of, row_of}
use Rattle.conf_map.specs.Stands.{handle_at, SameNames, IsObject}
use Rattle.conf_map.proofs.Frames.{entry_at-some, handle_of_row, same_handle}
use Rattle.staging.specs.Staged.{Sited, RowHolds, Staged}
use Rattle.staging.specs.Steps.{Goes}
use Rattle.staging.proofs.Frames.{one_row, row_frame, names_frame}

module _ (t t' : Tree) (area : List ℕ) (table table' : ConfTable) (A A' : List Entry) (S : List NameRow) (i : ℕ) (st : Staged t area table A S) (c : Goes t table A S i t' table' A') where
  abbrev h : List ℕ
  h = c.handle

  at_i : handle_at table.rows.items i ≡ Some h
  at_i = handle_of_row table.rows.items i c.row c.is_row ∙ c.is_handle

  now_i : handle_at table'.rows.items i ≡ None
  now_i = handle_of_row table'.rows.items i c.row' c.rows.here ∙ c.row_null

  others : (j : ℕ) → j ≢ i → handle_at table'.rows.items j ≡ handle_at table.rows.items j
  others j ne = same_handle table.rows.items table'.rows.items j (c.rows.others j ne)

  still_not_i : (k : ℕ) (q : List ℕ) → handle_at table'.rows.items k ≡ Some q → k ≢ i
  still_not_i k q is e = some_none is (ap (handle_at table'.rows.items) e ∙ now_i)

  still_node : (q : List ℕ) (n : Node) → node_at t' q ≡ Some n → q ≢ h
  still_node q n is e = some_none (ap (node_at t') (sym e) ∙ is) c.node_gone

  not_i : (k : ℕ) (q : List ℕ) → handle_at table.rows.items k ≡ Some q → q ≢ h → k ≢ i
  not_i k q is ne e = ne (some_same is (ap (handle_at table.rows.items) e ∙ at_i))

  sited : Sited t' area table' S
  sited =
      let root_apart : t.root ≢ h = λ e. (st.sited.apart i h at_i).0 (sym e) in
      let staging_apart : area ≢ h = λ e. (st.sited.apart i h at_i).1 (sym e) in
      record {
        export = st.sited.export;
        root_has = ap (names_at t') c.root ∙ ap (option_and_then (λ (n : Node). names_in n.content)) (c.nodes t.root root_apart) ∙ st.sited.root_has;
        staging_has =
            let m = some_and (names_at t area) (SameNames table.rows.items S) st.sited.staging_has in
            is_some_and (SameNames table'.rows.items S) (ap (option_and_then (λ (n : Node). names_in n.content)) (c.nodes area staging_apart) ∙ m.1)
            (names_frame table.rows.items table'.rows.items S m.0 (λ x row is q at. others row.index (c.unstaged x row is) ∙ at) m.2);
        root_apart = λ e. st.sited.root_apart (e ∙ c.root);
        is_export = others 0 (λ e. c.not_export (sym e)) ∙ st.sited.is_export;
        in_step = c.in_step;
        apart = λ k q is. let x = st.sited.apart k q (sym (others k (still_not_i k q is)) ∙ is) in ((λ e. x.0 (e ∙ c.root)), x.1);
        covered = covered;
        numbers = λ a b m n is_m is_n same. st.sited.numbers a b m n (sym (c.nodes a (still_node a m is_m)) ∙ is_m) (sym (c.nodes b (still_node b n is_n)) ∙ is_n) same;
      }
    where
      covered : (q : List ℕ) (n : Node) → node_at t' q ≡ Some n → (q ≡ t'.root) ⊎ ((q ≡ area) ⊎ ((k : ℕ) × (handle_at table'.rows.items k ≡ Some q)))
      covered q n is =
          let ne = still_node q n is in
          elim (st.sited.covered q n (sym (c.nodes q ne) ∙ is)) as (λ _. (q ≡ t'.root) ⊎ ((q ≡ area) ⊎ ((k : ℕ) × (handle_at table'.rows.items k ≡ Some q)))) [
            | inl e ↦ inl (e ∙ sym c.root)
            | inr x ↦ inr (elim x as (λ _. (q ≡ area) ⊎ ((k : ℕ) × (handle_at table'.rows.items k ≡ Some q))) [
              | inl e ↦ inl e
              | inr y ↦ inr (y.0, others y.0 (not_i y.0 q y.1 ne) ∙ y.1)
            ])
          ]

  pub staged_gone : Staged t' area table' A' S
  staged_gone = record {
    sited = sited;
    size = c.rows.size ∙ st.size ∙ sym c.array.size;
    each = λ j r e is_r is_e. elim (one_or_not j i) as (λ _. RowHolds t' table'.rows.items r e) [
      | inl same ↦ subst (λ j. slice_get table'.rows.items j ≡ Some r → slice_get A' j ≡ Some e → RowHolds t' table'.rows.items r e) (sym same)
          (λ is_r is_e. subst (λ r. RowHolds t' table'.rows.items r e) (some_same c.rows.here is_r)
          (subst (λ e. RowHolds t' table'.rows.items c.row' e) (some_same c.array.here is_e) (record {
            generation = c.generation;
            object = subst (IsObject t' table'.rows.items c.row') (sym c.null) c.row_null;
          }))) is_r is_e
      | inr other ↦ beside j r e other (sym (c.rows.others j other) ∙ is_r) (sym (c.array.others j other) ∙ is_e)
    ];
  }
    where
      beside : (j : ℕ) (r : ConfEntry) (e : Entry) → j ≢ i → slice_get table.rows.items j ≡ Some r → slice_get A j ≡ Some e → RowHolds t' table'.rows.items r e
      beside j r e other is_r is_e = row_frame t t' table.rows.items table'.rows.items r
          (λ q is. c.nodes q (λ same. other (one_row t area table S st.sited h j i (handle_of_row table.rows.items j r is_r ∙ is ∙ ap Some same) at_i)))
          e (λ x row is q at. others row.index (c.unnamed j x row (ap (λ e. row_of x (names_of e)) (entry_at-some A j e is_e) ∙ is)) ∙ at) (st.each j r e is_r is_e)
