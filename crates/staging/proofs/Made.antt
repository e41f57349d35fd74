-- Step 4: a node comes, to which no name leads.
use Rattle.std.proofs.Common.{◌≡◌, ◌≢◌, ◌⊎◌, inl, inr, ℕ, List, Some, slice_get, sym, ap, ◌∙◌, subst}
use Rattle.std.specs.Option.{option_and_then}
use Rattle.server_trait.specs.Tree.{Tree, Node, node_at, names_at, names_in}
use Rattle.server_trait.proofs.TreeLaws.{some_and, is_some_and, some_none, some_same, and_then_some, bytes_or_not, one_or_not, slice_get-along}
use Rattle.server_trait.specs.declared.bench.ConfEntry.{ConfEntry}
use Rattle.server_trait.specs.declared.bench.ConfTable.{ConfTable}
use Rattle.abs_model.specs.declared.entry.NameRow.{NameRow}
use Rattle.abs_model.specs.declared.entry.Entry.{Entry}
use Rattle.conf_map.specs.Stands.{handle_at, SameNames}
use Rattle.conf_map.proofs.Frames.{handle_of_row, same_handle, object_node}
use Rattle.staging.specs.Staged.{Sited, RowHolds, Staged}
use Rattle.staging.specs.Steps.{Makes}
use Rattle.staging.proofs.Frames.{row_frame, names_frame}

-- the root and staging are nodes, and so is what a row's handle names
pub root_node : (t : Tree) (area : List ℕ) (table : ConfTable) (S : List NameRow) (p : Sited t area table S) → (n : Node) × (node_at t t.root ≡ Some n)
root_node t area table S p = let n = and_then_some (λ (n : Node). names_in n.content) (node_at t t.root) _ p.root_has in (n.0, n.1)

pub staging_node : (t : Tree) (area : List ℕ) (table : ConfTable) (S : List NameRow) (p : Sited t area table S) → (n : Node) × (node_at t area ≡ Some n)
staging_node t area table S p =
    let m = some_and (names_at t area) (SameNames table.rows.items S) p.staging_has in
    let n = and_then_some (λ (n : Node). names_in n.content) (node_at t area) _ m.1 in
    (n.0, n.1)

pub handle_node : (t : Tree) (area : List ℕ) (table : ConfTable) (A : List Entry) (S : List NameRow) (st : Staged t area table A S) (k : ℕ) (q : List ℕ) → handle_at table.rows.items k ≡ Some q → (n : Node) × (node_at t q ≡ Some n)
handle_node t area table A S st k q is =
    let r = and_then_some (λ (r : ConfEntry). r.handle) (slice_get table.rows.items k) q is in
    let e = slice_get-along table.rows.items A k r.0 st.size r.1 in
    object_node t table.rows.items r.0 e.0.object (st.each k r.0 e.0 r.1 e.1).object q r.2

-- 4. A NODE COMES

module _ (t t' : Tree) (area : List ℕ) (table table' : ConfTable) (A A' : List Entry) (S : List NameRow) (i : ℕ) (st : Staged t area table A S) (c : Makes t table A i t' table' A') where
  abbrev h : List ℕ
  h = c.handle

  now_i : handle_at table'.rows.items i ≡ Some h
  now_i = handle_of_row table'.rows.items i c.row' c.rows.here ∙ c.is_handle

  others : (j : ℕ) → j ≢ i → handle_at table'.rows.items j ≡ handle_at table.rows.items j
  others j ne = same_handle table.rows.items table'.rows.items j (c.rows.others j ne)

  had_not_i : (k : ℕ) (q : List ℕ) → handle_at table.rows.items k ≡ Some q → k ≢ i
  had_not_i k q is e = some_none is (ap (handle_at table.rows.items) e ∙ c.was_null)

  kept : (k : ℕ) (q : List ℕ) → handle_at table.rows.items k ≡ Some q → handle_at table'.rows.items k ≡ Some q
  kept k q is = others k (had_not_i k q is) ∙ is

  was_node : (q : List ℕ) (n : Node) → node_at t q ≡ Some n → q ≢ h
  was_node q n is e = some_none (ap (node_at t) (sym e) ∙ is) c.new_handle

  root_apart : t.root ≢ h
  root_apart = let r = root_node t area table S st.sited in was_node t.root r.0 r.1

  staging_apart : area ≢ h
  staging_apart = let g = staging_node t area table S st.sited in was_node area g.0 g.1

  at_new : (n : Node) → node_at t' h ≡ Some n → n.number ≡ c.node.number
  at_new n at = ap (λ (n : Node). n.number) (some_same at c.node_now)

  numbers : (a b : List ℕ) (m n : Node) → node_at t' a ≡ Some m → node_at t' b ≡ Some n → m.number ≡ n.number → a ≡ b
  numbers a b m n is_m is_n same = elim (bytes_or_not a h) as (λ _. a ≡ b) [
    | inl e ↦ elim (bytes_or_not b h) as (λ _. a ≡ b) [
      | inl f ↦ e ∙ sym f
      | inr g ↦ absurd (c.new_number b n (sym (c.nodes b g) ∙ is_n) (sym same ∙ at_new m (ap (node_at t') (sym e) ∙ is_m)))
    ]
    | inr g ↦ elim (bytes_or_not b h) as (λ _. a ≡ b) [
      | inl f ↦ absurd (c.new_number a m (sym (c.nodes a g) ∙ is_m) (same ∙ at_new n (ap (node_at t') (sym f) ∙ is_n)))
      | inr g' ↦ st.sited.numbers a b m n (sym (c.nodes a g) ∙ is_m) (sym (c.nodes b g') ∙ is_n) same
    ]
  ]

  sited : Sited t' area table' S
  sited = record {
    export = st.sited.export;
    root_has = ap (names_at t') c.root ∙ ap (option_and_then (λ (n : Node). names_in n.content)) (c.nodes t.root root_apart) ∙ st.sited.root_has;
    staging_has =
        let m = some_and (names_at t area) (SameNames table.rows.items S) st.sited.staging_has in
        is_some_and (SameNames table'.rows.items S) (ap (option_and_then (λ (n : Node). names_in n.content)) (c.nodes area staging_apart) ∙ m.1)
        (names_frame table.rows.items table'.rows.items S m.0 (λ x row _ q at. kept row.index q at) m.2);
    root_apart = λ e. st.sited.root_apart (e ∙ c.root);
    is_export = kept 0 st.sited.export st.sited.is_export;
    in_step = c.in_step;
    apart = apart;
    covered = covered;
    numbers = numbers;
  }
    where
      apart : (k : ℕ) (q : List ℕ) → handle_at table'.rows.items k ≡ Some q → (q ≢ t'.root) × (q ≢ area)
      apart k q is = elim (one_or_not k i) as (λ _. (q ≢ t'.root) × (q ≢ area)) [
        | inl e ↦
            let q_is : q ≡ h = some_same is (ap (handle_at table'.rows.items) e ∙ now_i) in
            ((λ x. root_apart (sym c.root ∙ sym x ∙ q_is)), (λ x. staging_apart (sym x ∙ q_is)))
        | inr ne ↦ let x = st.sited.apart k q (sym (others k ne) ∙ is) in ((λ e. x.0 (e ∙ c.root)), x.1)
      ]

      covered : (q : List ℕ) (n : Node) → node_at t' q ≡ Some n → (q ≡ t'.root) ⊎ ((q ≡ area) ⊎ ((k : ℕ) × (handle_at table'.rows.items k ≡ Some q)))
      covered q n is = elim (bytes_or_not q h) as (λ _. (q ≡ t'.root) ⊎ ((q ≡ area) ⊎ ((k : ℕ) × (handle_at table'.rows.items k ≡ Some q)))) [
        | inl e ↦ inr (inr (i, now_i ∙ ap Some (sym e)))
        | inr ne ↦ elim (st.sited.covered q n (sym (c.nodes q ne) ∙ is)) as (λ _. (q ≡ t'.root) ⊎ ((q ≡ area) ⊎ ((k : ℕ) × (handle_at table'.rows.items k ≡ Some q)))) [
          | inl e ↦ inl (e ∙ sym c.root)
          | inr x ↦ inr (elim x as (λ _. (q ≡ area) ⊎ ((k : ℕ) × (handle_at table'.rows.items k ≡ Some q))) [ inl e ↦ inl e | inr y ↦ inr (y.0, kept y.0 q y.1) ])
        ]
      ]

  pub staged_made : Staged t' area table' A' S
  staged_made = record {
    sited = sited;
    size = c.rows.size ∙ st.size ∙ sym c.array.size;
    each = λ j r e is_r is_e. elim (one_or_not j i) as (λ _. RowHolds t' table'.rows.items r e) [
      | inl same ↦ subst (λ j. slice_get table'.rows.items j ≡ Some r → slice_get A' j ≡ Some e → RowHolds t' table'.rows.items r e) (sym same)
          (λ is_r is_e. subst (λ r. RowHolds t' table'.rows.items r e) (some_same c.rows.here is_r)
          (subst (λ e. RowHolds t' table'.rows.items c.row' e) (some_same c.array.here is_e) (record { generation = c.generation; object = c.object }))) is_r is_e
      | inr other ↦ beside j r e (sym (c.rows.others j other) ∙ is_r) (sym (c.array.others j other) ∙ is_e)
    ];
  }
    where
      beside : (j : ℕ) (r : ConfEntry) (e : Entry) → slice_get table.rows.items j ≡ Some r → slice_get A j ≡ Some e → RowHolds t' table'.rows.items r e
      beside j r e is_r is_e = row_frame t t' table.rows.items table'.rows.items r
          (λ q is. let n = handle_node t area table A S st j q (handle_of_row table.rows.items j r is_r ∙ is) in c.nodes q (was_node q n.0 n.1))
          e (λ x row _ q at. kept row.index q at) (st.each j r e is_r is_e)
