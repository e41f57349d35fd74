-- A tree with empty directories, and a table with one row in use, stand for the array with which a service begins.
use Rattle.std.proofs.Common.{inl, inr, ◌≡◌, ◌⊎◌, ◌↔◌, ℕ, zero, suc, ◌-◌, true, false, cond, List, ◌∷◌, Option, Some, None, length, slice_get, replicate, refl, sym, ap, ◌∙◌, subst}
use Rattle.std.specs.Ordering.{nat_cmp, is_eq}
use Rattle.std.specs.Cmp.Lexicographic.{slice_cmp}
use Rattle.std.specs.BTreeMap as ordered
use Rattle.std.specs.FinMap.{get, empty, get-empty}
use Rattle.std.proofs.lemmas.List.{length-replicate}
use Rattle.server_trait.specs.Tree.{Tree}
use Rattle.server_trait.proofs.TreeLaws.{same-keys, same-key_refl, some_same, some_none}
use Rattle.server_trait.specs.declared.bench.ConfEntry.{ConfEntry}
use Rattle.server_trait.specs.declared.bench.ConfTable.{ConfTable}
use Rattle.abs_model.specs.declared.entry.Entry.{Entry}
use Rattle.abs_model.specs.Array.{null_entry, empty_root, empty_array}
use Rattle.conf_map.specs.Stands.{handle_at, Placed, Leads, RowIs, Stands}
use Rattle.conf_map.specs.Fresh.{IsEmptyTree, export_node, unused_row, export_row}

in_replicate : {A : Type 0} (n : ℕ) (x : A) (k : ℕ) (y : A) → slice_get (replicate n x) k ≡ Some y → y ≡ x
in_replicate zero x k y h = absurd (some_none h refl)
in_replicate (suc n) x zero y h = some_same h refl
in_replicate (suc n) x (suc k) y h = in_replicate n x k y h

no_handle : (n : ℕ) (k : ℕ) → handle_at (replicate n unused_row) k ≡ None
no_handle zero k = refl
no_handle (suc n) zero = refl
no_handle (suc n) (suc k) = no_handle n k

module _ (s : Option Tree) (table : ConfTable) (export : List ℕ) (number n : ℕ) (begun : IsEmptyTree s export number)
    (rows : table.rows.items ≡ export_row export number ∷ replicate (n - 1) unused_row)
    (by : (q : List ℕ) → ordered.get (slice_cmp nat_cmp) table.by_handle q ≡ cond (is_eq (slice_cmp nat_cmp export q))
    (Some 0) None) where
  abbrev t : Tree
  t = begun.tree

  abbrev R : List ConfEntry
  R = export_row export number ∷ replicate (n - 1) unused_row

  no_name : (name : List ℕ) → Leads R (get (empty {X = List ℕ} {R = slice_cmp nat_cmp}) name) None
  no_name name = subst (λ x. Leads R x None) (sym (get-empty (slice_cmp nat_cmp) name)) tt

  root_row : RowIs t R (empty_array n) 0 (export_row export number) empty_root
  root_row = record {
    generation = refl;
    object = record {
      handle = export;
      node = export_node number;
      is_handle = refl;
      is_node = begun.export_is;
      attr = record { number = refl; mode = refl; uid = refl; gid = refl; atime = refl; mtime = refl; ctime = refl };
      content = no_name;
    };
    parent = λ _. ((λ _. refl), (λ ne. absurd (ne refl)));
  }

  other_row : (i : ℕ) → RowIs t R (empty_array n) i unused_row null_entry
  other_row i = record { generation = refl; object = refl; parent = λ e. absurd (let bad : false ≡ true = e in cc) }

  each : (i : ℕ) (r : ConfEntry) (e : Entry) → slice_get R i ≡ Some r → slice_get (empty_array n) i ≡ Some e →
      RowIs t R (empty_array n) i r e
  each zero r e is_r is_e = subst (λ r. RowIs t R (empty_array n) 0 r e) (some_same refl is_r)
      (subst (RowIs t R (empty_array n) 0 (export_row export number)) (some_same refl is_e) root_row)
  each (suc i) r e is_r is_e =
      subst (λ r. RowIs t R (empty_array n) (suc i) r e) (sym (in_replicate (n - 1) unused_row i r is_r))
      (subst (RowIs t R (empty_array n) (suc i) unused_row) (sym (in_replicate (n - 1) null_entry i e is_e))
      (other_row (suc i)))

  one_handle : (q : List ℕ) (k : ℕ) → handle_at R k ≡ Some q → (k ≡ 0) × (export ≡ q)
  one_handle q zero h = (refl, some_same {o = Some export} refl h)
  one_handle q (suc k) h = absurd (some_none h (no_handle (n - 1) k))

  by_handle : (q : List ℕ) (k : ℕ) → (ordered.get (slice_cmp nat_cmp) table.by_handle q ≡ Some k) ↔
      (handle_at R k ≡ Some q)
  by_handle q k = (
    λ h.
        elim (is_eq (slice_cmp nat_cmp export q)) as
        (λ b. is_eq (slice_cmp nat_cmp export q) ≡ b → cond b (Some zero) None ≡ Some k → handle_at R k ≡ Some q) [
          | true ↦ λ e is. ap (handle_at R) (some_same {o = Some k} refl (sym is)) ∙ ap Some (same-keys export q e)
          | false ↦ λ _ none. absurd (some_none none refl)
        ] refl (sym (by q) ∙ h),
    λ h.
        let e = one_handle q k h in
        by q ∙ ap (λ b. cond b (Some 0) None)
        (subst (λ x. is_eq (slice_cmp nat_cmp export x) ≡ true) e.1 (same-key_refl export)) ∙ ap Some (sym e.0),
  )

  placed : Placed t table
  placed = record {
    export = export;
    staging = begun.staging;
    root_has = begun.root_has;
    staging_has = begun.staging_has;
    root_apart = begun.root_apart;
    is_export = ap (λ l. handle_at l 0) rows;
    by_handle = λ q k. subst
        (λ l. (ordered.get (slice_cmp nat_cmp) table.by_handle q ≡ Some k) ↔ (handle_at l k ≡ Some q)) (sym rows)
        (by_handle q k);
    apart = λ i h e.
        let k = one_handle h i (ap (λ l. handle_at l i) (sym rows) ∙ e) in
        ((λ x. begun.export_apart.0 (k.1 ∙ x)), (λ x. begun.export_apart.1 (k.1 ∙ x)));
    covered = λ q x is. elim (begun.covered q x is) as
        (λ _. (q ≡ t.root) ⊎ ((q ≡ begun.staging) ⊎ ((i : ℕ) × (handle_at table.rows.items i ≡ Some q)))) [
          | inl e ↦ inl e
          | inr k ↦ inr (elim k as
              (λ _. (q ≡ begun.staging) ⊎ ((i : ℕ) × (handle_at table.rows.items i ≡ Some q))) [
                | inl e ↦ inl e
                | inr e ↦ inr
                    (0, ap (λ l. handle_at l 0) rows ∙ ap Some (sym e))
              ])
        ];
    numbers = begun.numbers;
  }

  pub stands_fresh : Stands s table (empty_array n)
  stands_fresh = record {
    tree = t;
    has_tree = begun.has_tree;
    placed = placed;
    size = ap length rows ∙ ap suc (length-replicate (n - 1) unused_row ∙ sym (length-replicate (n - 1) null_entry));
    each = λ i r e a b. subst (λ l. RowIs t l (empty_array n) i r e) (sym rows)
        (each i r e (ap (λ l. slice_get l i) (sym rows) ∙ a) b);
  }
