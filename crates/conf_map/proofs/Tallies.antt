-- What a table keeps of its array as a whole, over changes of its rows and of the array.
use Rattle.std.proofs.Common.{◌≡◌, ◌⊎◌, Vec, inl, inr, ℕ, zero, suc, ◌+◌, ◌-◌, ◌<◌, ◌≤◌, min, arith, true, false, cond, List, [], ◌∷◌, Option, Some, None, IsSome, length, replicate, slice_get, slice_set, take, drop, refl, sym, ap, ◌∙◌, subst}
use Rattle.std.specs.Prelude.{◌&&◌, is_none, is_some, not, nat_lt, position, if◌then◌else◌}
use Rattle.std.specs.List.{position_or_len}
use Rattle.std.specs.Option.{option_map}
use Rattle.std.specs.Ordering.{nat_cmp}
use Rattle.std.specs.Cmp.Lexicographic.{slice_cmp}
use Rattle.std.specs.BTreeMap as ordered
use Rattle.std.specs.declared.alloc.Global.{Global}
use Rattle.std.proofs.Math.Dec.{is_le}
use Rattle.std.proofs.Math.ListN.{drop_of_length-le}
use Rattle.std.proofs.lemmas.List.{take_all, length-drop}
use Prim.Native.Nat.compare
use Rattle.std.proofs.lemmas.List.Folds.{sum_by-replicate}
use Rattle.std.proofs.lemmas.List.Sums.{sum_by-cons}
use Rattle.server_trait.specs.Tree.{Tree}
use Rattle.server_trait.proofs.TreeLaws.{some_same, one_or_not}
use Rattle.server_trait.specs.declared.bench.ConfEntry.{ConfEntry}
use Rattle.server_trait.specs.declared.bench.ConfTable.{ConfTable}
use Rattle.abs_model.specs.declared.entry.Entry.{Entry}
use Rattle.abs_model.specs.Objects.{used_by}
use Rattle.abs_model.specs.Array.{null_entry, empty_root, empty_array, used}
use Rattle.conf_map.specs.Stands.{handle_at, RowIs, Stands}
use Rattle.conf_map.specs.Tallied.{is_free_row, NoneFreeBelow, Tallied, KeepsTally}
use Rattle.conf_map.proofs.InStep.{slice_get-set_same, slice_get-set_other}

-- ROWS THAT ARE NOT FREE

-- a row with a handle is not free
pub taken : (r : ConfEntry) → IsSome r.handle → is_free_row r ≡ false
taken r some = ap (λ b. b && nat_lt r.generation 4294967295) (go r.handle some)
  where
    go : (o : Option (List ℕ)) → IsSome o → is_none o ≡ false
    go None some = absurd (let bad : false ≡ true = some in cc)
    go (Some h) some = refl

-- below a lower index
pub none_lower : (rows : List ConfEntry) (most least : ℕ) → least ≤ most → NoneFreeBelow most rows →
    NoneFreeBelow least rows
none_lower rows most least lower none k r below = none k r (omega (arith, lower, below))

module _ (rows : List ConfEntry) (i : ℕ) (before after : ConfEntry) (is_row : slice_get rows i ≡ Some before) where
  -- where the row that is set is not free, or is not below
  pub none_set : (most : ℕ) → NoneFreeBelow most rows → (i < most → is_free_row after ≡ false) →
      NoneFreeBelow most (slice_set rows i after)
  none_set most none busy k r below is = elim (one_or_not k i) as (λ _. is_free_row r ≡ false) [
    | inl e ↦ ap is_free_row (some_same (ap (slice_get (slice_set rows i after)) (sym e) ∙ is)
        (slice_get-set_same rows i after before is_row)) ∙ busy (subst (λ k. k < most) e below)
    | inr ne ↦ none k r below (sym (slice_get-set_other rows i k after ne) ∙ is)
  ]

  -- a row that keeps its handle and its generation
  pub none_same : (most : ℕ) → after.handle ≡ before.handle → after.generation ≡ before.generation →
      NoneFreeBelow most rows → NoneFreeBelow most (slice_set rows i after)
  none_same most handle generation none = none_set most none (λ below.
      ap (λ h. is_none h && nat_lt after.generation 4294967295) handle
      ∙ ap (λ g. is_none before.handle && nat_lt g 4294967295) generation ∙ none i before below is_row)

  -- the lowest is lowered to the row's index
  pub none_min : (most : ℕ) → NoneFreeBelow most rows → NoneFreeBelow (min most i) (slice_set rows i after)
  none_min most none = none_set (min most i) (none_lower rows most (min most i) (omega arith) none)
      (λ below. absurd (omega (arith, below)))

  -- what is kept when the row is set, and the lowest goes by its handle
  pub keeps_bound : (most : ℕ) → NoneFreeBelow most rows →
      NoneFreeBelow (if is_some after.handle then most else min most i) (slice_set rows i after)
  keeps_bound most none = go after.handle refl
    where
      go : (o : Option (List ℕ)) → after.handle ≡ o →
          NoneFreeBelow (if is_some o then most else min most i) (slice_set rows i after)
      go None is = none_min most none
      go (Some h) is = none_set most none (λ _. taken after (ap is_some is))

-- THE LOWEST FREE ROW

lt_suc : (n m : ℕ) → nat_lt (1 + n) (suc m) ≡ nat_lt n m
lt_suc n m = ap (λ k. nat_lt k (suc m)) (let e : 1 + n ≡ suc n = omega arith in e)
    ∙ ap is_le (compare.suc-suc (suc n) m)

later : (n m : ℕ) → cond (nat_lt (1 + n) (suc m)) (Some (1 + n)) None ≡ option_map suc (cond (nat_lt n m) (Some n) None)
later n m = elim (nat_lt n m) as
    (λ b. nat_lt n m ≡ b → cond (nat_lt (1 + n) (suc m)) (Some (1 + n)) None ≡ option_map suc (cond b (Some n) None)) [
      | true ↦ λ t. ap (λ b. cond b (Some (1 + n)) None) (lt_suc n m ∙ t) ∙ ap Some (omega arith)
      | false ↦ λ f. ap (λ b. cond b (Some (1 + n)) None) (lt_suc n m ∙ f)
    ] refl

zero_more : (o : Option ℕ) → option_map (λ k. 0 + k) o ≡ o
zero_more None = refl
zero_more (Some k) = ap Some (omega arith)

one_more : (most : ℕ) (o : Option ℕ) → option_map suc (option_map (λ k. most + k) o) ≡ option_map (λ k. suc most + k) o
one_more most None = refl
one_more most (Some k) = ap Some (omega arith)

-- it is at or above an index below which none is free
pub lowest_from : (rows : List ConfEntry) (most : ℕ) → NoneFreeBelow most rows →
    position is_free_row rows ≡ option_map (λ k. most + k) (position is_free_row (drop most rows))
lowest_from rows zero none = sym (zero_more (position is_free_row rows))
lowest_from [] (suc most) none = refl
lowest_from (r ∷ rows) (suc most) none =
    ap (λ b. cond (nat_lt (cond (not b) (1 + position_or_len is_free_row rows) 0) (length (r ∷ rows)))
    (Some (cond (not b) (1 + position_or_len is_free_row rows) 0)) None) (none 0 r (omega arith) refl)
    ∙ later (position_or_len is_free_row rows) (length rows)
    ∙ ap (option_map suc) (lowest_from rows most (λ k x below is. none (suc k) x (omega (arith, below)) is))
    ∙ one_more most (position is_free_row (drop most rows))

-- by a search of the rows from there on, in a copy of them
pub lowest_in : (rows xs : List ConfEntry) (most : ℕ) (o : Option ℕ) → xs ≡ rows → NoneFreeBelow most rows →
    o ≡ position is_free_row (take (length xs - most) (drop most xs)) →
    option_map (λ k. most + k) o ≡ position is_free_row rows
lowest_in rows xs most o same none is =
    ap (option_map (λ k. most + k)) (is ∙ ap (position is_free_row)
    (take_all (length xs - most) (drop most xs) (let n = length-drop most xs in omega arith)))
    ∙ ap (λ xs. option_map (λ k. most + k) (position is_free_row (drop most xs))) same
    ∙ sym (lowest_from rows most none)

-- and there is none at all where this is past the end
pub lowest_past : (rows : List ConfEntry) (most : ℕ) → NoneFreeBelow most rows → length rows ≤ most →
    None ≡ position is_free_row rows
lowest_past rows most none past =
    ap (λ xs. option_map (λ k. most + k) (position is_free_row xs)) (sym (drop_of_length-le rows past))
    ∙ sym (lowest_from rows most none)

-- THE BYTES IN USE

-- none by an empty array
pub used_fresh : (n : ℕ) → used (empty_array n) ≡ 0
used_fresh n =
    let all = sum_by-cons used_by empty_root (replicate (n - 1) null_entry) in
    let rest = sum_by-replicate used_by (n - 1) null_entry in omega arith

module _ {table table' : ConfTable} {A A' : List Entry} (tallied : Tallied table A) where
  -- rows change, and the array's bytes stay as many
  pub tallied_kept : KeepsTally table table' → used A' ≡ used A → Tallied table' A'
  tallied_kept keeps same = record {
    used = keeps.used ∙ tallied.used ∙ sym same;
    none_below = keeps.none_below tallied.none_below;
  }

-- bytes come in place of others, in the array as in the table
pub tallied_shifted : {table table' : ConfTable} {A A' : List Entry} (goes comes : ℕ) → Tallied table A →
    table' ≡ record table { used = (table.used + comes) - goes } → used A' + goes ≡ used A + comes → Tallied table' A'
tallied_shifted {table} {table'} {A} {A'} goes comes tallied is shifts = record {
  used = ap (λ (t : ConfTable). t.used) is ∙ omega (arith, tallied.used, shifts);
  none_below = subst (λ (t : ConfTable). NoneFreeBelow t.lowest t.rows.items) (sym is) tallied.none_below;
}

-- what stands for an array does so whatever the table counts
pub stands_counted : {s : Option Tree} {table table' : ConfTable} {A : List Entry} →
    table'.rows ≡ table.rows → table'.by_handle ≡ table.by_handle → Stands s table A → Stands s table' A
stands_counted {s} {table} {table'} {A} rows by_handle k = record {
  tree = k.tree;
  has_tree = k.has_tree;
  placed = record {
    export = k.placed.export;
    staging = k.placed.staging;
    root_has = k.placed.root_has;
    staging_has = k.placed.staging_has;
    root_apart = k.placed.root_apart;
    is_export = ap (λ v. handle_at v.items 0) rows ∙ k.placed.is_export;
    by_handle = λ h i.
        let e = k.placed.by_handle h i in (
          (λ x. ap (λ v. handle_at v.items i) rows ∙ e.0
              (ap (λ m. ordered.get (slice_cmp nat_cmp) m h) (sym by_handle) ∙ x)),
          (λ x. ap (λ m. ordered.get (slice_cmp nat_cmp) m h) by_handle
              ∙ e.1 (ap (λ v. handle_at v.items i) (sym rows) ∙ x)),
        );
    apart = λ i h is. k.placed.apart i h (ap (λ v. handle_at v.items i) (sym rows) ∙ is);
    covered = λ q n is. let P : Vec ConfEntry Global → Type 0 = λ v. (q ≡ k.tree.root) ⊎
        ((q ≡ k.placed.staging) ⊎ ((i : ℕ) × (handle_at v.items i ≡ Some q))) in
        subst P (sym rows) (k.placed.covered q n is);
    numbers = k.placed.numbers;
  };
  size = ap (λ v. length v.items) rows ∙ k.size;
  each = λ i r e at_r at_e. subst (λ v. RowIs k.tree v.items A i r e) (sym rows)
      (k.each i r e (ap (λ v. slice_get v.items i) (sym rows) ∙ at_r) at_e);
}
