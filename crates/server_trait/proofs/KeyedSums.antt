-- A sum over a finite map is the sum over a list that has each of its keys once.
use Rattle.std.proofs.Common.{◌≡◌, ◌≢◌, ℕ, zero, suc, arith, List, [], ◌∷◌, length, slice_get, Option, Some, None, IsSomeAnd, refl, sym, ap, ◌∙◌, subst}
use Rattle.std.specs.Prelude.{sum_by}
use Rattle.std.specs.Cmp.Lexicographic.{nat_list_cmp_total}
use Rattle.std.specs.FinMap.{get, remove}
use Rattle.std.proofs.lemmas.List.Sums.{sum_by-cons}
use Rattle.server_trait.specs.Tree.{ByBytes}
use Rattle.server_trait.specs.Sums.{total}
use Rattle.server_trait.proofs.SumLaws.{total-none}
use Rattle.server_trait.proofs.TreeLaws.{some_and, some_none, some_same, get-remove_same, get-remove_other, total-remove}

module _ {X Y V : Type 0} (key : X → Option (List ℕ)) (f : V → ℕ) (g : Y → ℕ) where
  -- the list of xs has each key of the map once, and what stands beside it in the list of ys counts as much as the
  -- key's value
  pub record IsListed (m : ByBytes V) (xs : List X) (ys : List Y) : Type 0 where
    pub size : length xs ≡ length ys
    pub once : (i j : ℕ) (x y : X) (h : List ℕ) → slice_get xs i ≡ Some x → slice_get xs j ≡ Some y → key x ≡ Some h →
        key y ≡ Some h → i ≡ j
    pub covers : (q : List ℕ) (v : V) → get m q ≡ Some v →
        (i : ℕ) × (x : X) × (slice_get xs i ≡ Some x) × (key x ≡ Some q)
    pub none : (i : ℕ) (x : X) (y : Y) → slice_get xs i ≡ Some x → slice_get ys i ≡ Some y → key x ≡ None → g y ≡ 0
    pub some : (i : ℕ) (x : X) (y : Y) (h : List ℕ) → slice_get xs i ≡ Some x → slice_get ys i ≡ Some y →
        key x ≡ Some h → IsSomeAnd (get m h) (λ v. f v ≡ g y)

  below : (m : ByBytes V) (x : X) (xs : List X) (y : Y) (ys : List Y) → IsListed m (x ∷ xs) (y ∷ ys) → key x ≡ None →
      IsListed m xs ys
  below m x xs y ys k no_key = record {
    size = omega (arith, k.size);
    once = λ i j a b h at_i at_j ka kb. let e = k.once (suc i) (suc j) a b h at_i at_j ka kb in omega arith;
    covers = λ q v is. let c = k.covers q v is in by_index c.0 c.1 q c.2 c.3;
    none = λ i. k.none (suc i);
    some = λ i. k.some (suc i);
  }
    where
      by_index : (i : ℕ) (z : X) (q : List ℕ) → slice_get (x ∷ xs) i ≡ Some z → key z ≡ Some q →
          (i : ℕ) × (x : X) × (slice_get xs i ≡ Some x) × (key x ≡ Some q)
      by_index zero z q at is = absurd
          (some_none is (ap key (let same : z ≡ x = (let e : Some x ≡ Some z = at in cc) in same) ∙ no_key))
      by_index (suc i) z q at is = (i, z, at, is)

  beside : (m : ByBytes V) (x : X) (xs : List X) (y : Y) (ys : List Y) (h : List ℕ) → IsListed m (x ∷ xs) (y ∷ ys) →
      key x ≡ Some h → IsListed (remove m h) xs ys
  beside m x xs y ys h k is_key = record {
    size = omega (arith, k.size);
    once = λ i j a b q at_i at_j ka kb. let e = k.once (suc i) (suc j) a b q at_i at_j ka kb in omega arith;
    covers = λ q v is.
        let ne : q ≢ h = λ e. some_none is (ap (get (remove m h)) e ∙ get-remove_same m h) in
        let c = k.covers q v (sym (get-remove_other m h q ne) ∙ is) in by_index c.0 c.1 q ne c.2 c.3;
    none = λ i. k.none (suc i);
    some = λ i a b q at_i at_y ka.
        let ne : q ≢ h = λ e.
        (let bad = k.once (suc i) zero a x h at_i refl (ka ∙ ap Some e) is_key in absurd (omega arith)) in
        subst (λ o. IsSomeAnd o (λ v. f v ≡ g b)) (sym (get-remove_other m h q ne)) (k.some (suc i) a b q at_i at_y ka);
  }
    where
      by_index : (i : ℕ) (z : X) (q : List ℕ) → q ≢ h → slice_get (x ∷ xs) i ≡ Some z → key z ≡ Some q →
          (i : ℕ) × (x : X) × (slice_get xs i ≡ Some x) × (key x ≡ Some q)
      by_index zero z q ne at is = absurd
          (ne (some_same is (ap key (let same : z ≡ x = (let e : Some x ≡ Some z = at in cc) in same) ∙ is_key)))
      by_index (suc i) z q ne at is = (i, z, at, is)

  -- the sum over the map is the sum over the list
  pub total-listed : (m : ByBytes V) (xs : List X) (ys : List Y) → IsListed m xs ys → total f m ≡ sum_by g ys
  total-listed m [] [] k = total-none nat_list_cmp_total f m
      (λ q v is. let c = k.covers q v is in absurd (some_none c.2 refl))
  total-listed m [] (y ∷ ys) k = absurd (let e = k.size in omega arith)
  total-listed m (x ∷ xs) [] k = absurd (let e = k.size in omega arith)
  total-listed m (x ∷ xs) (y ∷ ys) k = elim (key x) as (λ o. key x ≡ o → total f m ≡ sum_by g (y ∷ ys)) [
    | None ↦ λ is.
        let zero_here = k.none zero x y refl refl is in
        let rest = total-listed m xs ys (below m x xs y ys k is) in
        let sum = sum_by-cons g y ys in
        omega (arith, zero_here, rest, sum)
    | Some h ↦ λ is.
        let v = some_and (get m h) (λ v. f v ≡ g y) (k.some zero x y h refl refl is) in
        let here = total-remove f m h v.0 v.1 in
        let rest = total-listed (remove m h) xs ys (beside m x xs y ys h k is) in
        let same = v.2 in
        let sum = sum_by-cons g y ys in
        omega (arith, here, rest, same, sum)
  ] refl
