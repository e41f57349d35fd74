-- Laws of sums over the values of a finite map.
use Rattle.std.proofs.Common.{length, ◌≡◌, ℕ, ◌+◌, Bool, true, false, cond, ◌&&◌, List, [], ◌∷◌, Some, None, refl, sym, ap, ◌∙◌, arith}
use Rattle.std.specs.Prelude.{T}
use Rattle.std.specs.declared.cmp.Ordering.{Ordering}
use Rattle.std.specs.declared.cmp.Ordering.TheVariants.{Less, Equal, Greater}
use Rattle.std.specs.Ordering.{is_eq, is_lt}
use Rattle.std.specs.Cmp.{IsTotalOrder, tied_itself}
use Rattle.std.specs.FinMap.{FinMap, find, put, is_sorted, get, insert, entries, entries-insert, entries_sorted, get-entries, len, len-entries}
use Rattle.std.specs.FinMap.Entries.{by_order, below_all}
use Rattle.server_trait.specs.Sums.{sum_values, total}

first : (a b : Bool) → T (a && b) → T a
first true b p = tt
first false b p = absurd p

second : (a b : Bool) → T (a && b) → T b
second true b p = p
second false b p = absurd p

less : (r : Ordering) → T (is_lt r) → r ≡ Less
less Less p = refl
less Equal p = absurd p
less Greater p = absurd p

module _ {K X : Type 0} {R : K → K → Ordering} (o : IsTotalOrder R) (f : X → ℕ) where
  -- a key below one that is below all is not there
  find_below : (x y : K) (es : List (K × X)) → R x y ≡ Less → T (below_all R y es) → find R x es ≡ None
  find_below x y [] p h = refl
  find_below x y (e ∷ es) p h =
      ap (λ r. cond (is_eq r) (Some e.1) (find R x es))
      (o.trans x y e.0 p (less _ (first (is_lt (R y e.0)) (below_all R y es) h)))
      ∙ find_below x y es p (second (is_lt (R y e.0)) (below_all R y es) h)

  sum_put-new : (k : K) (v : X) (es : List (K × X)) → find R k es ≡ None →
      sum_values f (put R k v es) ≡ f v + sum_values f es
  sum_put-new k v [] none = refl
  sum_put-new k v (e ∷ es) none =
      elim (R k e.0) as (λ r. cond (is_eq r) (Some e.1) (find R k es) ≡ None →
      sum_values f (by_order r ((k, v) ∷ e ∷ es) ((e.0, v) ∷ es) (e ∷ put R k v es)) ≡ f v +
      (f e.1 + sum_values f es)) [
        | Less ↦ λ _. refl
        | Equal ↦ λ no. absurd (let bad : Some e.1 ≡ None = no in cc)
        | Greater ↦ λ n. let ih = sum_put-new k v es n in omega (arith, ih)
      ] none

  sum_put-old : (k : K) (v u : X) (es : List (K × X)) → T (is_sorted R es) → find R k es ≡ Some u →
      sum_values f (put R k v es) + f u ≡ f v + sum_values f es
  sum_put-old k v u [] s is = absurd (let bad : None ≡ Some u = is in cc)
  sum_put-old k v u (e ∷ es) s is =
      elim (R k e.0) as (λ r. R k e.0 ≡ r → cond (is_eq r) (Some e.1) (find R k es) ≡ Some u →
      sum_values f (by_order r ((k, v) ∷ e ∷ es) ((e.0, v) ∷ es) (e ∷ put R k v es)) + f u ≡ f v +
      (f e.1 + sum_values f es)) [
        | Less ↦ λ p h. absurd
            (let none = find_below k e.0 es p (first (below_all R e.0 es) (is_sorted R es) s) in
            let bad : None ≡ Some u = sym none ∙ h in cc)
        | Equal ↦ λ _ h. let same : f e.1 ≡ f u = ap f (let q : Some e.1 ≡ Some u = h in cc) in omega (arith, same)
        | Greater ↦ λ _ h. let ih = sum_put-old k v u es (second (below_all R e.0 es) (is_sorted R es) s) h in
            omega (arith, ih)
      ] refl is

  pub total-insert_new : (m : FinMap R X) (k : K) (v : X) → get m k ≡ None → total f (insert m k v) ≡ f v + total f m
  unfolding total
  total-insert_new m k v none = ap (sum_values f) (entries-insert o m k v)
      ∙ sum_put-new k v (entries m) (sym (get-entries m k) ∙ none)

  pub total-insert_old : (m : FinMap R X) (k : K) (v u : X) → get m k ≡ Some u →
      total f (insert m k v) + f u ≡ f v + total f m
  unfolding total
  total-insert_old m k v u is =
      ap (λ l. sum_values f l + f u) (entries-insert o m k v)
      ∙ sum_put-old k v u (entries m) (entries_sorted m) (sym (get-entries m k) ∙ is)

  find_tied : (x y : K) (es : List (K × X)) → R x y ≡ Equal → T (below_all R y es) → find R x es ≡ None
  find_tied x y [] p h = refl
  find_tied x y (e ∷ es) p h =
      ap (λ r. cond (is_eq r) (Some e.1) (find R x es))
      (o.congr x y e.0 p ∙ less _ (first (is_lt (R y e.0)) (below_all R y es) h))
      ∙ find_tied x y es p (second (is_lt (R y e.0)) (below_all R y es) h)

  sum_none : (es : List (K × X)) → T (is_sorted R es) → ((k : K) (v : X) → find R k es ≡ Some v → f v ≡ 0) →
      sum_values f es ≡ 0
  sum_none [] s h = refl
  sum_none (e ∷ es) s h =
      let here = h e.0 e.1 (ap (λ r. cond (is_eq r) (Some e.1) (find R e.0 es)) (tied_itself o e.0)) in
      let rest = sum_none es (second (below_all R e.0 es) (is_sorted R es) s) (λ k v is. h k v (later k v is)) in
      omega (arith, here, rest)
    where
      later : (k : K) (v : X) → find R k es ≡ Some v → find R k (e ∷ es) ≡ Some v
      later k v is = elim (R k e.0) as (λ r. R k e.0 ≡ r → cond (is_eq r) (Some e.1) (find R k es) ≡ Some v) [
        | Less ↦ λ _. is
        | Equal ↦ λ p. absurd
            (let none = find_tied k e.0 es p (first (below_all R e.0 es) (is_sorted R es) s) in
            let bad : None ≡ Some v = sym none ∙ is in cc)
        | Greater ↦ λ _. is
      ] refl

  -- where each value counts nothing
  pub total-none : (m : FinMap R X) → ((k : K) (v : X) → get m k ≡ Some v → f v ≡ 0) → total f m ≡ 0
  unfolding total
  total-none m h = sum_none (entries m) (entries_sorted m) (λ k v is. h k v (get-entries m k ∙ is))

sum_ones : {K X : Type 0} (es : List (K × X)) → sum_values (λ _. 1) es ≡ length es
sum_ones [] = refl
sum_ones (e ∷ es) = let rest = sum_ones es in omega (arith, rest)

-- how many values there are
pub total-ones : {K X : Type 0} {R : K → K → Ordering} (m : FinMap R X) → total (λ _. 1) m ≡ len m
unfolding total
total-ones m = sum_ones (entries m) ∙ sym (len-entries m)
