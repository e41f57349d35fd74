-- Byte strings in their order, which keeps those together that begin alike.
use Rattle.std.proofs.Common.{◌≡◌, ℕ, ◌<◌, true, false, List, [], ◌∷◌, ◌++◌, refl, sym, ap, ◌∙◌, arith, append_assoc}
use Rattle.std.specs.declared.cmp.Ordering.TheVariants.{Less, Equal, Greater}
use Rattle.std.specs.Ordering.{nat_cmp, is_le, ordering_then}
use Rattle.std.specs.Cmp.{ranked, nat_cmp_is}
use Rattle.std.specs.Cmp.Lexicographic.{slice_cmp}

tied : (x : ℕ) → nat_cmp x x ≡ Equal
tied x = sym (nat_cmp_is x x Equal refl)

-- what both begin with does not count
pub cmp_after : (d a b : List ℕ) → slice_cmp nat_cmp (d ++ a) (d ++ b) ≡ slice_cmp nat_cmp a b
cmp_after [] a b = refl
cmp_after (x ∷ d) a b = ap (λ r. ordering_then r (slice_cmp nat_cmp (d ++ a) (d ++ b))) (tied x) ∙ cmp_after d a b

-- a beginning comes first
pub beginning_first : (d b : List ℕ) → is_le (slice_cmp nat_cmp d (d ++ b)) ≡ true
beginning_first [] [] = refl
beginning_first [] (y ∷ b) = refl
beginning_first (x ∷ d) b = ap (λ r. is_le (ordering_then r (slice_cmp nat_cmp d (d ++ b)))) (tied x)
    ∙ beginning_first d b

-- BETWEEN A SLASH AND WHAT FOLLOWS IT

pub in_between : (top q : List ℕ) → is_le (slice_cmp nat_cmp (top ++ 47 ∷ []) q) ≡ true →
    is_le (slice_cmp nat_cmp (top ++ 48 ∷ []) q) ≡ false →
    (rest : List ℕ) × (q ≡ top ++ 47 ∷ rest)
in_between [] [] a b = absurd (let bad : false ≡ true = a in cc)
in_between (x ∷ top) [] a b = absurd (let bad : false ≡ true = a in cc)
in_between [] (y ∷ q) a b =
    elim (nat_cmp 47 y) as (λ r. r ≡ nat_cmp 47 y → is_le (ordering_then r (slice_cmp nat_cmp [] q)) ≡ true →
    (rest : List ℕ) × (y ∷ q ≡ 47 ∷ rest)) [
      | Less ↦ λ e _. absurd (above (ranked 47 y Less e))
      | Equal ↦ λ e _. (let same : 47 ≡ y = ranked 47 y Equal e in (q, ap (λ z. z ∷ q) (sym same)))
      | Greater ↦ λ _ a'. absurd (let bad : false ≡ true = a' in cc)
    ] refl a
  where
    above : 47 < y → ⊥
    above less = elim (nat_cmp 48 y) as (λ r. r ≡ nat_cmp 48 y →
        is_le (ordering_then r (slice_cmp nat_cmp [] q)) ≡ false → ⊥) [
          | Less ↦ λ _ b'. (let bad : true ≡ false = b' in cc)
          | Equal ↦ λ _ b'. (let bad : true ≡ false = sym (beginning_first [] q) ∙ b' in cc)
          | Greater ↦ λ e _. (let below : y < 48 = ranked 48 y Greater e in absurd (omega arith))
        ] refl b
in_between (x ∷ top) (y ∷ q) a b =
    elim (nat_cmp x y) as (λ r. r ≡ nat_cmp x y →
    is_le (ordering_then r (slice_cmp nat_cmp (top ++ 47 ∷ []) q)) ≡ true →
    is_le (ordering_then r (slice_cmp nat_cmp (top ++ 48 ∷ []) q)) ≡ false →
    (rest : List ℕ) × (y ∷ q ≡ x ∷ (top ++ 47 ∷ rest))) [
      | Less ↦ λ _ _ b'. absurd (let bad : true ≡ false = b' in cc)
      | Equal ↦ λ e a' b'.
          let same : x ≡ y = ranked x y Equal e in
          let rest = in_between top q a' b' in
          (rest.0, ap (λ z. z ∷ q) (sym same) ∙ ap (λ l. x ∷ l) rest.1)
      | Greater ↦ λ _ a' _. absurd (let bad : false ≡ true = a' in cc)
    ] refl a b

pub from_slash : (top rest : List ℕ) → is_le (slice_cmp nat_cmp (top ++ 47 ∷ []) (top ++ 47 ∷ rest)) ≡ true
from_slash top rest = ap (λ l. is_le (slice_cmp nat_cmp (top ++ 47 ∷ []) l)) (sym (append_assoc top (47 ∷ []) rest))
    ∙ beginning_first (top ++ 47 ∷ []) rest

pub before_next : (top rest : List ℕ) → is_le (slice_cmp nat_cmp (top ++ 48 ∷ []) (top ++ 47 ∷ rest)) ≡ false
before_next top rest = ap is_le (cmp_after top (48 ∷ []) (47 ∷ rest))
    ∙ ap (λ r. is_le (ordering_then r (slice_cmp nat_cmp [] rest))) (sym (nat_cmp_is 48 47 Greater (omega arith)))

-- the range runs forward
pub forward : (top low high : List ℕ) → low ≡ top ++ 47 ∷ [] → high ≡ top ++ 48 ∷ [] →
    slice_cmp nat_cmp low high ≡ Less
forward top low high low_is high_is =
    ap (λ l. slice_cmp nat_cmp l high) low_is ∙ ap (slice_cmp nat_cmp (top ++ 47 ∷ [])) high_is
    ∙ cmp_after top (47 ∷ []) (48 ∷ [])
    ∙ ap (λ r. ordering_then r (slice_cmp nat_cmp [] [])) (sym (nat_cmp_is 47 48 Less (omega arith)))
