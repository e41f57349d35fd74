-- Sums over numbers below a bound.
use Rattle.std.proofs.Common.{◌≡◌, ◌≢◌, ℕ, zero, suc, ◌+◌, ◌<◌, ◌≤◌, refl, ap, inl, inr, arith}
use Rattle.std.specs.Prelude.{◌==◌}
use Rattle.std.proofs.lemmas.Bool.{cases_eq, eq-eqb, ne_eqb}
use Rattle.pointer_tree.specs.Tree.{one_if, sum_to}

pub one_same : (p : ℕ) → one_if (p == p) ≡ 1
one_same p = rw (eq-eqb p p refl) refl

pub one_other : (p b : ℕ) → p ≢ b → one_if (p == b) ≡ 0
one_other p b ne = rw (ne_eqb p b ne) refl

pub sum_same : (n : ℕ) (f g : ℕ → ℕ) → ((j : ℕ) → j < n → f j ≡ g j) → sum_to n f ≡ sum_to n g
unfolding sum_to
sum_same zero f g h = refl
sum_same (suc n) f g h =
    let ih = sum_same n f g (λ j l. h j (omega arith)) in
    let e = h n (omega arith) in
    omega (arith, ih, e)

pub sum_zero : (n : ℕ) (f : ℕ → ℕ) → ((j : ℕ) → j < n → f j ≡ 0) → sum_to n f ≡ 0
unfolding sum_to
sum_zero zero f h = refl
sum_zero (suc n) f h =
    let ih = sum_zero n f (λ j l. h j (omega arith)) in
    let e = h n (omega arith) in
    omega (arith, ih, e)

-- one term is at most the sum
pub sum_term : (n : ℕ) (f : ℕ → ℕ) (j : ℕ) → j < n → f j ≤ sum_to n f
unfolding sum_to
sum_term zero f j l = absurd (omega arith)
sum_term (suc n) f j l = elim (cases_eq j n) [
  | inl e ↦ let same = ap f e in omega (arith, same)
  | inr ne ↦ let ih = sum_term n f j (omega arith) in omega (arith, ih)
]

-- and so are two
pub sum_two : (n : ℕ) (f : ℕ → ℕ) (i j : ℕ) → i < n → j < n → i ≢ j → f i + f j ≤ sum_to n f
unfolding sum_to
sum_two zero f i j l k ne = absurd (omega arith)
sum_two (suc n) f i j l k ne = elim (cases_eq i n) [
  | inl e ↦ let same = ap f e in let t = sum_term n f j (omega arith) in omega (arith, same, t)
  | inr ni ↦ elim (cases_eq j n) [
    | inl e ↦ let same = ap f e in let t = sum_term n f i (omega arith) in omega (arith, same, t)
    | inr nj ↦ let ih = sum_two n f i j (omega arith) (omega arith) ne in omega (arith, ih)
  ]
]

-- sums that differ at one place
pub sum_change : (n : ℕ) (f g : ℕ → ℕ) (i : ℕ) → i < n → ((j : ℕ) → j < n → j ≢ i → f j ≡ g j) → sum_to n f + g
    i ≡ sum_to n g + f i
unfolding sum_to
sum_change zero f g i l h = absurd (omega arith)
sum_change (suc n) f g i l h = elim (cases_eq i n) [
  | inl e ↦
      let before = sum_same n f g (λ j k. h j (omega arith) (omega arith)) in
      let ef = ap f e in
      let eg = ap g e in
      omega (arith, before, ef, eg)
  | inr ne ↦
      let ih = sum_change n f g i (omega arith) (λ j k d. h j (omega arith) d) in
      let last = h n (omega arith) (omega arith) in
      omega (arith, ih, last)
]
