-- Where the digests of a level are kept.
use Rattle.std.proofs.Common.{◌≡◌, ℕ, zero, suc, ◌+◌, ◌-◌, ◌*◌, ◌^◌, ◌/◌, ◌<◌, ◌≤◌, sym, ap, subst, ◌∙◌, inl, inr, ◌⊎◌, arith}
use Rattle.std.proofs.lemmas.Bool.{cases_lt}
use Rattle.std.proofs.lemmas.Nat.{pow-add}
use Rattle.std.proofs.Math.Nat.{pow-succ'}
use Rattle.partition_tree.specs.Digests.{most_levels, IsTreeSize}
use Rattle.partition_tree.specs.Levels.{width, start}

-- a level has sixteen times as many digests as the next
pub width_step : (levels level : ℕ) → level < levels → width levels level ≡ 16 * width levels (suc level)
width_step levels level lt =
    let e : levels - level ≡ 1 + (levels - suc level) = omega (arith, lt) in
    ap (λ (n : ℕ). 16 ^ n) e ∙ pow-add 16 1 (levels - suc level)

pub width_top : (levels : ℕ) → width levels levels ≡ 1
width_top levels = let e : levels - levels ≡ 0 = omega arith in ap (λ (n : ℕ). 16 ^ n) e

pub start_le : (levels l k : ℕ) → l ≤ k → start levels l ≤ start levels k
start_le levels l zero le =
    let none : l ≡ zero = omega (arith, le) in
    subst (λ (j : ℕ). start levels j ≤ start levels zero) (sym none) (omega arith)
start_le levels l (suc k) le =
    elim (cases_lt l (suc k)) [
      | inl lt ↦ omega (arith, start_le levels l k (omega (arith, lt)))
      | inr ge ↦
          let same : l ≡ suc k = omega (arith, ge, le) in
          subst (λ (j : ℕ). start levels j ≤ start levels (suc k)) (sym same) (omega arith)
    ]

-- a lower level lies before a higher one
pub before : (levels l k m n : ℕ) → l < k → m < width levels l → start levels l + m < start levels k + n
before levels l k m n lt within =
    let le = start_le levels (suc l) k (omega (arith, lt)) in
    omega (arith, le, within)

-- a place is that of one level and number
pub one_place : (levels l k m n : ℕ) → m < width levels l → n < width levels k → start levels l + m ≡ start levels k + n → (l ≡ k) × (m ≡ n)
one_place levels l k m n m_in n_in same =
    elim (cases_lt l k) [
      | inl lt ↦ absurd (omega (arith, same, before levels l k m n lt m_in))
      | inr ge ↦
          elim (cases_lt k l) [
            | inl lt ↦ absurd (omega (arith, same, before levels k l n m lt n_in))
            | inr le ↦
                let e : l ≡ k = omega (arith, ge, le) in
                let at : start levels l ≡ start levels k = ap (λ (j : ℕ). start levels j) e in
                (e, omega (arith, same, at))
          ]
    ]

-- the node over a digest
pub over : (m n : ℕ) → 16 * n ≤ m → m < 16 * n + 16 → n ≡ m / 16
over m n low high = omega (arith, low, high)

-- the powers of sixteen rise, so a size has one number of levels
pow_some : (n : ℕ) → 1 ≤ 16 ^ n
pow_some zero = omega arith
pow_some (suc n) = omega (arith, pow-succ' 16 n, pow_some n)

pow_rises : (a b : ℕ) → a < b → 16 ^ a < 16 ^ b
pow_rises a zero lt = absurd (omega (arith, lt))
pow_rises a (suc b) lt =
    elim (cases_lt a b) [
      | inl less ↦ omega (arith, pow_rises a b less, pow-succ' 16 b)
      | inr ge ↦
          let same : a ≡ b = omega (arith, ge, lt) in
          let power : 16 ^ a ≡ 16 ^ b = ap (λ (n : ℕ). 16 ^ n) same in
          omega (arith, power, pow-succ' 16 b, pow_some b)
    ]

pub same_levels : (a b : ℕ) → 16 ^ a ≡ 16 ^ b → a ≡ b
same_levels a b same =
    elim (cases_lt a b) [
      | inl lt ↦ absurd (omega (arith, same, pow_rises a b lt))
      | inr ge ↦
          elim (cases_lt b a) [
            | inl lt ↦ absurd (omega (arith, same, pow_rises b a lt))
            | inr le ↦ omega (arith, ge, le)
          ]
    ]

-- a level has at most as many digests as there are texts
pub pow_small : (n : ℕ) → n ≤ most_levels → 16 ^ n ≤ 4096
pow_small zero le = omega arith
pow_small (suc zero) le = omega arith
pow_small (suc (suc zero)) le = omega arith
pow_small (suc (suc (suc zero))) le = omega arith
pow_small (suc (suc (suc (suc n)))) le = absurd (omega (arith, le))

pub width_small : (levels level : ℕ) → levels ≤ most_levels → width levels level ≤ 4096
width_small levels level le = pow_small (levels - level) (omega (arith, le))

-- the sizes of trees
pub tree_sizes : (n levels : ℕ) → 1 ≤ levels → levels ≤ most_levels → n ≡ 16 ^ levels → (n ≡ 16) ⊎ ((n ≡ 256) ⊎ (n ≡ 4096))
tree_sizes n zero some few size = absurd (omega (arith, some))
tree_sizes n (suc zero) some few size = inl size
tree_sizes n (suc (suc zero)) some few size = inr (inl size)
tree_sizes n (suc (suc (suc zero))) some few size = inr (inr size)
tree_sizes n (suc (suc (suc (suc m)))) some few size = absurd (omega (arith, few))

-- level 0 begins at 0, and has all of them
pub width_zero : (levels : ℕ) → width levels 0 ≡ 16 ^ levels
width_zero levels = let none : levels - 0 ≡ levels = omega arith in ap (λ (n : ℕ). 16 ^ n) none

pub whole_width : (levels : ℕ) → start levels 1 ≡ 16 ^ levels
whole_width levels = let e : 0 + width levels 0 ≡ 16 ^ levels = omega (arith, width_zero levels) in e

-- a loop goes a level up
pub place_more : (levels level at many : ℕ) → at ≡ start levels level → many ≡ width levels level → at + many ≡ start levels (level + 1)
place_more levels level at many p q =
    let n : level + 1 ≡ suc level = omega arith in
    let s : at + many ≡ start levels (suc level) = omega (arith, p, q) in
    s ∙ ap (start levels) (sym n)

pub width_more : (levels level many : ℕ) → level < levels → many ≡ width levels level → many / 16 ≡ width levels (level + 1)
width_more levels level many lt q =
    let n : level + 1 ≡ suc level = omega arith in
    let s : many / 16 ≡ width levels (suc level) = omega (arith, q, width_step levels level lt) in
    s ∙ ap (width levels) (sym n)

pub tree_size : (n : ℕ) → IsTreeSize n → (n ≡ 16) ⊎ ((n ≡ 256) ⊎ (n ≡ 4096))
tree_size n t = tree_sizes n t.levels t.some t.few t.size
