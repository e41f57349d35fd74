-- The way up from a directory passes each directory once, unless it leads round.
use Rattle.std.proofs.Common.{◌≡◌, ◌≢◌, ◌⊎◌, inl, inr, ℕ, zero, suc, ◌+◌, ◌-◌, ◌<◌, ◌≤◌, arith, Bool, true, false, List, [], ◌∷◌, length, refl, sym, ap, ◌∙◌, subst}
use Rattle.std.specs.Prelude.{◌||◌}
use Rattle.std.specs.List.{IsDistinct, AllByRecursion, list_any}
use Rattle.std.proofs.Math.Dec.{eqb}
use Rattle.std.proofs.lemmas.Bool.{eqb-true, cases_lt}
use Rattle.std.proofs.lemmas.Bool.Decides.{eqb_tells}
use Rattle.std.proofs.lemmas.Map.Steps.{length-le_from_distinct_below}
use Rattle.server_trait.proofs.TreeLaws.{one_or_not}
use Rattle.inode_tree.specs.Tables.{Tables, climb, IsUnder}
use Rattle.inode_server.specs.Found.{IsWay}

-- two numbers that are not one
unlike : (a b : ℕ) → a ≢ b → eqb a b ≡ false
unlike a b ne = by (eqb_tells a b)
  where
    by : (((eqb a b ≡ true) × (a ≡ b)) ⊎ ((eqb a b ≡ false) × (a ≢ b))) → eqb a b ≡ false
    by (inl x) = absurd (ne x.1)
    by (inr x) = x.0

module _ (t : Tables) (top i : ℕ) where
  -- no directory of the first so many is the top
  abbrev pub Misses : ℕ → Type 0
  Misses m = (j : ℕ) → j < m → climb t j i ≢ top

  pub more : (m : ℕ) → Misses m → climb t m i ≢ top → Misses (suc m)
  more m below here j l = by (one_or_not j m)
    where
      by : (j ≡ m) ⊎ (j ≢ m) → climb t j i ≢ top
      by (inl e) = λ at. here (ap (λ j. climb t j i) (sym e) ∙ at)
      by (inr ne) = below j (omega (arith, l, ne))

  pub more_way : (m : ℕ) → IsWay t m i → 1 ≤ t.counts.links (climb t m i) → IsWay t (suc m) i
  more_way m below here j l = by (one_or_not j m)
    where
      by : (j ≡ m) ⊎ (j ≢ m) → 1 ≤ t.counts.links (climb t j i)
      by (inl e) = subst (λ j. 1 ≤ t.counts.links (climb t j i)) (sym e) here
      by (inr ne) = below j (omega (arith, l, ne))

  -- the first that is the top, if one of so many is
  least : (m : ℕ) → Misses m ⊎ ((k : ℕ) × (k < m) × (climb t k i ≡ top) × Misses k)
  least zero = inl (λ j l. absurd (omega (arith, l)))
  least (suc m) = by (least m) (one_or_not (climb t m i) top)
    where
      by : (Misses m ⊎ ((k : ℕ) × (k < m) × (climb t k i ≡ top) × Misses k)) →
          (climb t m i ≡ top) ⊎ (climb t m i ≢ top) →
          Misses (suc m) ⊎ ((k : ℕ) × (k < suc m) × (climb t k i ≡ top) × Misses k)
      by (inr found) c = inr (found.0, (let l = found.1 in omega (arith, l)), found.2, found.3)
      by (inl none) (inl at) = inr (m, omega arith, at, none)
      by (inl none) (inr ne) = inl (more m none ne)

  -- from equal places the way is the same
  onward : (a b k : ℕ) → climb t a i ≡ climb t b i → climb t (k + a) i ≡ climb t (k + b) i
  onward a b zero same = subst (λ x. climb t x i ≡ climb t (0 + b) i) (let e : a ≡ 0 + a = omega arith in e)
      (subst (λ x. climb t a i ≡ climb t x i) (let e : b ≡ 0 + b = omega arith in e) same)
  onward a b (suc k) same =
      let rest = ap t.parent (onward a b k same) in
      subst (λ x. climb t x i ≡ climb t (suc k + b) i) (let e : suc (k + a) ≡ suc k + a = omega arith in e)
      (subst (λ x. climb t (suc (k + a)) i ≡ climb t x i) (let e : suc (k + b) ≡ suc k + b = omega arith in e) rest)

  module _ (m : ℕ) (at : climb t m i ≡ top) (first : Misses m) where
    -- two places on the way to the first top differ
    differ : (a b : ℕ) → a < b → b ≤ m → climb t a i ≢ climb t b i
    differ a b l le same =
        let k : ℕ = m - b in
        let again = onward a b k same in
        let to : k + b ≡ m = omega (arith, le) in
        let less : k + a < m = omega (arith, l, le) in
        first (k + a) less (again ∙ ap (λ j. climb t j i) to ∙ at)

    -- the first so many places
    abbrev places : ℕ → List ℕ
    places zero = []
    places (suc k) = climb t k i ∷ places k

    size : (k : ℕ) → length (places k) ≡ k
    size zero = refl
    size (suc k) = ap suc (size k)

    apart : (k c : ℕ) → k ≤ c → c ≤ m → AllByRecursion (λ y. eqb (climb t c i) y ≡ false) (places k)
    apart zero c le most = tt
    apart (suc k) c le most = (
      unlike (climb t c i) (climb t k i) (λ e. differ k c (omega (arith, le)) most (sym e)),
      apart k c (omega (arith, le)) most,
    )

    distinct : (k : ℕ) → k ≤ suc m → IsDistinct eqb (places k)
    unfolding IsDistinct
    distinct zero le = tt
    distinct (suc k) le = (apart k k (omega arith) (omega (arith, le)), distinct k (omega (arith, le)))

    module _ (n : ℕ) (within : (k : ℕ) → k ≤ m → climb t k i < n) where
      all_below : (k : ℕ) → k ≤ suc m → (q : ℕ) → list_any (eqb q) (places k) ≡ true → q < n
      all_below zero le q bad = absurd (let b : false ≡ true = bad in cc)
      all_below (suc k) le q found = by (λ f. all_below k (omega (arith, le)) q f) (eqb q (climb t k i)) refl found
        where
          by : (list_any (eqb q) (places k) ≡ true → q < n) → (b : Bool) → eqb q (climb t k i) ≡ b →
              (b || list_any (eqb q) (places k)) ≡ true → q < n
          by rest true e f = subst (λ x. x < n) (sym (eqb-true q (climb t k i) e)) (within k (omega (arith, le)))
          by rest false e f = rest f

      few : m < n
      few =
          let most = length-le_from_distinct_below (places (suc m)) n (distinct (suc m) (omega arith))
          (all_below (suc m) (omega arith)) in
          let all = size (suc m) in
          omega (arith, most, all)

  -- a way that misses the top for as long as there are inodes never comes to it
  pub never : (n : ℕ) → ((k : ℕ) → IsWay t k i → climb t k i < n) → Misses n → IsUnder t top i → ⊥
  never n within misses under = by (least (suc under.0))
    where
      by : (Misses (suc under.0) ⊎ ((k : ℕ) × (k < suc under.0) × (climb t k i ≡ top) × Misses k)) → ⊥
      by (inl none) = none under.0 (omega arith) under.1
      by (inr found) =
          let l = found.1 in
          let less = few found.0 found.2 found.3 n (λ k le. within k (λ j lt. under.2 j (omega (arith, l, le, lt)))) in
          misses found.0 less found.2

  -- a directory without a name is as far as the way leads
  pub ends : (m : ℕ) → t.counts.links (climb t m i) ≡ 0 → Misses (suc m) → IsUnder t top i → ⊥
  ends m none misses under = by (cases_lt m under.0)
    where
      by : (m < under.0) ⊎ (under.0 ≤ m) → ⊥
      by (inl l) = let some = under.2 m l in omega (arith, none, some)
      by (inr le) = misses under.0 (omega (arith, le)) under.1
