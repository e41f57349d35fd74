-- Where a walk settles, by its vectors.
use Rattle.std.proofs.Common.{◌≡◌, ◌≢◌, ℕ, zero, suc, ◌+◌, ◌-◌, ◌<◌, ◌≤◌, List, [], ◌∷◌, drop, length, get_or, refl, sym, ap, ◌∙◌, arith}
use Rattle.state_transfer.specs.Stand.{settled}

abbrev pub Item : Type 0
Item = ℕ × List ℕ

pub drop_all : (xs : List Item) (n : ℕ) → n ≡ length xs → drop n xs ≡ []
drop_all [] zero e = refl
drop_all [] (suc n) e = refl
drop_all (x ∷ xs) zero e = absurd (omega (arith, e))
drop_all (x ∷ xs) (suc n) e = drop_all xs n (omega (arith, e))

pub drop_some : (xs : List Item) (n : ℕ) → n < length xs → drop n xs ≢ []
drop_some [] n below = absurd (omega (arith, below))
drop_some (x ∷ xs) zero below = λ e. let bad : x ∷ xs ≡ [] = e in cc
drop_some (x ∷ xs) (suc n) below = drop_some xs n (omega (arith, below))

-- with nothing wanted a fetch goes down
pub goes_down : (l : ℕ) (rest lower : List Item) → 0 < l → rest ≡ [] → settled l rest lower ≡ settled (l - 1) lower []
goes_down zero rest lower some none = absurd (omega (arith, some))
goes_down (suc l) rest lower some none =
    let e : l ≡ suc l - 1 = omega arith in
    ap (λ r. settled (suc l) r lower) none ∙ ap (λ (n : ℕ). settled n lower []) e

-- with something wanted it stands where it is
pub stays_put : (l : ℕ) (rest lower : List Item) → l ≢ 0 → rest ≢ [] →
    settled l rest lower ≡ record { level = l; rest = rest; lower = lower }
stays_put zero rest lower some wanted = absurd (some refl)
stays_put (suc l) [] lower some wanted = absurd (wanted refl)
stays_put (suc l) (x ∷ xs) lower some wanted = refl

-- the first of what is left, and the rest of it
pub head_is : (xs : List Item) (n : ℕ) (d x : Item) (ys : List Item) → drop n xs ≡ x ∷ ys → get_or xs n d ≡ x
head_is [] zero d x ys e = absurd (let bad : [] ≡ x ∷ ys = e in cc)
head_is [] (suc n) d x ys e = absurd (let bad : [] ≡ x ∷ ys = e in cc)
head_is (z ∷ xs) zero d x ys e = let same : z ≡ x = (let q : z ∷ xs ≡ x ∷ ys = e in cc) in same
head_is (z ∷ xs) (suc n) d x ys e = head_is xs n d x ys e

pub tail_is : (xs : List Item) (n : ℕ) (x : Item) (ys : List Item) → drop n xs ≡ x ∷ ys → drop (n + 1) xs ≡ ys
tail_is [] zero x ys e = absurd (let bad : [] ≡ x ∷ ys = e in cc)
tail_is [] (suc n) x ys e = absurd (let bad : [] ≡ x ∷ ys = e in cc)
tail_is (z ∷ xs) zero x ys e = let same : xs ≡ ys = (let q : z ∷ xs ≡ x ∷ ys = e in cc) in same
tail_is (z ∷ xs) (suc n) x ys e =
    let same : suc n + 1 ≡ suc (n + 1) = omega arith in
    ap (λ (m : ℕ). drop m (z ∷ xs)) same ∙ tail_is xs n x ys e
