-- Counts of two tests over one list.
use Rattle.std.proofs.Common.{◌≡◌, ℕ, ◌+◌, ◌<◌, ◌≤◌, Bool, true, false, cond, List, [], ◌∷◌, map, length, get_or, set, refl, ap, arith}
use Rattle.std.specs.List.{count_by, All, Contains}
use Rattle.std.proofs.lemmas.List.Sums.{sum_by-cons, sum_by-set}
use Rattle.std.proofs.lemmas.List.Elements.{All-head, All-tail, Contains-append_right}

abbrev pub bit : Bool → ℕ
bit b = cond b 1 0

pub count_by-cons : {X : Type 0} (p : X → Bool) (x : X) (xs : List X) → count_by p (x ∷ xs) ≡ bit (p x) + count_by p xs
count_by-cons p x xs = sum_by-cons (λ y. bit (p y)) x xs

pub bits-le : (a b : Bool) → (a ≡ true → b ≡ true) → bit a ≤ bit b
bits-le false b g = omega arith
bits-le true true g = omega arith
bits-le true false g = absurd (let e : false ≡ true = g refl in cc)

-- where each element that passes p passes q
pub count_by-weaker : {X : Type 0} (p q : X → Bool) (xs : List X) → All (λ x. p x ≡ true → q x ≡ true) xs →
    count_by p xs ≤ count_by q xs
count_by-weaker p q [] h = omega arith
count_by-weaker {X} p q (x ∷ xs) h =
    let P : X → Type 0 = λ y. p y ≡ true → q y ≡ true in
    let here : p x ≡ true → q x ≡ true = All-head P x xs h in
    let rest : count_by p xs ≤ count_by q xs = count_by-weaker p q xs (All-tail P x xs h) in
    let one : bit (p x) ≤ bit (q x) = bits-le (p x) (q x) here in
    rw (count_by-cons p x xs, count_by-cons q x xs) (omega arith)

-- an element passes p and not q
abbrev pub Found : {X : Type 0} → (X → Bool) → (X → Bool) → List X → Type 0
Found {X} p q xs = (x : X) × Contains xs x × (p x ≡ true) × (q x ≡ false)

found_later : {X : Type 0} (p q : X → Bool) (x : X) (xs : List X) → Found p q xs → Found p q (x ∷ xs)
found_later p q x xs found = (found.0, Contains-append_right (x ∷ []) xs found.0 found.1, found.2, found.3)

count_cases : {X : Type 0} (p q : X → Bool) (x : X) (xs : List X) → (count_by q xs < count_by p xs → Found p q xs) →
    (a b : Bool) → p x ≡ a → q x ≡ b → bit b + count_by q xs < bit a + count_by p xs → Found p q (x ∷ xs)
count_cases p q x xs rest true false ea eb e = (x, (0, omega arith, refl), ea, eb)
count_cases p q x xs rest true true ea eb e = found_later p q x xs (rest (omega arith))
count_cases p q x xs rest false true ea eb e = found_later p q x xs (rest (omega arith))
count_cases p q x xs rest false false ea eb e = found_later p q x xs (rest (omega arith))

-- where more pass p than q, some element passes p and not q
pub count_by_more : {X : Type 0} (p q : X → Bool) (xs : List X) → count_by q xs < count_by p xs → Found p q xs
count_by_more p q [] h = absurd (omega arith)
count_by_more p q (x ∷ xs) h =
    count_cases p q x xs (count_by_more p q xs) (p x) (q x) refl refl
    (rw (← count_by-cons p x xs, ← count_by-cons q x xs) h)

-- a change of each element, by which what passes p comes to pass q
pub count_by-map : {X Y : Type 0} (p : X → Bool) (q : Y → Bool) (g : X → Y) (xs : List X) →
    ((x : X) → p x ≡ true → q (g x) ≡ true) → count_by p xs ≤ count_by q (map g xs)
count_by-map p q g [] h = omega arith
count_by-map p q g (x ∷ xs) h =
    let rest : count_by p xs ≤ count_by q (map g xs) = count_by-map p q g xs h in
    let one : bit (p x) ≤ bit (q (g x)) = bits-le (p x) (q (g x)) (h x) in
    rw (count_by-cons p x xs, count_by-cons q (g x) (map g xs)) (omega arith)

-- one element is changed, and if the old one passes so does the new one
pub count_by-set_le : {X : Type 0} (p : X → Bool) (xs : List X) (i : ℕ) (y d : X) → i < length xs →
    (p (get_or xs i d) ≡ true → p y ≡ true) → count_by p xs ≤ count_by p (set xs i y)
count_by-set_le p xs i y d l h =
    let e : count_by p (set xs i y) + bit (p (get_or xs i d)) ≡ count_by p xs + bit (p y) = sum_by-set
    (λ z. bit (p z)) xs i y d l in
    let one : bit (p (get_or xs i d)) ≤ bit (p y) = bits-le (p (get_or xs i d)) (p y) h in
    omega arith

pub count_by-set_same : {X : Type 0} (p : X → Bool) (xs : List X) (i : ℕ) (y d : X) → i < length xs →
    p y ≡ p (get_or xs i d) → count_by p (set xs i y) ≡ count_by p xs
count_by-set_same p xs i y d l h =
    let e : count_by p (set xs i y) + bit (p (get_or xs i d)) ≡ count_by p xs + bit (p y) = sum_by-set
    (λ z. bit (p z)) xs i y d l in
    let one : bit (p y) ≡ bit (p (get_or xs i d)) = ap bit h in
    omega arith

pub count_by-map_same : {X Y : Type 0} (p : Y → Bool) {q : X → Bool} (g : X → Y) (xs : List X) →
    ((x : X) → p (g x) ≡ q x) → count_by p (map g xs) ≡ count_by q xs
count_by-map_same p g [] h = refl
count_by-map_same p {q} g (x ∷ xs) h =
    let rest : count_by p (map g xs) ≡ count_by q xs = count_by-map_same p g xs h in
    let one : bit (p (g x)) ≡ bit (q x) = ap bit (h x) in
    rw (count_by-cons p (g x) (map g xs), count_by-cons q x xs) (omega arith)
