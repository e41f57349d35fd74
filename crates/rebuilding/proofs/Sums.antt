-- Names counted by directories are names counted by what they lead to.
use Rattle.std.proofs.Common.{◌≡◌, ◌≤◌, ◌<◌, ◌+◌, ℕ, zero, suc, List, [], ◌∷◌, Bool, true, cond, length, refl, sym, ap, ◌∙◌, arith, inl, inr, count_by}
use Rattle.std.specs.Prelude.{◌==◌, ◌*◌, sum_by, nat_lt, get_or}
use Rattle.std.specs.List.{list_all}
use Rattle.std.proofs.lemmas.Bool.{cases_eq, eq-eqb, ne_eqb, and_parts, lt-ltb}
use Rattle.std.proofs.lemmas.Bool.Decides.{nat_tests}
use Rattle.std.proofs.lemmas.List.Sums.{sum_by-cons}
use Rattle.abs_model.specs.declared.entry.NameRow.{NameRow}
use Rattle.abs_model.specs.declared.entry.Entry.{Entry}
use Rattle.abs_model.specs.Objects.{names_of, bytes_of, used_by}
use Rattle.abs_model.specs.Array.{links, used}

-- one where a test holds
abbrev pub one_of : Bool → ℕ
one_of b = cond b 1 0

-- the sum of the first values
abbrev pub sum_to : (ℕ → ℕ) → ℕ → ℕ
sum_to f zero = 0
sum_to f (suc n) = sum_to f n + f n

sum_to-both : (f g : ℕ → ℕ) (n : ℕ) → sum_to (λ i. f i + g i) n ≡ sum_to f n + sum_to g n
sum_to-both f g zero = refl
sum_to-both f g (suc n) = let rest = sum_to-both f g n in omega (arith, rest)

pub sum_to-zero : (n : ℕ) → sum_to (λ i. 0) n ≡ 0
sum_to-zero zero = refl
sum_to-zero (suc n) = let rest = sum_to-zero n in omega (arith, rest)

pub sum_to-most : (f g : ℕ → ℕ) (n : ℕ) → ((i : ℕ) → i < n → f i ≤ g i) → sum_to f n ≤ sum_to g n
sum_to-most f g zero less = omega arith
sum_to-most f g (suc n) less = let rest = sum_to-most f g n (λ i below. less i (omega (arith, below))) in let here = less n (omega arith) in omega (arith, rest, here)

pub sum_to-same : (f g : ℕ → ℕ) (n : ℕ) → ((i : ℕ) → i < n → f i ≡ g i) → sum_to f n ≡ sum_to g n
sum_to-same f g zero same = refl
sum_to-same f g (suc n) same = let rest = sum_to-same f g n (λ i below. same i (omega (arith, below))) in let here = same n (omega arith) in omega (arith, rest, here)

-- one index is counted once
one_at : (k n : ℕ) → sum_to (λ i. one_of (k == i)) n ≡ one_of (nat_lt k n)
one_at k zero = grind (arith, nat_tests)
one_at k (suc n) =
    let rest = one_at k n in
    elim (cases_eq k n) as (λ _. sum_to (λ i. one_of (k == i)) (suc n) ≡ one_of (nat_lt k (suc n))) [
      | inl e ↦
          let here : one_of (k == n) ≡ suc zero = ap one_of (eq-eqb k n e) in
          let before : one_of (nat_lt k n) ≡ zero = grind (arith, nat_tests, e) in
          let after : one_of (nat_lt k (suc n)) ≡ suc zero = ap one_of (lt-ltb k (suc n) (omega (arith, e))) in
          omega (arith, rest, here, before, after)
      | inr ne ↦
          let here : one_of (k == n) ≡ zero = ap one_of (ne_eqb k n ne) in
          let same : nat_lt k (suc n) ≡ nat_lt k n = grind (arith, nat_tests, ne) in
          let same_count : one_of (nat_lt k (suc n)) ≡ one_of (nat_lt k n) = ap one_of same in
          omega (arith, rest, here, same_count)
    ]

-- names that lead below n are as many as their counts at each index
names_by_index : (names : List NameRow) (n : ℕ) → list_all (λ r. nat_lt r.index n) names ≡ true → sum_to (λ i. count_by (λ r. r.index == i) names) n ≡ length names
names_by_index [] n all = sum_to-zero n
names_by_index (r ∷ names) n all =
    let parts = and_parts (nat_lt r.index n) (list_all (λ r. nat_lt r.index n) names) all in
    let rest = names_by_index names n parts.1 in
    let here : sum_to (λ i. one_of (r.index == i)) n ≡ suc zero = one_at r.index n ∙ ap one_of parts.0 in
    let split = sum_to-same (λ i. count_by (λ r. r.index == i) (r ∷ names)) (λ i. one_of (r.index == i) + count_by (λ r. r.index == i) names) n (λ i _. sum_by-cons (λ (r : NameRow). one_of (r.index == i)) r names) in
    let both = sum_to-both (λ i. one_of (r.index == i)) (λ i. count_by (λ r. r.index == i) names) n in
    omega (arith, rest, here, split, both)

abbrev pub all_names : List Entry → ℕ
all_names A = sum_by (λ e. length (names_of e)) A

-- all names of an array are as many as the links of all its indexes
pub links_all : (A : List Entry) (n : ℕ) → list_all (λ e. list_all (λ r. nat_lt r.index n) (names_of e)) A ≡ true → sum_to (links A) n ≡ all_names A
links_all [] n all = sum_to-zero n
links_all (e ∷ A) n all =
    let parts = and_parts (list_all (λ r. nat_lt r.index n) (names_of e)) (list_all (λ e. list_all (λ r. nat_lt r.index n) (names_of e)) A) all in
    let rest = links_all A n parts.1 in
    let here = names_by_index (names_of e) n parts.0 in
    let split = sum_to-same (links (e ∷ A)) (λ i. count_by (λ r. r.index == i) (names_of e) + links A i) n (λ i _. sum_by-cons (λ (e : Entry). count_by (λ r. r.index == i) (names_of e)) e A) in
    let both = sum_to-both (λ i. count_by (λ r. r.index == i) (names_of e)) (links A) n in
    let sums = sum_by-cons (λ (e : Entry). length (names_of e)) e A in
    omega (arith, rest, here, split, both, sums)

-- The names that are there and those of staging are together no more than the names that shall be there, where each
-- staged object lacks one of its names and no object has more of them than it shall have.
pub names_fit : (A C : List Entry) (staged : ℕ → Bool) (n : ℕ) →
    list_all (λ e. list_all (λ r. nat_lt r.index n) (names_of e)) A ≡ true → list_all (λ e. list_all (λ r. nat_lt r.index n) (names_of e)) C ≡ true →
    ((i : ℕ) → i < n → links A i + one_of (staged i) ≤ links C i) → all_names A + sum_to (λ i. one_of (staged i)) n ≤ all_names C
names_fit A C staged n within_a within_c fits =
    let a = links_all A n within_a in
    let c = links_all C n within_c in
    let both = sum_to-both (links A) (λ i. one_of (staged i)) n in
    let most = sum_to-most (λ i. links A i + one_of (staged i)) (links C) n fits in
    omega (arith, a, c, both, most)

-- LISTS

-- the first value, and the others
sum_to-shift : (g : ℕ → ℕ) (n : ℕ) → sum_to g (suc n) ≡ g 0 + sum_to (λ i. g (suc i)) n
sum_to-shift g zero = omega arith
sum_to-shift g (suc n) = let rest = sum_to-shift g n in omega (arith, rest)

-- a sum over a list is that of its elements by their places
pub sum_to-list : {X : Type 0} (f : X → ℕ) (d : X) (xs : List X) → sum_to (λ i. f (get_or xs i d)) (length xs) ≡ sum_by f xs
sum_to-list f d [] = refl
sum_to-list f d (x ∷ xs) =
    let shift : sum_to (λ i. f (get_or (x ∷ xs) i d)) (suc (length xs)) ≡ f x + sum_to (λ i. f (get_or xs i d)) (length xs) =
    sum_to-shift (λ i. f (get_or (x ∷ xs) i d)) (length xs) in
    shift ∙ ap (λ n. f x + n) (sum_to-list f d xs) ∙ sym (sum_by-cons f x xs)

-- one list's elements count no more than another's
pub sum_most : {X : Type 0} (f : X → ℕ) (d : X) (xs ys : List X) → length xs ≡ length ys → ((i : ℕ) → i < length ys → f (get_or xs i d) ≤ f (get_or ys i d)) → sum_by f xs ≤ sum_by f ys
sum_most f d xs ys size less =
    let a = sum_to-list f d xs in
    let b = sum_to-list f d ys in
    let most = sum_to-most (λ i. f (get_or xs i d)) (λ i. f (get_or ys i d)) (length ys) less in
    let same : sum_to (λ i. f (get_or xs i d)) (length xs) ≡ sum_to (λ i. f (get_or xs i d)) (length ys) = ap (sum_to (λ i. f (get_or xs i d))) size in
    omega (arith, a, b, most, same)

-- what an array uses: its bytes, and 512 for each name
pub used_split : (A : List Entry) → used A ≡ sum_by (λ e. length (bytes_of e)) A + 512 * all_names A
used_split [] = refl
used_split (e ∷ A) =
    let rest = used_split A in
    let a = sum_by-cons used_by e A in
    let b = sum_by-cons (λ (e : Entry). length (bytes_of e)) e A in
    let c = sum_by-cons (λ (e : Entry). length (names_of e)) e A in
    omega (arith, rest, a, b, c)
