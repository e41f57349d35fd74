-- What stands in the first bytes of a key.
use Rattle.std.proofs.Common.{◌≡◌, ◌∙◌, ◌+◌, ◌-◌, ◌≤◌, ℕ, suc, zero, List, [], ◌∷◌, get_or, take, drop, refl, sym, ap, arith}
use Rattle.std.proofs.lemmas.List.{get_or-take, get_or-drop, drop-take}
use Rattle.log_segments.specs.Record.{key_of}
use Rattle.log_records.specs.Layout.{key_size}

take_within : (n m : ℕ) (xs : List ℕ) → n ≤ m → take n (take m xs) ≡ take n xs
take_within zero m xs few = refl
take_within (suc n) zero xs few = absurd (omega arith)
take_within (suc n) (suc m) [] few = refl
take_within (suc n) (suc m) (x ∷ xs) few = ap (λ ys. x ∷ ys) (take_within n m xs (omega arith))

drop_nil : (n : ℕ) → drop {A = ℕ} n [] ≡ []
drop_nil zero = refl
drop_nil (suc n) = refl

drop_twice : (m n k : ℕ) (xs : List ℕ) → k ≡ m + n → drop n (drop m xs) ≡ drop k xs
drop_twice zero n k xs is = let e : n ≡ k = omega arith in ap (λ i. drop i xs) e
drop_twice (suc m) n k [] is = drop_nil n ∙ sym (drop_nil k)
drop_twice (suc m) n zero (x ∷ xs) is = absurd (omega arith)
drop_twice (suc m) n (suc k) (x ∷ xs) is = drop_twice m n k xs (omega arith)

-- what a record is about
pub about_is : (b : List ℕ) → 1 ≤ key_size b → get_or (key_of b) 0 0 ≡ get_or b 3 0
unfolding key_of
about_is b some = get_or-take (key_size b) (drop 3 b) 0 0 (omega arith) ∙ get_or-drop 3 b 0 0

-- the node's id
pub id_is : (b : List ℕ) → 9 ≤ key_size b → take 8 (drop 1 (key_of b)) ≡ take 8 (drop 4 b)
unfolding key_of
id_is b long =
    let more : key_size b ≡ 1 + (key_size b - 1) = omega arith in
    ap (λ k. take 8 (drop 1 (take k (drop 3 b)))) more
    ∙ (ap (take 8) (drop-take 1 (key_size b - 1) (drop 3 b))
    ∙ (take_within 8 (key_size b - 1) (drop 1 (drop 3 b)) (omega arith) ∙ ap (take 8) (drop_twice 3 1 4 b refl)))
