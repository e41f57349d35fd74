-- A text that stays in front of what is appended to it, one call after the other.
use Rattle.std.proofs.Common.{◌≡◌, ℕ, List, [], ◌∷◌, ◌++◌, length, take, refl}

-- what keeps a text that keeps the old one keeps the old one
pub kept_through : (old w v : List ℕ) → take (length old) w ≡ old → take (length w) v ≡ w → take (length old) v ≡ old
kept_through [] w v p q = refl
kept_through (x ∷ old) [] v p q = absurd cc
kept_through (x ∷ old) (y ∷ w) [] p q = absurd cc
kept_through (x ∷ old) (y ∷ w) (z ∷ v) p q =
    let short : take (length old) w ≡ old = cc in
    let long : take (length w) v ≡ w = cc in
    let rest : take (length old) v ≡ old = kept_through old w v short long in
    let first : z ≡ x = cc in
    rw (first, rest) refl

-- more behind a text that keeps the old one
pub kept_behind : (old w more : List ℕ) → take (length old) w ≡ old → take (length old) (w ++ more) ≡ old
kept_behind [] w more p = refl
kept_behind (x ∷ old) [] more p = absurd cc
kept_behind (x ∷ old) (y ∷ w) more p =
    let short : take (length old) w ≡ old = cc in
    let first : y ≡ x = cc in
    rw (first, kept_behind old w more short) refl
