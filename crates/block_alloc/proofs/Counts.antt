-- How many blocks are free after a change.
use Rattle.std.proofs.Common.{◌≡◌, ℕ, zero, suc, ◌+◌, ◌<◌, ◌≤◌, List, [], ◌∷◌, Bool, true, false, length, set, get_or, not, refl, arith}
use Rattle.block_alloc.specs.Free.{one_if, free_count}

pub free_count-taken : (m : List Bool) (b : ℕ) → get_or m b false ≡ true → free_count (set m b false) + 1 ≡ free_count m
free_count-taken [] b h = absurd (let bad : false ≡ true = h in cc)
free_count-taken (x ∷ xs) zero h = let e : x ≡ true = h in rw e (omega arith)
free_count-taken (x ∷ xs) (suc b) h = let rest = free_count-taken xs b h in omega (arith, rest)

pub free_count-given : (m : List Bool) (b : ℕ) → b < length m → get_or m b false ≡ false → free_count (set m b true) ≡
    free_count m + 1
free_count-given [] b l h = absurd (omega arith)
free_count-given (x ∷ xs) zero l h = let e : x ≡ false = h in rw e (omega arith)
free_count-given (x ∷ xs) (suc b) l h = let rest = free_count-given xs b (omega arith) h in omega (arith, rest)

one_if_le : (x : Bool) → one_if x ≤ 1
one_if_le true = omega arith
one_if_le false = omega arith

pub free_count_le : (m : List Bool) → free_count m ≤ length m
free_count_le [] = omega arith
free_count_le (x ∷ xs) = omega (arith, free_count_le xs, one_if_le x)

pub free_count-none : (m : List Bool) → ((k : ℕ) → k < length m → get_or m k false ≡ false) → free_count m ≡ 0
free_count-none [] h = refl
free_count-none (x ∷ xs) h =
    let e : x ≡ false = h zero (omega arith) in
    let rest = free_count-none xs (λ k l. h (suc k) (omega arith)) in
    rw e (omega (arith, rest))

pub free_count-pos : (m : List Bool) (b : ℕ) → get_or m b false ≡ true → 1 ≤ free_count m
free_count-pos m b h = omega (arith, free_count-taken m b h)

-- a block is made free, or taken
pub free_count-marked : (m : List Bool) (b : ℕ) (v : Bool) → b < length m → get_or m b false ≡ not v →
    free_count (set m b v) + one_if (not v) ≡ free_count m + one_if v
free_count-marked m b true l h = omega (arith, free_count-given m b l h)
free_count-marked m b false l h = omega (arith, free_count-taken m b h)
