-- What a write does to the bits of all words, and where the lowest bit of a word stands.
use Rattle.std.proofs.Common.{◌≡◌, ◌≢◌, ℕ, ◌+◌, ◌-◌, ◌*◌, ◌/◌, ◌%◌, ◌^◌, ◌<◌, ◌≤◌, List, length, true, false, ◌==◌, set, get_or, refl, ap, ◌∙◌, inl, inr, arith, eq-eqb, bit_and, bit_or}
use Rattle.std.proofs.lemmas.List.{get_or-set_other, get_or-set_same}
use Rattle.std.proofs.lemmas.Bool.{cases_eq}
use Rattle.std.proofs.lemmas.Nat.Bits.{bit_at_set_same, bit_at_set_other, bit_at_clear_same, bit_at_clear_other, bit_at-trailing_zeros}
use Rattle.std.specs.Int.{bit_at, bit_not, w64, trailing_zeros}
use Rattle.block_alloc.specs.Bits.{is_set, has_bits}

-- a word with a bit set, and with a bit cleared
abbrev pub with_bit : List ℕ → ℕ → ℕ
with_bit ws b = bit_or (get_or ws (b / 64) 0) (1 * 2 ^ (b % 64) % 2 ^ 64)

abbrev pub without_bit : List ℕ → ℕ → ℕ
without_bit ws b = bit_and (get_or ws (b / 64) 0) (bit_not w64 (1 * 2 ^ (b % 64) % 2 ^ 64))

pub is_set-with_same : (ws : List ℕ) (b : ℕ) → b / 64 < length ws → is_set (set ws (b / 64) (with_bit ws b)) b ≡ true
unfolding is_set
is_set-with_same ws b within = rw get_or-set_same (eq-eqb _ 1 (bit_at_set_same w64 (get_or ws (b / 64) 0) (b % 64)
    (omega arith)))

pub is_set-without_same : (ws : List ℕ) (b : ℕ) → b / 64 < length ws → is_set (set ws (b / 64) (without_bit ws b))
    b ≡ false
unfolding is_set
is_set-without_same ws b within = rw get_or-set_same
    (ap (λ (n : ℕ). n == 1) (bit_at_clear_same w64 (get_or ws (b / 64) 0) (b % 64) (omega arith)))

-- a word is changed at one bit alone
is_set-set_other : (ws : List ℕ) (b k v : ℕ) → b / 64 < length ws → k ≢ b → ((i : ℕ) → i < 64 → i ≢ b % 64 →
    bit_at v i ≡ bit_at (get_or ws (b / 64) 0) i) → is_set (set ws (b / 64) v) k ≡ is_set ws k
unfolding is_set
is_set-set_other ws b k v within other same = elim (cases_eq (k / 64) (b / 64)) [
  | inl e ↦ let ne : k % 64 ≢ b % 64 = omega arith in
      rw (e, get_or-set_same) (ap (λ (n : ℕ). n == 1) (same (k % 64) (omega arith) ne))
  | inr ne ↦ rw get_or-set_other refl
]

pub is_set-with_other : (ws : List ℕ) (b k : ℕ) → b / 64 < length ws → k ≢ b →
    is_set (set ws (b / 64) (with_bit ws b)) k ≡ is_set ws k
is_set-with_other ws b k within other =
    is_set-set_other ws b k _ within other (λ i l ne. bit_at_set_other w64 (get_or ws (b / 64) 0) (b % 64)
    (omega arith) i ne)

pub is_set-without_other : (ws : List ℕ) (b k : ℕ) → b / 64 < length ws → k ≢ b →
    is_set (set ws (b / 64) (without_bit ws b)) k ≡ is_set ws k
is_set-without_other ws b k within other =
    is_set-set_other ws b k _ within other (λ i l ne. bit_at_clear_other w64 (get_or ws (b / 64) 0) (b % 64)
    (omega arith) i l ne)

-- a bit by its word and its place there
is_set-at : (ws : List ℕ) (b word place : ℕ) → place < 64 → b ≡ 64 * word + place →
    is_set ws b ≡ (bit_at (get_or ws word 0) place == 1)
unfolding is_set
is_set-at ws b word place l e =
    let q : b / 64 ≡ word = omega arith in
    let r : b % 64 ≡ place = omega arith in
    rw (q, r) refl

pub has_bits-pos : (ws : List ℕ) (word : ℕ) → has_bits ws word ≡ true → 0 < get_or ws word 0
unfolding has_bits
has_bits-pos ws word some = grind arith

-- the lowest bit of a word that has bits
pub record LowestOf (ws : List ℕ) (word b : ℕ) : Type 0 where
  pub high : b < 64 * (word + 1)
  pub set : is_set ws b ≡ true
  pub lowest : (k : ℕ) → 64 * word ≤ k → k < b → is_set ws k ≡ false

pub lowest_of : (ws : List ℕ) (word : ℕ) → has_bits ws word ≡ true → get_or ws word 0 < 2 ^ 64 → LowestOf ws word
    (64 * word + trailing_zeros w64 (get_or ws word 0))
lowest_of ws word some fits =
    let t = trailing_zeros w64 (get_or ws word 0) in
    let low = bit_at-trailing_zeros w64 (get_or ws word 0) (has_bits-pos ws word some) fits in
    record {
      high = omega (arith, low.0);
      set = is_set-at ws _ word t low.0 refl ∙ ap (λ (n : ℕ). n == 1) low.1;
      lowest = λ k from below. is_set-at ws k word (k - 64 * word) (omega (arith, low.0)) (omega arith)
          ∙ ap (λ (n : ℕ). n == 1) (low.2 (k - 64 * word) (omega arith));
    }
