-- The lowest bit so far below the first word, and a word without bits, below which there are none.
use Rattle.std.proofs.Common.{◌≡◌, ◌≢◌, ℕ, zero, suc, ◌+◌, ◌-◌, ◌*◌, ◌/◌, ◌<◌, ◌≤◌, List, length, true, false, get_or, refl, sym, ap, ◌∙◌, inl, inr, arith}
use Rattle.std.proofs.lemmas.List.{get_or_past, get_or_read}
use Rattle.std.proofs.lemmas.Bool.{cases_eq, cases_lt}
use Rattle.std.proofs.lemmas.Nat.Bits.{bit_at-zero}
use Rattle.block_alloc.specs.Bits.{is_set, has_bits, first_bit}
use Rattle.block_alloc.proofs.BitLaws.{LowestOf, has_bits-pos}

pub first_bit-suc : (depth : ℕ) → first_bit (suc depth) ≡ 64 * (first_bit depth + 1)
unfolding first_bit
first_bit-suc depth = refl

pub first_bit-zero : first_bit 0 ≡ 0
unfolding first_bit
first_bit-zero = refl

-- a word without bits has none that are set
pub is_set-no_bits : (ws : List ℕ) (b : ℕ) → has_bits ws (b / 64) ≡ false → is_set ws b ≡ false
unfolding is_set has_bits
is_set-no_bits ws b none =
    let e : get_or ws (b / 64) 0 ≡ 0 = grind arith in
    rw (e, bit_at-zero) refl

-- a word with bits is one of the words
pub has_bits_within : (ws : List ℕ) (i : ℕ) → has_bits ws i ≡ true → i < length ws
has_bits_within ws i some = elim (cases_lt i (length ws)) [
  | inl l ↦ l
  | inr l ↦ let e = get_or_past ws i 0 l in let pos = has_bits-pos ws i some in absurd (omega (arith, e, pos))
]

-- the bit is the lowest that is set among those so far below the first word
pub record IsLowestAt (ws : List ℕ) (depth bit : ℕ) : Type 0 where
  pub low : first_bit depth ≤ bit
  pub high : bit < first_bit (suc depth)
  pub set : is_set ws bit ≡ true
  pub lowest : (b : ℕ) → first_bit depth ≤ b → b < bit → is_set ws b ≡ false

pub lowest_first : (ws : List ℕ) (bit : ℕ) → LowestOf ws 0 bit → IsLowestAt ws 0 bit
lowest_first ws bit found = record {
  low = omega (arith, first_bit-zero);
  high = omega (arith, first_bit-suc 0, first_bit-zero, found.high);
  set = found.set;
  lowest = λ b l h. found.lowest b (omega arith) h;
}

pub lowest_next : (ws : List ℕ) (depth above bit : ℕ) → ((b : ℕ) → b < first_bit (suc depth) → is_set ws b ≡ has_bits
    ws (b + 1)) → IsLowestAt ws depth above → 64 * (above + 1) ≤ bit → LowestOf ws (above + 1) bit → IsLowestAt ws
    (suc depth) bit
lowest_next ws depth above bit kept at low found = record {
  low = omega (arith, first_bit-suc depth, at.low);
  high = omega (arith, first_bit-suc (suc depth), at.high, found.high);
  set = found.set;
  lowest = λ b l h. elim (cases_lt b (64 * (above + 1))) [
    | inl under ↦
        let parent : b / 64 - 1 + 1 ≡ b / 64 = omega (arith, first_bit-suc depth) in
        let from : first_bit depth ≤ b / 64 - 1 = omega (arith, first_bit-suc depth) in
        let left : b / 64 - 1 < above = omega (arith, first_bit-suc depth) in
        is_set-no_bits ws b (ap (has_bits ws) (sym parent) ∙ sym (kept (b / 64 - 1) (omega (arith, at.high)))
        ∙ at.lowest (b / 64 - 1) from left)
    | inr here ↦ found.lowest b here h
  ];
}

-- where the first word has no bits, no bit is set
pub none_set : (ws : List ℕ) (depth : ℕ) → has_bits ws 0 ≡ false → ((b : ℕ) → b < first_bit depth →
    is_set ws b ≡ has_bits ws (b + 1)) → (b : ℕ) → first_bit depth ≤ b → b < first_bit (suc depth) → is_set ws b ≡ false
none_set ws zero none kept b l h =
    let word : b / 64 ≡ 0 = omega (arith, first_bit-suc 0, first_bit-zero) in
    is_set-no_bits ws b (ap (has_bits ws) word ∙ none)
none_set ws (suc depth) none kept b l h =
    let parent : b / 64 - 1 + 1 ≡ b / 64 = omega (arith, first_bit-suc depth) in
    let from : first_bit depth ≤ b / 64 - 1 = omega (arith, first_bit-suc depth) in
    let left : b / 64 - 1 < first_bit (suc depth) = omega (arith, first_bit-suc (suc depth)) in
    let less : (q : ℕ) → q < first_bit depth → is_set ws q ≡ has_bits ws (q + 1) = λ q m. kept q
    (omega (arith, first_bit-suc depth)) in
    is_set-no_bits ws b (ap (has_bits ws) (sym parent) ∙ sym (kept (b / 64 - 1) left) ∙ none_set ws depth none less
    (b / 64 - 1) from left)

pub first_bit-mono : (d e : ℕ) → d ≤ e → first_bit d ≤ first_bit e
first_bit-mono d zero l = let e : d ≡ 0 = omega arith in rw e (omega arith)
first_bit-mono d (suc e) l = elim (cases_eq d (suc e)) [
  | inl same ↦ rw same (omega arith)
  | inr other ↦ omega (arith, first_bit-mono d e (omega arith), first_bit-suc e)
]

pub below_leaf : (ws : List ℕ) (level depth bit : ℕ) → level < depth → IsLowestAt ws level bit → bit < first_bit depth
below_leaf ws level depth bit l at = omega (arith, at.high, first_bit-mono (suc level) depth (omega arith))

pub kept_below : (ws : List ℕ) (level depth : ℕ) → level < depth → ((b : ℕ) → b < first_bit depth →
    is_set ws b ≡ has_bits ws (b + 1)) → (b : ℕ) → b < first_bit (suc level) → is_set ws b ≡ has_bits ws (b + 1)
kept_below ws level depth l kept b h = kept b (omega (arith, first_bit-mono (suc level) depth (omega arith)))

-- whether a word has bits, from what was read there
pub has_bits-read_zero : (ws : List ℕ) (i x : ℕ) → x ≡ get_or ws i x → x ≡ 0 → has_bits ws i ≡ false
unfolding has_bits
has_bits-read_zero ws i x read zero_is =
    let e : get_or ws i 0 ≡ 0 = ap (get_or ws i) (sym zero_is) ∙ sym read ∙ zero_is in
    rw e refl

pub has_bits-read_more : (ws : List ℕ) (i x : ℕ) → i < length ws → x ≡ get_or ws i x → x ≢ 0 → has_bits ws i ≡ true
unfolding has_bits
has_bits-read_more ws i x l read more =
    let e : x ≡ get_or ws i 0 = get_or_read ws i x l read 0 in
    let ne : get_or ws i 0 ≢ 0 = λ z. more (e ∙ z) in
    grind arith
