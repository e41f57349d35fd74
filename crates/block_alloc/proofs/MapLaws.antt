-- What a map of blocks keeps, from its words.
use Rattle.std.proofs.Common.{◌≡◌, ◌≢◌, ℕ, suc, ◌+◌, ◌-◌, ◌*◌, ◌/◌, ◌^◌, ◌<◌, ◌≤◌, List, [], ◌∷◌, ◌++◌, length, Bool, true, false, not, set, get_or, refl, sym, ap, ◌∙◌, inl, inr, arith, replicate}
use Rattle.std.proofs.lemmas.List.{get_or-set_other, get_or-set_same, length-set, ext_get_or, get_or-replicate, get_or_past, length-replicate, length-append, get_or-append_right, set_at, append_assoc, replicate_more}
use Rattle.std.proofs.lemmas.List.FromFn.{length-map-range_with_len, get_or-map-range_with_len}
use Rattle.std.proofs.lemmas.Bool.{cases_eq, cases_lt}
use Rattle.std.proofs.lemmas.Nat.Bits.{bit_at-zero}
use Rattle.block_alloc.specs.Bits.{is_set, has_bits, first_bit, blocks_of}
use Rattle.block_alloc.specs.Free.{one_if, free_count, IsLowest}
use Rattle.block_alloc.specs.Kept.{IsKept}
use Rattle.block_alloc.proofs.Counts.{free_count-none, free_count-marked, free_count-given, free_count_le, free_count-pos}
use Rattle.block_alloc.proofs.TreeLaws.{first_bit-suc, none_set}

pub length-blocks_of : (ws : List ℕ) (leaf blocks : ℕ) → length (blocks_of ws leaf blocks) ≡ blocks
length-blocks_of ws leaf blocks = length-map-range_with_len (is_set ws) leaf blocks

pub get_or-blocks_of : (ws : List ℕ) (leaf blocks k bit : ℕ) → k < blocks → leaf + k ≡ bit →
    get_or (blocks_of ws leaf blocks) k false ≡ is_set ws bit
get_or-blocks_of ws leaf blocks k bit l e = get_or-map-range_with_len (is_set ws) leaf blocks k bit false l e

-- what a write of one bit and of those above it did
pub record WritesPath (old new : List ℕ) (leaf bit : ℕ) (value : Bool) : Type 0 where
  pub size : length new ≡ length old
  pub kept : (b : ℕ) → b < leaf → is_set new b ≡ has_bits new (b + 1)
  pub here : is_set new bit ≡ value
  pub others : (b : ℕ) → leaf ≤ b → b ≢ bit → is_set new b ≡ is_set old b

pub blocks_of-written : (old new : List ℕ) (leaf blocks block : ℕ) (value : Bool) → block < blocks → WritesPath old
    new leaf (leaf + block) value → blocks_of new leaf blocks ≡ set (blocks_of old leaf blocks) block value
blocks_of-written old new leaf blocks block value l w =
    ext_get_or false _ _ (length-blocks_of new leaf blocks ∙ sym (length-blocks_of old leaf blocks)
    ∙ sym (length-set (blocks_of old leaf blocks) block value)) (λ k h.
    let within : k < blocks = rw (← length-blocks_of new leaf blocks) h in
    get_or-blocks_of new leaf blocks k (leaf + k) within refl ∙ elim (cases_eq k block) [
      | inl e ↦
          let inside : block < length (blocks_of old leaf blocks) = rw length-blocks_of l in
          ap (λ (n : ℕ). is_set new (leaf + n)) e ∙ w.here ∙ sym (get_or-set_same (blocks_of old leaf blocks) block
          value false inside) ∙ ap (λ (n : ℕ). get_or (set (blocks_of old leaf blocks) block value) n false) (sym e)
      | inr ne ↦
          let other : leaf + k ≢ leaf + block = omega arith in
          w.others (leaf + k) (omega arith) other ∙ sym (get_or-set_other (blocks_of old leaf blocks) block k value
          false ne ∙ get_or-blocks_of old leaf blocks k (leaf + k) within refl)
    ])

pub kept_marked : (old new : List ℕ) (depth leaf blocks count after block : ℕ) (value : Bool) → IsKept old depth leaf
    blocks count → block < blocks → get_or (blocks_of old leaf blocks) block false ≡ not value → WritesPath old new
    leaf (leaf + block) value → after + one_if (not value) ≡ count + one_if value → IsKept new depth leaf blocks after
kept_marked old new depth leaf blocks count after block value kept l was w e =
    let inside : block < length (blocks_of old leaf blocks) = rw length-blocks_of l in
    let counts = free_count-marked (blocks_of old leaf blocks) block value inside was in
    record {
      first = kept.first;
      links = w.kept;
      past = λ b h. let other : b ≢ leaf + block = omega arith in w.others b (omega arith) other ∙ kept.past b h;
      room = kept.room;
      within = rw w.size kept.within;
      small = kept.small;
      few = kept.few;
      counted = rw (blocks_of-written old new leaf blocks block value l w) (omega (arith, counts, kept.counted));
    }

-- where the first word has no bits, no block is free
pub free_count-no_bits : (ws : List ℕ) (depth leaf blocks count : ℕ) → IsKept ws depth leaf blocks count →
    has_bits ws 0 ≡ false → free_count (blocks_of ws leaf blocks) ≡ 0
free_count-no_bits ws depth leaf blocks count kept none = free_count-none (blocks_of ws leaf blocks) (λ k h.
    let within : k < blocks = rw (← length-blocks_of ws leaf blocks) h in
    get_or-blocks_of ws leaf blocks k (leaf + k) within refl ∙
    none_set ws depth none (λ b m. kept.links b (omega (arith, kept.first))) (leaf + k) (omega (arith, kept.first))
    (omega (arith, kept.first, kept.room, first_bit-suc depth)))

-- the lowest bit that is set is that of the lowest free block
pub record LowestLeaf (ws : List ℕ) (leaf bit : ℕ) : Type 0 where
  pub low : leaf ≤ bit
  pub set : is_set ws bit ≡ true
  pub lowest : (b : ℕ) → leaf ≤ b → b < bit → is_set ws b ≡ false

pub lowest_within : (ws : List ℕ) (depth leaf blocks count bit : ℕ) → IsKept ws depth leaf blocks count →
    LowestLeaf ws leaf bit → bit - leaf < blocks
lowest_within ws depth leaf blocks count bit kept at = elim (cases_lt bit (leaf + blocks)) [
  | inl l ↦ omega (arith, at.low)
  | inr l ↦ absurd (let bad : true ≡ false = sym at.set ∙ kept.past bit l in cc)
]

pub lowest_block : (ws : List ℕ) (depth leaf blocks count bit : ℕ) → IsKept ws depth leaf blocks count → LowestLeaf ws
    leaf bit → IsLowest (blocks_of ws leaf blocks) (bit - leaf)
lowest_block ws depth leaf blocks count bit kept at =
    let l = lowest_within ws depth leaf blocks count bit kept at in
    record {
      here = get_or-blocks_of ws leaf blocks (bit - leaf) bit l (omega (arith, at.low)) ∙ at.set;
      lower = λ k h. get_or-blocks_of ws leaf blocks k (leaf + k) (omega arith) refl ∙ at.lowest (leaf + k)
          (omega arith) (omega (arith, at.low));
    }

-- a block of the map that is seen is one of its blocks
pub block_within : (ws : List ℕ) (leaf blocks block : ℕ) (seen : List Bool) → blocks_of ws leaf blocks ≡ seen →
    block < length seen → block < blocks
block_within ws leaf blocks block seen e l = omega (arith, length-blocks_of ws leaf blocks, ap length e)

-- the count after a change stays a count of blocks
pub count_fits : (ws : List ℕ) (depth leaf blocks count block : ℕ) (seen : List Bool) → IsKept ws depth leaf blocks
    count → blocks_of ws leaf blocks ≡ seen → block < length seen → get_or seen block false ≡ false → count < blocks
count_fits ws depth leaf blocks count block seen kept e l was =
    let more = free_count-given seen block l was in
    let most = free_count_le (set seen block true) in
    omega (
      arith,
      more,
      most,
      length-set seen block true,
      kept.counted,
      ap free_count e,
      ap length e,
      length-blocks_of
          ws leaf blocks,
    )

pub count_pos : (ws : List ℕ) (depth leaf blocks count block : ℕ) (seen : List Bool) → IsKept ws depth leaf blocks
    count → blocks_of ws leaf blocks ≡ seen → get_or seen block false ≡ true → 1 ≤ count
count_pos ws depth leaf blocks count block seen kept e was = omega (
  arith,
  free_count-pos seen block was,
  kept.counted,
  ap free_count e,
)

-- where all words are zero no bit is set, and no word has bits
get_or-zeros : (n i : ℕ) → ◌≡◌ {A = ℕ} (get_or (replicate n 0) i 0) 0
get_or-zeros n i = elim (cases_lt i n) [
  | inl l ↦ get_or-replicate n i 0 0 l
  | inr l ↦ get_or_past (replicate n 0) i 0 (rw length-replicate l)
]

pub is_set-zeros : (n b : ℕ) → is_set (replicate n 0) b ≡ false
unfolding is_set
is_set-zeros n b = rw (get_or-zeros n (b / 64), bit_at-zero) refl

has_bits-zeros : (n i : ℕ) → has_bits (replicate n 0) i ≡ false
unfolding has_bits
has_bits-zeros n i = rw (get_or-zeros n i) refl

pub blocks_of-zeros : (n leaf blocks : ℕ) → blocks_of (replicate n 0) leaf blocks ≡ replicate blocks false
blocks_of-zeros n leaf blocks = ext_get_or false _ _ (length-blocks_of (replicate n 0) leaf blocks
    ∙ sym (length-replicate blocks false)) (λ k h.
    let l : k < blocks = rw (← length-blocks_of (replicate n 0) leaf blocks) h in
    get_or-blocks_of (replicate n 0) leaf blocks k (leaf + k) l refl ∙ is_set-zeros n (leaf + k)
    ∙ sym (get_or-replicate blocks k false false l))

free_count-replicate : (n : ℕ) → free_count (replicate n false) ≡ 0
free_count-replicate n = free_count-none (replicate n false) (λ k h. get_or-replicate n k false false
    (rw (← length-replicate n false) h))

pub kept_zeros : (n depth leaf blocks : ℕ) → leaf ≡ first_bit depth → leaf + blocks ≤ 64 * (leaf + 1) → leaf < 2 ^ 34
    → blocks < 2 ^ 32 → leaf + blocks < 64 * n → IsKept (replicate n 0) depth leaf blocks 0
kept_zeros n depth leaf blocks first room small few within = record {
  first = first;
  links = λ b l. is_set-zeros n b ∙ sym (has_bits-zeros n (b + 1));
  past = λ b h. is_set-zeros n b;
  room = room;
  within = rw length-replicate within;
  small = small;
  few = few;
  counted = sym (ap free_count (blocks_of-zeros n leaf blocks) ∙ free_count-replicate blocks);
}

-- the first blocks are made free one after another
pub filled_within : (m : List Bool) (k n : ℕ) → m ≡ replicate k true ++ replicate (n - k) false → k < n → k < length m
filled_within m k n e l = rw e (omega (
  arith,
  length-append (replicate k true) (replicate (n - k) false),
  length-replicate k true,
  length-replicate (n - k) false,
))

pub filled_taken : (m : List Bool) (k n : ℕ) → m ≡ replicate k true ++ replicate (n - k) false → k < n →
    get_or m k false ≡ false
filled_taken m k n e l = rw e (get_or-append_right (replicate k true) (replicate (n - k) false) k k false
    (length-replicate k true) (omega arith) ∙ get_or-replicate (n - k) (k - k) false false (omega arith))

pub filled_more : (m : List Bool) (k n : ℕ) → m ≡ replicate k true ++ replicate (n - k) false → k < n →
    set m k true ≡ replicate (k + 1) true ++ replicate (n - (k + 1)) false
filled_more m k n e l =
    let one : n - k ≡ suc (n - (k + 1)) = omega arith in
    ap (λ (xs : List Bool). set xs k true) (e ∙ ap (λ (j : ℕ). replicate k true ++ replicate j false) one) ∙
    set_at (replicate k true) false (replicate (n - (k + 1)) false) true k (length-replicate k true) ∙
    sym (append_assoc (replicate k true) (true ∷ []) (replicate (n - (k + 1)) false)) ∙
    ap (λ (xs : List Bool). xs ++ replicate (n - (k + 1)) false) (replicate_more k true)
