-- A pointer tree: inner blocks have 128 pointers of 4 bytes, leaves are data blocks. A pointer that
-- names no block of the area is none, and what is not there reads as zeros.
use Rattle.std.specs.Prelude.{ℕ, zero, suc, ◌+◌, ◌*◌, ◌/◌, ◌%◌, ◌^◌, ◌<◌, ◌≤◌, List, [], ◌∷◌, Bool, ◌&&◌, ◌==◌, nat_le, nat_lt, if◌then◌else◌, slice_index, replicate}
use Rattle.std.specs.Int.{w32, from_be_bytes}
use Rattle.pointer_tree.specs.declared.node.Area.{Area}

-- the bytes of each block
abbrev pub Content : Type 0
Content = ℕ → List ℕ

-- one where a test holds
abbrev pub one_if : Bool → ℕ
one_if b = if b then 1 else 0

-- f 0 + .. + f (n - 1)
unfoldable pub sum_to : ℕ → (ℕ → ℕ) → ℕ
sum_to zero f = 0
sum_to (suc n) f = sum_to n f + f n

-- a block of zeros
unfoldable pub zeros : List ℕ
zeros = replicate 512 0

-- the number at a place of a block
abbrev pub word_at : List ℕ → ℕ → ℕ
word_at bytes i = from_be_bytes w32 (slice_index bytes i ∷ slice_index bytes (i + 1) ∷ slice_index bytes
    (i + 2) ∷ slice_index bytes (i + 3) ∷ [])

-- the block is one of the area
abbrev pub IsBlock : Area → ℕ → Type 0
IsBlock area b = (area.first ≤ b) × (b < area.end)

-- a word as a pointer: 0 where it names no block of the area
abbrev pub as_pointer : Area → ℕ → ℕ
as_pointer area word = if nat_le area.first word && nat_lt word area.end then word else 0

-- the pointer at an index of a block
unfoldable pub pointer : Area → List ℕ → ℕ → ℕ
pointer area bytes j = as_pointer area (word_at bytes (4 * j))

-- the bytes of a tree's block k
unfoldable pub block : Area → Content → ℕ → ℕ → ℕ → List ℕ
block area c zero top k = if top == 0 then zeros else c top
block area c (suc d) top k = if top == 0 then zeros else block area c d (pointer area (c top) (k / 128 ^ d))
    (k % 128 ^ d)

-- how often a tree uses block b
unfoldable pub uses : Area → Content → ℕ → ℕ → ℕ → ℕ
uses area c zero top b = if top == 0 then 0 else one_if (top == b)
uses area c (suc d) top b = if top == 0 then 0 else one_if (top == b) + sum_to 128
    (λ j. uses area c d (pointer area (c top) j) b)
