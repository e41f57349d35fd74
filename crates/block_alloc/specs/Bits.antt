-- A tree of words of 64 bits, which a map of blocks keeps. The bits of all words are numbered through: bit b is bit
-- b % 64 of word b / 64. The first bits stand for words: bit b is set where word b + 1 has bits. The bits from `leaf`
-- on stand for blocks: bit leaf + k is set where block k is free. Callers of a map see none of this.
use Rattle.std.specs.Prelude.{ℕ, zero, suc, ◌+◌, ◌*◌, ◌/◌, ◌%◌, List, Bool, ◌==◌, not, slice_index, map}
use Rattle.std.specs.Int.{bit_at}
use Rattle.std.specs.List.{range_with_len}

-- whether a bit is set
unfoldable pub is_set : List ℕ → ℕ → Bool
is_set words b = bit_at (slice_index words (b / 64)) (b % 64) == 1

-- whether a word has bits
unfoldable pub has_bits : List ℕ → ℕ → Bool
has_bits words i = not (slice_index words i == 0)

-- the first bit of the words that lie so far below the first word
unfoldable pub first_bit : ℕ → ℕ
first_bit zero = 0
first_bit (suc depth) = 64 * (first_bit depth + 1)

-- the blocks of a tree of words: whether each is free
abbrev pub blocks_of : List ℕ → ℕ → ℕ → List Bool
blocks_of words leaf blocks = map (is_set words) (range_with_len leaf blocks)
