-- What a map of blocks keeps.
use Rattle.std.specs.Prelude.{◌≡◌, ℕ, ◌+◌, ◌*◌, ◌^◌, ◌<◌, ◌≤◌, List, false, length}
use Rattle.block_alloc.specs.Bits.{is_set, has_bits, first_bit, blocks_of}
use Rattle.block_alloc.specs.Free.{free_count}

-- The words are a tree over the blocks: `leaf` is the bit of the first block, `depth` says how many words lie above
-- its own, and `count` is the number of free blocks.
pub record IsKept (words : List ℕ) (depth leaf blocks count : ℕ) : Type 0 where
  pub first : leaf ≡ first_bit depth
  pub links : (b : ℕ) → b < leaf → is_set words b ≡ has_bits words (b + 1)
  pub past : (b : ℕ) → leaf + blocks ≤ b → is_set words b ≡ false
  pub room : leaf + blocks ≤ 64 * (leaf + 1)
  pub within : leaf + blocks < 64 * length words
  pub small : leaf < 2 ^ 34
  pub few : blocks < 2 ^ 32
  pub counted : count ≡ free_count (blocks_of words leaf blocks)
