-- A map of blocks: whether each block is free.
use Rattle.std.specs.Prelude.{◌≡◌, ℕ, ◌+◌, ◌<◌, List, [], ◌∷◌, Bool, true, false, slice_index_or}

-- whether a block is free
abbrev pub is_free : List Bool → ℕ → Bool
is_free map block = slice_index_or map block false

-- one where a block is free
abbrev pub one_if : Bool → ℕ
one_if true = 1
one_if false = 0

-- how many blocks are free
abbrev pub free_count : List Bool → ℕ
free_count [] = 0
free_count (free ∷ rest) = one_if free + free_count rest

-- the block is the lowest that is free
pub record IsLowest (map : List Bool) (block : ℕ) : Type 0 where
  pub here : is_free map block ≡ true
  pub lower : (k : ℕ) → k < block → is_free map k ≡ false
