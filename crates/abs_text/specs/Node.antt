-- Which bytes are the text of a node of the digest tree.
use Rattle.std.specs.Prelude.{◌≡◌, ℕ, List, length, take, drop}
use Rattle.std.specs.Int.{to_be_bytes, w32}
use Rattle.abs_text.specs.Text.{node_text, node_parts}

-- the bytes are the text of a node of this level and number: that of the sixteen digests of 32 bytes that they hold
pub record IsNodeText (level number : ℕ) (bytes : List ℕ) : Type 0 where
  pub size : length bytes ≡ 524
  pub spelled : node_text level number (node_parts bytes) ≡ bytes

-- the same, as it is tested: so many bytes, of which the first are the words 1, level and number
pub record HasHead (level number : ℕ) (bytes : List ℕ) : Type 0 where
  pub size : length bytes ≡ 524
  pub first : take 4 bytes ≡ to_be_bytes w32 1
  pub second : take 4 (drop 4 bytes) ≡ to_be_bytes w32 level
  pub third : take 4 (drop 8 bytes) ≡ to_be_bytes w32 number
