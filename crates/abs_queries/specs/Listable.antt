-- Which directories have a list whose numbers are words.
use Rattle.std.specs.Prelude.{ℕ, ◌+◌, ◌^◌, ◌<◌, List, length, All}
use Rattle.abs_model.specs.declared.Entry.{Entry}
use Rattle.abs_model.specs.Objects.{names_of}
use Rattle.abs_model.specs.Array.{entry_at, parent}

-- the fileids and the cookies of the list are 32-bit words
pub record CanList (A : List Entry) (d : ℕ) : Type 0 where
  pub small : d + 1 < 2 ^ 32
  pub parent : parent A d + 1 < 2 ^ 32
  pub rows : All (λ r. r.index + 1 < 2 ^ 32) (names_of (entry_at A d))
  pub few : length (names_of (entry_at A d)) + 3 < 2 ^ 32
