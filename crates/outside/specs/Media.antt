-- What a medium over memory keeps.
use Rattle.std.specs.Prelude.{◌≡◌, ◌≢◌, ℕ, List, Option, None, Some, length, refl, replicate}
use Rattle.std.specs.Option.{ForSome}
use Rattle.std.specs.Global.{Box}

-- a block that takes memory has 512 bytes that are not all zeros
abbrev pub IsKept : List ℕ → Type 0
IsKept bytes = (length bytes ≡ 512) × (bytes ≢ replicate 512 0)

-- a block that takes no memory has zeros
abbrev pub bytes_of : Option (Box (List ℕ)) → List ℕ
bytes_of None = replicate 512 0
bytes_of (Some block) = block.value

-- each block has 512 bytes
pub length-bytes_of : (block : Option (Box (List ℕ))) → ForSome block (λ b. IsKept b.value)
    → length (bytes_of block) ≡ 512
length-bytes_of None kept = refl
length-bytes_of (Some b) kept = (kept b refl).0
