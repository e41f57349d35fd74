-- Handles that carry a serial number and a place.
use Rattle.std.specs.Prelude.{ℕ, List, ◌++◌, replicate}
use Rattle.std.specs.Int.{w64, to_be_bytes}

-- the handle inside of a serial number at a place: zeros, and the eight bytes of each
unfoldable pub serial_bytes : ℕ → ℕ → List ℕ
serial_bytes n place = replicate 8 0 ++ (to_be_bytes w64 n ++ (to_be_bytes w64 place ++ replicate 8 0))
