-- A directory's bytes: its slots of 288 bytes, one after the other. Numbers are big-endian.
use Rattle.std.specs.Prelude.{ℕ, zero, suc, ◌+◌, ◌-◌, List, [], ◌∷◌, ◌++◌, take, drop, length, replicate, slice_index}
use Rattle.std.specs.Int.{w32, to_be_bytes, from_be_bytes}
use Rattle.inode_dirs.specs.Slots.{Slots}

-- PIECES

module _ {S : Type 0} (width : ℕ) (read : List ℕ → S) where
  -- the bytes of so many pieces
  unfoldable pub span : ℕ → ℕ
  span zero = 0
  span (suc n) = width + span n

  -- so many pieces, each by its own bytes alone
  unfoldable pub pieces : ℕ → List ℕ → List S
  pieces zero bytes = []
  pieces (suc n) bytes = read (take width bytes) ∷ pieces n (drop width bytes)

  -- the bytes with those of one piece in place of others
  abbrev pub with_piece : ℕ → List ℕ → List ℕ → List ℕ
  with_piece k piece bytes = take (span k) bytes ++ (piece ++ drop (span (suc k)) bytes)

-- SLOTS

-- the inode in four bytes, the length of the name in the fifth, and the name from the ninth on
abbrev pub slot_in : List ℕ → List ℕ × ℕ
slot_in b = (take (slice_index b 4) (drop 8 b), from_be_bytes w32 (take 4 b))

-- the bytes of a slot, of which those behind the name are zero
abbrev pub slot_bytes : List ℕ → ℕ → List ℕ
slot_bytes name inode = to_be_bytes w32 inode ++ length name ∷ 0 ∷ 0 ∷ 0 ∷ name ++ replicate (280 - length name) 0

-- so many slots
abbrev pub slots_in : ℕ → List ℕ → Slots
slots_in n bytes = pieces 288 slot_in n bytes
