-- How many bytes a cut item needs, with at least so many behind it; None where no value begins so.
use Rattle.std.specs.Prelude.{◌==◌, ◌&&◌, take, drop, ℕ, ◌+◌, nat_lt, nat_le, Bool, if◌then◌else◌, List, [], ◌∷◌, length, Option, Some, None}
use Rattle.std.specs.List.{list_all, list_any}
use Rattle.std.specs.Int.{w32, from_be_bytes}
use Rattle.xdr_core.specs.Items.{padding}

-- ---- words of some ranges, each with both its ends

-- the number stands in the range
abbrev pub is_in : ℕ → ℕ × ℕ → Bool
is_in n range = nat_le range.0 n && nat_le n range.1

-- the number stands in one of the ranges
abbrev pub within : List (ℕ × ℕ) → ℕ → Bool
within ranges n = list_any (is_in n) ranges

-- the least word that begins so, of fewer than four bytes
abbrev pub least_word : List ℕ → ℕ
least_word [] = 0
least_word (a ∷ []) = from_be_bytes w32 (a ∷ 0 ∷ 0 ∷ 0 ∷ [])
least_word (a ∷ b ∷ []) = from_be_bytes w32 (a ∷ b ∷ 0 ∷ 0 ∷ [])
least_word (a ∷ b ∷ d ∷ rest) = from_be_bytes w32 (a ∷ b ∷ d ∷ 0 ∷ [])

-- the greatest word that begins so
abbrev pub most_word : List ℕ → ℕ
most_word [] = from_be_bytes w32 (255 ∷ 255 ∷ 255 ∷ 255 ∷ [])
most_word (a ∷ []) = from_be_bytes w32 (a ∷ 255 ∷ 255 ∷ 255 ∷ [])
most_word (a ∷ b ∷ []) = from_be_bytes w32 (a ∷ b ∷ 255 ∷ 255 ∷ [])
most_word (a ∷ b ∷ d ∷ rest) = from_be_bytes w32 (a ∷ b ∷ d ∷ 255 ∷ [])

-- the range has a word that begins so
abbrev pub meets : List ℕ → ℕ × ℕ → Bool
meets bytes range = nat_le (least_word bytes) range.1 && nat_le range.0 (most_word bytes)

-- one of the ranges has a word that begins so
abbrev pub touches : List (ℕ × ℕ) → List ℕ → Bool
touches ranges bytes = list_any (meets bytes) ranges

-- a word of the ranges
abbrev pub word_need : List (ℕ × ℕ) → ℕ → List ℕ → Option ℕ
word_need ranges after bytes =
    if nat_lt (length bytes) 4 then (if touches ranges bytes then Some (4 + after) else None) else None

-- a bool: what begins so may be false
abbrev pub bool_need : ℕ → List ℕ → Option ℕ
bool_need after bytes =
    if nat_lt (length bytes) 4 then (if least_word bytes == 0 then Some (4 + after) else None) else None

-- ---- opaque data

-- n bytes and their padding, of which these have come
abbrev pub piece_need : ℕ → ℕ → List ℕ → Option ℕ
piece_need n after bytes =
    if nat_lt (length bytes) (n + padding n)
    then (if list_all (λ b. b == 0) (drop n bytes) then Some (n + padding n + after) else None)
    else None

-- a length of at most max, that many bytes and their padding; the least length that begins so where it is cut
abbrev pub opaque_need : ℕ → ℕ → List ℕ → Option ℕ
opaque_need max after bytes =
    if nat_lt (length bytes) 4 then
    (if nat_lt max (least_word bytes) then None
    else Some (4 + (least_word bytes + padding (least_word bytes)) + after))
    else if nat_lt max (from_be_bytes w32 (take 4 bytes)) then None
    else piece_need (from_be_bytes w32 (take 4 bytes)) (4 + after) (drop 4 bytes)
