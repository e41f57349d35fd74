-- Handles as bytes, and the object ids that they spell (RFC 1094, 2.3.3: an opaque of 32 bytes).
use Rattle.std.specs.Prelude.{ℕ, List, ◌++◌, Option, Some, None, replicate, slice_range}
use Rattle.std.specs.Prelude.{bytes_eq, if◌then◌else◌}
use Rattle.std.specs.Int.{to_be_bytes, from_be_bytes, w32}
use Rattle.nfs2_types.specs.declared.handle.Oid.{Oid}

-- the word 42415345, the index, the generation and twenty zero bytes
unfoldable pub handle_bytes : Oid → List ℕ
handle_bytes o =
    to_be_bytes w32 0x42415345 ++ to_be_bytes w32 o.index ++ to_be_bytes w32 o.generation ++ replicate 20 0

-- the words at the places of the index and the generation
abbrev pub words_of : List ℕ → Oid
words_of h =
    record { index = from_be_bytes w32 (slice_range h 4 8); generation = from_be_bytes w32 (slice_range h 8 12) }

-- the object id that a handle spells; none where the bytes have another form
unfoldable pub oid_in : List ℕ → Option Oid
oid_in h = if bytes_eq h (handle_bytes (words_of h)) then Some (words_of h) else None
