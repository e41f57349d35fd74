-- A record is a block. Byte 0 is 0 at an end mark, 1 where the record takes its key away, and else anything. Bytes 1
-- and 2 are the length of the key, the high one first, and the key begins at byte 3.
use Rattle.std.specs.Prelude.{◌==◌, ◌+◌, ◌*◌, ℕ, List, Bool, get_or, take, drop}

-- no record stands here or behind
abbrev pub is_end : List ℕ → Bool
is_end block = get_or block 0 0 == 0

-- the record takes its key away
abbrev pub is_gone : List ℕ → Bool
is_gone block = get_or block 0 0 == 1

-- the bytes of the key
unfoldable pub key_of : List ℕ → List ℕ
key_of block = take (256 * get_or block 1 0 + get_or block 2 0) (drop 3 block)
