-- The sizes of items, in bytes (RFC 1094, 3.5).
use Rattle.std.specs.Prelude.{ℕ}

-- the longest name
abbrev pub max_name : ℕ
max_name = 255

-- the longest path, and the longest text of a link
abbrev pub max_path : ℕ
max_path = 1024

-- the most bytes that one call reads or writes
abbrev pub max_data : ℕ
max_data = 8192
