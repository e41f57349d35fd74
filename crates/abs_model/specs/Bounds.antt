-- How large the numbers of an entry of a valid array can be: so the words of its attributes fit
-- (RFC 1094, 2.3.5).
use Rattle.std.specs.Prelude.{ℕ, ◌*◌, ◌^◌, ◌<◌, ◌≤◌, List, length}
use Rattle.abs_model.specs.declared.entry.Entry.{Entry}
use Rattle.abs_model.specs.Numbers.{file_limit}
use Rattle.abs_model.specs.Objects.{names_of, bytes_of, attr_of}
use Rattle.abs_model.specs.Array.{entry_at, links, subdirs}

-- The index and its fileid are 32-bit words, the mode has twelve bits, the bytes make at most the
-- largest file, and names, links and subdirectories are so few that sizes and link counts are
-- 32-bit words: each name takes 512 of the bytes in use.
pub record HasBounds (A : List Entry) (i : ℕ) : Type 0 where
  pub within : i < length A
  pub index : length A < 2 ^ 32
  pub mode : (attr_of (entry_at A i)).mode < 4096
  pub bytes : length (bytes_of (entry_at A i)) ≤ file_limit
  pub names : 512 * length (names_of (entry_at A i)) < 2 ^ 32
  pub subdirs : 512 * subdirs A (names_of (entry_at A i)) < 2 ^ 32
  pub links : 512 * links A i < 2 ^ 32
