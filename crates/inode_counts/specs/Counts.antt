-- What is kept in memory of a table of inodes, so that no call has to count.
use Rattle.std.specs.Prelude.{ℕ}

-- how many inodes there are, how many names lead to each, how many of its own names lead to directories, and the bytes
-- in use
pub record Counts : Type 0 where
  pub inodes : ℕ
  pub links : ℕ → ℕ
  pub subdirs : ℕ → ℕ
  pub used : ℕ
