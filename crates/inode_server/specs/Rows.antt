-- The row of a slot in a list.
use Rattle.std.specs.Prelude.{ℕ, List}
use Rattle.server_trait.specs.declared.server.Listed.{Listed}

-- the name, and the handle of the inode that it leads to
abbrev pub row_of : (ℕ → List ℕ) → List ℕ × ℕ → Listed
row_of handle s = record { name = s.0; handle = handle s.1 }
