-- The rows of a list, with the handles that are shown.
use Rattle.std.specs.Prelude.{ℕ}
use Rattle.server_trait.specs.declared.server.Listed.{Listed}
use Rattle.path_server.specs.Shown.{shown_at}

-- a row with the handle that is shown after so many starts
abbrev pub shown_row : ℕ → Listed → Listed
shown_row starts row = record row { handle = shown_at starts row.handle }
