use Rattle.std.proofs.Common.{◌≡◌, ◌++◌, drop}
use Rattle.abs_text.specs.Text.{rows_text}
use Rattle.abs_text.proofs.writing.put_rows.Given as goal

abbrev pub invariant-loop-row : goal.invariant-loop-row
invariant-loop-row l = l.w ++ rows_text (drop l.row-index l.rows) ≡ l.initial.w ++ rows_text l.rows
