use Rattle.restart.proofs.NumberRows.{NumberedTo}
use Rattle.restart.proofs.numbers.rows_by_number.Given as goal

-- the numbers of the first rows lead to rows that have them
abbrev pub invariant-loop-i : goal.invariant-loop-i
invariant-loop-i l = NumberedTo l.rows l.numbers l.i
