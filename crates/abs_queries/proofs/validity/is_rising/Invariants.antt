use Rattle.std.proofs.Common.{◌≡◌, ◌-◌, drop}
use Rattle.abs_model.specs.Valid.{is_rising}
use Rattle.abs_queries.proofs.validity.is_rising.Given as goal

abbrev pub invariant-loop-i : goal.invariant-loop-i
invariant-loop-i l = is_rising l.rows ≡ is_rising (drop (l.i - 1) l.rows)
