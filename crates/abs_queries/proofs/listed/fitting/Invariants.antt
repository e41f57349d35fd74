use Rattle.std.proofs.Common.{◌≡◌, ◌++◌, take, drop}
use Rattle.abs_model.specs.Listed.{fitting}
use Rattle.abs_queries.proofs.listed.fitting.Given as goal

abbrev pub invariant-loop-i : goal.invariant-loop-i
invariant-loop-i l = take l.i l.entries ++ fitting l.left (drop l.i l.entries) ≡ fitting l.room l.entries
