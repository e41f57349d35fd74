use Rattle.std.proofs.Common.{◌≡◌, take}
use Rattle.abs_model.specs.Objects.{without}
use Rattle.abs_plain.proofs.rows.without.Given as goal

abbrev pub invariant-loop-r : goal.invariant-loop-r
invariant-loop-r l = l.out.items ≡ without l.name (take l.r-index l.rows)
