use Rattle.std.proofs.Common.{◌≡◌, sum_by, take}
use Rattle.abs_model.specs.Objects.{used_by}
use Rattle.abs_queries.proofs.look.used.Given as goal

abbrev pub invariant-loop-e : goal.invariant-loop-e
invariant-loop-e l = l.sum ≡ sum_by used_by (take l.e-index l.entries)
