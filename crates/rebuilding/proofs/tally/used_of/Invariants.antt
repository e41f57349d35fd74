use Rattle.std.proofs.Common.{◌≡◌, sum_by, take}
use Rattle.abs_model.specs.Objects.{used_by}
use Rattle.rebuilding.proofs.tally.used_of.Given as goal

abbrev pub invariant-loop-entry : goal.invariant-loop-entry
invariant-loop-entry l = l.sum ≡ sum_by used_by (take l.entry-index l.entries)
