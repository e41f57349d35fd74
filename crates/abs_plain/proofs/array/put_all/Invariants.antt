use Rattle.std.proofs.Common.{◌≡◌}
use Rattle.abs_model.specs.Array.{changed}
use Rattle.abs_plain.proofs.array.put_all.Given as goal

abbrev pub invariant-loop-change : goal.invariant-loop-change
invariant-loop-change l = l.entries ≡ changed l.yielded l.fn.entries
