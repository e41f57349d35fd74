use Rattle.std.proofs.Common.{◌≡◌}
use Rattle.abs_model.specs.Array.{changed}
use Rattle.inverse_fn.proofs.changes.put_changes.Given as goal

-- the first changes are put
abbrev pub invariant-loop-change : goal.invariant-loop-change
invariant-loop-change l = l.entries ≡ changed l.yielded l.fn.entries
