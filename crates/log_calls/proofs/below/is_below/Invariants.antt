use Rattle.log_changes.specs.Kept.{log_tree}
use Rattle.log_calls.proofs.BelowLaws.{IsWalk}
use Rattle.log_calls.proofs.below.is_below.Given as goal

abbrev pub invariant-loop-step : goal.invariant-loop-step
invariant-loop-step g l = IsWalk (log_tree g.M.Medium.content g.M.Medium.size l.tree) l.top l.start l._step l.now
