use Rattle.std.proofs.Common.{◌≡◌, ◌++◌}
use Rattle.log_segments.proofs.under.falling.Given as goal

abbrev pub invariant-loop-place : goal.invariant-loop-place
invariant-loop-place l = l.falling.items ++ l.place-iterator ≡ l.places.keys
