use Rattle.std.proofs.Common.{◌≡◌, ◌-◌}
use Rattle.abs_model.specs.Array.{climbs_to}
use Rattle.abs_queries.proofs.look.climbs_to.Given as goal

abbrev pub invariant-loop-step : goal.invariant-loop-step
invariant-loop-step l = climbs_to l.entries l.i l.steps l.here ≡ climbs_to l.entries l.i (l.steps - l.step) l.at
