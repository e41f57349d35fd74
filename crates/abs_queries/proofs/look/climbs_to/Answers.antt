use Rattle.std.proofs.Common.{◌∙◌, ◌-◌, ◌+◌, ap, sym}
use Rattle.abs_model.specs.Array.{climbs_to}
use Rattle.abs_queries.proofs.Climbing.{climbs_on}
use Rattle.abs_queries.proofs.look.climbs_to.Goals as goal

pub loop-step-preserved : goal.loop-step-preserved
loop-step-preserved c = c.loop-step.invariant ∙ climbs_on c.args.entries.now c.args.i c.args.steps c.loop-step.step c.loop-step.at c.loop-step-test.true c.if-at-i.false
    ∙ ap (climbs_to c.args.entries.now c.args.i (c.args.steps - (c.loop-step.step + 1))) (sym c.parent-at.ensures)
