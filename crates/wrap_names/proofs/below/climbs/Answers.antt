use Rattle.std.proofs.Common.{◌-◌, ◌+◌, ◌<◌, arith, length, sym, ap, ◌∙◌}
use Rattle.wrap_names.specs.RowParents.{climbs_in}
use Rattle.wrap_names.proofs.RowClimbs.{climbs_step, climbs_stay}
use Rattle.wrap_names.proofs.below.climbs.Goals as goal

pub loop-step-preserved : goal.loop-step-preserved
loop-step-preserved c =
    let below : c.loop-step._step < length c.args.table.now.rows.items =
    (let size = c.len-step-end.ensures in let more = c.loop-step-test.true in omega (arith, size, more)) in
    ap (climbs_in c.args.table.now.rows.items c.args.moved
    (length c.args.table.now.rows.items - (c.loop-step._step + 1))) c.parent_of-up.ensures
    ∙ climbs_step c.args.table.now.rows.items c.args.moved (length c.args.table.now.rows.items) c.loop-step._step
    c.loop-step.here below c.if-here-moved.false ∙ c.loop-step.invariant

pub returns-then-up-here : goal.returns-then-up-here
returns-then-up-here c =
    let stays = climbs_stay c.args.table.now.rows.items c.args.moved
    (length c.args.table.now.rows.items - c.loop-step._step) c.loop-step.here
    (sym c.parent_of-up.ensures ∙ c.if-up-here.true) c.if-here-moved.false in
    sym stays ∙ c.loop-step.invariant
