use Rattle.std.proofs.Common.{sym}
use Rattle.wrap_names.proofs.MoveTests.{ends_first, are_ends, live_if, is_idle, move_first, is_move}
use Rattle.wrap_names.proofs.plan.plan.Goals as goal

pub returns-in-Err-clause-found : goal.returns-in-Err-clause-found
returns-in-Err-clause-found g c A k = ends_first _ c.args.table.now c.args.from.now c.args.name.now c.args.to.now
    c.args.to_name.now c.in_ok-ends.field-0 c.in_ok-ends.ensures.found A k c.in-Err.refused c.in-Err.is

pub returns-then-leads_to_one-clause-found : goal.returns-then-leads_to_one-clause-found
returns-then-leads_to_one-clause-found g c A k = is_idle _ c.args.table.now c.args.from.now c.args.name.now
    c.args.to.now c.args.to_name.now c.in_ok-ends.field-0 c.in_ok-ends.ensures.found c.in-Ok.ends c.in-Ok.is A k
    (sym c.if-leads_to_one.ensures)

pub move_refusal-requires-clause-live : goal.move_refusal-requires-clause-live
move_refusal-requires-clause-live g c = (are_ends _ c.args.table.now c.args.from.now c.args.name.now
    c.args.to.now c.args.to_name.now c.in_ok-ends.field-0 c.in_ok-ends.ensures.found c.in-Ok.ends c.in-Ok.is
    c.requires.stands.0 c.requires.stands.1).led.led.live

pub move_refusal-requires-clause-over_live : goal.move_refusal-requires-clause-over_live
move_refusal-requires-clause-over_live g c = live_if c.requires.stands.0 c.args.table.now.rows.items
    c.in-Ok.ends.to.index c.args.to_name.now c.in-Ok.ends.over
    (are_ends _ c.args.table.now c.args.from.now c.args.name.now c.args.to.now c.args.to_name.now
    c.in_ok-ends.field-0 c.in_ok-ends.ensures.found c.in-Ok.ends c.in-Ok.is
    c.requires.stands.0 c.requires.stands.1).led.found

pub returns-in-Some-clause-found : goal.returns-in-Some-clause-found
returns-in-Some-clause-found g c A k = move_first _ c.args.table.now c.args.from.now c.args.name.now
    c.args.to.now c.args.to_name.now c.in_ok-ends.field-0 c.in_ok-ends.ensures.found c.in-Ok.ends c.in-Ok.is A k
    (sym c.if-leads_to_one.ensures) _ c.in_ok-ends.ensures.same c.in_ok-refused.field-0
    c.in_ok-refused.ensures.refused c.in-Some.refused c.in-Some.is

pub returns-in-None-clause-found : goal.returns-in-None-clause-found
returns-in-None-clause-found g c A k = is_move _ c.args.table.now c.args.from.now c.args.name.now
    c.args.to.now c.args.to_name.now c.in_ok-ends.field-0 c.in_ok-ends.ensures.found c.in-Ok.ends c.in-Ok.is A k
    (sym c.if-leads_to_one.ensures) _ c.in_ok-ends.ensures.same c.in_ok-refused.field-0
    c.in_ok-refused.ensures.refused c.in-None.is
