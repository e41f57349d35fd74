use Rattle.std.proofs.Common.{sym}
use Rattle.wrap_names.proofs.LinkTests.{link_refused, link_name_refused, link_full, link_found}
use Rattle.wrap_names.proofs.link.find_link.Goals as goal

pub returns-in-Err-clause-found : goal.returns-in-Err-clause-found
returns-in-Err-clause-found g c A k = link_refused c.args.limits.now c.requires.within _ c.args.table.now
    c.args.node.now c.args.dir.now c.args.name.now c.in_ok-at.field-0 c.in_ok-at.ensures.found A k
    c.in-Err.refused c.in-Err.is

pub returns-in-Err-2-clause-found : goal.returns-in-Err-2-clause-found
returns-in-Err-2-clause-found g c A k = link_name_refused c.args.limits.now c.requires.within _ c.args.table.now
    c.args.node.now c.args.dir.now c.args.name.now c.in_ok-at.field-0 c.in_ok-at.ensures.found c.in-Ok.at c.in-Ok.is
    _ c.in_ok-at.ensures.same c.in_ok-d.field-0 c.in_ok-d.ensures.found A k c.in-Err-2.refused c.in-Err-2.is

pub returns-then-no_room-clause-found : goal.returns-then-no_room-clause-found
returns-then-no_room-clause-found g c A k = link_full c.args.limits.now c.requires.within _ c.args.table.now
    c.args.node.now c.args.dir.now c.args.name.now c.in_ok-at.field-0 c.in_ok-at.ensures.found c.in-Ok.at c.in-Ok.is
    _ c.in_ok-at.ensures.same c.in_ok-d.field-0 c.in_ok-d.ensures.found A k c.in-Ok-2.d c.in-Ok-2.is
    (sym (c.if-no_room.ensures.full A k.tallied))

pub returns-clause-found : goal.returns-clause-found
returns-clause-found g c A k = link_found c.args.limits.now c.requires.within _ c.args.table.now
    c.args.node.now c.args.dir.now c.args.name.now c.in_ok-at.field-0 c.in_ok-at.ensures.found c.in-Ok.at c.in-Ok.is
    _ c.in_ok-at.ensures.same c.in_ok-d.field-0 c.in_ok-d.ensures.found A k c.in-Ok-2.d c.in-Ok-2.is
    (sym (c.if-no_room.ensures.full A k.tallied))
