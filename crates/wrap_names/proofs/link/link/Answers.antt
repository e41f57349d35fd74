use Rattle.std.proofs.Common.{refl}
use Rattle.conf_map.proofs.Performed.{refusal_performs, changes_perform}
use Rattle.wrap_names.proofs.Links.{link_here, link_does, can_link}
use Rattle.wrap_names.proofs.link.link.Goals as goal

pub returns-in-Err-clause-performs : goal.returns-in-Err-clause-performs
returns-in-Err-clause-performs g c A cred k =
    refusal_performs ((c.in_ok-new.ensures.found A k).refused _ c.in-Err.is) c.in_ok-new.ensures.same k

pub tell_and_link-requires : goal.tell_and_link-requires
tell_and_link-requires g c = (
  c.requires.can.array,
  can_link c.args.limits.now c.requires.can.within c.args.table.now c.requires.can.array
      c.args.node.now c.args.dir.now c.args.name.now c.requires.can.stands c.in_ok-new.ensures.found c.in-Ok.new c.in-Ok.is
      _ c.in_ok-new.ensures.same c.in_ok-new.ensures.watched.limits c.requires.can.room,
)

pub returns-clause-performs : goal.returns-clause-performs
returns-clause-performs g c A cred k =
    let can = can_link c.args.limits.now c.requires.can.within c.args.table.now A
    c.args.node.now c.args.dir.now c.args.name.now k c.in_ok-new.ensures.found c.in-Ok.new c.in-Ok.is
    _ c.in_ok-new.ensures.same c.in_ok-new.ensures.watched.limits c.requires.can.room in
    changes_perform (link_does c.args.limits.now c.requires.can.within c.args.table.now A
    c.args.node.now c.args.dir.now c.args.name.now k c.in_ok-new.ensures.found c.in-Ok.new c.in-Ok.is cred c.args.time) refl
    (c.in_ok-tell_and_link.ensures.stands A can) (c.in_ok-tell_and_link.ensures.tallied A can)
    c.in_ok-tell_and_link.ensures.told
    (c.in_ok-tell_and_link.ensures.noticed A (link_here c.args.limits.now c.requires.can.within c.args.table.now A k _
    c.in_ok-new.ensures.same))
