use Rattle.std.proofs.Common.{sym, refl, ◌∙◌}
use Rattle.conf_map.proofs.Performed.{refusal_performs}
use Rattle.conf_map.proofs.Shows.{stand_valid}
use Rattle.wrap_make.proofs.Refusals.{stands_still}
use Rattle.wrap_make.proofs.Makings.{dir_makes, can_make, making_live, making_again, making_answer, making_performs}
use Rattle.wrap_make.proofs.dirs.make_dir.Goals as goal

pub returns-in-Err-clause-performs : goal.returns-in-Err-clause-performs
returns-in-Err-clause-performs g c A k = refusal_performs ((c.in_ok-place.ensures.found A k).refused _ c.in-Err.is)
    c.in_ok-place.ensures.same k

pub tell_and_add-requires : goal.tell_and_add-requires
tell_and_add-requires g c = (
  c.requires.can.array,
  can_make (dir_makes c.requires.can.array c.args.limits.now c.args.cred.now c.args.time c.args.table.now.rows.items
      c.args.dir.now c.args.name.now c.args.sattr.now c.in-Ok.is
      (c.in_ok-place.ensures.found c.requires.can.array c.requires.can.stands)) c.requires.can.stands c.requires.can.within _ c.in_ok-place.ensures.same c.in_ok-place.ensures.watched.limits c.requires.can.room,
)

pub node_of-requires-clause-stands : goal.node_of-requires-clause-stands
node_of-requires-clause-stands g c = making_again
    (dir_makes c.requires.can.array c.args.limits.now c.args.cred.now c.args.time c.args.table.now.rows.items
    c.args.dir.now c.args.name.now c.args.sattr.now c.in-Ok.is
    (c.in_ok-place.ensures.found c.requires.can.array c.requires.can.stands)) c.requires.can.stands c.requires.can.within _ c.in_ok-place.ensures.same c.in_ok-place.ensures.watched.limits c.requires.can.room
    c.attr_for-attr.ensures c.in_ok-at.ensures.added c.requires.can.time c.requires.fits

pub node_of-requires-clause-live : goal.node_of-requires-clause-live
node_of-requires-clause-live g c = making_live
    (dir_makes c.requires.can.array c.args.limits.now c.args.cred.now c.args.time c.args.table.now.rows.items
    c.args.dir.now c.args.name.now c.args.sattr.now c.in-Ok.is
    (c.in_ok-place.ensures.found c.requires.can.array c.requires.can.stands)) c.requires.can.stands c.requires.can.within _ c.in_ok-place.ensures.same c.in_ok-place.ensures.watched.limits c.requires.can.room
    c.attr_for-attr.ensures c.in_ok-at.ensures.added

pub returns-clause-performs : goal.returns-clause-performs
returns-clause-performs g c A k =
    let m = dir_makes A c.args.limits.now c.args.cred.now c.args.time c.args.table.now.rows.items
    c.args.dir.now c.args.name.now c.args.sattr.now c.in-Ok.is (c.in_ok-place.ensures.found A k) in
    making_performs m k c.requires.can.within _ c.in_ok-place.ensures.same c.in_ok-place.ensures.watched.limits c.requires.can.room
    c.attr_for-attr.ensures c.in_ok-at.ensures.added
    (making_answer m k c.requires.can.within _ c.in_ok-place.ensures.same c.in_ok-place.ensures.watched.limits c.requires.can.room
    c.attr_for-attr.ensures c.in_ok-at.ensures.added c.requires.can.time c.requires.fits (λ B. refl) c.in_ok-node.node
    c.in_ok-node.ensures.node)
    c.in_ok-node.ensures.same c.in_ok-at.ensures.told
    (c.in_ok-at.ensures.noticed A (stand_valid c.args.limits.now _ c.args.table.now A c.requires.can.within
    (stands_still c.args.limits.now _ _ c.args.table.now A c.in_ok-place.ensures.same k)))
