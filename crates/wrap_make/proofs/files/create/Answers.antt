use Rattle.std.proofs.Common.{sym, refl, ◌∙◌}
use Rattle.conf_map.proofs.Performed.{refusal_performs}
use Rattle.conf_map.proofs.Shows.{stand_valid}
use Rattle.wrap_make.proofs.Refusals.{stands_still}
use Rattle.wrap_make.proofs.Makings.{file_makes, can_make, making_live, making_again, making_answer, making_performs}
use Rattle.wrap_make.proofs.OldFiles.{old_found, old_none, old_can, old_again, old_answer, old_performs}
use Rattle.wrap_make.proofs.files.create.Goals as goal

pub returns-in-Err-clause-performs : goal.returns-in-Err-clause-performs
returns-in-Err-clause-performs g c A k = refusal_performs ((c.in_ok-spot.ensures.found A k).refused _ c.in-Err.is)
    c.in_ok-spot.ensures.same k

pub tell_and_add-requires : goal.tell_and_add-requires
tell_and_add-requires g c = (
  c.requires.can.array,
  can_make (file_makes c.requires.can.array c.args.limits.now c.args.cred.now c.args.time c.args.table.now.rows.items
      c.args.dir.now c.args.name.now c.args.sattr.now c.in-Ok.is c.in-Free.is c.unwrap_or-size.ensures
      (c.in_ok-spot.ensures.found c.requires.can.array c.requires.can.stands)) c.requires.can.stands c.requires.can.within _ c.in_ok-spot.ensures.same c.in_ok-spot.ensures.watched.limits c.requires.can.room,
)

pub node_of-requires-clause-stands : goal.node_of-requires-clause-stands
node_of-requires-clause-stands g c = making_again
    (file_makes c.requires.can.array c.args.limits.now c.args.cred.now c.args.time c.args.table.now.rows.items
    c.args.dir.now c.args.name.now c.args.sattr.now c.in-Ok.is c.in-Free.is c.unwrap_or-size.ensures
    (c.in_ok-spot.ensures.found c.requires.can.array c.requires.can.stands)) c.requires.can.stands c.requires.can.within _ c.in_ok-spot.ensures.same c.in_ok-spot.ensures.watched.limits c.requires.can.room
    c.attr_for-attr.ensures c.in_ok-made-in-Free.ensures.added c.requires.can.time c.requires.fits

pub node_of-requires-clause-live : goal.node_of-requires-clause-live
node_of-requires-clause-live g c = making_live
    (file_makes c.requires.can.array c.args.limits.now c.args.cred.now c.args.time c.args.table.now.rows.items
    c.args.dir.now c.args.name.now c.args.sattr.now c.in-Ok.is c.in-Free.is c.unwrap_or-size.ensures
    (c.in_ok-spot.ensures.found c.requires.can.array c.requires.can.stands)) c.requires.can.stands c.requires.can.within _ c.in_ok-spot.ensures.same c.in_ok-spot.ensures.watched.limits c.requires.can.room
    c.attr_for-attr.ensures c.in_ok-made-in-Free.ensures.added

pub returns-in_ok-node-in-Free-clause-performs : goal.returns-in_ok-node-in-Free-clause-performs
returns-in_ok-node-in-Free-clause-performs g c A k =
    let m = file_makes A c.args.limits.now c.args.cred.now c.args.time c.args.table.now.rows.items
    c.args.dir.now c.args.name.now c.args.sattr.now c.in-Ok.is c.in-Free.is c.unwrap_or-size.ensures
    (c.in_ok-spot.ensures.found A k) in
    making_performs m k c.requires.can.within _ c.in_ok-spot.ensures.same c.in_ok-spot.ensures.watched.limits c.requires.can.room
    c.attr_for-attr.ensures c.in_ok-made-in-Free.ensures.added
    (making_answer m k c.requires.can.within _ c.in_ok-spot.ensures.same c.in_ok-spot.ensures.watched.limits c.requires.can.room
    c.attr_for-attr.ensures c.in_ok-made-in-Free.ensures.added c.requires.can.time c.requires.fits (λ B. refl)
    c.in_ok-node-in-Free.node c.in_ok-node-in-Free.ensures.node)
    c.in_ok-node-in-Free.ensures.same c.in_ok-made-in-Free.ensures.told
    (c.in_ok-made-in-Free.ensures.noticed A (stand_valid c.args.limits.now _ c.args.table.now A c.requires.can.within
    (stands_still c.args.limits.now _ _ c.args.table.now A c.in_ok-spot.ensures.same k)))

pub tell_and_resize-requires : goal.tell_and_resize-requires
tell_and_resize-requires g c = (
  c.requires.can.array,
  old_can c.args.cred.now c.args.time
      (old_none c.in-Ok.is c.in-Taken.is (c.in_ok-spot.ensures.found c.requires.can.array c.requires.can.stands))
      (old_found c.in-Ok.is c.in-Taken.is
      (c.in_ok-spot.ensures.found c.requires.can.array c.requires.can.stands)) c.requires.can.stands c.requires.can.within _ c.in_ok-spot.ensures.same c.in_ok-spot.ensures.watched.limits c.requires.can.room,
)

pub node_of-requires-in-Taken-clause-stands : goal.node_of-requires-in-Taken-clause-stands
node_of-requires-in-Taken-clause-stands g c =
    old_again c.args.cred.now c.args.time
    (old_none c.in-Ok.is c.in-Taken.is (c.in_ok-spot.ensures.found c.requires.can.array c.requires.can.stands))
    (old_found c.in-Ok.is c.in-Taken.is
    (c.in_ok-spot.ensures.found c.requires.can.array c.requires.can.stands)) c.requires.can.stands c.requires.can.within _ c.in_ok-spot.ensures.same c.in_ok-spot.ensures.watched.limits c.requires.can.room
    c.in_ok-tell_and_resize-in-Taken.ensures.stands c.in_ok-tell_and_resize-in-Taken.ensures.tallied c.requires.can.time
    c.requires.fits

pub returns-in_ok-node-in-Taken-clause-performs : goal.returns-in_ok-node-in-Taken-clause-performs
returns-in_ok-node-in-Taken-clause-performs g c A k =
    let none = old_none c.in-Ok.is c.in-Taken.is (c.in_ok-spot.ensures.found A k) in
    let found = old_found c.in-Ok.is c.in-Taken.is (c.in_ok-spot.ensures.found A k) in
    old_performs c.args.cred.now c.args.time none found k c.requires.can.within _ c.in_ok-spot.ensures.same c.in_ok-spot.ensures.watched.limits c.requires.can.room
    c.in_ok-tell_and_resize-in-Taken.ensures.stands c.in_ok-tell_and_resize-in-Taken.ensures.tallied
    (old_answer c.args.cred.now c.args.time none found k c.requires.can.within _ c.in_ok-spot.ensures.same c.in_ok-spot.ensures.watched.limits c.requires.can.room
    c.in_ok-tell_and_resize-in-Taken.ensures.stands c.in_ok-tell_and_resize-in-Taken.ensures.tallied c.requires.can.time
    c.requires.fits c.in_ok-node-in-Taken.node c.in_ok-node-in-Taken.ensures.node)
    c.in_ok-node-in-Taken.ensures.same c.in_ok-tell_and_resize-in-Taken.ensures.told
    (c.in_ok-tell_and_resize-in-Taken.ensures.noticed A
    (stand_valid c.args.limits.now _ c.args.table.now A c.requires.can.within
    (stands_still c.args.limits.now _ _ c.args.table.now A c.in_ok-spot.ensures.same k)))
