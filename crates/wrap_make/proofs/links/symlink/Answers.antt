use Rattle.std.proofs.Common.{sym, refl, ◌∙◌}
use Rattle.conf_map.proofs.Performed.{refusal_performs}
use Rattle.conf_map.proofs.Shows.{stand_valid}
use Rattle.wrap_make.proofs.Refusals.{stands_still}
use Rattle.wrap_make.proofs.Makings.{link_makes, can_make, making_performs}
use Rattle.wrap_make.proofs.links.symlink.Goals as goal

pub returns-in-Err-clause-performs : goal.returns-in-Err-clause-performs
returns-in-Err-clause-performs g c A k = refusal_performs ((c.in_ok-place.ensures.found A k).refused _ c.in-Err.is)
    c.in_ok-place.ensures.same k

pub tell_and_add-requires : goal.tell_and_add-requires
tell_and_add-requires g c = (
  c.requires.can.array,
  can_make (link_makes c.requires.can.array c.args.limits.now c.args.cred.now c.args.time c.args.table.now.rows.items
      c.args.dir.now c.args.name.now c.args.sattr.now c.in-Ok.is c.args.text.now c.requires.fits
      (c.in_ok-place.ensures.found c.requires.can.array c.requires.can.stands)) c.requires.can.stands c.requires.can.within _ c.in_ok-place.ensures.same c.in_ok-place.ensures.watched.limits c.requires.can.room,
)

pub returns-clause-performs : goal.returns-clause-performs
returns-clause-performs g c A k = making_performs
    (link_makes A c.args.limits.now c.args.cred.now c.args.time c.args.table.now.rows.items
    c.args.dir.now c.args.name.now c.args.sattr.now c.in-Ok.is c.args.text.now c.requires.fits
    (c.in_ok-place.ensures.found A k)) k c.requires.can.within _ c.in_ok-place.ensures.same c.in_ok-place.ensures.watched.limits c.requires.can.room
    c.attr_for-attr.ensures c.in_ok-tell_and_add.ensures.added refl refl c.in_ok-tell_and_add.ensures.told
    (c.in_ok-tell_and_add.ensures.noticed A (stand_valid c.args.limits.now _ c.args.table.now A c.requires.can.within
    (stands_still c.args.limits.now _ _ c.args.table.now A c.in_ok-place.ensures.same k)))
