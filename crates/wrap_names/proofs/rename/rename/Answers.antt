use Rattle.std.proofs.Common.{refl, sym}
use Rattle.conf_map.proofs.Performed.{refusal_performs, changes_perform, reading_performs}
use Rattle.conf_map.proofs.Shows.{stand_valid}
use Rattle.wrap_names.proofs.RenameDone.{stands_still, idle_changes, move_does, can_replace, plan_none, plan_idle, plan_move}
use Rattle.wrap_names.proofs.rename.rename.Goals as goal

pub returns-in-Err-clause-performs : goal.returns-in-Err-clause-performs
returns-in-Err-clause-performs g c A cred k = refusal_performs
    ((c.in_ok-planned.ensures.found A
    (stand_valid c.args.limits.now _ c.args.table.now A c.requires.can.within k)).refused
    _ c.in-Err.is) c.in_ok-planned.ensures.same k

pub returns-in_default-clause-performs : goal.returns-in_default-clause-performs
returns-in_default-clause-performs g c A cred k = reading_performs
    (plan_none A c.args.table.now.rows.items c.args.from.now c.args.name.now c.args.to.now c.args.to_name.now
    (c.in_ok-planned.ensures.found A
    (stand_valid c.args.limits.now _ c.args.table.now A c.requires.can.within k)) c.in-Ok.planned c.in-Ok.is)
    (idle_changes A cred c.args.time c.args.from.now c.args.name.now c.args.to.now c.args.to_name.now
    (plan_idle A c.args.table.now.rows.items c.args.from.now c.args.name.now c.args.to.now c.args.to_name.now
    (c.in_ok-planned.ensures.found A
    (stand_valid c.args.limits.now _ c.args.table.now A c.requires.can.within k)) c.in-Ok.planned c.in-Ok.is c.in_default.is)) refl c.in_ok-planned.ensures.same k

pub tell_and_move-requires : goal.tell_and_move-requires
tell_and_move-requires g c = (
  c.requires.can.array,
  can_replace c.requires.can.array c.args.limits.now c.args.from.now c.args.name.now c.args.to.now c.args.to_name.now
      c.args.table.now.rows.items c.in-Some.ends
      (plan_move c.requires.can.array c.args.table.now.rows.items c.args.from.now c.args.name.now c.args.to.now c.args.to_name.now
      (c.in_ok-planned.ensures.found c.requires.can.array
      (stand_valid c.args.limits.now _ c.args.table.now c.requires.can.array c.requires.can.within c.requires.can.stands)) c.in-Ok.planned c.in-Ok.is
      c.in-Some.ends c.in-Some.is)
      _ _ c.args.table.now refl c.in_ok-planned.ensures.same c.requires.can.within c.requires.can.stands,
)

pub returns-clause-performs : goal.returns-clause-performs
returns-clause-performs g c A cred k =
    let none = plan_none A c.args.table.now.rows.items c.args.from.now c.args.name.now c.args.to.now c.args.to_name.now
    (c.in_ok-planned.ensures.found A
    (stand_valid c.args.limits.now _ c.args.table.now A c.requires.can.within k)) c.in-Ok.planned c.in-Ok.is in
    let move = plan_move A c.args.table.now.rows.items c.args.from.now c.args.name.now c.args.to.now c.args.to_name.now
    (c.in_ok-planned.ensures.found A
    (stand_valid c.args.limits.now _ c.args.table.now A c.requires.can.within k)) c.in-Ok.planned c.in-Ok.is c.in-Some.ends c.in-Some.is in
    let can = can_replace A c.args.limits.now c.args.from.now c.args.name.now c.args.to.now c.args.to_name.now
    c.args.table.now.rows.items c.in-Some.ends move _ _ c.args.table.now refl c.in_ok-planned.ensures.same
    c.requires.can.within k in
    changes_perform (move_does A c.args.limits.now cred c.args.time c.args.from.now c.args.name.now c.args.to.now c.args.to_name.now none
    c.args.table.now.rows.items c.in-Some.ends move) refl
    (c.in_ok-tell_and_move.ensures.stands A can) (c.in_ok-tell_and_move.ensures.tallied A can)
    c.in_ok-tell_and_move.ensures.told
    (c.in_ok-tell_and_move.ensures.noticed A (stand_valid c.args.limits.now _ c.args.table.now A c.requires.can.within
    (stands_still c.args.limits.now _ _ c.args.table.now A c.in_ok-planned.ensures.same k)))
