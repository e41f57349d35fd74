use Rattle.std.proofs.Common.{refl}
use Rattle.conf_map.proofs.Performed.{refusal_performs, changes_perform}
use Rattle.conf_map.proofs.Shows.{stand_valid}
use Rattle.wrap_names.proofs.Removals.{still_here, dir_drop, dir_does}
use Rattle.wrap_names.proofs.remove_dir.remove_dir.Goals as goal

pub returns-in-Err-clause-performs : goal.returns-in-Err-clause-performs
returns-in-Err-clause-performs g c A cred k = refusal_performs
    ((c.in_ok-old.ensures.found A (stand_valid c.args.limits.now _ c.args.table.now A c.requires.can.within k)).refused
    _ c.in-Err.is) c.in_ok-old.ensures.same k

pub tell_and_drop-requires : goal.tell_and_drop-requires
tell_and_drop-requires g c = (
  c.requires.can.array,
  dir_drop c.args.limits.now c.requires.can.within c.args.table.now c.requires.can.array
      c.args.dir.now c.args.name.now c.requires.can.stands
      c.in-Ok.old c.in_ok-old.ensures.found c.in-Ok.is _ c.in_ok-old.ensures.same,
)

pub returns-clause-performs : goal.returns-clause-performs
returns-clause-performs g c A cred k =
    let can = dir_drop c.args.limits.now c.requires.can.within c.args.table.now A c.args.dir.now c.args.name.now k
    c.in-Ok.old c.in_ok-old.ensures.found c.in-Ok.is _ c.in_ok-old.ensures.same in
    changes_perform (dir_does c.args.limits.now c.requires.can.within c.args.table.now A c.args.dir.now c.args.name.now k
    c.in-Ok.old c.in_ok-old.ensures.found c.in-Ok.is cred c.args.time) refl
    (c.in_ok-tell_and_drop.ensures.stands A can) (c.in_ok-tell_and_drop.ensures.tallied A can)
    c.in_ok-tell_and_drop.ensures.told
    (c.in_ok-tell_and_drop.ensures.noticed A (still_here c.args.limits.now c.requires.can.within c.args.table.now A
    c.args.dir.now c.args.name.now k _ c.in_ok-old.ensures.same))
