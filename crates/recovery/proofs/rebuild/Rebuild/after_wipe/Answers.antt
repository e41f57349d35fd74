use Rattle.replica.proofs.EmptyArray.{empty_stands}
use Rattle.recovery.proofs.rebuild.Rebuild.after_wipe.Goals as goal

pub returns-clause-stands : goal.returns-clause-stands
returns-clause-stands g c = empty_stands c.args.limits.now _ _ c.requires.within.0
    c.in_ok-fresh.ensures.stands c.in_ok-fresh.ensures.tallied

pub returns-clause-begins : goal.returns-clause-begins
returns-clause-begins g c = c.in_ok-rebuild.ensures _ c.in_ok-own.ensures
