use Rattle.replica.proofs.EmptyArray.{empty_stands}
use Rattle.replica.proofs.running.Replica.wipe.Goals as goal

pub returns-clause-stands : goal.returns-clause-stands
returns-clause-stands g c = empty_stands c.args.limits.now _ _ c.requires.within.0
    c.in_ok-fresh.ensures.stands c.in_ok-fresh.ensures.tallied
