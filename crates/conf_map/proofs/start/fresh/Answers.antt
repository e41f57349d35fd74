use Rattle.conf_map.proofs.FreshTable.{stands_fresh}
use Rattle.conf_map.proofs.start.fresh.Goals as goal

pub returns-clause-stands : goal.returns-clause-stands
returns-clause-stands g c =
    stands_fresh _ c.in_ok-made.made _ _ c.args.n c.in_ok-export.ensures.empty c.in_ok-made.ensures.rows c.in_ok-made.ensures.by_handle
