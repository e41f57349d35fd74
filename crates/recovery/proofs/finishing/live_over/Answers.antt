use Rattle.std.proofs.Common.{ap, ◌∙◌}
use Rattle.replica.specs.Replicas.{begun_at}
use Rattle.recovery.proofs.finishing.live_over.Goals as goal

pub returns-clause-live : goal.returns-clause-live
returns-clause-live g c A st =
    c.in_ok-replica.ensures ∙ ap (begun_at c.args.place) (c.in_ok-tree.ensures.digests A st)
