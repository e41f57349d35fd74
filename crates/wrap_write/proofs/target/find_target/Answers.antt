use Rattle.wrap_write.proofs.TargetFacts.{target_stale, target_seen}
use Rattle.wrap_write.proofs.target.find_target.Goals as goal

pub returns-in_default-clause-found : goal.returns-in_default-clause-found
returns-in_default-clause-found g c A k =
    target_stale _ c.args.table.now A k c.args.node.now c.in_default.ensures

pub returns-clause-found : goal.returns-clause-found
returns-clause-found g c A k =
    target_seen _ c.args.table.now A k c.args.node.now c.in-Some.at c.in_ok-attr.attr c.in-Some.ensures
    (c.in_ok-attr.ensures.seen A k)
