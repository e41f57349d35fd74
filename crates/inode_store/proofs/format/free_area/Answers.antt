use Rattle.std.proofs.Common.{arith}
use Rattle.inode_store.proofs.FormatLaws.{claimed_none, claimed_more}
use Rattle.inode_store.proofs.format.free_area.Goals as goal

pub loop-block-init : goal.loop-block-init
loop-block-init c = claimed_none _ c.args.area.end c.in_ok-map.ensures

pub loop-block-preserved : goal.loop-block-preserved
loop-block-preserved c = claimed_more _ _ c.loop-block.block c.args.area.end c.loop-block.invariant (omega arith)
    c.claim.ensures.after
