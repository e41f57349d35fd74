use Rattle.inode_store.proofs.FormatLaws.{Claimed}
use Rattle.inode_store.proofs.format.free_area.Given as goal

abbrev pub invariant-loop-block : goal.invariant-loop-block
invariant-loop-block l = Claimed l.map l.block l.fn.area.end
