use Rattle.block_alloc.proofs.PathLaws.{IsWritten}
use Rattle.block_alloc.proofs.bits.write_path.Given as goal

abbrev pub invariant-loop-at : goal.invariant-loop-at
invariant-loop-at l = IsWritten l.fn.words l.words l.leaf l.bit l.value l.at

abbrev pub decreases-loop-at : goal.decreases-loop-at
decreases-loop-at l = l.at
