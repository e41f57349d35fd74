use Rattle.block_alloc.proofs.TreeLaws.{IsLowestAt}
use Rattle.block_alloc.proofs.bits.lowest_leaf.Given as goal

abbrev pub invariant-loop-level : goal.invariant-loop-level
invariant-loop-level l = IsLowestAt l.words l._level l.bit
