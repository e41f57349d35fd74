use Rattle.std.proofs.Common.{◌≡◌, ◌++◌, ◌-◌, replicate, true, false}
use Rattle.block_alloc.proofs.block_map.BlockMap.new.Given as goal

abbrev pub invariant-loop-block : goal.invariant-loop-block
invariant-loop-block l = l.map ≡ replicate l.block true ++ replicate (l.blocks - l.block) false
