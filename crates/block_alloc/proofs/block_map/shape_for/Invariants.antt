use Rattle.std.proofs.Common.{◌≡◌, ◌-◌, ◌^◌, ◌<◌, ◌≤◌}
use Rattle.block_alloc.specs.Bits.{first_bit}
use Rattle.block_alloc.proofs.block_map.shape_for.Given as goal

abbrev pub invariant-loop-leaf : goal.invariant-loop-leaf
invariant-loop-leaf l = (l.leaf ≡ first_bit l.depth) × (l.leaf < 2 ^ 34) × (l.depth ≤ l.leaf)

abbrev pub decreases-loop-leaf : goal.decreases-loop-leaf
decreases-loop-leaf l = l.blocks - l.leaf
