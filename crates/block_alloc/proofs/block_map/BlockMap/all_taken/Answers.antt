use Rattle.std.proofs.Common.{◌≡◌, ◌/◌, ◌+◌, replicate, ap, ◌∙◌, arith, rules, List, ℕ}
use Rattle.block_alloc.specs.Bits.{blocks_of}
use Rattle.block_alloc.proofs.MapLaws.{kept_zeros, blocks_of-zeros}
use Rattle.block_alloc.proofs.block_map.BlockMap.all_taken.Goals as goal
use Rattle.block_alloc.proofs.block_map.BlockMap.all_taken.Goals.{In_ok-words}

zeros : (c : In_ok-words) → c.in_ok-words.words.items ≡ replicate ((c.shape_for-depth.result.1 + c.args.blocks) / 64 +
    1) 0
zeros c = search rules

pub invariant_of-result : goal.invariant_of-result
invariant_of-result c =
    let e = zeros (goal.at.invariant_of-result c).In_ok-words in
    let s = c.shape_for-depth.ensures in
    rw e (kept_zeros _ _ _ _ s.leaf s.room s.small (omega (arith, c.ranges.blocks)) (omega arith))

pub returns : goal.returns
returns c = ap (λ (ws : List ℕ). blocks_of ws c.shape_for-depth.result.1 c.args.blocks)
    (zeros (goal.at.returns c).In_ok-words) ∙ blocks_of-zeros _ _ _
