use Rattle.std.proofs.Common.{◌≡◌, ◌+◌, ◌*◌, ℕ, suc, sym, ap, ◌∙◌, arith}
use Rattle.block_alloc.specs.Bits.{first_bit}
use Rattle.block_alloc.proofs.TreeLaws.{first_bit-zero, first_bit-suc}
use Rattle.block_alloc.proofs.block_map.shape_for.Goals as goal

pub loop-leaf-init : goal.loop-leaf-init
loop-leaf-init c = (sym first_bit-zero, omega arith, omega arith)

pub loop-leaf-preserved : goal.loop-leaf-preserved
loop-leaf-preserved c =
    let one : suc c.loop-leaf.depth ≡ c.loop-leaf.depth + 1 = omega arith in (
      ap (λ (n : ℕ). 64 * (n + 1)) c.loop-leaf.invariant.0 ∙ sym (first_bit-suc c.loop-leaf.depth) ∙ ap first_bit one,
      omega (arith, c.loop-leaf-test.true, c.ranges.blocks),
      omega (arith, c.loop-leaf.invariant.2),
    )
