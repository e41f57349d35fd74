use Rattle.std.proofs.Common.{◌-◌, List, Bool, length, sym, ap, ◌∙◌, arith, subst}
use Rattle.block_alloc.specs.Free.{free_count, IsLowest}
use Rattle.block_alloc.proofs.MapLaws.{LowestLeaf, lowest_within, lowest_block, free_count-no_bits, length-blocks_of}
use Rattle.block_alloc.proofs.TreeLaws.{has_bits-read_zero, has_bits-read_more}
use Rattle.block_alloc.proofs.block_map.BlockMap.take.Goals as goal
use Rattle.block_alloc.proofs.block_map.BlockMap.take.Goals.{After-lowest_leaf-bit}

pub returns-then-index-eq0-clause-block : goal.returns-then-index-eq0-clause-block
returns-then-index-eq0-clause-block c =
    let i = c.self.inside in
    ap free_count (sym c.self.view_is) ∙ free_count-no_bits i.words.items i.depth i.leaf i.blocks i.count
    c.self.invariant (has_bits-read_zero i.words.items 0 _ c.index.ensures c.if-index-eq0.true)

pub lowest_leaf-bit-requires-clause-some : goal.lowest_leaf-bit-requires-clause-some
lowest_leaf-bit-requires-clause-some c = rw c.deref.ensures.value (has_bits-read_more c.self.inside.words.items 0 _
    (omega (arith, c.self.invariant.within)) c.index.ensures c.if-index-eq0.false)

pub lowest_leaf-bit-requires-clause-kept : goal.lowest_leaf-bit-requires-clause-kept
lowest_leaf-bit-requires-clause-kept c = rw (c.deref.ensures.value, ← c.self.invariant.first) c.self.invariant.links

-- the bit of the lowest block that is free
found : (c : After-lowest_leaf-bit) → LowestLeaf c.self.inside.words.items c.self.inside.leaf c.lowest_leaf-bit.result
found c = record {
  low = rw c.self.invariant.first c.lowest_leaf-bit.ensures.low;
  set = rw c.deref.ensures.value at c.lowest_leaf-bit.ensures.set;
  lowest = rw c.self.invariant.first (rw c.deref.ensures.value at c.lowest_leaf-bit.ensures.lowest);
}

-- the lowest block
lowest : (c : After-lowest_leaf-bit) → IsLowest c.args.self.now (c.lowest_leaf-bit.result - c.self.inside.leaf)
lowest c =
    let i = c.self.inside in
    let P : List Bool → Type 0 = λ m. IsLowest m (c.lowest_leaf-bit.result - i.leaf) in
    subst P c.self.view_is (lowest_block i.words.items i.depth i.leaf i.blocks i.count c.lowest_leaf-bit.result
    c.self.invariant (found c))

pub mark-requires-clause-within : goal.mark-requires-clause-within
mark-requires-clause-within c =
    let i = c.self.inside in
    omega (
      arith,
      lowest_within i.words.items i.depth i.leaf i.blocks i.count c.lowest_leaf-bit.result
          c.self.invariant (found (goal.at.mark-requires-clause-within c).After-lowest_leaf-bit),
      length-blocks_of
          i.words.items i.leaf i.blocks,
      ap length c.self.view_is,
    )

pub mark-requires-clause-other : goal.mark-requires-clause-other
mark-requires-clause-other c = (lowest (goal.at.mark-requires-clause-other c).After-lowest_leaf-bit).here

pub returns-clause-block : goal.returns-clause-block
returns-clause-block c = lowest (goal.at.returns-clause-block c).After-lowest_leaf-bit
