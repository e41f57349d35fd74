use Rattle.std.proofs.Common.{◌≡◌, ◌+◌, true, add-one, sym, ◌∙◌, arith}
use Rattle.block_alloc.specs.Bits.{has_bits}
use Rattle.block_alloc.proofs.TreeLaws.{IsLowestAt, lowest_first, lowest_next, has_bits_within, below_leaf, kept_below}
use Rattle.block_alloc.proofs.bits.lowest_leaf.Goals as goal
use Rattle.block_alloc.proofs.bits.lowest_leaf.Goals.{In-loop-level, After-loop-level}

-- a bit above the depth stands for a word that has bits
leads : (c : In-loop-level) → has_bits c.args.words.now (c.loop-level.bit + 1) ≡ true
leads c = sym (c.requires.kept c.loop-level.bit (below_leaf c.args.words.now c.loop-level._level c.args.depth
    c.loop-level.bit c.loop-level-test.true c.loop-level.invariant)) ∙ c.loop-level.invariant.set

pub lowest_bit-bit-requires-clause-within : goal.lowest_bit-bit-requires-clause-within
lowest_bit-bit-requires-clause-within c = has_bits_within c.args.words.now 0 c.requires.some

pub loop-level-init : goal.loop-level-init
loop-level-init c = lowest_first c.args.words.now c.lowest_bit-bit.result
    (record {
      high = c.lowest_bit-bit.ensures.high;
      set = c.lowest_bit-bit.ensures.set;
      lowest =
          c.lowest_bit-bit.ensures.lowest;
    })

pub loop-level-preserved : goal.loop-level-preserved
loop-level-preserved c =
    let e = c.lowest_bit-bit-in-loop-level.ensures in
    rw add-one (lowest_next c.args.words.now c.loop-level._level c.loop-level.bit
    c.lowest_bit-bit-in-loop-level.result (kept_below c.args.words.now c.loop-level._level c.args.depth
    c.loop-level-test.true c.requires.kept) c.loop-level.invariant e.low
    (record { high = e.high; set = e.set; lowest = e.lowest }))

pub overflow_add-bit : goal.overflow_add-bit
overflow_add-bit c = omega (
  arith,
  below_leaf c.args.words.now c.loop-level._level c.args.depth c.loop-level.bit
      c.loop-level-test.true c.loop-level.invariant,
  c.requires.small,
)

pub lowest_bit-bit-requires-in-loop-level-clause-within : goal.lowest_bit-bit-requires-in-loop-level-clause-within
lowest_bit-bit-requires-in-loop-level-clause-within c = has_bits_within c.args.words.now _ (leads c)

pub lowest_bit-bit-requires-in-loop-level-clause-small : goal.lowest_bit-bit-requires-in-loop-level-clause-small
lowest_bit-bit-requires-in-loop-level-clause-small c = omega (
  arith,
  below_leaf c.args.words.now c.loop-level._level
      c.args.depth c.loop-level.bit c.loop-level-test.true c.loop-level.invariant,
  c.requires.small,
)

pub lowest_bit-bit-requires-in-loop-level-clause-some : goal.lowest_bit-bit-requires-in-loop-level-clause-some
lowest_bit-bit-requires-in-loop-level-clause-some c = leads c

-- the last bit lies at the depth
at_end : (c : After-loop-level) → IsLowestAt c.args.words.now c.args.depth c.loop-level.bit
at_end c =
    let end : c.loop-level._level ≡ c.args.depth = omega arith in
    rw (← end) c.loop-level.invariant

pub returns-clause-low : goal.returns-clause-low
returns-clause-low c = (at_end (goal.at.returns-clause-low c).After-loop-level).low

pub returns-clause-lowest : goal.returns-clause-lowest
returns-clause-lowest c = (at_end (goal.at.returns-clause-lowest c).After-loop-level).lowest
