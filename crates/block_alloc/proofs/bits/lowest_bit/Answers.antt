use Rattle.std.proofs.Common.{◌+◌, ◌*◌, ◌^◌, ◌<◌, get_or, arith}
use Rattle.std.specs.Int.{w64, trailing_zeros}
use Rattle.block_alloc.proofs.BitLaws.{LowestOf, lowest_of}
use Rattle.block_alloc.proofs.bits.lowest_bit.Goals as goal
use Rattle.block_alloc.proofs.bits.lowest_bit.Goals.{Start}

-- the lowest bit of the word
found : (c : Start) → LowestOf c.args.words.now c.args.word (64 * c.args.word + trailing_zeros w64
    (get_or c.args.words.now c.args.word 0))
found c =
    let fits : get_or c.args.words.now c.args.word 0 < 2 ^ 64 = omega (arith, c.type_inv.words c.args.word) in
    lowest_of c.args.words.now c.args.word c.requires.some fits

pub overflow_add-result : goal.overflow_add-result
overflow_add-result c = omega (arith, (found (goal.at.overflow_add-result c).Start).high, c.requires.small)

pub returns-clause-high : goal.returns-clause-high
returns-clause-high c = (found (goal.at.returns-clause-high c).Start).high

pub returns-clause-set : goal.returns-clause-set
returns-clause-set c = (found (goal.at.returns-clause-set c).Start).set

pub returns-clause-lowest : goal.returns-clause-lowest
returns-clause-lowest c = (found (goal.at.returns-clause-lowest c).Start).lowest
