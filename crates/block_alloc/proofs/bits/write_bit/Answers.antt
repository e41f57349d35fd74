use Rattle.std.proofs.Common.{sym, ◌∙◌}
use Rattle.block_alloc.proofs.BitLaws.{is_set-with_same, is_set-with_other, is_set-without_same, is_set-without_other}
use Rattle.block_alloc.proofs.bits.write_bit.Goals as goal

pub returns-then-value-clause-here : goal.returns-then-value-clause-here
returns-then-value-clause-here c = is_set-with_same c.args.words.now c.args.bit c.requires ∙ sym c.if-value.true

pub returns-then-value-clause-others : goal.returns-then-value-clause-others
returns-then-value-clause-others c = λ k ne. is_set-with_other c.args.words.now c.args.bit k c.requires ne

pub returns-else-value-clause-here : goal.returns-else-value-clause-here
returns-else-value-clause-here c = is_set-without_same c.args.words.now c.args.bit c.requires ∙ sym c.if-value.false

pub returns-else-value-clause-others : goal.returns-else-value-clause-others
returns-else-value-clause-others c = λ k ne. is_set-without_other c.args.words.now c.args.bit k c.requires ne
