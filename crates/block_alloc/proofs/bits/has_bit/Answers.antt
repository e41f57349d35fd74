use Rattle.std.proofs.Common.{◌/◌, ◌%◌, ◌==◌, ℕ, get_or, ap}
use Rattle.std.proofs.lemmas.Nat.Bits.{shr_and_one}
use Rattle.block_alloc.specs.Bits.{is_set}
use Rattle.block_alloc.proofs.bits.has_bit.Goals as goal

pub returns : goal.returns
unfolding is_set
returns c = ap (λ (n : ℕ). n == 1) (shr_and_one (get_or c.args.words.now (c.args.bit / 64) 0) (c.args.bit % 64))
