use Rattle.std.proofs.Common.{◌≡◌, ◌++◌, take}
use Rattle.xdr_core.specs.Items.{spell_words}
use Rattle.xdr_core.proofs.writer.Writer.words.Given as goal

abbrev pub invariant-loop-n : goal.invariant-loop-n
invariant-loop-n l = l.self ≡ l.initial.self ++ spell_words (take l.n-index l.words)
