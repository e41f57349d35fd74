use Rattle.std.proofs.Common.{append_assoc}
use Rattle.xdr_core.proofs.WordLists.{spell_words-take}
use Rattle.xdr_core.proofs.writer.Writer.words.Goals as goal

pub loop-n-preserved : goal.loop-n-preserved
loop-n-preserved c =
    let ns = c.args.words.now in
    rw (spell_words-take ns c.loop-n.n-index c.loop-n-test.true, ← append_assoc, ← c.loop-n.invariant)
    c.in_default.ensures.text
