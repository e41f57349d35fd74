use Rattle.nfs2_results.proofs.Written.{on_ok, entry_spelled}
use Rattle.nfs2_results.proofs.writing.put_entry.Goals as goal

pub returns-clause-spelled : goal.returns-clause-spelled
returns-clause-spelled c = on_ok _ _ (entry_spelled c.args.e.now c.put_word.ensures.fits c.requires
    c.put_word-2.ensures.fits)
