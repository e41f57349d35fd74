use Rattle.nfs2_results.proofs.Written.{on_ok}
use Rattle.nfs2_results.proofs.writing.put_result.Goals as goal

pub returns-in-Space-clause-spelled : goal.returns-in-Space-clause-spelled
returns-in-Space-clause-spelled c = rw c.in-Space.is (on_ok _ _ c.put_words.ensures.fits)
