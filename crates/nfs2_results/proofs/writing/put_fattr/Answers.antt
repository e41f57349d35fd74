use Rattle.nfs2_results.proofs.Written.{fattr_spelled, on_ok}
use Rattle.nfs2_results.proofs.writing.put_fattr.Goals as goal

pub returns-clause-spelled : goal.returns-clause-spelled
returns-clause-spelled c = on_ok _ _ (fattr_spelled c.args.a.now c.put_words.ensures.fits)
