use Rattle.nfs2_results.proofs.Written.{again_on_ok}
use Rattle.nfs2_results.proofs.writing.write_result.Goals as goal

pub returns-clause-again : goal.returns-clause-again
returns-clause-again c = again_on_ok c.put_result.result c.args.r.now c.requires c.put_result.ensures.spelled
