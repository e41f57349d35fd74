use Rattle.nfs2_results.proofs.Limits.{no_prefix}
use Rattle.nfs2_results.proofs.laws.no_prefix.Goals as goal

pub returns : goal.returns
returns c = no_prefix
