use Rattle.cluster_model.proofs.laws.whole_runs.Goals as goal
use Rattle.cluster_model.specs.Tested.{tested}
use Rattle.cluster_model.proofs.ExactRuns.{exact_run}
use Rattle.cluster_model.proofs.Headline.{headline}

pub returns-clause-exact : goal.returns-clause-exact
returns-clause-exact c T = exact_run (tested T)

pub returns-clause-right : goal.returns-clause-right
returns-clause-right c T = headline (tested T)
