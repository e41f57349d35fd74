use Rattle.cluster_model.proofs.laws.calm_runs.Goals as goal
use Rattle.cluster_model.specs.Tested.{tested}
use Rattle.cluster_model.proofs.CalmRuns.{loose_run_calm}

pub returns : goal.returns
returns c T = loose_run_calm (tested T)
