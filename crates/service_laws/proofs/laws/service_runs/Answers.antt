use Rattle.service_laws.proofs.laws.service_runs.Goals as goal
use Rattle.cluster_model.proofs.ExactRuns.{exact_run}
use Rattle.cluster_model.proofs.Headline.{headline}
use Rattle.cluster_model.proofs.CalmRuns.{loose_run_calm}
use Rattle.service_laws.specs.Served.{service}
use Rattle.service_laws.proofs.Served.{service_lawful, service_orderly}

pub returns-clause-exact : goal.returns-clause-exact
returns-clause-exact c = λ limits sized. exact_run (service limits) (service_lawful limits sized)

pub returns-clause-promised : goal.returns-clause-promised
returns-clause-promised c = λ limits sized. headline (service limits) (service_lawful limits sized)

pub returns-clause-calm : goal.returns-clause-calm
returns-clause-calm c = λ limits. loose_run_calm (service limits) (service_orderly limits)
