use Rattle.service_laws.proofs.laws.service_steps.Goals as goal
use Rattle.cluster_model.proofs.Steady.{right_step, code_step}
use Rattle.service_laws.specs.Served.{service}
use Rattle.service_laws.proofs.Served.{service_lawful}

pub returns-clause-right : goal.returns-clause-right
returns-clause-right c = λ limits sized faults event fits m ms loose right fair apart.
    right_step (service limits) (service_lawful limits sized) faults event fits m ms right fair apart loose

pub returns-clause-walked : goal.returns-clause-walked
returns-clause-walked c = λ limits sized faults event fits m ms steady walked.
    let step = code_step (service limits) (service_lawful limits sized) faults event fits m ms steady walked in (step.0, step.1)
