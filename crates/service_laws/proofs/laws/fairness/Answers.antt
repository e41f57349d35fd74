use Rattle.service_laws.proofs.laws.fairness.Goals as goal
use Rattle.service_laws.proofs.SmallRuns.{failure_fair, lie_fair, lie_lines, rogues_unfair}

pub returns-clause-one_fails : goal.returns-clause-one_fails
returns-clause-one_fails c = failure_fair

pub returns-clause-one_lies : goal.returns-clause-one_lies
returns-clause-one_lies c = lie_fair

pub returns-clause-outvoted : goal.returns-clause-outvoted
returns-clause-outvoted c = lie_lines

pub returns-clause-two_harmed : goal.returns-clause-two_harmed
returns-clause-two_harmed c = rogues_unfair
