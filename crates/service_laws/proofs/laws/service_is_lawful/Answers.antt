use Rattle.service_laws.proofs.laws.service_is_lawful.Goals as goal
use Rattle.service_laws.proofs.Served.{service_lawful}

pub returns : goal.returns
returns c = service_lawful
