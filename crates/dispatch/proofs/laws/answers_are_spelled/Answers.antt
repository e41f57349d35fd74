use Rattle.dispatch.proofs.Spelling.{spelled}
use Rattle.dispatch.proofs.laws.answers_are_spelled.Goals as goal

pub returns : goal.returns
returns c = spelled
