use Rattle.abs_model.proofs.Once.{told_is_once}
use Rattle.abs_model.proofs.laws.told_once.Goals as goal

pub returns : goal.returns
returns c = told_is_once
