use Rattle.abs_model.proofs.Within.{same_length}
use Rattle.abs_model.proofs.laws.as_long.Goals as goal

pub returns : goal.returns
returns c = λ limits A cred t call. same_length A limits cred t call
