use Rattle.abs_model.proofs.Within.{told_is_below}
use Rattle.abs_model.proofs.laws.told_within.Goals as goal

pub returns : goal.returns
returns c = λ limits A cred t call i valid is_told. told_is_below limits A cred t call i valid is_told
