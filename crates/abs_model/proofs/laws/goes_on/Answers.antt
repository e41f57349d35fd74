use Rattle.abs_model.proofs.Lasting as lasting
use Rattle.abs_model.proofs.laws.goes_on.Goals as goal

pub returns : goal.returns
returns c = lasting.goes_on
