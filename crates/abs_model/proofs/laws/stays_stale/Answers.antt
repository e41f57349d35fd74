use Rattle.abs_model.proofs.Lasting as lasting
use Rattle.abs_model.proofs.laws.stays_stale.Goals as goal

pub returns : goal.returns
returns c = lasting.stays_stale
