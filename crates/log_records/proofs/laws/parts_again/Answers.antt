use Rattle.log_records.proofs.Again.{parts_again}
use Rattle.log_records.proofs.laws.parts_again.Goals as goal

pub returns : goal.returns
returns c = parts_again
