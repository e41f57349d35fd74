use Rattle.log_records.proofs.Again.{child_again}
use Rattle.log_records.proofs.laws.child_again.Goals as goal

pub returns : goal.returns
returns c = child_again
