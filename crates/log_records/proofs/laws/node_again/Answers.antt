use Rattle.log_records.proofs.Again.{node_again}
use Rattle.log_records.proofs.laws.node_again.Goals as goal

pub returns : goal.returns
returns c = node_again
