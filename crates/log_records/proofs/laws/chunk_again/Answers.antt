use Rattle.log_records.proofs.Again.{chunk_again}
use Rattle.log_records.proofs.laws.chunk_again.Goals as goal

pub returns : goal.returns
returns c = chunk_again
