use Rattle.log_tree.proofs.StepLaws.{of_chunk}
use Rattle.log_tree.proofs.laws.of_chunk.Goals as goal

pub returns : goal.returns
returns c = of_chunk
