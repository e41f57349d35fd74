use Rattle.log_tree.proofs.StepLaws.{of_name}
use Rattle.log_tree.proofs.laws.of_name.Goals as goal

pub returns : goal.returns
returns c = of_name
