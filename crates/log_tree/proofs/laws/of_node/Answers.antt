use Rattle.log_tree.proofs.StepLaws.{of_node}
use Rattle.log_tree.proofs.laws.of_node.Goals as goal

pub returns : goal.returns
returns c = of_node
