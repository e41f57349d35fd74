use Rattle.log_tree.proofs.TreeLaws.{of_inside}
use Rattle.log_tree.proofs.laws.of_inside.Goals as goal

pub returns : goal.returns
returns c = of_inside
