use Rattle.log_tree.proofs.RootLaws.{root_is_held}
use Rattle.log_tree.proofs.laws.root_is_held.Goals as goal

pub returns : goal.returns
returns c = root_is_held
