use Rattle.std.proofs.Common.{refl, arith}
use Rattle.state_transfer.proofs.tests.forgets_an_old_target.Goals as goal

pub tree_with_file-requires-2 : goal.tree_with_file-requires-2
tree_with_file-requires-2 g c = record { levels = 1; some = omega arith; few = omega arith; size = refl }
