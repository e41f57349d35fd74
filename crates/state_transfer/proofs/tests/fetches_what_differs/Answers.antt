use Rattle.std.proofs.Common.{refl, arith}
use Rattle.state_transfer.proofs.tests.fetches_what_differs.Goals as goal

pub tree_with_file-requires : goal.tree_with_file-requires
tree_with_file-requires g c = record { levels = 2; some = omega arith; few = omega arith; size = refl }

pub tree_with_file-requires-2 : goal.tree_with_file-requires-2
tree_with_file-requires-2 g c = record { levels = 2; some = omega arith; few = omega arith; size = refl }
