use Rattle.std.proofs.Common.{arith}
use Rattle.partition_tree.proofs.tests.change_two.Goals as goal

pub returns : goal.returns
returns g c = omega (arith, c.update.ensures.cost 2 c.requires.size, c.requires.two)
