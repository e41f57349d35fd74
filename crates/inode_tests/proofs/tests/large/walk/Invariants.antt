use Rattle.server_trait.specs.Step.{HasTree}
use Rattle.inode_tests.proofs.tests.large.walk.Given as goal

abbrev pub invariant-loop-node : goal.invariant-loop-node
invariant-loop-node g l = HasTree (g.S.FileServer.state l.server)
