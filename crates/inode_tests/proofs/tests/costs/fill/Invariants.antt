use Rattle.server_trait.specs.Step.{HasTree}
use Rattle.inode_tests.proofs.tests.costs.fill.Given as goal

abbrev pub invariant-loop-part : goal.invariant-loop-part
invariant-loop-part g l = HasTree (g.S.FileServer.state l.server)
