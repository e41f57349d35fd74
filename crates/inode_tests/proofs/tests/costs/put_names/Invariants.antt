use Rattle.server_trait.specs.Step.{HasTree}
use Rattle.inode_tests.proofs.tests.costs.put_names.Given as goal

abbrev pub invariant-loop-number : goal.invariant-loop-number
invariant-loop-number g l = HasTree (g.S.FileServer.state l.server)
