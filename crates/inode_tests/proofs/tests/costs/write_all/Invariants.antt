use Rattle.server_trait.specs.Step.{HasTree}
use Rattle.inode_tests.proofs.tests.costs.write_all.Given as goal

abbrev pub invariant-loop-call : goal.invariant-loop-call
invariant-loop-call g l = HasTree (g.S.FileServer.state l.server)
