use Rattle.server_trait.specs.Step.{HasTree}
use Rattle.log_tests.proofs.tests.costs.rewrite.Given as goal

abbrev pub invariant-loop-time : goal.invariant-loop-time
invariant-loop-time g l = HasTree (g.S.FileServer.state l.server)
