use Rattle.server_trait.specs.Step.{HasTree}
use Rattle.log_tests.proofs.tests.listing.list_often.Given as goal

abbrev pub invariant-loop-list : goal.invariant-loop-list
invariant-loop-list g l = HasTree (g.S.FileServer.state l.server)
