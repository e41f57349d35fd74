use Rattle.server_trait.specs.Step.{HasTree}
use Rattle.server_tests.proofs.tests.case.first_odd.Given as goal

abbrev pub invariant-loop-at : goal.invariant-loop-at
invariant-loop-at g l = HasTree ((goal.FileServer-dyn g (l.server.vtable, l.server.value)).state l.server.value)
