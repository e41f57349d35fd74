use Rattle.server_trait.specs.Step.{HasTree}
use Rattle.server_tests.proofs.tests.many.walked.Given as goal

abbrev pub invariant-loop-number : goal.invariant-loop-number
invariant-loop-number g l = HasTree ((goal.FileServer-dyn g (l.server.vtable, l.server.value)).state l.server.value)
