use Rattle.inverse_fn.specs.Puts.{CanPutObjs}
use Rattle.inverse_tests.proofs.tests.rig.Rig.has_all.Given as goal

abbrev pub invariant-loop-row : goal.invariant-loop-row
invariant-loop-row g l = CanPutObjs l.self.limits
    ((goal.FileServer-dyn g (l.self.server.vtable, l.self.server.value)).state l.self.server.value) l.self.table
