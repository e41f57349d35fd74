use Rattle.store_tests.specs.Beside.{IsBeside}
use Rattle.store_tests.proofs.tests.kept.Kept.holds_all.Given as goal

abbrev pub invariant-loop-index : goal.invariant-loop-index
invariant-loop-index g l = IsBeside l.self.limits
    ((goal.FileServer-dyn g (l.self.server.vtable, l.self.server.value)).state l.self.server.value) l.self.table
    l.self.place l.self.store
