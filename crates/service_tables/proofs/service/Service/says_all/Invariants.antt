use Rattle.service_tables.specs.Ready.{IsReady}
use Rattle.service_tables.proofs.service.Service.says_all.Given as goal

abbrev pub invariant-loop-row : goal.invariant-loop-row
invariant-loop-row g l = IsReady l.self.limits
    ((goal.FileServer-dyn g (l.self.server.vtable, l.self.server.value)).state l.self.server.value) l.self.table
