use Rattle.service_tables.specs.Ready.{IsReady}
use Rattle.service_tables.proofs.service.Service.gives_all.Given as goal

abbrev pub invariant-loop-status : goal.invariant-loop-status
invariant-loop-status g l = IsReady l.self.limits
    ((goal.FileServer-dyn g (l.self.server.vtable, l.self.server.value)).state l.self.server.value) l.self.table
