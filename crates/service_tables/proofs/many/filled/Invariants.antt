use Rattle.service_tables.specs.Ready.{IsReady}
use Rattle.service_tables.proofs.many.filled.Given as goal

abbrev pub invariant-loop-number : goal.invariant-loop-number
invariant-loop-number g l = IsReady l.service.limits
    ((goal.FileServer-dyn g (l.service.server.vtable, l.service.server.value)).state l.service.server.value)
    l.service.table
