use Rattle.service_tables.specs.Ready.{IsReady}
use Rattle.service_tables.proofs.many.paged.Given as goal

abbrev pub invariant-loop-page : goal.invariant-loop-page
invariant-loop-page g l = IsReady l.service.limits
    ((goal.FileServer-dyn g (l.service.server.vtable, l.service.server.value)).state l.service.server.value)
    l.service.table
