use Rattle.std.proofs.Common.{◌≡◌}
use Rattle.service_tables.proofs.service.are_stale.Given as goal

-- the server is as it was
abbrev pub invariant-loop-row : goal.invariant-loop-row
invariant-loop-row g l =
    let old = (goal.FileServer-dyn g (l.fn.server.vtable, l.fn.server.value)).state l.fn.server.value in
    let now = (goal.FileServer-dyn g (l.server.vtable, l.server.value)).state l.server.value in
    record { same : now.tree ≡ old.tree; limits : now.limits ≡ old.limits }
