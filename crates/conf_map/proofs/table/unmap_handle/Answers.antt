use Rattle.std.proofs.Common.{sym}
use Rattle.conf_map.proofs.InStep.{unmapped}
use Rattle.conf_map.proofs.table.unmap_handle.Goals as goal

pub returns-then-not-is_handle-clause-by_handle : goal.returns-then-not-is_handle-clause-by_handle
returns-then-not-is_handle-clause-by_handle c q = unmapped c.args.handle c.args.kept c.in-Some.handle q _ _ c.in-Some.is
    (sym c.if-not-is_handle.ensures) (c.remove.ensures.updates.0 q)
