use Rattle.conf_map.proofs.InStep.{mapped}
use Rattle.conf_map.proofs.table.map_handle.Goals as goal

pub returns-clause-by_handle : goal.returns-clause-by_handle
returns-clause-by_handle c q = mapped c.args.handle c.in-Some.handle q c.args.index _ _ c.in-Some.is
    (c.in_ok-insert.ensures.updates.0 q)
