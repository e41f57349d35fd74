use Rattle.std.proofs.Common.{◌≡◌}
use Rattle.conf_map.specs.Tables.{IsInStep}
use Rattle.restart.proofs.RowSteps.{AreChanged, rebound}
use Rattle.restart.proofs.rebinding.bind_all.Given as goal

-- the first rows are changed, and the others as they were
abbrev pub invariant-loop-i : goal.invariant-loop-i
invariant-loop-i l = record {
  rows : AreChanged (rebound l.handles) l.fn.table.rows.items l.table.rows.items l.i;
  in_step : IsInStep l.fn.table → IsInStep l.table;
  used : l.table.used ≡ l.fn.table.used;
}
