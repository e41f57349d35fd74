use Rattle.std.proofs.Common.{◌≡◌}
use Rattle.conf_map.specs.Tables.{IsInStep, emptied}
use Rattle.restart.proofs.RowSteps.{AreChanged}
use Rattle.restart.proofs.rebinding.clear_all.Given as goal

-- the first rows are changed, and the others as they were
abbrev pub invariant-loop-i : goal.invariant-loop-i
invariant-loop-i l = record {
  rows : AreChanged (λ _ r. emptied r) l.fn.table.rows.items l.table.rows.items l.i;
  in_step : IsInStep l.fn.table → IsInStep l.table;
  used : l.table.used ≡ l.fn.table.used;
}
