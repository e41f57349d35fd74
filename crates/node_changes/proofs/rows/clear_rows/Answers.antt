use Rattle.node_changes.proofs.PairRows.{row_clears, clears_counted}
use Rattle.node_changes.proofs.TallyLaws.{keeps_both, still_shifts, shifts}
use Rattle.node_changes.proofs.rows.clear_rows.Goals as goal

pub shift_used-requires-clause-fits : goal.shift_used-requires-clause-fits
shift_used-requires-clause-fits c = (still_shifts c.args.goes 0
    (keeps_both c.touch_row.ensures.tally c.clear_row.ensures.tally) c.requires.count).fits

pub shift_used-requires-clause-has : goal.shift_used-requires-clause-has
shift_used-requires-clause-has c = (still_shifts c.args.goes 0
    (keeps_both c.touch_row.ensures.tally c.clear_row.ensures.tally) c.requires.count).has

pub returns : goal.returns
returns c = record {
  cleared = clears_counted c.shift_used.ensures
      (row_clears c.args.table.now c.touch_row.new.table c.clear_row.new.table c.args.dir c.args.index
      c.args.time c.requires.apart c.touch_row.ensures.row c.clear_row.ensures.row c.touch_row.ensures.in_step
      c.clear_row.ensures.in_step);
  tally = shifts c.args.goes 0 (keeps_both c.touch_row.ensures.tally c.clear_row.ensures.tally) c.shift_used.ensures;
}
