use Rattle.std.proofs.Common.{◌<◌, ◌^◌, sym, subst}
use Rattle.node_changes.proofs.AddedRows.{same_length, still_below, still_unshared, row_added, adds_counted}
use Rattle.node_changes.proofs.TallyLaws.{keeps_both, still_shifts, shifts}
use Rattle.node_changes.proofs.add.add_row.Goals as goal

pub set_row-requires-clause-within : goal.set_row-requires-clause-within
set_row-requires-clause-within c =
    still_below c.args.table.now c.touch_row.new.table c.args.dir c.args.index c.args.row c.args.time c.requires.dir c.touch_row.ensures.row c.requires.index

pub set_row-requires-clause-size : goal.set_row-requires-clause-size
set_row-requires-clause-size c = subst (λ n. n < 2 ^ 32)
    (sym (same_length c.args.table.now c.touch_row.new.table c.args.dir c.args.index c.args.row c.args.time c.requires.dir c.touch_row.ensures.row)) c.requires.size

pub set_row-requires-clause-unshared : goal.set_row-requires-clause-unshared
set_row-requires-clause-unshared c =
    still_unshared c.args.table.now c.touch_row.new.table c.args.dir c.args.index c.args.row c.args.time c.requires.dir c.touch_row.ensures.row c.requires.unshared

pub set_row-requires-clause-none_below : goal.set_row-requires-clause-none_below
set_row-requires-clause-none_below c = c.touch_row.ensures.tally.none_below c.requires.none_below

pub shift_used-requires-clause-fits : goal.shift_used-requires-clause-fits
shift_used-requires-clause-fits c = (still_shifts 0 c.args.comes
    (keeps_both c.touch_row.ensures.tally c.in_ok-set_row.ensures.tally) c.requires.count).fits

pub shift_used-requires-clause-has : goal.shift_used-requires-clause-has
shift_used-requires-clause-has c = (still_shifts 0 c.args.comes
    (keeps_both c.touch_row.ensures.tally c.in_ok-set_row.ensures.tally) c.requires.count).has

pub returns : goal.returns
returns c = record {
  added = adds_counted c.shift_used.ensures
      (row_added c.args.table.now c.touch_row.new.table c.args.dir c.args.index c.args.row c.args.time c.requires.dir
      c.touch_row.ensures.row c.set_row.new.table c.touch_row.ensures.in_step c.in_ok-set_row.ensures.rows
      c.in_ok-set_row.ensures.in_step);
  tally = shifts 0 c.args.comes (keeps_both c.touch_row.ensures.tally c.in_ok-set_row.ensures.tally)
      c.shift_used.ensures;
}
