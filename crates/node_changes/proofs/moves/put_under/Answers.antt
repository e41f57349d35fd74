use Rattle.std.proofs.Common.{arith}
use Rattle.node_changes.proofs.ParentRows.{put_under_is}
use Rattle.node_changes.proofs.TallyLaws.{keeps_both}
use Rattle.node_changes.proofs.moves.put_under.Goals as goal

pub touch_row-requires : goal.touch_row-requires
touch_row-requires c = let size = c.set_parent.ensures.size in let below = c.requires.parent in
    omega (arith, size, below)

pub returns : goal.returns
returns c = record {
  put = put_under_is c.args.table.now c.set_parent.new.table c.touch_row.new.table c.args.parent c.args.index c.args.time
      c.set_parent.ensures.row c.set_parent.ensures.size c.set_parent.ensures.by_handle
      c.touch_row.ensures.row c.touch_row.ensures.size c.touch_row.ensures.by_handle;
  tally = keeps_both c.set_parent.ensures.tally c.touch_row.ensures.tally;
}
