use Rattle.std.proofs.Common.{refl}
use Rattle.conf_map.proofs.Shows.{live_within}
use Rattle.node_changes.specs.Rows.{row_timed}
use Rattle.node_changes.proofs.SetObjects.{set_live}
use Rattle.conf_map.proofs.Tallies.{tallied_kept}
use Rattle.node_changes.proofs.TalliedArrays.{timed_same}
use Rattle.node_changes.proofs.TimeLaws.{live_below, times_stand}
use Rattle.node_changes.proofs.times.set_times.Goals as goal

pub time_row-requires : goal.time_row-requires
time_row-requires c = live_within c.args.table.now.rows.items c.args.at.now.index c.args.at.now.handle c.requires.live

pub returns : goal.returns
returns c = record {
  stands = λ s A stands. times_stand s c.args.table.now c.time_row.new.table A c.args.at.now c.args.atime c.args.mtime
      c.args.ctime stands c.requires.live c.time_row.ensures.row c.time_row.ensures.by_handle;
  tallied = λ s A stands tallied. tallied_kept tallied c.time_row.ensures.tally
      (timed_same A c.args.at.now.index c.args.atime c.args.mtime c.args.ctime
      (live_below s c.args.table.now A stands c.args.at.now c.requires.live));
  live = set_live c.args.table.now c.time_row.new.table c.args.at.now
      (row_timed c.args.atime c.args.mtime c.args.ctime) (λ r. refl) c.time_row.ensures.row c.requires.live;
}
