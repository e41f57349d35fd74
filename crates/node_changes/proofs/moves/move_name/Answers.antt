use Rattle.std.proofs.Common.{arith}
use Rattle.conf_map.proofs.Shows.{live_within}
use Rattle.node_changes.proofs.MoveLaws.{rename_fails, renamed_to, name_moved, move_tallied}
use Rattle.node_changes.proofs.moves.move_name.Goals as goal

pub broken-requires : goal.broken-requires
broken-requires g c = rename_fails _ c.args.table.now c.requires.0 c.args.name.now c.args.to_name.now c.args.from.now
    c.args.to.now c.args.at.now c.requires.1 _ c.in-Err.error c.in-Err.ensures.tree

pub put_under-requires-clause-parent : goal.put_under-requires-clause-parent
put_under-requires-clause-parent g c =
    live_within c.args.table.now.rows.items c.args.to.now.index c.args.to.now.handle c.requires.1.to_live

pub put_under-requires-clause-index : goal.put_under-requires-clause-index
put_under-requires-clause-index g c =
    live_within c.args.table.now.rows.items c.args.at.now.index c.args.at.now.handle c.requires.1.led.live

pub touch_row-requires : goal.touch_row-requires
touch_row-requires g c =
    let below = live_within c.args.table.now.rows.items c.args.from.now.index c.args.from.now.handle c.requires.1.from_live in
    let size = c.put_under.ensures.put.size in
    omega (arith, below, size)

pub returns-clause-stands : goal.returns-clause-stands
returns-clause-stands g c A can =
    let after = renamed_to _ c.args.table.now A c.args.name.now c.args.to_name.now c.args.from.now c.args.to.now
    c.args.at.now can _ c.in-Ok.ensures.tree in
    name_moved _ c.args.table.now A c.args.name.now c.args.to_name.now c.args.from.now c.args.to.now c.args.at.now can
    c.put_under.new.table c.touch_row.new.table c.args.time c.put_under.ensures.put c.touch_row.ensures.row
    c.touch_row.ensures.by_handle _ after

pub returns-clause-tallied : goal.returns-clause-tallied
returns-clause-tallied g c A can =
    move_tallied _ c.args.table.now A c.args.name.now c.args.to_name.now c.args.from.now c.args.to.now c.args.at.now can
    c.put_under.new.table c.touch_row.new.table c.args.time c.put_under.ensures.put c.touch_row.ensures.row
    c.touch_row.ensures.by_handle c.put_under.ensures.tally c.touch_row.ensures.tally
