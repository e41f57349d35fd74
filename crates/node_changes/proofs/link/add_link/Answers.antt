use Rattle.node_changes.proofs.LinkLaws.{has_room, link_counts, link_tallied, link_dir_below, link_object_below, link_apart, link_stands}
use Rattle.node_changes.proofs.link.add_link.Goals as goal

pub add_name-requires-clause-room : goal.add_name-requires-clause-room
add_name-requires-clause-room g c = has_room _ c.args.table.now c.requires.0 c.args.name.now c.args.dir.now
    c.args.at.now c.requires.1

pub change_rows-requires-clause-dir : goal.change_rows-requires-clause-dir
change_rows-requires-clause-dir g c = link_dir_below _ c.args.table.now c.requires.0 c.args.name.now
    c.args.dir.now c.args.at.now c.requires.1

pub change_rows-requires-clause-index : goal.change_rows-requires-clause-index
change_rows-requires-clause-index g c = link_object_below _ c.args.table.now c.requires.0 c.args.name.now
    c.args.dir.now c.args.at.now c.requires.1

pub change_rows-requires-clause-apart : goal.change_rows-requires-clause-apart
change_rows-requires-clause-apart g c = link_apart _ c.args.table.now c.requires.0 c.args.name.now
    c.args.dir.now c.args.at.now c.requires.1

pub returns-clause-stands : goal.returns-clause-stands
returns-clause-stands g c A can = link_stands _ c.args.table.now A c.args.name.now c.args.dir.now
    c.args.at.now can c.args.time c.change_rows.new.table c.change_rows.ensures.changed _
    c.in_ok-add_name.ensures.named

pub change_rows-requires-clause-count : goal.change_rows-requires-clause-count
change_rows-requires-clause-count g c = link_counts _ c.args.table.now c.requires.0 c.args.name.now c.args.dir.now
    c.args.at.now c.requires.1

pub returns-clause-tallied : goal.returns-clause-tallied
returns-clause-tallied g c A can = link_tallied _ c.args.table.now A c.args.name.now c.args.dir.now c.args.at.now can
    c.args.time c.change_rows.new.table c.change_rows.ensures.changed c.change_rows.ensures.tally
