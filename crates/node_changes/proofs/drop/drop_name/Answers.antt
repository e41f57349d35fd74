use Rattle.std.proofs.Common.{sym, ◌∙◌}
use Rattle.node_changes.proofs.DropFacts.{apart, dir_below, old_below, has_node, can_take, last_is, seen_is}
use Rattle.node_changes.proofs.DropTallies.{small, more_counts, more_tallied, last_counts, last_tallied}
use Rattle.node_changes.proofs.DropLaws.{handles_more, stands_more}
use Rattle.node_changes.proofs.LastNameLaws.{handles_last, stands_last}
use Rattle.node_changes.proofs.drop.drop_name.Goals as goal

pub attr_of-requires : goal.attr_of-requires
attr_of-requires g c = has_node _ c.args.table.now c.requires.0 c.args.name.now c.args.dir.now c.args.at.now
    c.requires.1

pub take_out-requires-clause-can : goal.take_out-requires-clause-can
take_out-requires-clause-can g c = can_take _ c.args.table.now c.requires.0 c.args.name.now c.args.dir.now
    c.args.at.now c.requires.1 c.in_ok-attr.attr c.in_ok-attr.ensures.attr _ c.in_ok-attr.ensures.same

pub clear_rows-requires-clause-dir : goal.clear_rows-requires-clause-dir
clear_rows-requires-clause-dir g c = dir_below _ c.args.table.now c.requires.0 c.args.name.now c.args.dir.now
    c.args.at.now c.requires.1

pub clear_rows-requires-clause-index : goal.clear_rows-requires-clause-index
clear_rows-requires-clause-index g c = old_below _ c.args.table.now c.requires.0 c.args.name.now c.args.dir.now
    c.args.at.now c.requires.1

pub clear_rows-requires-clause-apart : goal.clear_rows-requires-clause-apart
clear_rows-requires-clause-apart g c = apart _ c.args.table.now c.requires.0 c.args.name.now c.args.dir.now
    c.args.at.now c.requires.1

pub change_rows-requires-clause-dir : goal.change_rows-requires-clause-dir
change_rows-requires-clause-dir g c = dir_below _ c.args.table.now c.requires.0 c.args.name.now c.args.dir.now
    c.args.at.now c.requires.1

pub change_rows-requires-clause-index : goal.change_rows-requires-clause-index
change_rows-requires-clause-index g c = old_below _ c.args.table.now c.requires.0 c.args.name.now c.args.dir.now
    c.args.at.now c.requires.1

pub change_rows-requires-clause-apart : goal.change_rows-requires-clause-apart
change_rows-requires-clause-apart g c = apart _ c.args.table.now c.requires.0 c.args.name.now c.args.dir.now
    c.args.at.now c.requires.1

pub returns-then-is_last-clause-stands : goal.returns-then-is_last-clause-stands
returns-then-is_last-clause-stands g c A can = stands_last _ c.args.table.now A c.args.name.now c.args.dir.now
    c.args.at.now can c.args.time c.clear_rows.new.table c.clear_rows.ensures.cleared _ _ c.in_ok-attr.ensures.same
    c.in_ok-take_out.ensures.taken
    (sym (last_is _ c.args.table.now A c.args.name.now c.args.dir.now c.args.at.now can c.in_ok-attr.attr
    c.in_ok-attr.ensures.attr) ∙ sym c.if-is_last.ensures)

pub returns-then-is_last-clause-handles : goal.returns-then-is_last-clause-handles
returns-then-is_last-clause-handles g c = handles_last _ c.args.table.now c.requires.0 c.args.name.now
    c.args.dir.now c.args.at.now c.requires.1 c.args.time c.clear_rows.new.table c.clear_rows.ensures.cleared

pub returns-clause-stands : goal.returns-clause-stands
returns-clause-stands g c A can = stands_more _ c.args.table.now A c.args.name.now c.args.dir.now
    c.args.at.now can c.args.time c.change_rows.new.table c.change_rows.ensures.changed _ _ c.in_ok-attr.ensures.same
    c.in_ok-take_out.ensures.taken
    (sym (last_is _ c.args.table.now A c.args.name.now c.args.dir.now c.args.at.now can c.in_ok-attr.attr
    c.in_ok-attr.ensures.attr) ∙ sym c.if-is_last.ensures)

pub returns-clause-handles : goal.returns-clause-handles
returns-clause-handles g c = handles_more _ c.args.table.now c.requires.0 c.args.name.now
    c.args.dir.now c.args.at.now c.requires.1 c.args.time c.change_rows.new.table c.change_rows.ensures.changed

pub last_bytes-requires : goal.last_bytes-requires
last_bytes-requires g c =
    small _ c.args.table.now c.requires.0 c.args.name.now c.args.dir.now c.args.at.now c.requires.1 c.args.time
    c.in_ok-attr.attr (seen_is _ c.args.table.now c.requires.0 c.args.name.now c.args.dir.now c.args.at.now c.requires.1 c.in_ok-attr.attr c.in_ok-attr.ensures.attr)

pub clear_rows-requires-clause-count : goal.clear_rows-requires-clause-count
clear_rows-requires-clause-count g c =
    last_counts _ c.args.table.now c.requires.0 c.args.name.now c.args.dir.now c.args.at.now c.requires.1 c.args.time
    c.in_ok-attr.attr (seen_is _ c.args.table.now c.requires.0 c.args.name.now c.args.dir.now c.args.at.now c.requires.1 c.in_ok-attr.attr c.in_ok-attr.ensures.attr)
    (sym (last_is _ c.args.table.now c.requires.0 c.args.name.now c.args.dir.now c.args.at.now c.requires.1 c.in_ok-attr.attr
    c.in_ok-attr.ensures.attr) ∙ sym c.if-is_last.ensures) _ c.last_bytes.ensures

pub change_rows-requires-clause-count : goal.change_rows-requires-clause-count
change_rows-requires-clause-count g c =
    more_counts _ c.args.table.now c.requires.0 c.args.name.now c.args.dir.now c.args.at.now c.requires.1 c.args.time
    (sym (last_is _ c.args.table.now c.requires.0 c.args.name.now c.args.dir.now c.args.at.now c.requires.1 c.in_ok-attr.attr
    c.in_ok-attr.ensures.attr) ∙ sym c.if-is_last.ensures)

pub returns-then-is_last-clause-tallied : goal.returns-then-is_last-clause-tallied
returns-then-is_last-clause-tallied g c A can =
    last_tallied _ c.args.table.now A c.args.name.now c.args.dir.now c.args.at.now can c.args.time
    c.in_ok-attr.attr (seen_is _ c.args.table.now A c.args.name.now c.args.dir.now c.args.at.now can c.in_ok-attr.attr c.in_ok-attr.ensures.attr) c.clear_rows.new.table
    (sym (last_is _ c.args.table.now A c.args.name.now c.args.dir.now c.args.at.now can c.in_ok-attr.attr
    c.in_ok-attr.ensures.attr) ∙ sym c.if-is_last.ensures) _ c.last_bytes.ensures c.clear_rows.ensures.tally

pub returns-clause-tallied : goal.returns-clause-tallied
returns-clause-tallied g c A can =
    more_tallied _ c.args.table.now A c.args.name.now c.args.dir.now c.args.at.now can c.args.time c.change_rows.new.table
    (sym (last_is _ c.args.table.now A c.args.name.now c.args.dir.now c.args.at.now can c.in_ok-attr.attr
    c.in_ok-attr.ensures.attr) ∙ sym c.if-is_last.ensures) c.change_rows.ensures.tally
