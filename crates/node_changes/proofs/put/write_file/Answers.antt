use Rattle.std.proofs.Common.{length, refl, sym, subst}
use Rattle.abs_model.specs.Objects.{written}
use Rattle.conf_map.proofs.Shows.{live_within}
use Rattle.node_changes.specs.Puts.{size_after}
use Rattle.node_changes.specs.Tallies.{CanShift}
use Rattle.node_changes.proofs.RoomLaws.{can_write_file, size_counts, bytes_stand, bytes_tallied, written_length}
use Rattle.node_changes.proofs.put.write_file.Goals as goal

pub put-requires : goal.put-requires
put-requires g c = can_write_file _ c.args.table.now c.requires.0 c.args.size c.args.offset (length c.args.piece.now)
    c.args.at.now c.requires.1

pub end_of-requires : goal.end_of-requires
end_of-requires g c = c.requires.1.suits.small

pub write_row-requires-clause-index : goal.write_row-requires-clause-index
write_row-requires-clause-index g c =
    live_within c.args.table.now.rows.items c.args.at.now.index c.args.at.now.handle c.requires.1.live

pub write_row-requires-clause-count : goal.write_row-requires-clause-count
write_row-requires-clause-count g c = subst (CanShift c.args.table.now c.args.size) (sym c.end_of.ensures)
    (size_counts _ c.args.table.now c.requires.0 c.args.size
    (size_after c.args.offset (length c.args.piece.now) c.args.size) c.args.at.now c.requires.1)

pub returns-clause-stands : goal.returns-clause-stands
returns-clause-stands g c A can = bytes_stand _ c.args.table.now A c.args.size
    (size_after c.args.offset (length c.args.piece.now) c.args.size) c.args.at.now can _ c.write_row.new.table
    (written c.args.offset c.args.piece.now) c.args.time c.in_ok-put.ensures.put c.write_row.ensures.row
    c.write_row.ensures.by_handle

pub returns-clause-tallied : goal.returns-clause-tallied
returns-clause-tallied g c A can = bytes_tallied _ c.args.table.now A c.args.size
    (size_after c.args.offset (length c.args.piece.now) c.args.size) c.args.at.now can c.write_row.new.table
    (written c.args.offset c.args.piece.now) c.args.time
    (written_length A c.args.at.now.index c.args.size c.args.offset c.args.piece.now can.is_size) _ c.end_of.ensures
    c.write_row.ensures.tally
