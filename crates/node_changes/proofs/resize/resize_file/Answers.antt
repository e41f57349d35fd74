use Rattle.std.proofs.Common.{refl}
use Rattle.nfs2_types.specs.Bytes.{resized}
use Rattle.conf_map.proofs.Shows.{live_within}
use Rattle.abs_model.specs.Array.{entry_at}
use Rattle.abs_model.specs.Objects.{bytes_of}
use Rattle.node_changes.proofs.ByteLaws.{length-resized}
use Rattle.node_changes.proofs.RoomLaws.{can_resize, size_counts, bytes_stand, bytes_tallied}
use Rattle.node_changes.proofs.resize.resize_file.Goals as goal

pub resize-requires : goal.resize-requires
resize-requires g c =
    let k = can_resize _ c.args.table.now c.requires.0 c.args.before c.args.after c.args.at.now c.requires.1 in
    (k.0, k.1)

pub write_row-requires-clause-index : goal.write_row-requires-clause-index
write_row-requires-clause-index g c =
    live_within c.args.table.now.rows.items c.args.at.now.index c.args.at.now.handle c.requires.1.live

pub write_row-requires-clause-count : goal.write_row-requires-clause-count
write_row-requires-clause-count g c =
    size_counts _ c.args.table.now c.requires.0 c.args.before c.args.after c.args.at.now c.requires.1

pub returns-clause-stands : goal.returns-clause-stands
returns-clause-stands g c A can = bytes_stand _ c.args.table.now A c.args.before c.args.after c.args.at.now can _
    c.write_row.new.table (resized c.args.after) c.args.time c.in_ok-resize.ensures.resized c.write_row.ensures.row
    c.write_row.ensures.by_handle

pub returns-clause-tallied : goal.returns-clause-tallied
returns-clause-tallied g c A can = bytes_tallied _ c.args.table.now A c.args.before c.args.after c.args.at.now can
    c.write_row.new.table (resized c.args.after) c.args.time
    (length-resized c.args.after (bytes_of (entry_at A c.args.at.now.index))) _ refl c.write_row.ensures.tally
