use Rattle.std.proofs.Common.{refl}
use Rattle.conf_map.proofs.Shows.{live_within}
use Rattle.node_changes.specs.Settings.{row_set}
use Rattle.node_changes.proofs.RoomLaws.{can_size}
use Rattle.node_changes.proofs.SetObjects.{set_stands, set_live, set_counts, set_tallied}
use Rattle.node_changes.proofs.settings.set_object.Goals as goal

pub set_node-requires : goal.set_node-requires
set_node-requires g c = can_size _ c.args.table.now c.requires.0 c.args.attr.now c.args.sattr.now c.args.at.now
    c.requires.1

pub set_row-requires-clause-index : goal.set_row-requires-clause-index
set_row-requires-clause-index g c =
    live_within c.args.table.now.rows.items c.args.at.now.index c.args.at.now.handle c.requires.1.live

pub returns-clause-stands : goal.returns-clause-stands
returns-clause-stands g c A can = set_stands _ c.args.table.now A c.args.attr.now c.args.sattr.now c.args.at.now can _
    c.set_row.new.table c.args.time c.in_ok-set_node.ensures.set c.set_row.ensures.row c.set_row.ensures.by_handle

pub returns-clause-live : goal.returns-clause-live
returns-clause-live g c = set_live c.args.table.now c.set_row.new.table c.args.at.now
    (row_set c.args.sattr.now c.args.time) (λ r. refl) c.set_row.ensures.row c.requires.1.live

pub set_row-requires-clause-count : goal.set_row-requires-clause-count
set_row-requires-clause-count g c = set_counts _ c.args.table.now c.requires.0 c.args.attr.now c.args.sattr.now
    c.args.at.now c.requires.1 c.args.time

pub returns-clause-tallied : goal.returns-clause-tallied
returns-clause-tallied g c A can = set_tallied _ c.args.table.now A c.args.attr.now c.args.sattr.now c.args.at.now can
    c.args.time c.set_row.new.table c.set_row.ensures.tally
