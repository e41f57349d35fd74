use Rattle.std.proofs.Common.{◌∙◌, arith}
use Rattle.conf_map.proofs.Shows.{live_within, row_read}
use Rattle.conf_map.proofs.show.fattr_from.Goals as goal

pub index-requires : goal.index-requires
index-requires c = let below = live_within c.args.table.now.rows.items _ _ c.requires.live in
    omega (arith, below, c.args.table.now.rows.ok.0)

pub returns : goal.returns
returns c A told =
    let r = row_read c.args.table.now.rows.items c.args.at.now.index c.args.at.now.handle c.index.result.now c.requires.live c.index.ensures in
    c.fattr_of.ensures ∙ told.shows c.index.result.now r.is_row
