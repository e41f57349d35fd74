use Rattle.std.proofs.Common.{◌∙◌, arith}
use Rattle.conf_map.proofs.Shows.{live_within, row_read, oid_read}
use Rattle.dispatch.proofs.mount.root_of.Goals as goal

pub index-requires : goal.index-requires
index-requires c =
    let p = c.requires.2.stands.placed in
    let below = live_within c.args.table.now.rows.items 0 p.export p.is_export in
    omega (arith, below, c.args.table.now.rows.ok.0)

pub returns : goal.returns
returns c = λ tree A k.
    let p = k.stands.placed in
    let r = row_read c.args.table.now.rows.items 0 p.export c.index.result.now p.is_export c.index.ensures in
    c.handle_of.ensures ∙ oid_read tree c.args.table.now A 0 p.export c.index.result.now k r
