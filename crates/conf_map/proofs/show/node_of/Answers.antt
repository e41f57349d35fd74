use Rattle.std.proofs.Common.{◌∙◌}
use Rattle.nfs2_types.specs.declared.NfsResult.TheVariants.{Node}
use Rattle.conf_map.proofs.Shows.{row_read, oid_read}
use Rattle.conf_map.proofs.show.node_of.Goals as goal

pub returns-clause-node : goal.returns-clause-node
returns-clause-node g c A k =
    let r = row_read c.args.table.now.rows.items c.args.at.now.index c.args.at.now.handle c.index.result.now c.requires.live c.index.ensures in
    let h = c.handle_of-handle.ensures ∙ oid_read _ c.args.table.now A _ _ c.index.result.now k r in
    let f = c.in_ok-fattr.ensures.fattr A k in
    λ i. Node (h i) (f i)
