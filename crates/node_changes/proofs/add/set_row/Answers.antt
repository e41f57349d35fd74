use Rattle.std.proofs.Common.{◌<◌, sym, subst}
use Rattle.conf_map.specs.Tallied.{NoneFreeBelow}
use Rattle.node_changes.proofs.add.set_row.Goals as goal

pub take_row-requires-clause-none_below : goal.take_row-requires-clause-none_below
take_row-requires-clause-none_below c =
    subst (λ n. NoneFreeBelow n c.args.table.now.rows.items) (sym c.if-index-table.true) c.requires.none_below
