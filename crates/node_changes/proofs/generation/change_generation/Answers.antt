use Rattle.std.proofs.Common.{slice_set, refl, sym, subst}
use Rattle.std.proofs.lemmas.Option.{slice_get_read}
use Rattle.conf_map.specs.Tallied.{NoneFreeBelow}
use Rattle.conf_map.proofs.Tallies.{none_min}
use Rattle.node_changes.specs.Rows.{row_of_generation}
use Rattle.node_changes.proofs.generation.change_generation.Goals as goal

pub returns-clause-tally : goal.returns-clause-tally
returns-clause-tally c = record {
  used = refl;
  none_below = λ none. subst
      (λ n. NoneFreeBelow n (slice_set c.args.table.now.rows.items c.args.index
      (row_of_generation c.args.generation c.index-row.result.now)))
      (sym c.min-table.ensures)
      (none_min c.args.table.now.rows.items c.args.index c.index-row.result.now
      (row_of_generation c.args.generation c.index-row.result.now)
      (slice_get_read c.args.table.now.rows.items _ c.args.index c.index-row.result.now refl c.requires c.index-row.ensures)
      c.args.table.now.lowest none);
}
