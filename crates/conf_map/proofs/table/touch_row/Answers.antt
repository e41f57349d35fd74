use Rattle.std.proofs.Common.{refl}
use Rattle.std.proofs.lemmas.Option.{slice_get_read}
use Rattle.conf_map.specs.Tables.{index_in}
use Rattle.conf_map.proofs.InStep.{touched_handles, touched_in_step}
use Rattle.conf_map.proofs.table.touch_row.Goals as goal

pub returns-clause-in_step : goal.returns-clause-in_step
returns-clause-in_step c step = touched_in_step c.args.table.now _ (index_in c.args.table.now) (λ q. refl)
    (touched_handles c.args.table.now.rows.items c.args.index c.index-row.result.now c.args.time
    (slice_get_read c.args.table.now.rows.items _ c.args.index c.index-row.result.now refl c.requires c.index-row.ensures)) step

pub returns-clause-handles : goal.returns-clause-handles
returns-clause-handles c = touched_handles c.args.table.now.rows.items c.args.index c.index-row.result.now c.args.time
    (slice_get_read c.args.table.now.rows.items _ c.args.index c.index-row.result.now refl c.requires c.index-row.ensures)
