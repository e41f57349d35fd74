use Rattle.std.proofs.Common.{refl, ap}
use Rattle.std.specs.Prelude.{slice_set}
use Rattle.std.proofs.lemmas.Option.{slice_get_read}
use Rattle.server_trait.proofs.TreeLaws.{some_none}
use Rattle.conf_map.specs.Tables.{index_in, emptied}
use Rattle.conf_map.proofs.InStep.{in_step}
use Rattle.conf_map.proofs.table.clear_row.Goals as goal

pub returns-clause-in_step : goal.returns-clause-in_step
returns-clause-in_step c step = in_step c.args.table.now _
    (index_in c.unmap_handle.new.table) c.args.index c.index-row.result.now (emptied c.index-row.result.now)
    (slice_get_read c.args.table.now.rows.items _ c.args.index c.index-row.result.now refl c.requires c.index-row.ensures)
    (ap (λ v. slice_set v.items c.args.index (emptied c.index-row.result.now)) c.unmap_handle.ensures.rows)
    (λ i h is at. absurd (some_none is refl))
    c.unmap_handle.ensures.by_handle step
