use Rattle.std.proofs.Common.{Vec, cond, min, refl, sym, ap, ◌∙◌, subst}
use Rattle.std.specs.Prelude.{◌&&◌, not, slice_set, is_some, if◌then◌else◌}
use Rattle.std.specs.declared.alloc.Global.{Global}
use Rattle.std.proofs.lemmas.Option.{slice_get_read}
use Rattle.conf_map.specs.Tables.{index_in, has_handle}
use Rattle.server_trait.specs.declared.bench.ConfEntry.{ConfEntry}
use Rattle.conf_map.specs.Tallied.{NoneFreeBelow}
use Rattle.conf_map.proofs.InStep.{in_step}
use Rattle.conf_map.proofs.Tallies.{keeps_bound}
use Rattle.conf_map.proofs.table.bind_row.Goals as goal

pub returns-clause-in_step : goal.returns-clause-in_step
returns-clause-in_step c step = in_step c.args.table.now _
    (index_in c.unmap_handle.new.table) c.args.index c.index.result.now c.args.row
    (slice_get_read c.args.table.now.rows.items _ c.args.index c.index.result.now refl c.requires.within c.index.ensures)
    (ap (λ v. slice_set v.items c.args.index c.args.row)
    (c.unmap_handle.ensures.rows ∙ c.in_ok-map_handle.ensures.rows)) c.requires.unshared
    (λ q. c.unmap_handle.ensures.by_handle q
    ∙ ap (cond (has_handle c.index.result.now.handle q && not (has_handle c.args.row.handle q)) _)
    (c.in_ok-map_handle.ensures.by_handle q)) step

pub returns-clause-tally : goal.returns-clause-tally
returns-clause-tally c = record {
  used = c.unmap_handle.ensures.used ∙ c.in_ok-map_handle.ensures.used;
  none_below = λ none.
      let lowest = c.unmap_handle.ensures.lowest ∙ c.in_ok-map_handle.ensures.lowest in
      let rows = c.unmap_handle.ensures.rows ∙ c.in_ok-map_handle.ensures.rows in
      subst (λ k. NoneFreeBelow k (slice_set c.unmap_handle.new.table.rows.items c.args.index c.args.row))
      (sym (c.lowest_with-table.ensures ∙ ap (λ k. if is_some c.args.row.handle then k else min k c.args.index) lowest))
      (subst (λ (v : Vec ConfEntry Global). NoneFreeBelow
      (if is_some c.args.row.handle then c.args.table.now.lowest else min c.args.table.now.lowest c.args.index)
      (slice_set v.items c.args.index c.args.row)) (sym rows)
      (keeps_bound c.args.table.now.rows.items c.args.index c.index.result.now c.args.row
      (slice_get_read c.args.table.now.rows.items _ c.args.index c.index.result.now refl c.requires.within c.index.ensures)
      c.args.table.now.lowest none));
}
