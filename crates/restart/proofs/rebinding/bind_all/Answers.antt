use Rattle.std.proofs.Common.{◌<◌, ℕ, List, Option, Some, length, slice_set, refl, sym, ap, ◌∙◌, arith}
use Rattle.std.proofs.lemmas.Option.{slice_get-get_or}
use Rattle.restart.proofs.RowSteps.{rebound, none_changed, change_more, handle_of_is, all_changed, unshared}
use Rattle.restart.proofs.rebinding.bind_all.Goals as goal

pub loop-i-init : goal.loop-i-init
loop-i-init c = record { rows = none_changed (rebound c.args.handles.now) c.args.table.now.rows.items; in_step = λ k. k; used = refl }

pub bind_row-requires-clause-unshared : goal.bind_row-requires-clause-unshared
bind_row-requires-clause-unshared c =
    unshared c.args.handles.now c.args.table.now.rows.items c.loop-i.table.rows.items c.loop-i.i _ c.requires.null c.requires.apart c.loop-i.invariant.rows
    (handle_of_is c.args.handles.now c.loop-i.i _ c.loop-i-test.true)

pub loop-i-preserved : goal.loop-i-preserved
loop-i-preserved c =
    let k = c.loop-i.invariant.rows in
    let size = c.requires.size in
    let test = c.loop-i-test.true in
    let same = k.size in
    let below : c.loop-i.i < length c.loop-i.table.rows.items = omega (arith, size, test, same) in
    let at = slice_get-get_or c.loop-i.table.rows.items c.loop-i.i c.index.result.now below ∙ ap Some (sym c.index.ensures) in
    record {
      rows = change_more (rebound c.args.handles.now) c.args.table.now.rows.items c.loop-i.table.rows.items c.bind_row.new.table.rows.items c.loop-i.i c.index.result.now k at
          (c.in-Ok.ensures.rows ∙ ap (λ (h : Option (List ℕ)). slice_set c.loop-i.table.rows.items c.loop-i.i (record c.index.result.now { handle = h })) (sym (handle_of_is c.args.handles.now c.loop-i.i _ test)));
      in_step = λ s. c.in-Ok.ensures.in_step (c.loop-i.invariant.in_step s);
      used = c.in-Ok.ensures.tally.used ∙ c.loop-i.invariant.used;
    }

pub returns-clause-rows : goal.returns-clause-rows
returns-clause-rows c =
    let size = c.requires.size in
    let end = c.loop-i-test.false in
    all_changed (rebound c.args.handles.now) c.args.table.now.rows.items c.loop-i.table.rows.items c.loop-i.i c.loop-i.invariant.rows (omega (arith, size, end))
