use Rattle.std.proofs.Common.{rules, ◌<◌, ◌∙◌, length, refl, arith}
use Rattle.conf_map.specs.Tables.{emptied}
use Rattle.restart.proofs.RowSteps.{row_there, none_changed, change_more, all_changed}
use Rattle.restart.proofs.rebinding.clear_all.Goals as goal

pub loop-i-init : goal.loop-i-init
loop-i-init c = record { rows = none_changed (λ _ r. emptied r) c.args.table.now.rows.items; in_step = λ k. k; used = refl }

pub clear_row-requires : goal.clear_row-requires
clear_row-requires c = search (rules, c.loop-i-test.true, c.len-i-end.ensures, c.loop-i.invariant.rows.size)

pub loop-i-preserved : goal.loop-i-preserved
loop-i-preserved c =
    let k = c.loop-i.invariant.rows in
    let below : c.loop-i.i < length c.loop-i.table.rows.items = search (rules, c.loop-i-test.true, c.len-i-end.ensures, k.size) in
    let r = row_there c.loop-i.table.rows.items c.loop-i.i below in
    record {
      rows = change_more (λ _ r. emptied r) c.args.table.now.rows.items c.loop-i.table.rows.items c.clear_row.new.table.rows.items c.loop-i.i r.0 k r.1 (c.clear_row.ensures.row r.0 r.1);
      in_step = λ s. c.clear_row.ensures.in_step (c.loop-i.invariant.in_step s);
      used = c.clear_row.ensures.tally.used ∙ c.loop-i.invariant.used;
    }

pub returns-clause-rows : goal.returns-clause-rows
returns-clause-rows c =
    let size = c.args.table.now.rows.ok.0 in
    let len = c.len-i-end.ensures in
    let end = c.loop-i-test.false in
    all_changed (λ _ r. emptied r) c.args.table.now.rows.items c.loop-i.table.rows.items c.loop-i.i c.loop-i.invariant.rows (omega (arith, size, len, end))
