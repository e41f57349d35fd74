use Rattle.std.proofs.Common.{rules, ◌≡◌}
use Rattle.std.proofs.lemmas.Result.{err_from_is_err_and}
use Rattle.xdr_core.proofs.Loops.{goes_on, is_done}
use Rattle.abs_text.specs.Forms.{row_form}
use Rattle.abs_text.proofs.Lists.{list_fails}
use Rattle.abs_text.proofs.reading.rows_at.Goals as goal

pub returns-in_err-row : goal.returns-in_err-row
returns-in_err-row c =
    let same : c.deref.result.now ≡ c.loop.rows.items = search rules in
    let p = err_from_is_err_and c.from_residual.result c.from_residual.ensures.1 in
    rw (p.1, p.2) (list_fails row_form c.args.count c.args.r.now c.loop.counter c.loop.rows.items c.loop.r c.in_err-row.field-0.0 c.loop-test.true (rw same at c.in_err-row.ensures) c.loop.invariant)

pub loop-preserved : goal.loop-preserved
loop-preserved c =
    let same : c.deref.result.now ≡ c.loop.rows.items = search rules in
    rw c.in_ok-push.ensures.items (goes_on row_form c.args.count c.args.r.now c.loop.counter c.loop.rows.items c.loop.r c.row_at.new.r c.in_ok-row.row c.loop-test.true (rw same at c.in_ok-row.ensures) c.loop.invariant)

pub returns : goal.returns
returns c = is_done row_form c.args.count c.args.r.now c.loop.counter c.loop.rows.items c.loop.r c.loop-test.false c.loop.invariant
