use Rattle.std.proofs.Common.{◌∙◌, ap, sym}
use Rattle.abs_model.specs.Objects.{name_lt}
use Rattle.abs_queries.proofs.Rising.{next_rises, last_rises}
use Rattle.abs_queries.proofs.validity.is_rising.Goals as goal

pub loop-i-preserved : goal.loop-i-preserved
loop-i-preserved c = c.loop-i.invariant ∙ next_rises c.args.rows.now c.loop-i.i c.index-rows-i.result c.index-rows-i-in-loop-i.result c.loop-i.auto.i c.loop-i-test.true
    (sym (ap (λ a. name_lt a c.as_slice-in-loop-i.result.now) c.as_slice.ensures ∙ ap (name_lt _) c.as_slice-in-loop-i.ensures) ∙ sym c.name_lt.ensures ∙ c.if-not-name_lt.false)

pub returns : goal.returns
returns c = sym (c.loop-i.invariant ∙ last_rises c.args.rows.now c.loop-i.i c.loop-i-test.false)
