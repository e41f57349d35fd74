use Rattle.std.proofs.Common.{sym, ap, ◌∙◌, subst}
use Rattle.std.specs.Prelude.{bytes_eq}
use Rattle.wrap_read.specs.Reads.{StepFound}
use Rattle.wrap_read.proofs.StepLemmas.{parent_step, name_step}
use Rattle.wrap_read.proofs.lookup.step.Goals as goal

pub returns-then-eq-2-clause-found : goal.returns-then-eq-2-clause-found
returns-then-eq-2-clause-found g c A k is_d = subst
    (StepFound A c.args.table.now.rows.items c.args.d.now.index c.args.name.now) (sym c.parent_of.ensures)
    (parent_step _ c.args.table.now A k c.args.d.now c.requires.live is_d c.args.name.now
    (ap (bytes_eq c.args.name.now) (sym c.as_slice.ensures) ∙ sym c.eq.ensures ∙ c.if-eq.false)
    (ap (bytes_eq c.args.name.now) (sym c.as_slice-2.ensures) ∙ sym c.eq-2.ensures ∙ c.if-eq-2.true))

pub returns-clause-found : goal.returns-clause-found
returns-clause-found g c A k is_d =
    name_step A c.args.table.now.rows.items c.args.d.now.index c.args.name.now c.in_ok-found.found
    (ap (bytes_eq c.args.name.now) (sym c.as_slice.ensures) ∙ sym c.eq.ensures ∙ c.if-eq.false)
    (ap (bytes_eq c.args.name.now) (sym c.as_slice-2.ensures) ∙ sym c.eq-2.ensures ∙ c.if-eq-2.false)
    (c.in_ok-found.ensures.found A k is_d)
