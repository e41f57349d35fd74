use Rattle.std.proofs.Common.{sym, ◌∙◌}
use Rattle.std.proofs.lemmas.Slice.Eq.{bytes_eq-Decides}
use Rattle.path_store.proofs.CaseLaws.{one_fewer, none_leads}
use Rattle.path_store.proofs.SlashLaws.{not_both}
use Rattle.path_store.proofs.tests.case.is_named.Goals as goal

pub loop-row-preserved : goal.loop-row-preserved
loop-row-preserved c = one_fewer c.args.to.now c.into_iter-row-iterator.result c.loop-row.row-iterator c.next.new.self
    (c.in-Some.field-0-0, c.in-Some.row.now) c.loop-row.invariant c.in-Some.ensures.steps
    (λ e. not_both ((bytes_eq-Decides c.in-Some.row.now.to c.args.to.now).1 e) (sym c.eq.ensures ∙ c.if-eq.false))

pub returns : goal.returns
returns c = λ _. none_leads c.args.store.now c.store.inside.whole c.store.inside.keys c.store.inside.rows
    c.store.inside.dirs
    c.store.view_is c.store.invariant c.requires
    c.args.to.now c.into_iter-row-iterator.result c.loop-row.row-iterator
    (c.into_iter-row-iterator.ensures.into_iter_gives ∙ c.iter-row-items.ensures.rest) c.in-None.ensures.steps.0
    c.loop-row.invariant
