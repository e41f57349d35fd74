use Rattle.std.proofs.Common.{List, ℕ, Option, Some, sym, ap, ◌∙◌}
use Rattle.std.specs.Option.{option_copied}
use Rattle.std.proofs.lemmas.Result.{IfOk-weaker}
use Rattle.abs_model.specs.Array.{entry_at}
use Rattle.abs_text.specs.Text.{entry_text}
use Rattle.cluster_model.specs.State.{or_else}
use Rattle.cow_checkpoint.specs.Store.{held_text}
use Rattle.cow_checkpoint.proofs.Holding.{made}
use Rattle.cow_checkpoint.proofs.Texts.{held_found}
use Rattle.cow_checkpoint.proofs.store.CheckpointStore.get.Goals as goal

pub returns-in-Some-clause-held : goal.returns-in-Some-clause-held
returns-in-Some-clause-held g c =
    let s = c.self.inside in
    let place = c.args.place in
    let i = c.args.index in
    let store = made s.size s.taken s.told.items s.held in
    IfOk-weaker c.shared.result _ _ (λ text is A k.
    let now = entry_text i (entry_at A i) in
    is
    ∙ sym (held_found place i A store c.in-Some.text.now (sym c.has.ensures ∙ c.if-not-has.false)
    c.if-self-index.false (ap (λ (o : Option (List ℕ)). or_else o now) (sym c.in-Some.ensures)))
    ∙ ap (held_text place i A) c.self.view_is)
    c.shared.ensures.text

pub returns-clause-held : goal.returns-clause-held
returns-clause-held g c =
    let s = c.self.inside in
    let place = c.args.place in
    let i = c.args.index in
    let store = made s.size s.taken s.told.items s.held in
    IfOk-weaker c.shared-2.result _ _ (λ text is A k.
    let now = entry_text i (entry_at A i) in
    let none = sym c.saved.ensures ∙ ap option_copied c.in_default.is in
    is
    ∙ ap (λ (t : List ℕ). Some t) (c.in_ok-text.ensures.text A k)
    ∙ sym (held_found place i A store now (sym c.has.ensures ∙ c.if-not-has.false)
    c.if-self-index.false (ap (λ (o : Option (List ℕ)). or_else o now) none))
    ∙ ap (held_text place i A) c.self.view_is)
    c.shared-2.ensures.text
