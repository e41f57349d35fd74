use Rattle.std.proofs.Common.{reverse, sym, ap, ◌∙◌}
use Rattle.std.specs.Prelude.{is_some}
use Rattle.cluster_model.specs.State.{lookup, has}
use Rattle.cow_checkpoint.proofs.Found.{looked_up, has_is}
use Rattle.cow_checkpoint.proofs.saved.Saved.has.Goals as goal

pub returns : goal.returns
returns c =
    let s = c.self.inside in
    let i = c.args.index in
    c.contains_key.ensures
    ∙ ap is_some (sym (looked_up i s.texts.entries c.self.invariant))
    ∙ sym (has_is (lookup i (reverse s.texts.entries)))
    ∙ ap (λ v. has (lookup i v)) c.self.view_is
