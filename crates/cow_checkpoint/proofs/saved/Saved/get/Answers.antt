use Rattle.std.proofs.Common.{sym, ap, ◌∙◌}
use Rattle.cluster_model.specs.State.{lookup}
use Rattle.cow_checkpoint.proofs.Found.{looked_up}
use Rattle.cow_checkpoint.proofs.saved.Saved.get.Goals as goal

pub returns : goal.returns
returns c =
    let s = c.self.inside in
    c.get.ensures.value
    ∙ sym (looked_up c.args.index s.texts.entries c.self.invariant)
    ∙ ap (lookup c.args.index) c.self.view_is
