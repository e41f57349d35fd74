use Rattle.std.proofs.Common.{sym, ap, ◌∙◌}
use Rattle.std.specs.Prelude.{is_some}
use Rattle.cow_checkpoint.proofs.Found.{copied_some}
use Rattle.cow_checkpoint.proofs.Texts.{holds_at}
use Rattle.cow_checkpoint.proofs.held.Held.has.Goals as goal

pub returns : goal.returns
returns c =
    c.is_some.ensures ∙ sym (copied_some c.at.result) ∙ ap is_some c.at.ensures ∙ holds_at c.args.place c.args.self.now
