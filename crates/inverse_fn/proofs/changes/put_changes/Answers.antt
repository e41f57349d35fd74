use Rattle.std.proofs.Common.{ap, sym, ◌∙◌}
use Rattle.std.specs.Prelude.{set}
use Rattle.inverse_fn.proofs.Putting.{changed_more}
use Rattle.inverse_fn.proofs.changes.put_changes.Goals as goal

pub loop-change-preserved : goal.loop-change-preserved
loop-change-preserved c = c.put_change.ensures ∙ ap (λ A. set A c.in-Some.change.index c.in-Some.change.entry) c.loop-change.invariant
    ∙ sym (changed_more c.loop-change.yielded c.in-Some.change c.args.entries.now)
