use Rattle.std.proofs.Common.{ap, ◌∙◌}
use Rattle.abs_model.specs.Array.{entry_at}
use Rattle.abs_text.specs.Text.{entry_text}
use Rattle.cow_checkpoint.specs.Store.{saves_newest}
use Rattle.cow_checkpoint.proofs.Holding.{none_saved}
use Rattle.cow_checkpoint.proofs.held.Held.save.Goals as goal

pub returns-in_default-clause-saved : goal.returns-in_default-clause-saved
returns-in_default-clause-saved g c A k =
    let h = c.self.inside in
    let i = c.args.index in
    let text = entry_text i (entry_at A i) in
    none_saved i text h.newest h.older.items c.in_default.is (c.self.invariant c.in_default.is) ∙ ap (saves_newest i text) c.self.view_is
