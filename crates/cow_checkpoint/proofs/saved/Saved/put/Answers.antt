use Rattle.std.proofs.Common.{◌≡◌, false, ◌∷◌, nat_eq, sym, ap, subst, ◌∙◌}
use Rattle.indexmap.proofs.CallerLemmas.{insert_entry-new}
use Rattle.cluster_model.specs.State.{lookup, has}
use Rattle.cow_checkpoint.proofs.Found.{not_there, newest_first}
use Rattle.cow_checkpoint.proofs.saved.Saved.put.Goals as goal

pub returns-clause-ok : goal.returns-clause-ok
returns-clause-ok c =
    let s = c.self.inside in
    let i = c.args.index in
    let t = c.args.text in
    let none = not_there i s.texts.entries c.self.invariant
    (subst (λ v. has (lookup i v) ≡ false) (sym c.self.view_is) c.requires) in
    newest_first s.texts.entries _ i t (c.in_ok-insert.ensures.entries ∙ insert_entry-new nat_eq s.texts i t none)
    ∙ ap (λ v. (i, t) ∷ v) c.self.view_is
