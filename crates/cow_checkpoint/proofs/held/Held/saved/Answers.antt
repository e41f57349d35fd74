use Rattle.std.proofs.Common.{reverse, sym, ap, ◌∙◌}
use Rattle.std.specs.Option.{option_or, option_copied, option_to_list}
use Rattle.cow_checkpoint.specs.Held.{saved_from}
use Rattle.cow_checkpoint.proofs.Found.{copied_or}
use Rattle.cow_checkpoint.proofs.Texts.{saved_from-append}
use Rattle.cow_checkpoint.proofs.held.Held.saved.Goals as goal

pub returns : goal.returns
returns c =
    let h = c.self.inside in
    let place = c.args.place in
    let i = c.args.index in
    let older = c.first_saved-first.ensures ∙ ap (λ v. saved_from place i (reverse v)) c.deref.ensures.value in
    ap option_copied c.or.ensures
    ∙ copied_or c.first_saved-first.result c.newest_saved-last.result
    ∙ ap (λ o. option_or o (option_copied c.newest_saved-last.result)) older
    ∙ ap (option_or (saved_from place i (reverse h.older.items))) c.newest_saved-last.ensures
    ∙ sym (saved_from-append place i (option_to_list h.newest) (reverse h.older.items))
    ∙ ap (saved_from place i) c.self.view_is
