use Rattle.std.proofs.Common.{sym, subst}
use Rattle.abs_model.specs.declared.Entry.{Entry}
use Rattle.abs_text.specs.Lengths.{HasText}
use Rattle.abstraction_fn.proofs.Entries.{text_there}
use Rattle.abstraction_fn.proofs.text.get_obj.Goals as goal

pub write_entry-requires : goal.write_entry-requires
write_entry-requires g c =
    let A = c.requires.stands.0 in
    let k = c.requires.stands.1 in
    subst (λ (e : Entry). HasText e.object) (sym (c.in_ok-entry.ensures.entry A k))
    (text_there _ c.args.table.now A k c.args.index c.requires.within)
