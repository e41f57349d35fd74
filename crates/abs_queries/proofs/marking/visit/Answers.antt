use Rattle.std.proofs.Common.{◌||◌, ◌∙◌, ap, get_or, false}
use Rattle.std.specs.List.{list_any}
use Rattle.std.specs.Prelude.{◌==◌}
use Rattle.abs_model.specs.declared.NameRow.{NameRow}
use Rattle.abs_queries.proofs.MarkFacts.{visit_sound, Visited}
use Rattle.abs_queries.proofs.marking.visit.Goals as goal

pub returns-clause-sound : goal.returns-clause-sound
returns-clause-sound c =
    let visited : Visited c.args.entries.now c.args.here c.args.marked.now c.mark_rows-some.new.marked =
    λ i l. c.mark_rows-some.ensures.marks i l ∙ ap (λ (x : _). get_or c.args.marked.now i false || list_any (λ (r : NameRow). r.index == i) x) c.names_at.ensures in
    visit_sound c.args.entries.now c.args.here c.args.marked.now c.mark_rows-some.new.marked c.mark_rows-some.ensures.long visited c.if-not-marked-here.false c.requires.sound
