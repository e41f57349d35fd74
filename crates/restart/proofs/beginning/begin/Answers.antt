use Rattle.std.proofs.Common.{ap, ◌∙◌, length, replicate, Option, None, List, ℕ, subst}
use Rattle.restart.specs.Numbers.{IsNumbered}
use Rattle.server_trait.specs.declared.bench.ConfEntry.{ConfEntry}
use Rattle.restart.proofs.Begun.{is_begun, begins}
use Rattle.restart.proofs.beginning.begin.Goals as goal

pub export_of-requires : goal.export_of-requires
export_of-requires g c = record { some = is_begun _ c.args.table.now c.requires.some.0 c.requires.some.1 }

pub returns-in-Ok-note-clause-begun : goal.returns-in-Ok-note-clause-begun
returns-in-Ok-note-clause-begun g c A k =
    begins _ c.args.table.now A k c.in-Ok.found c.note.new.found c.in_ok-export.export
    (subst (λ (rows : List ConfEntry). IsNumbered rows c.in-Ok.found.rows) c.deref.ensures.value c.in-Ok.ensures.rows)
    (c.in-Ok.ensures.handles ∙ ap (λ (rows : List ConfEntry). replicate (length rows) (let none : Option (List ℕ) = None in none)) c.deref.ensures.value)
    c.in-Ok.ensures.dirs c.in_ok-export.ensures.export c.in-Ok-note.ensures
