use Rattle.std.proofs.Common.{ap, sym, ◌∙◌}
use Rattle.cow_checkpoint.specs.Store.{Store}
use Rattle.store_tests.proofs.Beside.{ready_stands, ready_rows, beside_still}
use Rattle.store_tests.proofs.tests.kept.Kept.text.Goals as goal

pub get-requires-clause-stands : goal.get-requires-clause-stands
get-requires-clause-stands g c = ready_stands c.requires.ready

pub get-requires-clause-size : goal.get-requires-clause-size
get-requires-clause-size g c = ready_rows c.requires.ready ∙ sym c.requires.size

pub returns-in-Ok : goal.returns-in-Ok
returns-in-Ok g c =
    beside_still _ _ _ _ _ _ _ c.in-Ok.ensures.tree c.in-Ok.ensures.watched.limits
    (ap (λ (s : Store). s.size) c.get.ensures.same) (ap (λ (s : Store). s.taken) c.get.ensures.same) c.requires
