use Rattle.std.proofs.Common.{ap, arith}
use Rattle.cow_checkpoint.specs.Store.{Store}
use Rattle.store_tests.proofs.Beside.{ready_stands, ready_rows, beside_still}
use Rattle.store_tests.proofs.tests.kept.Kept.tell.Goals as goal

pub modify-requires-clause-stands : goal.modify-requires-clause-stands
modify-requires-clause-stands g c = ready_stands c.requires.beside.ready

pub modify-requires-clause-within : goal.modify-requires-clause-within
modify-requires-clause-within g c =
    let rows = ready_rows c.requires.beside.ready in
    let low = c.requires.within in
    omega (arith, rows, low)

pub returns-in-Ok : goal.returns-in-Ok
returns-in-Ok g c =
    let has = ready_stands c.requires.beside.ready in
    let noticed = c.in-Ok.ensures.noticed has.0 has.1 in
    beside_still _ _ _ _ _ _ _ c.in-Ok.ensures.tree c.in-Ok.ensures.watched.limits
    (ap (λ (s : Store). s.size) noticed) (ap (λ (s : Store). s.taken) noticed) c.requires.beside
