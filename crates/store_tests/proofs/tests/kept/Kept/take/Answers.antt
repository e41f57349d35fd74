use Rattle.std.proofs.Common.{ap, sym, ◌∙◌, arith}
use Rattle.cow_checkpoint.specs.Store.{Store}
use Rattle.store_tests.proofs.Beside.{ready_stands, ready_rows, ready_still}
use Rattle.store_tests.proofs.tests.kept.Kept.take.Goals as goal

pub digests_of-requires-clause-stands : goal.digests_of-requires-clause-stands
digests_of-requires-clause-stands g c = ready_stands c.requires.ready

pub digests_of-requires-clause-entries : goal.digests_of-requires-clause-entries
digests_of-requires-clause-entries g c = ready_rows c.requires.ready

pub take-requires-clause-later : goal.take-requires-clause-later
take-requires-clause-later g c =
    let later = c.if-place-self.false in
    let taken = c.requires.taken in
    omega (arith, later, taken)

pub take-requires-clause-size : goal.take-requires-clause-size
take-requires-clause-size g c = c.in_ok-tree.ensures.size ∙ sym c.requires.size

pub returns-in-Ok : goal.returns-in-Ok
returns-in-Ok g c = record {
  ready = ready_still _ _ _ _ c.in_ok-tree.ensures.same c.in_ok-tree.ensures.limits c.requires.ready;
  size = ap (λ (s : Store). s.size) c.in-Ok.ensures ∙ c.requires.size;
  taken = ap (λ (s : Store). s.taken) c.in-Ok.ensures;
}
