use Rattle.std.proofs.Common.{ap, ◌∙◌}
use Rattle.cow_checkpoint.specs.Store.{Store}
use Rattle.store_tests.proofs.Beside.{ready_stands, ready_rows, ready_still}
use Rattle.store_tests.proofs.tests.kept.Kept.new.Goals as goal

pub digests_of-requires-clause-stands : goal.digests_of-requires-clause-stands
digests_of-requires-clause-stands g c = ready_stands c.in_ok-table.ensures

pub digests_of-requires-clause-entries : goal.digests_of-requires-clause-entries
digests_of-requires-clause-entries g c = ready_rows c.in_ok-table.ensures

pub returns-in-Ok : goal.returns-in-Ok
returns-in-Ok g c = record {
  ready = ready_still _ _ _ _ c.in_ok-tree.ensures.same c.in_ok-tree.ensures.limits c.in_ok-table.ensures;
  size = ap (λ (s : Store). s.size) c.in-Ok.ensures ∙ c.in_ok-tree.ensures.size;
  taken = ap (λ (s : Store). s.taken) c.in-Ok.ensures;
}
