use Rattle.std.proofs.Common.{◌≡◌, ◌≤◌, sum_by, count_by, take}
use Rattle.std.specs.Prelude.{◌==◌}
use Rattle.abs_model.specs.Objects.{names_of}
use Rattle.abs_queries.proofs.validity.one_link.Given as goal

abbrev pub invariant-loop-e : goal.invariant-loop-e
invariant-loop-e l = record {
  count : l.count ≡ sum_by (λ e. count_by (λ r. r.index == l.i) (names_of e)) (take l.e-index l.entries);
  few : l.count ≤ 1;
}
