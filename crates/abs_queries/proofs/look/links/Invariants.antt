use Rattle.std.proofs.Common.{◌≡◌, sum_by, count_by, take}
use Rattle.std.specs.Prelude.{◌==◌}
use Rattle.abs_model.specs.Objects.{names_of}
use Rattle.abs_queries.proofs.look.links.Given as goal

abbrev pub invariant-loop-e : goal.invariant-loop-e
invariant-loop-e l = l.sum ≡ sum_by (λ e. count_by (λ r. r.index == l.i) (names_of e)) (take l.e-index l.entries)
