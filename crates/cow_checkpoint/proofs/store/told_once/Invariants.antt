use Rattle.std.proofs.Common.{◌≡◌, ℕ, take}
use Rattle.std.specs.Ordering.{nat_cmp}
use Rattle.std.specs.BTreeSet.{contains}
use Rattle.cluster_model.specs.Right.{is_told}
use Rattle.cow_checkpoint.proofs.store.told_once.Given as goal

abbrev pub invariant-loop-index : goal.invariant-loop-index
invariant-loop-index l = (i : ℕ) → contains nat_cmp l.once i ≡ is_told i (take l.index-index l.told)
