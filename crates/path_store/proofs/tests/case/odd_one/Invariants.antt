use Rattle.std.proofs.Common.{◌≡◌, true}
use Rattle.path_store.proofs.tests.case.odd_one.Given as goal

abbrev pub invariant-loop-at : goal.invariant-loop-at
invariant-loop-at l = l.store.whole ≡ true
