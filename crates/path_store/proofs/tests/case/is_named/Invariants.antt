use Rattle.path_store.proofs.CaseLaws.{AreLeft}
use Rattle.path_store.proofs.tests.case.is_named.Given as goal

abbrev pub invariant-loop-row : goal.invariant-loop-row
invariant-loop-row l = AreLeft l.to l.initial.row-iterator l.row-iterator
