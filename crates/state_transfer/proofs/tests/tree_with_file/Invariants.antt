use Rattle.std.proofs.Common.{◌≡◌, length}
use Rattle.state_transfer.proofs.tests.tree_with_file.Given as goal

abbrev pub invariant-loop-i : goal.invariant-loop-i
invariant-loop-i l = length l.texts.items ≡ l.i
