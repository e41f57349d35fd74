use Rattle.inode_slots.specs.Directory.{IsIndexed}
use Rattle.inode_slots.proofs.tests.add_all.Given as goal

abbrev pub invariant-loop-number : goal.invariant-loop-number
invariant-loop-number g l = IsIndexed g.M.Medium.content g.M.Medium.size l.store 0 l.index
