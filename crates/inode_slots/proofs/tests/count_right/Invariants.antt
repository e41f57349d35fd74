use Rattle.inode_slots.specs.Directory.{IsIndexed}
use Rattle.inode_slots.proofs.tests.count_right.Given as goal

abbrev pub invariant-loop-turn : goal.invariant-loop-turn
invariant-loop-turn g l = IsIndexed g.M.Medium.content g.M.Medium.size l.store 0 l.index
