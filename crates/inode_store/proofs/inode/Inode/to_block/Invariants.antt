use Rattle.std.proofs.Common.{◌≡◌, ℕ, ◌*◌, ◌<◌, get_or}
use Rattle.pointer_tree.specs.Tree.{word_at}
use Rattle.inode_store.proofs.inode.Inode.to_block.Given as goal

abbrev pub invariant-loop-index : goal.invariant-loop-index
invariant-loop-index l = (i : ℕ) → i < l.index → word_at l.block (4 * i) ≡ get_or l.word-items i 0
