use Rattle.pointer_tree.proofs.get.+get_block.Given as goal

abbrev pub decreases-get_block : goal.decreases-get_block
decreases-get_block g l = l.depth
