use Rattle.pointer_tree.proofs.put.+put_block.Given as goal

abbrev pub decreases-put_block : goal.decreases-put_block
decreases-put_block g l = l.depth
