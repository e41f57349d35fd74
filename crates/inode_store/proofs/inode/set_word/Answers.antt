use Rattle.std.proofs.Common.{arith}
use Rattle.inode_store.proofs.InodeWords.{word_set}
use Rattle.pointer_tree.proofs.Words.{word_kept}
use Rattle.inode_store.proofs.inode.set_word.Goals as goal

pub returns-clause-here : goal.returns-clause-here
returns-clause-here c = word_set c.args.block.now c.to_be_bytes-bytes.result c.args.index c.args.word
    (omega (arith, c.told-block, c.requires)) (omega (arith, c.ranges.word)) c.to_be_bytes-bytes.ensures

pub returns-clause-there : goal.returns-clause-there
returns-clause-there c = λ i ne. word_kept c.args.block.now c.args.index i _ _ _ _ ne
