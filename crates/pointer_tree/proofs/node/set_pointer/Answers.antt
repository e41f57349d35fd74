use Rattle.std.proofs.Common.{arith, rules}
use Rattle.pointer_tree.proofs.Words.{pointer_written, pointer_kept}
use Rattle.pointer_tree.proofs.node.set_pointer.Goals as goal

pub returns-clause-here : goal.returns-clause-here
returns-clause-here c = pointer_written c.args.area c.args.node.now c.to_be_bytes-bytes.result c.args.index
    c.args.next (omega (arith, c.told-node, c.requires.index_in)) (search rules) c.to_be_bytes-bytes.ensures
    c.requires.next_in

pub returns-clause-there : goal.returns-clause-there
returns-clause-there c = λ i ne. pointer_kept _ c.args.node.now _ i _ _ _ _ ne
