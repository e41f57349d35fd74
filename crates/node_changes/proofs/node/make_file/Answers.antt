use Rattle.std.proofs.Common.{arith}
use Rattle.node_changes.proofs.NewNodes.{unsized, has_tree, sized, size_fails}
use Rattle.node_changes.proofs.node.make_file.Goals as goal

pub set_size-requires-clause-tree : goal.set_size-requires-clause-tree
set_size-requires-clause-tree g c = has_tree _ _ c.args.dir.now c.args.name.now c.in_ok-handle.handle
    c.in_ok-handle.ensures.made c.requires.lacks

pub broken-requires : goal.broken-requires
broken-requires g c = size_fails _ _ c.args.dir.now c.args.name.now c.in_ok-handle.handle c.in_ok-handle.ensures.made
    _ _ c.args.size
    c.requires.lacks _ c.in_ok-handle.ensures.watched.limits c.requires.room c.in-Err.error c.in-Err.ensures.tree

pub returns-in-Ok-clause-begun : goal.returns-in-Ok-clause-begun
returns-in-Ok-clause-begun g c = sized _ _ c.args.dir.now c.args.name.now c.in_ok-handle.handle
    c.in_ok-handle.ensures.made _ _ c.args.size
    c.requires.lacks c.in-Ok.ensures.tree

pub returns-else-size-gt0-clause-begun : goal.returns-else-size-gt0-clause-begun
returns-else-size-gt0-clause-begun g c = unsized _ _ c.args.dir.now c.args.name.now c.in_ok-handle.handle
    c.in_ok-handle.ensures.made
    c.requires.lacks c.args.size (let none = c.if-size-gt0.false in omega (arith, none))
