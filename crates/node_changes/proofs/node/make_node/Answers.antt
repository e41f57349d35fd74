use Rattle.node_changes.proofs.NewNodes.{can_set, set_fails, still_there, node_made}
use Rattle.node_changes.proofs.node.make_node.Goals as goal

pub set_attr-requires : goal.set_attr-requires
set_attr-requires g c = can_set _ _ c.args.dir.now c.args.name.now c.in_ok-handle.handle _ c.args.attr.now
    c.in_ok-handle.ensures.begun c.requires.lacks

pub broken-requires : goal.broken-requires
broken-requires g c = set_fails _ _ c.args.dir.now c.args.name.now c.in_ok-handle.handle _ c.args.attr.now
    c.in_ok-handle.ensures.begun c.requires.lacks
    _ c.in-Err.error c.in-Err.ensures.tree

pub attr_of-requires : goal.attr_of-requires
attr_of-requires g c = still_there _ _ c.args.dir.now c.args.name.now c.in_ok-handle.handle _ c.args.attr.now
    c.in_ok-handle.ensures.begun c.requires.lacks
    _ c.in-Ok.ensures.tree

pub returns-clause-made : goal.returns-clause-made
returns-clause-made g c = node_made _ _ c.args.dir.now c.args.name.now c.in_ok-handle.handle _ c.args.attr.now
    c.in_ok-handle.ensures.begun
    _ _ c.in_ok-told.told c.in-Ok.ensures.tree c.in_ok-told.ensures.same c.in_ok-told.ensures.attr
