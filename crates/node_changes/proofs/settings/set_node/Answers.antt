use Rattle.node_changes.proofs.SetLaws.{still_node, all_set}
use Rattle.node_changes.proofs.settings.set_node.Goals as goal

pub set_owners-requires : goal.set_owners-requires
set_owners-requires g c =
    still_node _ c.args.node.now c.args.sattr.now.size c.requires _ c.in_ok-set_size.ensures.sized

pub returns-clause-set : goal.returns-clause-set
returns-clause-set g c =
    all_set _ c.args.node.now c.args.sattr.now.size c.requires _ c.in_ok-set_size.ensures.sized
    _ _ _ _ _ _ _ c.unwrap_or-mode.ensures c.unwrap_or-uid.ensures c.unwrap_or-gid.ensures
    c.in_ok-set_owners.ensures.set
