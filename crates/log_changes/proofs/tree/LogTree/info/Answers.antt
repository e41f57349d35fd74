use Rattle.std.proofs.Common.{sym, subst}
use Rattle.server_trait.specs.Tree.{node_at}
use Rattle.log_tree.specs.Held.{handle_of}
use Rattle.log_index.specs.Memory.{Matches}
use Rattle.log_changes.specs.Kept.{log_tree}
use Rattle.log_changes.proofs.tree.LogTree.info.Goals as goal

pub returns : goal.returns
returns g c =
    let tree = log_tree g.M.Medium.content g.M.Medium.size c.args.self.now in
    let h = handle_of c.args.id.now in
    subst (Matches tree h (node_at tree h)) (sym c.get.ensures) (c.requires.indexed.nodes c.args.id.now c.told-id)
