use Rattle.std.proofs.Common.{length, sym, ap, ◌∙◌}
use Rattle.partition_tree.proofs.Nodes.{count_is}
use Rattle.partition_tree.proofs.tree.Tree.levels.Goals as goal

pub returns-clause-size : goal.returns-clause-size
returns-clause-size c =
    let t = c.self.inside in
    let i = c.self.invariant in
    ap length (sym c.self.view_is) ∙ count_is t.levels t.leaves t.kept.items i.0 i.1 ∙ i.0
