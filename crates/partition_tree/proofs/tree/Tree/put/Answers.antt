use Rattle.std.proofs.Common.{◌+◌, length, ap, ◌∙◌, sym}
use Rattle.partition_tree.proofs.Nodes.{levels_is}
use Rattle.partition_tree.proofs.tree.Tree.put.Goals as goal

pub returns-clause-cost : goal.returns-clause-cost
returns-clause-cost g c levels size =
    let t = c.self.inside in
    let same = levels_is t.levels t.leaves t.kept.items c.self.invariant.0 c.self.invariant.1 levels
    (ap length c.self.view_is ∙ size) in
    c.set_path.ensures.cost ∙ ap (λ n. c.args.steps.now + (n + 1)) (sym same)
