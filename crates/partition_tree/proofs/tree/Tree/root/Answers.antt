use Rattle.std.proofs.Common.{◌≡◌, ◌-◌, length, subst, arith}
use Rattle.partition_tree.specs.Digests.{IsRoot}
use Rattle.partition_tree.proofs.Nodes.{root_read}
use Rattle.partition_tree.proofs.tree.Tree.root.Goals as goal

pub returns : goal.returns
returns c =
    let t = c.self.inside in
    let last : c.len.result - 1 ≡ length t.kept.items - 1 = omega (arith, c.len.ensures, t.kept.ok) in
    subst (λ v. IsRoot v c.index.result.now) c.self.view_is
    (root_read t.levels t.leaves t.kept.items (c.len.result - 1) c.index.result.now c.index.ensures last
    c.self.invariant.0 c.self.invariant.1)
