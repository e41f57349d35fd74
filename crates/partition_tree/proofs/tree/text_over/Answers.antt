use Rattle.std.proofs.Common.{◌≡◌, ℕ, ◌+◌, ◌-◌, ◌*◌, take, drop, sym, ap, ◌∙◌, arith}
use Rattle.abs_text.specs.Text.{node_text}
use Rattle.partition_tree.proofs.Nodes.{node_is}
use Rattle.partition_tree.proofs.tree.text_over.Goals as goal

pub returns : goal.returns
returns c =
    let first = c.args.below + 16 * c.args.number in
    let n : first + 16 - first ≡ 16 = omega arith in
    c.node_text.ensures
    ∙ ap (λ (m : ℕ). node_text c.args.level c.args.number (take m (drop first c.args.kept.now))) n
    ∙ sym (node_is c.args.kept.now c.args.below c.args.level c.args.number c.requires)
