use Rattle.std.proofs.Common.{◌≡◌, ◌∙◌, ◌-◌, ℕ, suc, List, sym, ap, subst, arith, IfOk}
use Rattle.pointer_tree.specs.Tree.{block}
use Rattle.pointer_tree.proofs.Trees.{block-none, block-leaf}
use Rattle.pointer_tree.proofs.Steps.{block_below}
use Rattle.pointer_tree.proofs.get.+get_block.Goals as goal

pub returns-then-top-eq0-clause-bytes : goal.returns-then-top-eq0-clause-bytes
returns-then-top-eq0-clause-bytes g t c = c.zero_block.ensures
    ∙ sym (ap (λ (p : ℕ). block c.args.area (g.M.Medium.content c.args.medium.now) c.args.depth p c.args.index)
    c.if-top-eq0.true ∙ block-none _ _ _ _)

pub returns-then-depth-eq0-clause-bytes : goal.returns-then-depth-eq0-clause-bytes
returns-then-depth-eq0-clause-bytes g t c =
    c.in_ok-node.ensures.bytes ∙ sym (ap (λ (d : ℕ). block c.args.area (g.M.Medium.content c.args.medium.now) d
    c.args.top c.args.index) c.if-depth-eq0.true ∙ block-leaf _ _ _ _ c.if-top-eq0.false)

pub returns-clause-bytes : goal.returns-clause-bytes
returns-clause-bytes g t c =
    let ed : c.args.depth ≡ suc (c.args.depth - 1) = omega arith in
    let below = block_below c.args.area _ _ c.args.depth (c.args.depth - 1) c.args.top c.args.index
    c.pointer_of-child.result _ _ c.in_ok-node.node ed c.if-top-eq0.false
    c.place-number.ensures.child c.place-number.ensures.rest c.load.ensures.content c.in_ok-node.ensures.bytes
    c.pointer_of-child.ensures.is in
    subst (λ (x : List ℕ). IfOk c.get_block.result (λ bytes. bytes ≡ x)) below c.get_block.ensures.bytes
