use Rattle.std.proofs.Common.{length, sym, ap, ◌∙◌, arith}
use Rattle.partition_tree.specs.Digests.{node_over, node_at}
use Rattle.partition_tree.specs.Levels.{from}
use Rattle.partition_tree.proofs.Nodes.{count_is, no_node, no_leaf, no_level, is_a_node, text_read, text_inside}
use Rattle.partition_tree.proofs.tree.Tree.node_text.Goals.{then-level-eq0-via-then-level-eq0, then-level-eq0-via-else-level-eq0+then-self-level}
use Rattle.partition_tree.proofs.tree.Tree.node_text.Goals as goal

pub returns-then-many-number-clause-some : goal.returns-then-many-number-clause-some
returns-then-many-number-clause-some c =
    let t = c.self.inside in
    let i = c.self.invariant in
    let size = ap length (sym c.self.view_is) ∙ count_is t.levels t.leaves t.kept.items i.0 i.1 ∙ i.0 in
    no_node (length c.args.self.now) t.levels c.args.level c.args.number c.place_of-many.result.1 size
    c.place_of-many.ensures.width c.if-many-number.true

pub returns-then-level-eq0-clause-some : goal.returns-then-level-eq0-clause-some
returns-then-level-eq0-clause-some c =
    let t = c.self.inside in
    let i = c.self.invariant in
    let size = ap length (sym c.self.view_is) ∙ count_is t.levels t.leaves t.kept.items i.0 i.1 ∙ i.0 in
    elim c.then-level-eq0.branch [
      | then-level-eq0-via-then-level-eq0 w ↦
          no_leaf (length c.args.self.now) c.args.level c.args.number (omega (arith, w.if-level-eq0.true))
      | then-level-eq0-via-else-level-eq0+then-self-level w ↦
          no_level (length c.args.self.now) t.levels c.args.level c.args.number size w.if-self-level.true
    ]

pub text_over-requires : goal.text_over-requires
text_over-requires c =
    let t = c.self.inside in
    let n = ap length c.deref.ensures.value in
    let inside = text_inside t.levels t.kept.items c.place_of-below.result.0 c.args.level c.args.number
    c.place_of-many.result.1 c.self.invariant.1 (omega (arith, c.if-level-eq0.false)) c.if-self-level.false
    c.place_of-below.ensures.start c.place_of-many.ensures.width c.if-many-number.false in
    omega (arith, n, inside)

pub returns-clause-text : goal.returns-clause-text
returns-clause-text c =
    let t = c.self.inside in
    let below = c.place_of-below.result.0 in
    c.text_over.ensures
    ∙ ap (λ v. node_over (from v below) c.args.level c.args.number) c.deref.ensures.value
    ∙ text_read t.levels t.leaves t.kept.items below c.args.level c.args.number c.place_of-many.result.1
    c.self.invariant.0 c.self.invariant.1 (omega (arith, c.if-level-eq0.false)) c.if-self-level.false
    c.place_of-below.ensures.start c.place_of-many.ensures.width c.if-many-number.false
    ∙ ap (λ v. node_at v c.args.level c.args.number) c.self.view_is

pub returns-clause-some : goal.returns-clause-some
returns-clause-some c =
    let t = c.self.inside in
    let i = c.self.invariant in
    let size = ap length (sym c.self.view_is) ∙ count_is t.levels t.leaves t.kept.items i.0 i.1 ∙ i.0 in
    is_a_node (length c.args.self.now) t.levels c.args.level c.args.number c.place_of-many.result.1 size
    (omega (arith, c.if-level-eq0.false)) c.if-self-level.false c.place_of-many.ensures.width c.if-many-number.false
