use Rattle.std.proofs.Common.{◌≡◌, ◌∙◌, ◌+◌, ◌-◌, ℕ, suc, length, subst, ap, arith, false, List}
use Rattle.std.proofs.lemmas.List.{length-set}
use Rattle.pointer_tree.specs.Tree.{Content, pointer}
use Rattle.pointer_tree.specs.Changes.{Claims}
use Rattle.pointer_tree.proofs.ClaimLaws.{Claiming, claims_none, claims_leaf, claiming_first, claiming_more, claims_node, top_within}
use Rattle.pointer_tree.proofs.claim.+claim_tree.Goals as goal

pub returns-then-top-eq0-clause-ok : goal.returns-then-top-eq0-clause-ok
returns-then-top-eq0-clause-ok g t c =
    claims_none c.args.area c.args.depth c.args.top (g.M.Medium.content c.args.medium.now) c.args.map.now
    c.if-top-eq0.true

pub returns-then-depth-eq0-clause-ok : goal.returns-then-depth-eq0-clause-ok
returns-then-depth-eq0-clause-ok g t c =
    claims_leaf c.args.area c.args.depth c.args.top (g.M.Medium.content c.args.medium.now) c.args.map.now
    c.claim.new.self c.if-depth-eq0.true c.if-top-eq0.false
    (top_within c.args.area _ c.args.top c.args.map.now c.requires.lies c.requires.top_is c.if-top-eq0.false)
    c.claim.ensures.after

pub loop-index-init : goal.loop-index-init
loop-index-init g t c = record {
  state = claiming_first c.args.area (c.args.depth - 1) c.args.top (g.M.Medium.content c.args.medium.now)
      c.args.map.now c.claim.new.self
      (top_within c.args.area _ c.args.top c.args.map.now c.requires.lies c.requires.top_is c.if-top-eq0.false)
      c.claim.ensures.after;
  content = c.load.ensures.content;
  len = ap length c.claim.ensures.after ∙ length-set c.args.map.now c.args.top false;
  size = c.load.ensures.size;
  faults = c.in_ok-node.ensures.cause.ok;
}

pub loop-index-preserved : goal.loop-index-preserved
loop-index-preserved g t c =
    let inv = c.loop-index.invariant in
    let e = c.in_ok-claim_tree.ensures in
    let content = g.M.Medium.content c.args.medium.now in
    let area = c.args.area in
    let next : suc c.loop-index.index ≡ c.loop-index.index + 1 = omega arith in
    let child : c.pointer_of-child.result ≡ pointer area (content c.args.top) c.loop-index.index =
    c.pointer_of-child.ensures.is
    ∙ ap (λ (b : List ℕ). pointer area b c.loop-index.index) c.in_ok-node.ensures.bytes in
    let claims = subst (λ (p : ℕ). Claims area (c.args.depth - 1) p content c.loop-index.map c.claim_tree.new.map) child
    (subst (λ (f : Content). Claims area (c.args.depth - 1) c.pointer_of-child.result f c.loop-index.map
    c.claim_tree.new.map) inv.content e.ok) in
    record {
      state = subst (λ (j : ℕ). Claiming area (c.args.depth - 1) c.args.top content c.args.map.now
          c.claim_tree.new.map j)
          next (claiming_more area (c.args.depth - 1) c.args.top content c.args.map.now c.loop-index.map
          c.claim_tree.new.map c.loop-index.index inv.state claims);
      content = c.claim_tree.ensures.content ∙ inv.content;
      len = c.claim_tree.ensures.len ∙ inv.len;
      size = c.claim_tree.ensures.size ∙ inv.size;
      faults = e.cause.ok ∙ inv.faults;
    }

pub returns-clause-ok : goal.returns-clause-ok
returns-clause-ok g t c =
    let content = g.M.Medium.content c.args.medium.now in
    let deep : c.args.depth ≡ suc (c.args.depth - 1) = omega arith in
    let all : c.loop-index.index ≡ 128 = omega (arith, c.loop-index-test.false, c.loop-index.auto.index-end) in
    claims_node c.args.area c.args.depth (c.args.depth - 1) c.args.top content c.args.map.now c.loop-index.map deep
    c.if-top-eq0.false
    (subst (λ (j : ℕ). Claiming c.args.area (c.args.depth - 1) c.args.top content c.args.map.now c.loop-index.map j) all
    c.loop-index.invariant.state)
