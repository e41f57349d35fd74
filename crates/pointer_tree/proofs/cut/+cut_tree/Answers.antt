use Rattle.std.proofs.Common.{◌≡◌, ◌∙◌, ◌-◌, ◌^◌, ◌≤◌, ℕ, suc, refl, sym, subst, inl, inr, rules, arith}
use Rattle.pointer_tree.specs.Tree.{Content, pointer}
use Rattle.pointer_tree.specs.Changes.{IsTop, Stands, Cuts, Lies}
use Rattle.pointer_tree.proofs.Trees.{uses_top, pow_pos_128}
use Rattle.pointer_tree.proofs.CutLaws.{Cutting, not_free, cut_start, cut_step, child_stands, cut_written, cut_given, cut_nothing, cut_leaf}
use Rattle.pointer_tree.proofs.cut.+cut_tree.Goals as goal

pub returns-then-top-eq0-clause-ok : goal.returns-then-top-eq0-clause-ok
returns-then-top-eq0-clause-ok g t c =
    let whole = cut_nothing c.args.area c.args.depth c.args.top c.args.keep (g.M.Medium.content c.args.medium.now)
    c.args.map.now c.requires.stands.top_is (inl c.if-top-eq0.true) (λ _. c.if-top-eq0.true) in
    subst (λ (x : ℕ). Cuts c.args.area c.args.depth c.args.top c.args.keep (g.M.Medium.content c.args.medium.now)
    c.args.map.now x (g.M.Medium.content c.args.medium.now) c.args.map.now) c.if-top-eq0.true whole

pub returns-then-keep-span-clause-ok : goal.returns-then-keep-span-clause-ok
returns-then-keep-span-clause-ok g t c =
    let past = subst (λ (x : ℕ). x ≤ c.args.keep) c.span.ensures c.if-keep-span.true in
    cut_nothing c.args.area c.args.depth c.args.top c.args.keep _ c.args.map.now c.requires.stands.top_is (inr past)
    (λ z. absurd (omega (arith, past, z, pow_pos_128 c.args.depth)))

pub give-requires-clause-taken : goal.give-requires-clause-taken
give-requires-clause-taken g t c =
    let u = uses_top c.args.area (g.M.Medium.content c.args.medium.now) c.args.depth c.args.top c.if-top-eq0.false in
    not_free c.args.map.now c.args.top (omega (arith, u, c.requires.stands.once c.args.top))

pub returns-then-depth-eq0-clause-ok : goal.returns-then-depth-eq0-clause-ok
returns-then-depth-eq0-clause-ok g t c =
    let e = c.if-depth-eq0.true in
    let content = g.M.Medium.content c.args.medium.now in
    let none : c.args.keep ≡ 0 = (let s = subst (λ (x : ℕ). c.span.result ≡ 128 ^ x) e c.span.ensures in
    omega (arith, s, c.if-keep-span.false)) in
    let stands = subst (λ (x : ℕ). Stands c.args.area x c.args.top content c.args.map.now) e c.requires.stands in
    let leaf = cut_leaf c.args.area c.args.top c.args.keep content c.args.map.now c.give.new.self c.if-top-eq0.false
    none stands (omega (arith, c.requires.stands.top_is, c.requires.lies.in_map, c.if-top-eq0.false))
    c.give.ensures.after in
    subst (λ (x : ℕ). Cuts c.args.area x c.args.top c.args.keep content c.args.map.now 0 content c.give.new.self)
    (sym e) leaf

pub loop-index-init : goal.loop-index-init
loop-index-init g t c =
    let content = g.M.Medium.content c.args.medium.now in
    let start = cut_start c.args.area (c.args.depth - 1) c.args.top c.args.keep content c.args.map.now
    c.in_ok-node.node c.if-top-eq0.false c.in_ok-node.ensures.bytes in
    record {
      state = subst (λ (x : Content). Cutting c.args.area (c.args.depth - 1) c.args.top c.args.keep content
          c.args.map.now 0 x c.args.map.now c.in_ok-node.node) (sym c.load.ensures.content) start;
      len = refl;
      size = c.load.ensures.size;
      faults = c.in_ok-node.ensures.cause.ok;
      node_len = search rules;
    }

pub cut_tree-requires : goal.cut_tree-requires
cut_tree-requires g t c κs lives =
    let inv = c.loop-index.invariant in
    let ed : c.args.depth ≡ suc (c.args.depth - 1) = omega arith in
    let stands = subst (λ (x : ℕ). Stands c.args.area x c.args.top (g.M.Medium.content c.args.medium.now)
    c.args.map.now) ed c.requires.stands in
    let child = child_stands c.args.area (c.args.depth - 1) c.args.top c.args.keep _ c.args.map.now c.loop-index.index
    _ c.loop-index.map c.loop-index.node c.if-top-eq0.false stands inv.state
    c.loop-index-test.true (subst (λ (p : ℕ). IsTop c.args.area p) c.pointer_of-child.ensures.is
    c.pointer_of-child.ensures.top_is) in
    let child' = subst (λ (p : ℕ). Stands c.args.area (c.args.depth - 1) p (g.M.Medium.content c.loop-index.medium)
    c.loop-index.map) (sym c.pointer_of-child.ensures.is) child in
    let lies : Lies c.args.area (g.M.Medium.size c.loop-index.medium) c.loop-index.map = record {
      not_zero = c.requires.lies.not_zero;
      on_medium = omega (arith, inv.size, c.requires.lies.on_medium);
      in_map = omega (arith, inv.len, c.requires.lies.in_map);
    } in
    (omega (arith, c.decreases), (lives, (lies, (child', omega arith))))

pub loop-index-preserved : goal.loop-index-preserved
loop-index-preserved g t c =
    let inv = c.loop-index.invariant in
    let ed : c.args.depth ≡ suc (c.args.depth - 1) = omega arith in
    let stands = subst (λ (x : ℕ). Stands c.args.area x c.args.top (g.M.Medium.content c.args.medium.now)
    c.args.map.now) ed c.requires.stands in
    let cuts = subst (λ (k : ℕ). Cuts c.args.area (c.args.depth - 1) (pointer c.args.area c.loop-index.node
    c.loop-index.index) k (g.M.Medium.content c.loop-index.medium) c.loop-index.map c.in_ok-left.left
    (g.M.Medium.content c.cut_tree.new.medium) c.cut_tree.new.map) c.part_of-part.ensures
    (subst (λ (p : ℕ). Cuts c.args.area (c.args.depth - 1) p c.part_of-part.result
    (g.M.Medium.content c.loop-index.medium) c.loop-index.map c.in_ok-left.left
    (g.M.Medium.content c.cut_tree.new.medium) c.cut_tree.new.map) c.pointer_of-child.ensures.is
    c.in_ok-left.ensures.ok) in
    record {
      state = cut_step c.args.area (c.args.depth - 1) c.args.top c.args.keep _ c.args.map.now c.loop-index.index _
          c.loop-index.map c.loop-index.node c.if-top-eq0.false stands inv.state
          c.in_ok-left.left _ c.cut_tree.new.map c.set_pointer.new.node c.loop-index-test.true cuts
          c.set_pointer.ensures.here c.set_pointer.ensures.there;
      len = c.cut_tree.ensures.len ∙ inv.len;
      size = c.cut_tree.ensures.size ∙ inv.size;
      faults = c.in_ok-left.ensures.cause.ok ∙ inv.faults;
      node_len = search rules;
    }

pub returns-then-keep-eq0-clause-ok : goal.returns-then-keep-eq0-clause-ok
returns-then-keep-eq0-clause-ok g t c =
    let inv = c.loop-index.invariant in
    let ed : c.args.depth ≡ suc (c.args.depth - 1) = omega arith in
    let content = g.M.Medium.content c.args.medium.now in
    let stands = subst (λ (x : ℕ). Stands c.args.area x c.args.top content c.args.map.now) ed c.requires.stands in
    let all : c.loop-index.index ≡ 128 = omega (arith, c.loop-index-test.false, c.loop-index.auto.index-end) in
    let state = subst (λ (x : ℕ). Cutting c.args.area (c.args.depth - 1) c.args.top c.args.keep content c.args.map.now
    x (g.M.Medium.content c.loop-index.medium) c.loop-index.map c.loop-index.node) all inv.state in
    let whole = cut_given c.args.area (c.args.depth - 1) c.args.top c.args.keep content c.args.map.now _
    c.loop-index.map c.loop-index.node c.if-top-eq0.false stands state
    c.give-then-keep-eq0.new.self c.if-keep-eq0.true (omega (
      arith,
      c.requires.stands.top_is,
      c.requires.lies.in_map,
      inv.len,
      c.if-top-eq0.false,
    )) c.give-then-keep-eq0.ensures.after in
    subst (λ (x : ℕ). Cuts c.args.area x c.args.top c.args.keep content c.args.map.now 0
    (g.M.Medium.content c.loop-index.medium) c.give-then-keep-eq0.new.self) (sym ed) whole

pub returns-clause-ok : goal.returns-clause-ok
returns-clause-ok g t c =
    let inv = c.loop-index.invariant in
    let ed : c.args.depth ≡ suc (c.args.depth - 1) = omega arith in
    let content = g.M.Medium.content c.args.medium.now in
    let stands = subst (λ (x : ℕ). Stands c.args.area x c.args.top content c.args.map.now) ed c.requires.stands in
    let all : c.loop-index.index ≡ 128 = omega (arith, c.loop-index-test.false, c.loop-index.auto.index-end) in
    let state = subst (λ (x : ℕ). Cutting c.args.area (c.args.depth - 1) c.args.top c.args.keep content c.args.map.now
    x (g.M.Medium.content c.loop-index.medium) c.loop-index.map c.loop-index.node) all inv.state in
    let whole = cut_written c.args.area (c.args.depth - 1) c.args.top c.args.keep content c.args.map.now _
    c.loop-index.map c.loop-index.node c.if-top-eq0.false stands state
    _ c.if-keep-eq0.false c.in_ok-write.ensures.bytes c.write.ensures.others in
    subst (λ (x : ℕ). Cuts c.args.area x c.args.top c.args.keep content c.args.map.now c.args.top
    (g.M.Medium.content c.write.new.self) c.loop-index.map) (sym ed) whole
