use Rattle.std.proofs.Common.{◌≡◌, ◌+◌, ◌<◌, ◌≤◌, suc, true, false, refl, sym, ap, ◌∙◌, arith, subst}
use Rattle.inode_tree.specs.Kept.{tables_of}
use Rattle.inode_tree.specs.Tables.{climb}
use Rattle.inode_server.specs.Found.{IsWay}
use Rattle.inode_server.proofs.UnderLaws.{Misses, more, more_way, never, ends}
use Rattle.inode_server.proofs.renaming.is_under.Goals as goal

pub loop-step-init : goal.loop-step-init
loop-step-init c =
    (refl, (λ j l. absurd (omega (arith, l))), (λ j l. absurd (omega (arith, l))))

pub returns-then-at-top : goal.returns-then-at-top
returns-then-at-top c =
    let i = c.loop-step.invariant in (
      λ _. (c.loop-step._step, i.0 ∙ c.if-at-top.true, i.1),
      λ _. refl,
    )

pub links-requires : goal.links-requires
links-requires c =
    let i = c.loop-step.invariant in
    subst (λ x. x < (tables_of c.args.tables.now).counts.inodes) i.0 (c.requires.way c.loop-step._step i.1)

pub returns-then-links-eq0 : goal.returns-then-links-eq0
returns-then-links-eq0 c =
    let i = c.loop-step.invariant in
    let t = tables_of c.args.tables.now in (
      λ bad. (let no : false ≡ true = bad in cc),
      λ under. absurd (ends t c.args.top c.args.dir c.loop-step._step
          (ap (λ x. t.counts.links x) i.0 ∙ sym c.links.ensures ∙ c.if-links-eq0.true)
          (more t c.args.top c.args.dir c.loop-step._step i.2 (λ e. c.if-at-top.false (sym i.0 ∙ e))) under),
    )

pub parent-at-requires : goal.parent-at-requires
parent-at-requires c =
    let i = c.loop-step.invariant in
    subst (λ x. x < (tables_of c.args.tables.now).counts.inodes) i.0 (c.requires.way c.loop-step._step i.1)

pub loop-step-preserved : goal.loop-step-preserved
loop-step-preserved c =
    let i = c.loop-step.invariant in
    let t = tables_of c.args.tables.now in
    let k = c.loop-step._step in
    let next : suc k ≡ k + 1 = omega arith in
    let ne = c.if-links-eq0.false in
    let is : c.links.result ≡ t.counts.links (climb t k c.args.dir) = c.links.ensures
    ∙ ap (λ x. t.counts.links x) (sym i.0) in
    let some : 1 ≤ t.counts.links (climb t k c.args.dir) = omega (arith, ne, is) in
    let up : climb t (suc k) c.args.dir ≡ c.parent-at.result = ap (λ x. t.parent x) i.0 ∙ sym c.parent-at.ensures in
    subst (λ m. (climb t m c.args.dir ≡ c.parent-at.result) × IsWay t m c.args.dir × Misses t c.args.top c.args.dir m) next (
      up,
      more_way t c.args.top c.args.dir k i.1 some,
      more t c.args.top c.args.dir k i.2 (λ e. c.if-at-top.false (sym i.0 ∙ e)),
    )

pub returns : goal.returns
returns c =
    let i = c.loop-step.invariant in
    let t = tables_of c.args.tables.now in
    let end = c.loop-step-test.false in
    let all = c.inodes-step-end.ensures in (
      λ bad. (let no : false ≡ true = bad in cc),
      λ under. absurd (never t c.args.top c.args.dir t.counts.inodes c.requires.way
          (λ j l. i.2 j (omega (arith, l, end, all))) under),
    )
