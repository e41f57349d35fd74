use Rattle.std.proofs.Common.{◌≡◌, ◌∙◌, ◌-◌, ℕ, suc, sym, subst, arith}
use Rattle.pointer_tree.specs.Changes.{Fits}
use Rattle.pointer_tree.proofs.Steps.{leaf_whole, below_fits, below_stands, relinked, not_relinked}
use Rattle.pointer_tree.proofs.put.+put_block.Goals as goal

pub returns-then-depth-eq0-clause-ok : goal.returns-then-depth-eq0-clause-ok
returns-then-depth-eq0-clause-ok g t c =
    leaf_whole c.args.area _ c.args.depth c.args.top c.in_ok-at.at c.args.index c.args.bytes.now _ _ _ _ _
    c.if-depth-eq0.true c.requires.index_in c.requires.fits
    (c.in_ok-at.ensures.ok c.args.depth c.requires.stands) c.write.ensures.others c.in_ok-write.ensures.bytes

pub put_block-requires : goal.put_block-requires
put_block-requires g t c κs lives =
    let ed : c.args.depth ≡ suc (c.args.depth - 1) = omega arith in
    let roots = c.in_ok-at.ensures.ok c.args.depth c.requires.stands in
    let fits_below = below_fits c.args.area _ c.args.depth (c.args.depth - 1) c.args.top c.in_ok-at.at c.args.index 0
    c.pointer_of-child.result _ _ c.args.bytes.now c.in_ok-node.node _ _ _ (g.M.Medium.content c.args.medium.now)
    _ _ c.args.map.now
    ed c.place-number.ensures.child c.place-number.ensures.rest c.requires.index_in c.load.ensures.content
    c.in_ok-node.ensures.bytes c.pointer_of-child.ensures.is c.requires.fits c.requires.stands roots in
    let stands_below = below_stands c.args.area _ c.args.depth (c.args.depth - 1) c.args.top c.in_ok-at.at
    c.args.index 0 c.pointer_of-child.result _ _ c.args.bytes.now c.in_ok-node.node _ _ _
    (g.M.Medium.content c.args.medium.now) _ _ c.args.map.now
    ed c.place-number.ensures.child c.place-number.ensures.rest c.requires.index_in c.load.ensures.content
    c.in_ok-node.ensures.bytes c.pointer_of-child.ensures.is c.requires.fits c.requires.stands roots in
    let sized = subst (λ (n : ℕ). Fits c.args.area n c.rooted.new.map)
    (sym (c.load.ensures.size ∙ c.rooted.ensures.size)) fits_below in (
      omega (arith, c.decreases),
      (
        lives,
        (sized, (stands_below, (omega arith, (c.place-number.ensures.rest_in, omega (arith, c.rooted.ensures.room))))),
      ),
    )

pub returns-in_ok-relink-clause-ok : goal.returns-in_ok-relink-clause-ok
returns-in_ok-relink-clause-ok g t c =
    let ed : c.args.depth ≡ suc (c.args.depth - 1) = omega arith in
    let roots = c.in_ok-at.ensures.ok c.args.depth c.requires.stands in
    relinked c.args.area _ c.args.depth (c.args.depth - 1) c.args.top c.in_ok-at.at c.args.index c.in_ok-next.next
    c.pointer_of-child.result _ _ c.args.bytes.now c.in_ok-node.node _ _ _ _ _ _ _
    ed c.place-number.ensures.child c.place-number.ensures.rest c.requires.index_in c.load.ensures.content
    c.in_ok-node.ensures.bytes c.pointer_of-child.ensures.is c.requires.fits c.requires.stands roots
    _ c.in_ok-next.ensures.ok c.relink.ensures.others c.in_ok-relink.ensures.here c.in_ok-relink.ensures.there

pub returns-else-next-child-clause-ok : goal.returns-else-next-child-clause-ok
returns-else-next-child-clause-ok g t c =
    let ed : c.args.depth ≡ suc (c.args.depth - 1) = omega arith in
    let roots = c.in_ok-at.ensures.ok c.args.depth c.requires.stands in
    not_relinked c.args.area _ c.args.depth (c.args.depth - 1) c.args.top c.in_ok-at.at c.args.index c.in_ok-next.next
    c.pointer_of-child.result _ _ c.args.bytes.now c.in_ok-node.node _ _ _ _ _ _ _
    ed c.place-number.ensures.child c.place-number.ensures.rest c.requires.index_in c.load.ensures.content
    c.in_ok-node.ensures.bytes c.pointer_of-child.ensures.is c.requires.fits c.requires.stands roots
    c.if-next-child.false c.in_ok-next.ensures.ok
