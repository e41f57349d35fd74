use Rattle.std.proofs.Common.{◌≡◌, ◌+◌, ◌∙◌, ℕ, suc, subst, arith}
use Rattle.pointer_tree.specs.Changes.{Stands, Deepens}
use Rattle.pointer_tree.proofs.DeepLaws.{deepens_more, stands_moved, fits_moved, deeper_in}
use Rattle.pointer_tree.proofs.raise.deepen_tree.Goals as goal

pub levels-preserved : goal.levels-preserved
levels-preserved g c =
    let inv = c.levels.invariant in
    let e = c.in_ok-top.ensures in
    let before = g.M.Medium.content c.levels.medium in
    let after = g.M.Medium.content c.raise_tree.new.medium in
    let next : suc c.levels.depth ≡ c.levels.depth + 1 = omega arith in
    let r = e.ok c.levels.depth inv.stands in
    let stands = stands_moved c.args.area c.levels.depth c.levels.top (suc c.levels.depth) c.in_ok-top.top before after
    c.levels.map c.raise_tree.new.map inv.stands r.moves r.top_is in
    let fits = fits_moved c.args.area (g.M.Medium.size c.levels.medium) c.levels.depth c.levels.top
    (suc c.levels.depth) c.in_ok-top.top before after c.levels.map c.raise_tree.new.map inv.fits inv.stands.top_is
    r.moves in
    let deepens = deepens_more c.args.area c.args.depth c.args.top c.levels.depth c.levels.top c.in_ok-top.top
    (g.M.Medium.content c.args.medium.now) before after c.args.map.now c.levels.map c.raise_tree.new.map inv.deepens r
    in
    record {
      deepens = subst (λ (d : ℕ). Deepens c.args.area c.args.depth c.args.top (g.M.Medium.content c.args.medium.now)
          c.args.map.now d c.in_ok-top.top after c.raise_tree.new.map) next deepens;
      fits = rw e.size fits;
      stands = subst (λ (d : ℕ). Stands c.args.area d c.in_ok-top.top after c.raise_tree.new.map) next stands;
      depth_in = deeper_in c.levels.depth c.span.result c.args.index inv.depth_in c.span.ensures c.levels-test.true
          c.requires.index_in;
      room = omega (arith, inv.room, e.room);
      len = e.len ∙ inv.len;
      size = e.size ∙ inv.size;
      faults = e.cause.ok ∙ inv.faults;
    }
