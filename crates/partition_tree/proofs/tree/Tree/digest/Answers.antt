use Rattle.std.proofs.Common.{◌≡◌, length, sym, ap, subst, ◌∙◌, arith}
use Rattle.partition_tree.specs.Digests.{digest_at, IsDigest}
use Rattle.partition_tree.proofs.Kept.{in_levels, is_inside, digest_read}
use Rattle.partition_tree.proofs.tree.Tree.digest.Goals as goal

pub place_of-below-requires-clause-level : goal.place_of-below-requires-clause-level
place_of-below-requires-clause-level c =
    let t = c.self.inside in
    let d = subst (λ v. IsDigest (length v) c.args.level c.args.number) (sym c.self.view_is) c.requires in
    in_levels t.levels t.leaves t.kept.items c.self.invariant.0 c.self.invariant.1 c.args.level c.args.number d

pub overflow_add-below : goal.overflow_add-below
overflow_add-below c =
    let t = c.self.inside in
    let d = subst (λ v. IsDigest (length v) c.args.level c.args.number) (sym c.self.view_is) c.requires in
    let inside = is_inside t.levels t.leaves t.kept.items c.self.invariant.0 c.self.invariant.1 c.args.level
    c.args.number d c.place_of-below.result.0 c.place_of-below.ensures.start in
    let small = t.kept.ok in
    omega (arith, inside, small)

pub index-requires : goal.index-requires
index-requires c =
    let t = c.self.inside in
    let d = subst (λ v. IsDigest (length v) c.args.level c.args.number) (sym c.self.view_is) c.requires in
    let inside = is_inside t.levels t.leaves t.kept.items c.self.invariant.0 c.self.invariant.1 c.args.level
    c.args.number d c.place_of-below.result.0 c.place_of-below.ensures.start in
    omega (arith, inside)

pub returns : goal.returns
returns c =
    let t = c.self.inside in
    let d = subst (λ v. IsDigest (length v) c.args.level c.args.number) (sym c.self.view_is) c.requires in
    subst (λ v. c.index.result.now ≡ digest_at v c.args.level c.args.number) c.self.view_is
    (digest_read t.levels t.leaves t.kept.items c.self.invariant.0 c.self.invariant.1 c.args.level c.args.number d
    c.place_of-below.result.0 c.index.result.now c.place_of-below.ensures.start c.index.ensures)
