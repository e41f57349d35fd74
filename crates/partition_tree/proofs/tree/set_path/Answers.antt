use Rattle.std.proofs.Common.{◌≡◌, ◌+◌, ◌/◌, suc, length, set, refl, ap, ◌∙◌, arith}
use Rattle.sha2.specs.Sha256.{sha256}
use Rattle.partition_tree.specs.Digests.{node_over}
use Rattle.partition_tree.specs.Levels.{from}
use Rattle.partition_tree.proofs.Nodes.{size_of}
use Rattle.partition_tree.proofs.Paths.{path_first, path_place, path_inside, path_up, path_done}
use Rattle.partition_tree.proofs.tree.set_path.Goals as goal

pub index_mut-requires : goal.index_mut-requires
index_mut-requires g c =
    omega (arith, c.requires.index, c.requires.leaves, size_of c.args.levels c.args.kept.now.items c.requires.tree.size, c.args.kept.now.ok)

pub loop-level-init : goal.loop-level-init
loop-level-init g c =
    let digest = c.digest_of.ensures.digest ∙ ap sha256 c.as_slice.ensures in
    record {
      path = path_first c.args.levels c.args.leaves c.args.kept.now.items _ c.args.changed.now.index (sha256 c.args.changed.now.text) c.requires.tree c.requires.leaves c.requires.index (ap (λ d. set c.args.kept.now.items c.args.changed.now.index d) digest);
      cost = c.digest_of.ensures.cost;
    }

pub text_over-text-requires : goal.text_over-text-requires
text_over-text-requires g c =
    let l = c.loop-level in
    let inside = path_inside c.args.levels c.args.leaves c.args.kept.now.items l.kept.items c.args.changed.now.index l.level l.number l.below l.many (sha256 c.args.changed.now.text) c.requires.tree c.loop-level-test.true l.invariant.path in
    omega (arith, inside, ap length c.deref.ensures.value)

pub overflow_add-below : goal.overflow_add-below
overflow_add-below g c =
    let l = c.loop-level in
    let place = path_place c.args.levels c.args.leaves c.args.kept.now.items l.kept.items c.args.changed.now.index l.level l.number l.below l.many (sha256 c.args.changed.now.text) c.requires.tree c.loop-level-test.true l.invariant.path in
    omega (arith, place, l.kept.ok, l.kept.small)

pub overflow_add-below-in-loop-level : goal.overflow_add-below-in-loop-level
overflow_add-below-in-loop-level g c =
    let l = c.loop-level in
    let place = path_place c.args.levels c.args.leaves c.args.kept.now.items l.kept.items c.args.changed.now.index l.level l.number l.below l.many (sha256 c.args.changed.now.text) c.requires.tree c.loop-level-test.true l.invariant.path in
    omega (arith, place, l.kept.ok, l.kept.small)

pub index_mut-requires-in-loop-level : goal.index_mut-requires-in-loop-level
index_mut-requires-in-loop-level g c =
    let l = c.loop-level in
    let place = path_place c.args.levels c.args.leaves c.args.kept.now.items l.kept.items c.args.changed.now.index l.level l.number l.below l.many (sha256 c.args.changed.now.text) c.requires.tree c.loop-level-test.true l.invariant.path in
    omega (arith, place, l.kept.ok)

pub loop-level-preserved : goal.loop-level-preserved
loop-level-preserved g c =
    let l = c.loop-level in
    let next : l.level + 1 ≡ suc l.level = omega arith in
    let over = c.text_over-text.ensures ∙ ap (λ v. node_over (from v l.below) (l.level + 1) (l.number / 16)) c.deref.ensures.value in
    record {
      path = path_up c.args.levels c.args.leaves c.args.kept.now.items l.kept.items _ c.args.changed.now.index l.level (l.level + 1) l.number l.below l.many (sha256 c.args.changed.now.text) c.text_over-text.result c.digest_of-digest.result next c.requires.tree c.requires.leaves c.loop-level-test.true l.invariant.path over c.digest_of-digest.ensures.digest refl;
      cost = omega (arith, l.invariant.cost, c.digest_of-digest.ensures.cost);
    }

pub returns-clause-tree : goal.returns-clause-tree
returns-clause-tree g c =
    let l = c.loop-level in
    path_done c.args.levels c.args.leaves c.args.kept.now.items l.kept.items c.args.changed.now.index l.level l.number l.below l.many (sha256 c.args.changed.now.text) c.requires.tree c.loop-level-test.false l.auto.level-end l.invariant.path
