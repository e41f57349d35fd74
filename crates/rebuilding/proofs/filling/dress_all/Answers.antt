use Rattle.std.proofs.Common.{◌≡◌, length, refl, ◌∙◌, arith}
use Rattle.server_trait.proofs.TreeLaws.{is_some_and}
use Rattle.abs_model.specs.Array.{null_entry}
use Rattle.staging.specs.Staged.{Staged}
use Rattle.rebuilding.proofs.Makings.{get_same}
use Rattle.rebuilding.proofs.Dressings.{all_can, all_dressed, to_the_end}
use Rattle.rebuilding.proofs.filling.dress_all.Goals as goal

pub loop-i-init : goal.loop-i-init
loop-i-init g c = record {
  limits = refl;
  faults = refl;
  dressed = λ t A S has can. is_some_and (λ t. Staged t c.args.staging.now c.args.table.now A S) has can.staged;
}

pub dress_at-requires : goal.dress_at-requires
dress_at-requires g c = record {
  can = all_can _ c.args.staging.now c.args.table.now c.args.after.now c.loop-i.i c.loop-i-test.true _ c.loop-i.table c.loop-i.invariant.dressed c.index-after-i.result
      (c.index-after-i.is ∙ get_same c.args.after.now c.loop-i.i c.index-after-i.result null_entry c.loop-i-test.true) c.requires.can;
}

pub loop-i-preserved : goal.loop-i-preserved
loop-i-preserved g c = record {
  limits = c.in-Ok.ensures.watched.limits ∙ c.loop-i.invariant.limits;
  faults = c.in-Ok.ensures.watched.faults ∙ c.loop-i.invariant.faults;
  dressed = λ t A S has can. all_dressed _ c.args.staging.now c.args.table.now c.args.after.now c.loop-i.i c.loop-i-test.true _ c.loop-i.table c.loop-i.invariant.dressed c.index-after-i.result
      (c.index-after-i.is ∙ get_same c.args.after.now c.loop-i.i c.index-after-i.result null_entry c.loop-i-test.true) t A S has can _ c.dress_at.new.table c.in-Ok.ensures.dressed;
}

pub returns-clause-dressed : goal.returns-clause-dressed
returns-clause-dressed g c t A S has can =
    let most = c.loop-i.auto.i-end in
    let least = c.loop-i-test.false in
    let all : c.loop-i.i ≡ length c.args.after.now = omega (arith, most, least) in
    to_the_end _ c.args.staging.now c.loop-i.table A S c.args.after.now c.loop-i.i (length c.args.after.now) all (c.loop-i.invariant.dressed t A S has can)
