use Rattle.std.proofs.Common.{◌≡◌, length, refl, ◌∙◌, arith, true, false}
use Rattle.server_trait.proofs.TreeLaws.{is_some_and}
use Rattle.staging.specs.Staged.{Staged}
use Rattle.abs_model.specs.Array.{null_entry}
use Rattle.rebuilding.proofs.Makings.{get_same, loop_can, loop_made, made_all}
use Rattle.rebuilding.proofs.making.make.Goals as goal

pub loop-i-init : goal.loop-i-init
loop-i-init g c = record {
  limits = refl;
  faults = refl;
  made = λ t A S has can. is_some_and (λ t. Staged t c.args.staging.now c.args.table.now A S) has can.staged;
}

pub make_at-requires : goal.make_at-requires
make_at-requires g c =
    let test = c.loop-i-test.true in
    let size = c.requires.size in
    record {
      can = loop_can _ _ c.args.staging.now c.args.table.now c.args.after.now c.args.stays.now c.loop-i.i test _ c.loop-i.table c.loop-i.invariant.made _ c.index-after-i.result
          (get_same c.args.stays.now c.loop-i.i false true (omega (arith, test, size))) (c.index-after-i.is ∙ get_same c.args.after.now c.loop-i.i _ null_entry test)
          _ c.loop-i.invariant.limits c.requires.can;
    }

pub loop-i-preserved : goal.loop-i-preserved
loop-i-preserved g c =
    let test = c.loop-i-test.true in
    let size = c.requires.size in
    record {
      limits = c.in-Ok.ensures.watched.limits ∙ c.loop-i.invariant.limits;
      faults = c.in-Ok.ensures.watched.faults ∙ c.loop-i.invariant.faults;
      made = λ t A S has can. loop_made _ _ c.args.staging.now c.args.table.now c.args.after.now c.args.stays.now c.loop-i.i test _ c.loop-i.table c.loop-i.invariant.made _ c.index-after-i.result
          (get_same c.args.stays.now c.loop-i.i false true (omega (arith, test, size))) (c.index-after-i.is ∙ get_same c.args.after.now c.loop-i.i _ null_entry test)
          _ c.loop-i.invariant.limits t A S has can _ c.make_at.new.table c.in-Ok.ensures.made;
    }

pub returns-clause-made : goal.returns-clause-made
returns-clause-made g c t A S has can =
    let most = c.loop-i.auto.i-end in
    let least = c.loop-i-test.false in
    let all : c.loop-i.i ≡ length c.args.after.now = omega (arith, most, least) in
    made_all _ c.args.staging.now c.loop-i.table A S c.args.after.now c.args.stays.now c.loop-i.i (length c.args.after.now) all (c.loop-i.invariant.made t A S has can)
