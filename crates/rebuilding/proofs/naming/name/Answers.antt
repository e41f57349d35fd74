use Rattle.std.proofs.Common.{◌≡◌, length, refl, ap, ◌∙◌, arith}
use Rattle.server_trait.proofs.TreeLaws.{is_some_and}
use Rattle.abs_model.specs.Array.{null_entry}
use Rattle.abs_model.specs.Objects.{names_of}
use Rattle.staging.specs.Staged.{Staged}
use Rattle.rebuilding.proofs.Makings.{get_same}
use Rattle.rebuilding.proofs.NamedDirs.{all_bits_more, all_within, all_can, all_put, name_all}
use Rattle.rebuilding.proofs.naming.name.Goals as goal

pub loop-d-init : goal.loop-d-init
loop-d-init g c = record {
  limits = refl;
  faults = refl;
  bits = refl;
  named = λ t A S has can. is_some_and (λ t. Staged t c.args.staging.now c.args.table.now A S) has can.staged;
}

pub name_dir-requires-clause-can : goal.name_dir-requires-clause-can
name_dir-requires-clause-can g c =
    let test = c.loop-d-test.true in
    all_can _ _ c.args.staging.now c.args.table.now c.args.after.now c.args.staged.now c.loop-d.d test _ c.loop-d.invariant.named c.loop-d.staged c.loop-d.invariant.bits c.names_in-rows.result.now
    (c.names_in-rows.ensures ∙ ap names_of (c.index-after-d.is ∙ get_same c.args.after.now c.loop-d.d c.index-after-d.result null_entry test))
    _ c.loop-d.invariant.limits c.requires.can

pub name_dir-requires-clause-within : goal.name_dir-requires-clause-within
name_dir-requires-clause-within g c =
    let test = c.loop-d-test.true in
    all_within c.args.staged.now c.args.after.now c.loop-d.d c.names_in-rows.result.now
    (c.names_in-rows.ensures ∙ ap names_of (c.index-after-d.is ∙ get_same c.args.after.now c.loop-d.d c.index-after-d.result null_entry test))
    c.loop-d.staged c.loop-d.invariant.bits c.requires.within

pub loop-d-preserved : goal.loop-d-preserved
loop-d-preserved g c =
    let test = c.loop-d-test.true in
    record {
      limits = c.in-Ok.ensures.watched.limits ∙ c.loop-d.invariant.limits;
      faults = c.in-Ok.ensures.watched.faults ∙ c.loop-d.invariant.faults;
      bits = all_bits_more c.args.staged.now c.args.after.now c.loop-d.d c.names_in-rows.result.now
          (c.names_in-rows.ensures ∙ ap names_of (c.index-after-d.is ∙ get_same c.args.after.now c.loop-d.d c.index-after-d.result null_entry test))
          c.loop-d.staged c.name_dir.new.staged c.loop-d.invariant.bits c.in-Ok.ensures.staged;
      named = λ t A S has can. all_put _ _ c.args.staging.now c.args.table.now c.args.after.now c.args.staged.now c.loop-d.d test _ c.loop-d.invariant.named c.loop-d.staged c.loop-d.invariant.bits c.names_in-rows.result.now
          (c.names_in-rows.ensures ∙ ap names_of (c.index-after-d.is ∙ get_same c.args.after.now c.loop-d.d c.index-after-d.result null_entry test))
          _ c.loop-d.invariant.limits t A S has can _ c.in-Ok.ensures.named;
    }

pub returns-clause-named : goal.returns-clause-named
returns-clause-named g c t A S has can =
    let most = c.loop-d.auto.d-end in
    let least = c.loop-d-test.false in
    let all : c.loop-d.d ≡ length c.args.after.now = omega (arith, most, least) in
    name_all _ c.args.staging.now c.args.table.now A c.args.after.now S c.args.staged.now c.loop-d.d (length c.args.after.now) all (c.loop-d.invariant.named t A S has can)
