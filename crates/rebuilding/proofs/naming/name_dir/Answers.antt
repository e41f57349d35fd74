use Rattle.std.proofs.Common.{◌≡◌, length, refl, ap, ◌∙◌, arith, get_or, false}
use Rattle.std.proofs.lemmas.Option.{slice_get-get_or}
use Rattle.server_trait.proofs.TreeLaws.{is_some_and}
use Rattle.abs_model.specs.declared.entry.NameRow.{NameRow}
use Rattle.rebuilding.specs.Name.{row_at}
use Rattle.staging.specs.Staged.{Staged}
use Rattle.rebuilding.proofs.Makings.{get_same}
use Rattle.rebuilding.proofs.NamedDirs.{length_bits, bits_more, dir_can, dir_put, dir_all}
use Rattle.rebuilding.proofs.naming.name_dir.Goals as goal

pub loop-k-init : goal.loop-k-init
loop-k-init g c = record {
  limits = refl;
  faults = refl;
  bits = refl;
  named = λ t A C S has can. is_some_and (λ t. Staged t c.args.staging.now c.args.table.now A S) has can.staged;
}

pub put_name-requires : goal.put_name-requires
put_name-requires g c =
    let rows = c.args.rows.now in
    let k = c.loop-k.k in
    let test = c.loop-k-test.true in
    record {
      can = dir_can _ _ c.args.staging.now c.args.table.now c.args.d rows c.args.staged.now k test _ c.loop-k.invariant.named _ c.index-rows-k-in-loop-k.result
          (ap (λ (r : NameRow). get_or c.loop-k.staged r.index false) (get_same rows k c.index-rows-k.result _ test) ∙ ap (λ bits. get_or bits (row_at rows k).index false) c.loop-k.invariant.bits)
          (c.index-rows-k-in-loop-k.is ∙ get_same rows k c.index-rows-k-in-loop-k.result _ test)
          _ c.loop-k.invariant.limits c.requires.can;
    }

pub bounds-staged-index-in-loop-k : goal.bounds-staged-index-in-loop-k
bounds-staged-index-in-loop-k g c =
    let low = c.requires.within c.loop-k.k _ (slice_get-get_or c.args.rows.now c.loop-k.k c.index-rows-k.result c.loop-k-test.true) in
    let same : length c.loop-k.staged ≡ length c.args.staged.now = ap length c.loop-k.invariant.bits ∙ length_bits c.args.staged.now c.args.rows.now c.loop-k.k in
    omega (arith, low, same)

pub loop-k-preserved : goal.loop-k-preserved
loop-k-preserved g c =
    let rows = c.args.rows.now in
    let k = c.loop-k.k in
    let test = c.loop-k-test.true in
    record {
      limits = c.in-Ok.ensures.watched.limits ∙ c.loop-k.invariant.limits;
      faults = c.in-Ok.ensures.watched.faults ∙ c.loop-k.invariant.faults;
      bits = bits_more c.args.staged.now rows k _ (get_same rows k c.index-rows-k.result _ test) c.loop-k.staged _ c.loop-k.invariant.bits refl;
      named = λ t A C S has can. dir_put _ _ c.args.staging.now c.args.table.now c.args.d rows c.args.staged.now k test _ c.loop-k.invariant.named _ c.index-rows-k-in-loop-k.result
          (ap (λ (r : NameRow). get_or c.loop-k.staged r.index false) (get_same rows k c.index-rows-k.result _ test) ∙ ap (λ bits. get_or bits (row_at rows k).index false) c.loop-k.invariant.bits)
          (c.index-rows-k-in-loop-k.is ∙ get_same rows k c.index-rows-k-in-loop-k.result _ test)
          _ c.loop-k.invariant.limits t A C S has can _ c.in-Ok.ensures.put;
    }

pub returns-clause-named : goal.returns-clause-named
returns-clause-named g c t A C S has can =
    let most = c.loop-k.auto.k-end in
    let least = c.loop-k-test.false in
    let all : c.loop-k.k ≡ length c.args.rows.now = omega (arith, most, least) in
    dir_all _ c.args.staging.now c.args.table.now A S c.args.d c.args.rows.now c.args.staged.now c.loop-k.k (length c.args.rows.now) all (c.loop-k.invariant.named t A C S has can)
