use Rattle.std.proofs.Common.{◌+◌, length, sym, ap, subst, ◌∙◌, arith}
use Rattle.std.proofs.lemmas.List.{length_push, take_all}
use Rattle.conf_map.specs.Stands.{StandValid}
use Rattle.replica.specs.Replicas.{digests_of}
use Rattle.replica.proofs.EmptyArray.{digests_more}
use Rattle.recovery.proofs.reading.read_texts.Goals as goal

pub get_obj-requires-clause-stands : goal.get_obj-requires-clause-stands
get_obj-requires-clause-stands g c =
    let A = c.requires.stands.0 in
    (A, subst (λ t. StandValid t c.args.table.now A) (sym c.loop-index.invariant.same) c.requires.stands.1)

pub loop-index-preserved : goal.loop-index-preserved
loop-index-preserved g c =
    let i = c.loop-index.index in
    let h = c.loop-index.invariant in
    let got = c.in_ok-text.ensures in
    let low = c.loop-index-test.true in
    let rows = c.args.table.now.rows.ok.0 in
    record {
      digests = λ A st.
          let size = st.stands.size in
          digests_more A i c.loop-index.texts.items c.push.new.texts.items c.new.result
          (omega (arith, low, rows, size)) (h.digests A st) c.in_ok-push.ensures
          (c.new.ensures ∙ got.text A (subst (λ t. StandValid t c.args.table.now A) (sym h.same) st));
      size = ap length c.in_ok-push.ensures ∙ length_push c.loop-index.texts.items c.new.result
          ∙ ap (λ k. k + 1) h.size;
      same = got.same ∙ h.same;
      limits = got.watched.limits ∙ h.limits;
      faults = got.watched.faults ∙ h.faults;
    }

pub returns-clause-digests : goal.returns-clause-digests
returns-clause-digests g c A st =
    let end = c.loop-index-test.false in
    let rows = c.args.table.now.rows.ok.0 in
    let size = st.stands.size in
    c.loop-index.invariant.digests A st ∙ ap digests_of (take_all c.loop-index.index A (omega (arith, end, rows, size)))
