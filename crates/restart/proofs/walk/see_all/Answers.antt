use Rattle.std.proofs.Common.{length, ◌≡◌, refl, ◌∙◌, arith, subst}
use Rattle.std.proofs.lemmas.Option.{slice_get-get_or}
use Rattle.restart.specs.Walk.{AreSeen}
use Rattle.restart.proofs.Turns.{still, grows_on, grows_not, seen_more}
use Rattle.restart.proofs.walk.see_all.Goals as goal

pub loop-k-init : goal.loop-k-init
loop-k-init g c = record {
  same = refl;
  limits = refl;
  faults = refl;
  steps = λ table A k live going. (going, λ j i r x below. absurd (omega (arith, below)));
  grows = grows_not c.args.found.now;
}

pub see-requires : goal.see-requires
see-requires g c =
    let s = c.requires.seen in
    let inv = c.loop-k.invariant in
    let at = slice_get-get_or c.args.listed.now c.loop-k.k c.index-listed-k.result c.loop-k-test.true in
    let l = s.3 c.loop-k.k _ at in
    record { seen = (s.0, s.1, still _ _ s.0 s.1 inv.same s.2, l.0, l.1, l.2, l.3, (inv.steps s.0 s.1 s.2 s.3 s.4).0) }

pub loop-k-preserved : goal.loop-k-preserved
loop-k-preserved g c =
    let inv = c.loop-k.invariant in
    record {
      same = c.in-Ok.ensures.same ∙ inv.same;
      limits = c.in-Ok.ensures.watched.limits ∙ inv.limits;
      faults = c.in-Ok.ensures.watched.faults ∙ inv.faults;
      steps = λ table A k live going.
          let st = inv.steps table A k live going in
          let at = slice_get-get_or c.args.listed.now c.loop-k.k c.index-listed-k.result c.loop-k-test.true in
          let l = live c.loop-k.k _ at in
          let now = still _ _ table A inv.same k in (
            (c.in-Ok.ensures.seen table A now l.0 l.1 l.2 l.3 st.0).0,
            seen_more table k.new c.args.listed.now c.loop-k.k l.0 l.1 _ c.loop-k.found c.see.new.found at l.2 l.3
                (λ i x at is. (c.in-Ok.ensures.seen table A now i x at is st.0).1) c.in-Ok.ensures.grows st.1,
          );
      grows = grows_on _ _ _ inv.grows c.in-Ok.ensures.grows;
    }

pub returns-clause-seen : goal.returns-clause-seen
returns-clause-seen g c table A k live going =
    let st = c.loop-k.invariant.steps table A k live going in
    let most = c.loop-k.auto.k-end in
    let least = c.loop-k-test.false in
    let all : c.loop-k.k ≡ length c.args.listed.now = omega (arith, most, least) in
    (st.0, subst (λ n. AreSeen table k.new c.args.listed.now n c.loop-k.found) all st.1)
