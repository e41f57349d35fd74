use Rattle.std.proofs.Common.{rules, ◌≤◌, length, refl, ◌∙◌, arith, subst}
use Rattle.restart.specs.Walk.{IsTurn}
use Rattle.restart.proofs.Turns.{still, grows_on, grows_not, turn_more, all_done, few_dirs, watched_on}
use Rattle.restart.proofs.Listing.{every}
use Rattle.restart.proofs.walk.find_all.Goals as goal

pub loop-turn-init : goal.loop-turn-init
loop-turn-init g c = record {
  same = refl;
  limits = refl;
  faults = refl;
  steps = λ table A k going. (going, λ j d below. absurd (omega (arith, below)));
  grows = grows_not c.args.found.now;
}

pub next_dir-requires : goal.next_dir-requires
next_dir-requires g c =
    let s = c.requires.going in
    let inv = c.loop-turn.invariant in
    record { going = (s.0, s.1, still _ _ s.0 s.1 inv.same s.2, (inv.steps s.0 s.1 s.2 s.3).0) }

pub loop-turn-preserved : goal.loop-turn-preserved
loop-turn-preserved g c =
    let inv = c.loop-turn.invariant in
    record {
      same = c.in-Ok-true.ensures.same ∙ inv.same;
      limits = c.in-Ok-true.ensures.watched.limits ∙ inv.limits;
      faults = c.in-Ok-true.ensures.watched.faults ∙ inv.faults;
      steps = λ table A k going.
          let st = inv.steps table A k going in
          let n = c.in-Ok-true.ensures.gone table A (still _ _ table A inv.same k) st.0 in
          (n.0, turn_more A c.loop-turn.found c.next_dir.new.found c.loop-turn.turn c.in-Ok-true.ensures.grows (subst (λ b. IsTurn A c.loop-turn.found c.loop-turn.turn b c.next_dir.new.found) c.in-Ok-true.field-0-test n.1) st.1);
      grows = grows_on _ _ _ inv.grows c.in-Ok-true.ensures.grows;
    }

pub returns-in-Ok-false-clause-all : goal.returns-in-Ok-false-clause-all
returns-in-Ok-false-clause-all g c table A k going first =
    let inv = c.loop-turn.invariant in
    let st = inv.steps table A k going in
    let n = c.in-Ok-false.ensures.gone table A (still _ _ table A inv.same k) st.0 in
    let turn = subst (λ b. IsTurn A c.loop-turn.found c.loop-turn.turn b c.next_dir.new.found) c.in-Ok-false.field-0-test n.1 in
    let done = all_done A c.loop-turn.found c.loop-turn.turn turn.1 st.1 in
    (n.0, λ i live. c.in-Ok-false.ensures.grows.found i (every _ table A k c.loop-turn.found st.0 done (inv.grows.found 0 first) i live))

pub returns-clause-all : goal.returns-clause-all
returns-clause-all g c table A k going first =
    let inv = c.loop-turn.invariant in
    let st = inv.steps table A k going in
    let few = few_dirs table k.new A c.loop-turn.found st.0 in
    let size = inv.grows.size in
    let most : length c.loop-turn.found.dirs.items ≤ c.loop-turn.turn = search (rules, few, size, st.0.size, c.loop-turn-test.false, c.loop-turn.auto.turn-end) in
    (st.0, every _ table A k c.loop-turn.found st.0 (all_done A c.loop-turn.found c.loop-turn.turn most st.1) (inv.grows.found 0 first))

pub returns-in-Err-clause-watched : goal.returns-in-Err-clause-watched
returns-in-Err-clause-watched g c = watched_on _ _ _ c.in-Err.error c.loop-turn.invariant.limits c.loop-turn.invariant.faults c.in-Err.ensures.watched
