-- The headline over whole loose runs.
use Rattle.std.proofs.Common.{◌≡◌, ℕ, suc, ◌+◌, ◌*◌, ◌≤◌, List, [], ◌∷◌, ◌++◌, length, refl, sym, ◌∙◌, ap, subst, ⊎_elim, arith}
use Rattle.std.specs.List.{All}
use Rattle.std.proofs.lemmas.List.{length-append}
use Rattle.std.proofs.lemmas.List.Elements.{All-nil, All-push, All-weaker}
use Rattle.cluster_model.specs.declared.request.Request.{Request}
use Rattle.log_format.specs.declared.Event.{Event}
use Rattle.server_trait.specs.declared.FaultPoint.{FaultPoint}
use Rattle.cluster_model.specs.Service.{Service, array_at}
use Rattle.cluster_model.specs.Tree.{root, below}
use Rattle.cluster_model.specs.Moments.{Moment}
use Rattle.cluster_model.specs.Turns.{last, moments}
use Rattle.cluster_model.specs.Step.{step}
use Rattle.cluster_model.specs.Fair.{IsFair}
use Rattle.cluster_model.specs.Right.{IsRight, IsRightWord, IsLawful}
use Rattle.cluster_model.specs.Good.{FitsEvent}
use Rattle.cluster_model.specs.Run.{Upto, UptoApart, faults_in, fresh, start_fault, run_from, run, LooseRun, nothing, replies, stables, IsToldRight, HasEnough, IsOnce, IsAsPromised}
use Rattle.cluster_model.proofs.Places.{array_at-append}
use Rattle.cluster_model.proofs.Steps.{Upto-weaker}
use Rattle.cluster_model.proofs.RightSteps.{RightAt}
use Rattle.cluster_model.proofs.Runs.{run_right}
use Rattle.cluster_model.proofs.Lines.{Grows, Chain, step_chain, chain_append, chain_moments, start_fault_grows}
use Rattle.cluster_model.proofs.Loosely.{Good, Upto-same, loose_run_same}
use Rattle.cluster_model.proofs.Voted.{Voted}
use Rattle.cluster_model.proofs.VotedRuns.{enough, enough_of, run_voted_all}
use Rattle.cluster_model.proofs.Once.{run_once}
use Rattle.cluster_model.proofs.Fetches.{Upto-with}
use Rattle.cluster_model.specs.Run.{Always}
use Rattle.cluster_model.proofs.ExactRuns.{upto_apart, loose_run_hist}

run_from_chain : (S : Service) (downs : List FaultPoint) (e : ℕ) (events : List Event) (m : Moment) →
    Chain m (run_from S downs e events m)
run_from_chain S downs e [] m = tt
run_from_chain S downs e (event ∷ events) m =
    let ms = step S (faults_in downs e) event m in
    chain_append m ms (run_from S downs (suc e) events (last m ms)) (step_chain S (faults_in downs e) event m)
    (run_from_chain S downs (suc e) events (last m ms))

-- the moments after the first
abbrev pub tail : Service → ℕ → List FaultPoint → List Event → List Moment
tail S servers downs events =
    let ms = moments (start_fault (faults_in downs 0)) (fresh S servers) (below (3 * S.f + 1)) in
    ms ++ run_from S downs 1 events (last (fresh S servers) ms)

pub tail_chain : (S : Service) (servers : ℕ) (downs : List FaultPoint) (events : List Event) →
    Chain (fresh S servers) (tail S servers downs events)
tail_chain S servers downs events =
    let m = fresh S servers in
    let ms = moments (start_fault (faults_in downs 0)) m (below (3 * S.f + 1)) in
    chain_append m ms (run_from S downs 1 events (last m ms))
    (chain_moments (start_fault (faults_in downs 0)) (start_fault_grows (faults_in downs 0)) m
    (below (3 * S.f + 1)))
    (run_from_chain S downs 1 events (last m ms))

abbrev pub IsRightStable : Service → List Request → ℕ × List ℕ → Type 0
IsRightStable S q d = (d.0 ≤ length q) × (d.1 ≡ root S (array_at S q d.0))

-- what is carried along
abbrev pub Carried : Service → Moment → Type 0
Carried S m = (replies m.lines ≡ m.state.decisions) × All (IsRightStable S m.state.requests) (stables m.lines)

stable_longer : (S : Service) (q : List Request) (r : Request) (d : ℕ × List ℕ) → IsRightStable S q d →
    IsRightStable S (q ++ r ∷ []) d
stable_longer S q r d h =
    let e : length (q ++ r ∷ []) ≡ length q + 1 = length-append q (r ∷ []) in
    (omega (arith, h.0), h.1 ∙ ap (root S) (sym (array_at-append S q r d.0 h.0)))

pub carries : (S : Service) (m n : Moment) → Grows m n →
    IsRightStable S n.state.requests (n.state.stable, n.state.root) → Carried S m → Carried S n
carries S m n g right h =
    let still : All (IsRightStable S n.state.requests) (stables m.lines) = ⊎_elim
    (λ e. subst (λ q. All (IsRightStable S q) (stables m.lines)) (sym e) h.1)
    (λ e. subst (λ q. All (IsRightStable S q) (stables m.lines)) (sym e.1)
    (All-weaker (IsRightStable S m.state.requests) (IsRightStable S (m.state.requests ++ e.0 ∷ []))
    (stable_longer S m.state.requests e.0) (stables m.lines) h.1))
    g.asked in (
      g.told h.0,
      ⊎_elim
          (λ e. subst (All (IsRightStable S n.state.requests)) (sym e) still)
          (λ e. subst (All (IsRightStable S n.state.requests)) (sym e)
          (All-push (IsRightStable S n.state.requests) (stables m.lines) (n.state.stable, n.state.root) still right))
          g.kept,
    )

abbrev Both : Service → Moment → Type 0
Both S m = IsRight S m.state × Carried S m

carried : (S : Service) (m : Moment) (ms : List Moment) → Chain m ms → Carried S m → Upto (IsFair S) (RightAt S) ms →
    Upto (IsFair S) (Both S) ms
carried S m [] chain h g = tt
carried S m (n ∷ ms) chain h g = λ fair.
    let r : IsRight S n.state = (g fair).0 in
    let k = carries S m n chain.0 (r.stable, r.stable_root) h in
    (((g fair).0, k), carried S n ms chain.1 k (g fair).1)

told_right : (S : Service) (m : Moment) → Both S m → IsToldRight S m
told_right S m h = record {
  each_decision = h.1.0;
  each_reply = subst (All (IsRightWord S m.state.requests (length m.state.requests))) (sym h.1.0) h.0.decided;
  each_stable = h.1.1;
}

run_told : (S : Service) → IsLawful S → (servers : ℕ) (downs : List FaultPoint) (events : List Event) →
    All (FitsEvent S) events → Upto (IsFair S) (λ m. IsRight S m.state × IsToldRight S m) (run S servers downs events)
run_told S laws servers downs events fits =
    let m = fresh S servers in
    let all = run_right S laws.orderly servers downs events fits in
    let first : Carried S m = (refl, All-nil (IsRightStable S [])) in
    λ fair. (
      ((all fair).0, told_right S m ((all fair).0, first)),
      Upto-weaker (IsFair S) (Both S) (λ n. IsRight S n.state × IsToldRight S n) (λ n h. (h.0, told_right S n h))
          (tail S servers downs events)
          (carried S m (tail S servers downs events) (tail_chain S servers downs events) first (all fair).1),
    )

upto_good : (S : Service) (Q : Moment → Type 0) (ms : List Moment) → Upto (IsFair S) Q ms → Upto (Good S) Q ms
upto_good S Q [] h = tt
upto_good S Q (m ∷ ms) h = λ p. ((h p.0).0, upto_good S Q ms (h p.0).1)

with_always : (P Q R : Moment → Type 0) (ms : List Moment) → Upto P Q ms → Always R ms → Upto P (λ m. Q m × R m) ms
with_always P Q R [] h g = tt
with_always P Q R (m ∷ ms) h g = λ p. (((h p).0, g.0), with_always P Q R ms (h p).1 g.1)

abbrev Whole : Service → Moment → Type 0
Whole S m = IsRight S m.state × IsToldRight S m × HasEnough S m

run_whole : (S : Service) → IsLawful S → (servers : ℕ) (downs : List FaultPoint) (events : List Event) →
    All (FitsEvent S) events → Upto (IsFair S) (Whole S) (run S servers downs events)
run_whole S laws servers downs events fits =
    let ms = run S servers downs events in
    Upto-weaker (IsFair S) (λ m. (IsRight S m.state × IsToldRight S m) × Voted S m) (Whole S)
    (λ m h. (h.0.0, h.0.1, λ p g. enough S m h.0.0 h.1 p g)) ms
    (with_always (IsFair S) (λ m. IsRight S m.state × IsToldRight S m) (Voted S) ms
    (run_told S laws servers downs events fits) (run_voted_all S servers downs events))

-- Up to the last moment up to which Fair, and Apart of all texts so far, hold, a loose run is as promised
pub headline : (S : Service) → IsLawful S → (servers : ℕ) (downs : List FaultPoint) (events : List Event) →
    All (FitsEvent S) events → (ms : List Moment) → LooseRun S servers downs events ms →
    UptoApart S nothing (IsAsPromised S) ms
headline S laws servers downs events fits ms loose =
    let whole : Upto (Good S) (Whole S) ms = Upto-same (Good S) (Whole S) ms (run S servers downs events)
    (loose_run_same S laws servers downs events fits ms loose)
    (upto_good S (Whole S) (run S servers downs events) (run_whole S laws servers downs events fits)) in
    let fair : Upto (Good S) (λ m. Whole S m × Good S m) ms = Upto-with (Good S) (Good S) (Whole S)
    (λ m g. g) ms whole in
    upto_apart S (IsAsPromised S) nothing ms (loose_run_hist S laws.spelled servers downs events fits ms nothing loose)
    (Upto-weaker (Good S) (λ m. (Whole S m × Good S m) × IsOnce m.state.decisions) (IsAsPromised S) (λ m h. record {
      right = h.0.0.0;
      told = h.0.0.1;
      once = subst IsOnce (sym h.0.0.1.each_decision) h.1;
      enough = h.0.0.2;
      enough_of = enough_of S m h.0.0.2 h.0.1.0;
    }) ms (with_always (Good S) (λ m. Whole S m × Good S m) (λ m. IsOnce m.state.decisions) ms fair
    (run_once S servers downs events ms loose)))
