-- A loose run is Step's run, up to the last moment up to which Fair and Apart hold; and it is right up to there.
use Rattle.std.proofs.Common.{◌≡◌, ℕ, suc, List, [], ◌∷◌, ◌++◌, refl, sym, subst}
use Rattle.std.specs.List.{All}
use Rattle.std.proofs.lemmas.List.Elements.{All-head, All-tail}
use Rattle.log_format.specs.declared.Event.{Event}
use Rattle.log_format.specs.declared.Event.TheVariants.{Request as Ask, Run, RunAll, Reboot, Fetch, Rogue, Skip, Scratch, LieReply, LieRoot, LieItem, Wipe, Swap, End}
use Rattle.log_format.specs.declared.Line.TheVariants as lines
use Rattle.log_format.specs.declared.IdleCause.TheVariants.{NotRebuilding}
use Rattle.server_trait.specs.declared.FaultPoint.{FaultPoint}
use Rattle.cluster_model.specs.Service.{Service, array_at}
use Rattle.cluster_model.specs.State.{Condition, Live, Down, Rebuilding}
use Rattle.cluster_model.specs.Moments.{Moment, Faults, print, replica}
use Rattle.cluster_model.specs.Turns.{last}
use Rattle.cluster_model.specs.Step.{step, if_rebuilding, fetch_towards}
use Rattle.cluster_model.specs.Fair.{IsFair, IsApartNow}
use Rattle.cluster_model.specs.Right.{IsRight, IsLawful}
use Rattle.cluster_model.specs.Good.{FitsEvent}
use Rattle.cluster_model.specs.Loose.{LooseStep, LooseFetch}
use Rattle.cluster_model.specs.Run.{Upto, SameUpto, faults_in, fresh, start, run_from, run, LooseFrom, LooseRun}
use Rattle.cluster_model.proofs.RightSteps.{RightAt, step_right}
use Rattle.cluster_model.proofs.Runs.{start_right, run_right, fresh_right}
use Rattle.cluster_model.proofs.Fetches.{SameUpto-same, SameUpto-refl, loose_fetch_same}

-- at this moment Fair holds, and Apart of the texts that its state has and keeps
abbrev pub Good : Service → Moment → Type 0
Good S m = IsFair S m × IsApartNow S m.state

-- Lists that are the same up to a moment

pub Upto-same : (P Q : Moment → Type 0) (ms ns : List Moment) → SameUpto P ms ns → Upto P Q ns → Upto P Q ms
Upto-same P Q [] ns s h = tt
Upto-same P Q (m ∷ ms) [] s h = λ p. absurd (s p)
Upto-same P Q (m ∷ ms) (n ∷ ns) s h = λ p.
    let e : m ≡ n = (s p).0 in
    let g = h (subst P e p) in
    (subst Q (sym e) g.0, Upto-same P Q ms ns (s p).1 g.1)

over_left : (P : Moment → Type 0) (m : Moment) (ms ns : List Moment) → (P m → ⊥) → SameUpto P (m ∷ ms) ns
over_left P m ms [] h = h
over_left P m ms (n ∷ ns) h = λ p. absurd (h p)

pub SameUpto-then : (P Q : Moment → Type 0) (m k : Moment) (ms ns xs ys : List Moment) → m ≡ k → Q k →
    SameUpto P ms ns → Upto P Q ns →
    (last m ms ≡ last k ns → Q (last k ns) → SameUpto P xs ys) → SameUpto P (ms ++ xs) (ns ++ ys)
SameUpto-then P Q m k [] [] xs ys e q s h rest = rest e q
SameUpto-then P Q m k [] (n ∷ ns) xs ys e q s h rest = absurd s
SameUpto-then P Q m k (a ∷ ms) [] xs ys e q s h rest = over_left P a (ms ++ xs) ys s
SameUpto-then P Q m k (a ∷ ms) (n ∷ ns) xs ys e q s h rest = λ p.
    let f : a ≡ n = (s p).0 in
    let g = h (subst P f p) in
    (f, SameUpto-then P Q a n ms ns xs ys f g.0 (s p).1 g.1 rest)

-- One event

-- what holds of a moment from which a step goes on
abbrev pub Sound : Service → Moment → Type 0
Sound S m = IsRight S m.state × Good S m

loose_fetch : (S : Service) → IsLawful S → (faults : Faults) (r n : ℕ) (m : Moment) (c : Condition) →
    (replica m.state r).condition ≡ c → Sound S m →
    (ms : List Moment) → LooseFetch S faults r n m c ms →
    SameUpto (Good S) ms (if_rebuilding (print (lines.Idle r NotRebuilding) m ∷ []) c
    (λ b. fetch_towards S faults r (array_at S m.state.requests m.state.stable) n m b))
loose_fetch S laws faults r n m (Live l) live h ms loose = SameUpto-same (Good S) ms _ loose
loose_fetch S laws faults r n m Down live h ms loose = SameUpto-same (Good S) ms _ loose
loose_fetch S laws faults r n m (Rebuilding b) live h ms loose =
    subst (λ ks. SameUpto (Good S) ks (fetch_towards S faults r (array_at S m.state.requests m.state.stable) n m b))
    (sym loose.3)
    (loose_fetch_same S laws.spelled faults r n m b (Good S) (λ k g. g.0) h.0 h.1.0 h.1.1 live loose.0 loose.1 loose.2)

pub loose_step_same : (S : Service) → IsLawful S → (faults : Faults) (e : Event) (m : Moment) (ms : List Moment) →
    Sound S m → LooseStep S faults e m ms →
    SameUpto (Good S) ms (step S faults e m)
loose_step_same S laws faults (Fetch r n) m ms h loose = loose_fetch S laws faults r n m
    (replica m.state r).condition refl h ms loose
loose_step_same S laws faults (Ask client time bytes) m ms h loose = SameUpto-same (Good S) ms _ loose
loose_step_same S laws faults (Run r) m ms h loose = SameUpto-same (Good S) ms _ loose
loose_step_same S laws faults RunAll m ms h loose = SameUpto-same (Good S) ms _ loose
loose_step_same S laws faults (Reboot r) m ms h loose = SameUpto-same (Good S) ms _ loose
loose_step_same S laws faults (Rogue r time bytes) m ms h loose = SameUpto-same (Good S) ms _ loose
loose_step_same S laws faults (Skip r) m ms h loose = SameUpto-same (Good S) ms _ loose
loose_step_same S laws faults (Scratch r i o b) m ms h loose = SameUpto-same (Good S) ms _ loose
loose_step_same S laws faults (LieReply r p w) m ms h loose = SameUpto-same (Good S) ms _ loose
loose_step_same S laws faults (LieRoot r p d) m ms h loose = SameUpto-same (Good S) ms _ loose
loose_step_same S laws faults (LieItem r level number t) m ms h loose = SameUpto-same (Good S) ms _ loose
loose_step_same S laws faults (Wipe r) m ms h loose = SameUpto-same (Good S) ms _ loose
loose_step_same S laws faults (Swap r spare) m ms h loose = SameUpto-same (Good S) ms _ loose
loose_step_same S laws faults End m ms h loose = SameUpto-same (Good S) ms _ loose

-- Runs

good_right : (S : Service) (ms : List Moment) → Upto (IsFair S) (RightAt S) ms → Upto (Good S) (Sound S) ms
good_right S [] h = tt
good_right S (m ∷ ms) h = λ p. (((h p.0).0, p), good_right S ms (h p.0).1)

loose_from_same : (S : Service) → IsLawful S → (downs : List FaultPoint) (e : ℕ) (events : List Event) →
    All (FitsEvent S) events → (m k : Moment) (ms : List Moment) → m ≡ k → Sound S k →
    LooseFrom S downs e events m ms → SameUpto (Good S) ms (run_from S downs e events k)
loose_from_same S laws downs e [] fits m k ms same h loose = SameUpto-same (Good S) ms [] loose
loose_from_same S laws downs e (event ∷ events) fits m k ms same h loose =
    let now = loose.0 in
    let later = loose.1 in
    let ns = step S (faults_in downs e) event k in
    let one : LooseStep S (faults_in downs e) event k now = subst
    (λ n. LooseStep S (faults_in downs e) event n now) same loose.3 in
    subst (λ ks. SameUpto (Good S) ks (ns ++ run_from S downs (suc e) events (last k ns))) (sym loose.2)
    (SameUpto-then (Good S) (Sound S) m k now ns later (run_from S downs (suc e) events (last k ns)) same h
    (loose_step_same S laws (faults_in downs e) event k now h one)
    (good_right S ns (step_right S laws.orderly (faults_in downs e) event
    (All-head (FitsEvent S) event events fits) k h.0))
    (λ f g. loose_from_same S laws downs (suc e) events (All-tail (FitsEvent S) event events fits) (last m now)
    (last k ns) later f g loose.4))

-- the first moment is good where the rest of the claim asks for it
pub loose_run_same : (S : Service) → IsLawful S → (servers : ℕ) (downs : List FaultPoint) (events : List Event) →
    All (FitsEvent S) events → (ms : List Moment) →
    LooseRun S servers downs events ms → SameUpto (Good S) ms (run S servers downs events)
loose_run_same S laws servers downs events fits ms loose =
    let ss = start S servers downs in
    let k = last (fresh S servers) ss in
    let later = loose.0 in
    let tail = run_from S downs 1 events k in
    subst (λ ks. SameUpto (Good S) ks (ss ++ tail)) (sym loose.1)
    (λ p. (
      refl,
      SameUpto-then (Good S) (Sound S) (fresh S servers) (fresh S servers) _ _ later tail refl
          (fresh_right S servers, p)
          (SameUpto-refl (Good S) _) (good_right S _ (start_right S servers downs p.0).1)
          (λ f g. loose_from_same S laws downs 1 events fits k k later refl g loose.2),
    ))

-- Every moment of a loose run is right, up to the last moment up to which Fair and Apart hold
pub loose_run_right : (S : Service) → IsLawful S → (servers : ℕ) (downs : List FaultPoint) (events : List Event) →
    All (FitsEvent S) events → (ms : List Moment) →
    LooseRun S servers downs events ms → Upto (Good S) (Sound S) ms
loose_run_right S laws servers downs events fits ms loose =
    Upto-same (Good S) (Sound S) ms (run S servers downs events)
    (loose_run_same S laws servers downs events fits ms loose)
    (good_right S (run S servers downs events) (run_right S laws.orderly servers downs events fits))
