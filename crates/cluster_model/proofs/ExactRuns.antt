-- A loose run is the exact run, as long as it is fair and no two texts share a digest.
use Rattle.std.proofs.Common.{◌≡◌, ℕ, zero, suc, ◌+◌, ◌-◌, ◌*◌, ◌^◌, ◌<◌, Bool, true, false, cond, ◌||◌, ◌&&◌, List, [], ◌∷◌, ◌++◌, get_or, replicate, refl, sym, ◌∙◌, subst, inr, arith}
use Rattle.std.specs.Prelude.{◌==◌}
use Rattle.std.specs.List.{All}
use Rattle.std.proofs.lemmas.List.Elements.{All-head, All-tail, All-nil, All-cons, All-contains, All-replicate}
use Rattle.log_format.specs.declared.Event.{Event}
use Rattle.server_trait.specs.declared.FaultPoint.{FaultPoint}
use Rattle.cluster_model.specs.Service.{Service}
use Rattle.cluster_model.specs.Tree.{Item, node_text, digests, below, item}
use Rattle.cluster_model.specs.State.{Condition, Live, Down, Rebuilding, Replica}
use Rattle.cluster_model.specs.Moments.{Moment, Faults, gone, replica, fails}
use Rattle.cluster_model.specs.Turns.{moments, last, begins}
use Rattle.cluster_model.specs.Fair.{IsItem, IsText, IsKept, IsApartNow, OfBelieved, IsBelievedIn, IsSavedIn, IsHeldListIn, Known, Saved, OfHeld}
use Rattle.cluster_model.specs.Right.{IsSpelled, IsLawful}
use Rattle.cluster_model.specs.Good.{FitsEvent}
use Rattle.cluster_model.specs.Run.{and_texts, known_after, nothing}
use Rattle.cluster_model.proofs.Keeps.{IsKnown, AllKnown, IsKnownCheckpoint, replica_known}
use Rattle.cluster_model.specs.Run.{Upto, UptoApart, SameUpto, SameUptoApart, IsApartIn, faults_in, fresh, start_fault, run, LooseFrom, LooseRun}
use Rattle.cluster_model.proofs.History.{believed_within}
use Rattle.cluster_model.proofs.Loosely.{Good, Sound, loose_run_right, loose_run_same}
use Rattle.cluster_model.proofs.Premise.{Hist, Hist-append, Hist-plain, Ready, becomes_known, ready_last, step_hist}

-- A run

loose_from_hist : (S : Service) → IsSpelled S → (downs : List FaultPoint) (e : ℕ) (events : List Event) →
    All (FitsEvent S) events → (m : Moment) (ms : List Moment) (T : List ℕ → Type 0) → Ready S T m →
    LooseFrom S downs e events m ms → Hist S T ms
loose_from_hist S laws downs e [] fits m ms T ready loose = subst (Hist S T) (sym loose) tt
loose_from_hist S laws downs e (event ∷ events) fits m ms T ready loose =
    let now = loose.0 in
    let h : Hist S T now = step_hist S laws T (faults_in downs e) m ready event
    (All-head (FitsEvent S) event events fits) now loose.3 in
    subst (Hist S T) (sym loose.2)
    (Hist-append S T now loose.1 h
    (loose_from_hist S laws downs (suc e) events (All-tail (FitsEvent S) event events fits) (last m now) loose.1
    (known_after S T now) (ready_last S T m now ready h) loose.4))

fresh_known : (S : Service) → IsSpelled S → (servers : ℕ) (T : List ℕ → Type 0) →
    AllKnown S (and_texts S T (fresh S servers)) (fresh S servers).state
fresh_known S laws servers T =
    let m = fresh S servers in
    let U = and_texts S T m in
    let n = 3 * S.f + 1 in
    let l = begins S 0 S.empty in
    let x : Replica = record { condition = Live l; words = []; roots = [] } in
    let first : replica m.state 0 ≡ x = first_replica n x (omega arith) in
    let believes : IsBelievedIn (digests S S.empty) (replica m.state 0).condition = subst
    (λ (y : Replica). IsBelievedIn (digests S S.empty) y.condition) (sym first) refl in (
      All-nil S.fits,
      All-replicate (λ (y : Replica). IsKnown S U y.condition) n x (
        laws.good_empty,
        All-cons (IsKnownCheckpoint S U) (record { place = 0; digests = digests S S.empty; saved = [] }) [] (
          All-nil (λ (s : ℕ × List ℕ). U s.1),
          λ l' j item. inr (OfBelieved 0 (digests S S.empty) l' j
              (believed_within m.state 0 (digests S S.empty) believes) believes item refl),
        )
            (All-nil (IsKnownCheckpoint S U)),
      ),
    )
  where
    first_replica : (n : ℕ) (x : Replica) → 0 < n → get_or (replicate n x) 0 gone ≡ x
    first_replica zero x h = absurd (omega arith)
    first_replica (suc n) x h = refl

start_fault_known : (S : Service) (faults : Faults) (T : List ℕ → Type 0) (m : Moment) (r : ℕ) → AllKnown S T m.state →
    AllKnown S T (start_fault faults m r).state
start_fault_known S faults T m r h = by (faults 0 r)
  where
    by : (b : Bool) → AllKnown S T (cond b (fails r m) m).state
    by true = becomes_known S T r Down m h tt
    by false = h

-- at each moment of a loose run every kept text is a text of a moment up to it
pub loose_run_hist : (S : Service) → IsSpelled S → (servers : ℕ) (downs : List FaultPoint) (events : List Event) →
    All (FitsEvent S) events → (ms : List Moment) → (T : List ℕ → Type 0) →
    LooseRun S servers downs events ms → Hist S T ms
loose_run_hist S laws servers downs events fits ms T loose =
    let m = fresh S servers in
    let U = and_texts S T m in
    let ns = moments (start_fault (faults_in downs 0)) m (below (3 * S.f + 1)) in
    let known = fresh_known S laws servers T in
    let ready : Ready S U m = ((λ t g. inr g), known) in
    let h : Hist S U ns = Hist-plain S (start_fault (faults_in downs 0))
    (λ V n r g. start_fault_known S (faults_in downs 0) V n r g) U m (below (3 * S.f + 1)) known in
    subst (Hist S T) (sym loose.1) (
      known,
      Hist-append S U ns loose.0 h
          (loose_from_hist S laws downs 1 events fits (last m ns) loose.0 (known_after S U ns)
          (ready_last S U m ns ready h) loose.2),
    )

-- Apart of the texts up to a moment is Apart of what its state has and keeps

saved_known : (S : Service) (T : List ℕ → Type 0) (t : List ℕ) (c : Condition) → IsKnown S T c → IsSavedIn t c → T t
saved_known S T t (Live l) h g =
    All-contains (λ (s : ℕ × List ℕ). T s.1) g.1.saved (g.0, t)
    (All-contains (IsKnownCheckpoint S T) l.holds g.1 h.1 g.2).0 g.3
saved_known S T t Down h g = absurd g
saved_known S T t (Rebuilding b) h g = All-contains (λ (x : Item × List ℕ). T x.1) b.got (g.0, t) h.1 g.1

held_list_known : (S : Service) (T : List ℕ → Type 0) (ds : List (List ℕ)) (l k : ℕ) (c : Condition) → IsKnown S T c →
    IsHeldListIn ds c →
    IsItem S (record { level = suc l; number = k }) → T (node_text S ds l k)
held_list_known S T ds l k (Live r) h g item =
    subst (λ es. T (node_text S es l k)) g.2 ((All-contains (IsKnownCheckpoint S T) r.holds g.0 h.1 g.1).1 l k item)
held_list_known S T ds l k Down h g item = absurd g
held_list_known S T ds l k (Rebuilding b) h g item = absurd g

kept_known : (S : Service) (T : List ℕ → Type 0) (m : Moment) → ((t : List ℕ) → IsText S m.state t → T t) →
    AllKnown S T m.state → (t : List ℕ) → IsKept S m.state t → T t
kept_known S T m seen h t (Known g) = seen t g
kept_known S T m seen h t (Saved r within g) = saved_known S T t (replica m.state r).condition
    (replica_known S T m.state r h) g
kept_known S T m seen h t (OfHeld r ds l k within g item e) =
    subst T (sym e) (held_list_known S T ds l k (replica m.state r).condition (replica_known S T m.state r h) g item)

pub apart_now : (S : Service) (T : List ℕ → Type 0) (m : Moment) → IsApartIn S (and_texts S T m) →
    AllKnown S (and_texts S T m) m.state → IsApartNow S m.state
apart_now S T m apart h a b ka kb e =
    let U = and_texts S T m in
    apart a b (kept_known S U m (λ t g. inr g) h a ka) (kept_known S U m (λ t g. inr g) h b kb) e

pub upto_apart : (S : Service) (Q : Moment → Type 0) (T : List ℕ → Type 0) (ms : List Moment) → Hist S T ms →
    Upto (Good S) Q ms → UptoApart S T Q ms
upto_apart S Q T [] h g = tt
upto_apart S Q T (m ∷ ms) h g = λ fair apart.
    let k = g (fair, apart_now S T m apart h.0) in
    (k.0, upto_apart S Q (and_texts S T m) ms h.1 k.1)

same_apart : (S : Service) (T : List ℕ → Type 0) (ms ns : List Moment) → Hist S T ms → SameUpto (Good S) ms ns →
    SameUptoApart S T ms ns
same_apart S T [] [] h g = tt
same_apart S T [] (n ∷ ns) h g = g
same_apart S T (m ∷ ms) [] h g = λ fair apart. g (fair, apart_now S T m apart h.0)
same_apart S T (m ∷ ms) (n ∷ ns) h g = λ fair apart.
    let k = g (fair, apart_now S T m apart h.0) in
    (k.0, same_apart S (and_texts S T m) ms ns h.1 k.1)

-- Up to the last moment up to which Fair, and Apart of all texts so far, hold, a loose run is Step's
pub exact_run : (S : Service) → IsLawful S → (servers : ℕ) (downs : List FaultPoint) (events : List Event) →
    All (FitsEvent S) events → (ms : List Moment) →
    LooseRun S servers downs events ms → SameUptoApart S nothing ms (run S servers downs events)
exact_run S laws servers downs events fits ms loose =
    same_apart S nothing ms (run S servers downs events)
    (loose_run_hist S laws.spelled servers downs events fits ms nothing loose)
    (loose_run_same S laws servers downs events fits ms loose)

-- And up to there each moment is right
pub right_run : (S : Service) → IsLawful S → (servers : ℕ) (downs : List FaultPoint) (events : List Event) →
    All (FitsEvent S) events → (ms : List Moment) →
    LooseRun S servers downs events ms → UptoApart S nothing (Sound S) ms
right_run S laws servers downs events fits ms loose =
    upto_apart S (Sound S) nothing ms (loose_run_hist S laws.spelled servers downs events fits ms nothing loose)
    (loose_run_right S laws servers downs events fits ms loose)
