-- Each step keeps a state steady at each of its moments; and where the state before is right, the step is Step's as
-- long as it is fair.
use Rattle.std.proofs.Common.{◌≡◌, ℕ, ◌+◌, ◌*◌, Bool, true, false, cond, List, [], ◌∷◌, refl, sym, subst}
use Rattle.std.proofs.lemmas.List.Elements.{All-nil, All-weaker, All-set, All-replicate}
use Rattle.log_format.specs.declared.Event.{Event}
use Rattle.log_format.specs.declared.Event.TheVariants.{Request as Ask, Run, RunAll, Reboot, Fetch, Rogue, Skip, Scratch, LieReply, LieRoot, LieItem, Wipe, Swap, End}
use Rattle.log_format.specs.declared.Line.TheVariants as lines
use Rattle.log_format.specs.declared.IdleCause.TheVariants.{NotRebuilding}
use Rattle.server_trait.specs.declared.FaultPoint.{FaultPoint}
use Rattle.cluster_model.specs.Service.{Service, array_at}
use Rattle.cluster_model.specs.Tree.{below}
use Rattle.cluster_model.specs.State.{Condition, Live, Down, Rebuilding, Replica}
use Rattle.cluster_model.specs.Moments.{Moment, Faults, print, replica, fails}
use Rattle.cluster_model.specs.Turns.{last, begins}
use Rattle.cluster_model.specs.Step.{step, if_rebuilding, fetch_towards}
use Rattle.cluster_model.specs.Fair.{IsFair, IsApartNow}
use Rattle.cluster_model.specs.Right.{IsRight, IsSpelled, IsLawful}
use Rattle.cluster_model.specs.Good.{FitsEvent, AllGood, IsGoodIn}
use Rattle.cluster_model.specs.Settled.{IsSettled, IsRootSettled}
use Rattle.cluster_model.specs.Loose.{LooseStep, LooseFetch}
use Rattle.cluster_model.specs.Run.{and_texts, Upto, SameUpto, faults_in, fresh, start_fault, start}
use Rattle.cluster_model.specs.Walk.{HasWalks, WalkedStep}
use Rattle.cluster_model.specs.Steady.{IsSteady}
use Rattle.cluster_model.proofs.Keeps.{IsKnown}
use Rattle.cluster_model.proofs.RightSteps.{RightAt, step_right}
use Rattle.cluster_model.proofs.Fetches.{SameUpto-same, loose_fetch_same}
use Rattle.cluster_model.proofs.Loosely.{Upto-same}
use Rattle.cluster_model.proofs.Premise.{Hist, Ready, step_hist}
use Rattle.cluster_model.proofs.Voted.{Always-moments, Always-last}
use Rattle.cluster_model.specs.Run.{Always}
use Rattle.cluster_model.proofs.Keeping.{fails_keeps}
use Rattle.cluster_model.proofs.Settled.{settled_kept, root_settled_kept, fresh_settled, settled_closed, root_settled_closed}
use Rattle.cluster_model.proofs.Walks.{walked_step, walks_kept, fresh_walks, walks_closed}

-- Good arrays

-- every text counts as known
abbrev Any : List ℕ → Type 0
Any t = Unit {0}

any_known : (S : Service) (c : Condition) → IsGoodIn S c → IsKnown S Any c
any_known S (Live l) g = (g, λ k d low. ((λ i x low'. tt), (λ l' k' item. tt)))
any_known S Down g = tt
any_known S (Rebuilding b) g = (g, λ k d low. tt)

known_good : (S : Service) (T : List ℕ → Type 0) (c : Condition) → IsKnown S T c → IsGoodIn S c
known_good S T (Live l) g = g.0
known_good S T Down g = tt
known_good S T (Rebuilding b) g = g.0

any_ready : (S : Service) (m : Moment) → AllGood S m.state → Ready S Any m
any_ready S m h = (
  (λ t g. tt),
  (
    h.requests,
    All-weaker (λ (x : Replica). IsGoodIn S x.condition) (λ (x : Replica). IsKnown S Any x.condition)
        (λ x g. any_known S x.condition g) m.state.replicas h.arrays,
  ),
)

hist_good : (S : Service) (T : List ℕ → Type 0) (ms : List Moment) → Hist S T ms → Always (λ n. AllGood S n.state) ms
hist_good S T [] h = tt
hist_good S T (m ∷ ms) h = (
  record {
    requests = h.0.0;
    arrays = All-weaker (λ (x : Replica). IsKnown S (and_texts S T m) x.condition)
        (λ (x : Replica). IsGoodIn S x.condition)
        (λ x g. known_good S (and_texts S T m) x.condition g) m.state.replicas h.0.1;
  },
  hist_good S (and_texts S T m) ms h.1,
)

pub good_kept : (S : Service) → IsSpelled S → (faults : Faults) (e : Event) → FitsEvent S e →
    (m : Moment) (ms : List Moment) → AllGood S m.state → LooseStep S faults e m ms → Always (λ n. AllGood S n.state) ms
good_kept S laws faults e fits m ms h loose = hist_good S Any ms
    (step_hist S laws Any faults m (any_ready S m h) e fits ms loose)

-- All of it

all_four : (S : Service) (ms : List Moment) → Always (λ n. AllGood S n.state) ms →
    Always (λ n. IsSettled S n.state) ms → Always (λ n. IsRootSettled S n.state) ms →
    Always (λ n. HasWalks S n.state) ms →
    Always (λ n. IsSteady S n.state) ms
all_four S [] a b c d = tt
all_four S (m ∷ ms) a b c d =
    (record { good = a.0; settled = b.0; root_settled = c.0; walks = d.0 }, all_four S ms a.1 b.1 c.1 d.1)

-- of the code's step
pub steady_kept : (S : Service) → IsSpelled S → (faults : Faults) (e : Event) → FitsEvent S e →
    (m : Moment) (ms : List Moment) → IsSteady S m.state → WalkedStep S faults e m ms →
    LooseStep S faults e m ms × Always (λ n. IsSteady S n.state) ms
steady_kept S laws faults e fits m ms h w =
    let loose = walked_step S laws faults e m ms h.good w in (
      loose,
      all_four S ms (good_kept S laws faults e fits m ms h.good loose) (settled_kept S faults e m ms loose h.settled)
          (root_settled_kept S faults e m ms loose h.root_settled)
          (walks_kept S faults m h.walks e ms w),
    )

-- at the start

fresh_steady : (S : Service) → IsSpelled S → (servers : ℕ) → IsSteady S (fresh S servers).state
fresh_steady S laws servers = record {
  good = record {
    requests = All-nil S.fits;
    arrays = All-replicate (λ (x : Replica). IsGoodIn S x.condition)
        (3 * S.f + 1) (record { condition = Live (begins S 0 S.empty); words = []; roots = [] }) laws.good_empty;
  };
  settled = (fresh_settled S servers).0;
  root_settled = (fresh_settled S servers).1;
  walks = fresh_walks S servers;
}

fails_good : (S : Service) (r : ℕ) (m : Moment) → AllGood S m.state → AllGood S (fails r m).state
fails_good S r m h = record {
  requests = h.requests;
  arrays = All-set
      (λ (x : Replica). IsGoodIn S x.condition) m.state.replicas r
      (record (replica m.state r) { condition = Down }) tt h.arrays;
}

fails_steady : (S : Service) (r : ℕ) (m : Moment) → IsSteady S m.state → IsSteady S (fails r m).state
fails_steady S r m h = record {
  good = fails_good S r m h.good;
  settled = fails_keeps S (IsSettled S) (settled_closed S) r m h.settled;
  root_settled = fails_keeps S (IsRootSettled S) (root_settled_closed S) r m h.root_settled;
  walks = fails_keeps S (HasWalks S) (walks_closed S) r m h.walks;
}

pub start_steady : (S : Service) → IsSpelled S → (servers : ℕ) (downs : List FaultPoint) →
    Always (λ n. IsSteady S n.state) (start S servers downs)
start_steady S laws servers downs = (
  fresh_steady S laws servers,
  Always-moments (λ n. IsSteady S n.state) (start_fault (faults_in downs 0)) (λ m r h. by r m h (faults_in downs 0 0 r))
      (fresh S servers) (below (3 * S.f + 1)) (fresh_steady S laws servers),
)
  where
    by : (r : ℕ) (m : Moment) → IsSteady S m.state → (b : Bool) → IsSteady S (cond b (fails r m) m).state
    by r m h true = fails_steady S r m h
    by r m h false = h

-- One step: where the state before is right and Fair and Apart hold there, the moments are Step's as long as they are
-- fair, and right

same_fetch : (S : Service) → IsLawful S → (faults : Faults) (r n : ℕ) (m : Moment) (c : Condition) →
    (replica m.state r).condition ≡ c → IsRight S m.state → IsFair S m → IsApartNow S m.state →
    (ms : List Moment) → LooseFetch S faults r n m c ms →
    SameUpto (IsFair S) ms
    (if_rebuilding (print (lines.Idle r NotRebuilding) m ∷ []) c
    (λ b. fetch_towards S faults r (array_at S m.state.requests m.state.stable) n m b))
same_fetch S laws faults r n m (Live l) live right fair apart ms loose = SameUpto-same (IsFair S) ms _ loose
same_fetch S laws faults r n m Down live right fair apart ms loose = SameUpto-same (IsFair S) ms _ loose
same_fetch S laws faults r n m (Rebuilding b) live right fair apart ms loose =
    subst (λ ks. SameUpto (IsFair S) ks (fetch_towards S faults r (array_at S m.state.requests m.state.stable) n m b))
    (sym loose.3)
    (loose_fetch_same S laws.spelled faults r n m b (IsFair S) (λ k g. g) right fair apart live loose.0 loose.1 loose.2)

same_step : (S : Service) → IsLawful S → (faults : Faults) (e : Event) (m : Moment) → IsRight S m.state → IsFair S m →
    IsApartNow S m.state → (ms : List Moment) → LooseStep S faults e m ms →
    SameUpto (IsFair S) ms (step S faults e m)
same_step S laws faults (Fetch r n) m right fair apart ms loose = same_fetch S laws faults r n m
    (replica m.state r).condition refl right fair apart ms loose
same_step S laws faults (Ask client time bytes) m right fair apart ms loose = SameUpto-same (IsFair S) ms _ loose
same_step S laws faults (Run r) m right fair apart ms loose = SameUpto-same (IsFair S) ms _ loose
same_step S laws faults RunAll m right fair apart ms loose = SameUpto-same (IsFair S) ms _ loose
same_step S laws faults (Reboot r) m right fair apart ms loose = SameUpto-same (IsFair S) ms _ loose
same_step S laws faults (Rogue r time bytes) m right fair apart ms loose = SameUpto-same (IsFair S) ms _ loose
same_step S laws faults (Skip r) m right fair apart ms loose = SameUpto-same (IsFair S) ms _ loose
same_step S laws faults (Scratch r i o b) m right fair apart ms loose = SameUpto-same (IsFair S) ms _ loose
same_step S laws faults (LieReply r p x) m right fair apart ms loose = SameUpto-same (IsFair S) ms _ loose
same_step S laws faults (LieRoot r p d) m right fair apart ms loose = SameUpto-same (IsFair S) ms _ loose
same_step S laws faults (LieItem r level number t) m right fair apart ms loose = SameUpto-same (IsFair S) ms _ loose
same_step S laws faults (Wipe r) m right fair apart ms loose = SameUpto-same (IsFair S) ms _ loose
same_step S laws faults (Swap r spare) m right fair apart ms loose = SameUpto-same (IsFair S) ms _ loose
same_step S laws faults End m right fair apart ms loose = SameUpto-same (IsFair S) ms _ loose

pub right_step : (S : Service) → IsLawful S → (faults : Faults) (e : Event) → FitsEvent S e →
    (m : Moment) (ms : List Moment) → IsRight S m.state → IsFair S m → IsApartNow S m.state →
    LooseStep S faults e m ms →
    SameUpto (IsFair S) ms (step S faults e m) × Upto (IsFair S) (λ n. IsRight S n.state) ms
right_step S laws faults e fits m ms right fair apart loose =
    let same = same_step S laws faults e m right fair apart ms loose in (
      same,
      Upto-same (IsFair S) (RightAt S) ms (step S faults e m) same
          (step_right S laws.orderly faults e fits m right),
    )

-- what the clause of a step asks of the model, from the code's own step
pub code_step : (S : Service) → IsLawful S → (faults : Faults) (e : Event) → FitsEvent S e →
    (m : Moment) (ms : List Moment) → IsSteady S m.state → WalkedStep S faults e m ms →
    LooseStep S faults e m ms × IsSteady S (last m ms).state
    × (IsRight S m.state → IsFair S m → IsApartNow S m.state →
    SameUpto (IsFair S) ms (step S faults e m) × Upto (IsFair S) (λ n. IsRight S n.state) ms)
code_step S laws faults e fits m ms steady w =
    let kept = steady_kept S laws.spelled faults e fits m ms steady w in (
      kept.0,
      Always-last (λ n. IsSteady S n.state) m ms steady kept.1,
      λ right fair apart. right_step S laws faults e fits m ms right fair apart kept.0,
    )
