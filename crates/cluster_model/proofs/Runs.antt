-- Whole runs of Step are right, up to the last moment up to which all are fair.
use Rattle.std.proofs.Common.{◌≡◌, ℕ, zero, suc, ◌+◌, ◌*◌, Bool, true, false, cond, List, [], ◌∷◌, replicate, refl, ◌∙◌, ap, arith}
use Rattle.std.specs.List.{count_by, All}
use Rattle.std.proofs.lemmas.List.{length-replicate}
use Rattle.std.proofs.lemmas.List.Elements.{All-head, All-tail, All-nil, All-replicate}
use Rattle.log_format.specs.declared.Event.{Event}
use Rattle.server_trait.specs.declared.FaultPoint.{FaultPoint}
use Rattle.cluster_model.specs.Service.{Service}
use Rattle.cluster_model.specs.Tree.{below}
use Rattle.cluster_model.specs.State.{Live, Replica}
use Rattle.cluster_model.specs.Moments.{Moment, Faults, fails}
use Rattle.cluster_model.specs.Turns.{last, begins}
use Rattle.cluster_model.specs.Step.{step}
use Rattle.cluster_model.specs.Fair.{IsFair}
use Rattle.cluster_model.specs.Right.{IsRight, IsRightReplica, IsRightWord, is_source, IsOrderly}
use Rattle.cluster_model.specs.Good.{FitsEvent}
use Rattle.cluster_model.specs.Run.{Upto, faults_in, fresh, start_fault, start, run_from, run}
use Rattle.cluster_model.proofs.Counting.{count_by-cons, bit}
use Rattle.cluster_model.proofs.Steps.{begins_right, fails_right, Upto-moments, Upto-append}
use Rattle.cluster_model.proofs.RightSteps.{RightAt, step_right}

count_by-replicate : {X : Type 0} (p : X → Bool) (n : ℕ) (x : X) → p x ≡ true → count_by p (replicate n x) ≡ n
count_by-replicate p zero x h = refl
count_by-replicate p (suc n) x h =
    let rest : count_by p (replicate n x) ≡ n = count_by-replicate p n x h in
    let one : bit (p x) ≡ 1 = ap bit h in
    count_by-cons p x (replicate n x) ∙ omega arith

pub fresh_right : (S : Service) (servers : ℕ) → IsRight S (fresh S servers).state
fresh_right S servers =
    let x : Replica = record { condition = Live (begins S 0 S.empty); words = []; roots = [] } in
    let yes : is_source 0 x ≡ true = refl in
    let all : count_by (is_source 0) (replicate (3 * S.f + 1) x) ≡ 3 * S.f + 1 = count_by-replicate (is_source 0)
    (3 * S.f + 1) x yes in
    record {
      size = length-replicate (3 * S.f + 1) x;
      fit = All-nil S.fits;
      stable = omega arith;
      stable_root = refl;
      decided = All-nil (IsRightWord S [] 0);
      replicas = All-replicate (IsRightReplica S []) (3 * S.f + 1) x (λ u. begins_right S [] 0 (omega arith));
      sources = omega arith;
    }

start_fault_right : (S : Service) (faults : Faults) (m : Moment) (r : ℕ) → IsRight S m.state →
    IsFair S (start_fault faults m r) → IsRight S (start_fault faults m r).state
start_fault_right S faults m r h = by (faults 0 r)
  where
    by : (b : Bool) → IsFair S (cond b (fails r m) m) → IsRight S (cond b (fails r m) m).state
    by true fair = fails_right S r m h
    by false fair = h

pub start_right : (S : Service) (servers : ℕ) (downs : List FaultPoint) →
    Upto (IsFair S) (RightAt S) (start S servers downs)
start_right S servers downs = λ fair. (
  fresh_right S servers,
  Upto-moments (IsFair S) (RightAt S) (start_fault (faults_in downs 0))
      (λ m r h. start_fault_right S (faults_in downs 0) m r h)
      (fresh S servers) (below (3 * S.f + 1)) (fresh_right S servers),
)

pub run_from_right : (S : Service) → IsOrderly S → (downs : List FaultPoint) (e : ℕ) (events : List Event) →
    All (FitsEvent S) events → (m : Moment) → IsRight S m.state →
    Upto (IsFair S) (RightAt S) (run_from S downs e events m)
run_from_right S laws downs e [] fits m h = tt
run_from_right S laws downs e (event ∷ events) fits m h =
    let ms = step S (faults_in downs e) event m in
    Upto-append (IsFair S) (RightAt S) m ms (run_from S downs (suc e) events (last m ms)) h
    (step_right S laws (faults_in downs e) event (All-head (FitsEvent S) event events fits) m h)
    (λ g. run_from_right S laws downs (suc e) events (All-tail (FitsEvent S) event events fits) (last m ms) g)

-- every moment of a run of Step is right, up to the last up to which all are fair
pub run_right : (S : Service) → IsOrderly S → (servers : ℕ) (downs : List FaultPoint) (events : List Event) →
    All (FitsEvent S) events →
    Upto (IsFair S) (RightAt S) (run S servers downs events)
run_right S laws servers downs events fits =
    let ms = start S servers downs in
    Upto-append (IsFair S) (RightAt S) (fresh S servers) ms (run_from S downs 1 events (last (fresh S servers) ms))
    (fresh_right S servers)
    (start_right S servers downs)
    (λ g. run_from_right S laws downs 1 events fits (last (fresh S servers) ms) g)
