-- A loose run goes on by one step; the fault points of the step are put behind the others.
use Rattle.std.proofs.Common.{◌≡◌, ◌≢◌, ℕ, suc, ◌+◌, ◌*◌, ◌≤◌, Bool, true, false, ◌||◌, ◌&&◌, List, [], ◌∷◌, ◌++◌, length, get_or, refl, sym, ◌∙◌, ap, subst, arith}
use Rattle.std.specs.Prelude.{◌==◌}
use Rattle.std.specs.List.{All}
use Rattle.std.proofs.lemmas.Bool.{eqb-true}
use Rattle.std.proofs.lemmas.List.Elements.{All-head, All-tail}
use Rattle.std.proofs.lemmas.List.Folds.{list_any-append}
use Rattle.std.proofs.lemmas.List.{append_assoc, append-nil}
use Rattle.log_format.specs.declared.Event.{Event}
use Rattle.server_trait.specs.declared.FaultPoint.{FaultPoint}
use Rattle.cluster_model.specs.Service.{Service}
use Rattle.cluster_model.specs.Tree.{below}
use Rattle.cluster_model.specs.Moments.{Moment}
use Rattle.cluster_model.specs.Turns.{last, moments}
use Rattle.cluster_model.specs.Loose.{LooseStep}
use Rattle.cluster_model.specs.Run.{faults_in, fresh, start, start_fault, LooseFrom, LooseRun}

pub fun_ext : {X Y : Type 0} {f g : X → Y} → ((x : X) → f x ≡ g x) → f ≡ g
fun_ext h = λ i x. h x i

is_point : ℕ → ℕ → ℕ → FaultPoint → Bool
is_point e stage r d = (d.event == e) && (d.stage == stage) && (d.replica == r)

none_of : (e stage r : ℕ) (ds : List FaultPoint) → All (λ (d : FaultPoint). d.event ≢ e) ds →
    faults_in ds e stage r ≡ false
none_of e stage r [] h = refl
none_of e stage r (d ∷ ds) h = by (d.event == e) refl
    (none_of e stage r ds (All-tail (λ (d : FaultPoint). d.event ≢ e) d ds h))
  where
    by : (b : Bool) → (d.event == e) ≡ b → faults_in ds e stage r ≡ false →
        ((b && (d.stage == stage) && (d.replica == r)) || faults_in ds e stage r) ≡ false
    by true t rest = absurd (All-head (λ (d : FaultPoint). d.event ≢ e) d ds h (eqb-true d.event e t))
    by false t rest = rest

or_none : (a : Bool) → (a || false) ≡ a
or_none true = refl
or_none false = refl

-- points of other events make no difference, before and behind
pub faults_behind : (e : ℕ) (downs more : List FaultPoint) → All (λ (d : FaultPoint). d.event ≢ e) more →
    faults_in (downs ++ more) e ≡ faults_in downs e
faults_behind e downs more h = fun_ext (λ stage. fun_ext (λ r.
    list_any-append (λ (d : FaultPoint). (d.event == e) && (d.stage == stage) && (d.replica == r)) downs more
    ∙ ap (λ b. faults_in downs e stage r || b) (none_of e stage r more h) ∙ or_none (faults_in downs e stage r)))

pub faults_before : (e : ℕ) (downs more : List FaultPoint) → All (λ (d : FaultPoint). d.event ≢ e) downs →
    faults_in (downs ++ more) e ≡ faults_in more e
faults_before e downs more h = fun_ext (λ stage. fun_ext (λ r.
    list_any-append (λ (d : FaultPoint). (d.event == e) && (d.stage == stage) && (d.replica == r)) downs more
    ∙ ap (λ b. b || faults_in more e stage r) (none_of e stage r downs h)))

pub last-append : (m : Moment) (ms ns : List Moment) → last m (ms ++ ns) ≡ last (last m ms) ns
last-append m [] ns = refl
last-append m (x ∷ ms) ns = last-append x ms ns

-- the events so far are e .. e + n - 1, and the points behind are of event e + n
from_more : (S : Service) (downs met : List FaultPoint) (e n : ℕ) (events : List Event) (m : Moment)
    (ms : List Moment) → e + length events ≡ n →
    All (λ (d : FaultPoint). d.event ≡ n) met → LooseFrom S downs e events m ms →
    LooseFrom S (downs ++ met) e events m ms
from_more S downs met e n [] m ms en h loose = loose
from_more S downs met e n (event ∷ events) m ms en h loose =
    let other : All (λ (d : FaultPoint). d.event ≢ e) met = λ k d within same.
    (let f : (get_or met k d).event ≡ n = h k d within in absurd (omega arith)) in (
      loose.0,
      loose.1,
      loose.2,
      subst (λ f. LooseStep S f event m loose.0) (sym (faults_behind e downs met other)) loose.3,
      from_more S downs met (suc e) n events (last m loose.0) loose.1 (omega arith) h loose.4,
    )

from_snoc : (S : Service) (downs : List FaultPoint) (e : ℕ) (events : List Event) (event : Event) (m : Moment)
    (ms ns : List Moment) → LooseFrom S downs e events m ms →
    LooseStep S (faults_in downs (e + length events)) event (last m ms) ns →
    LooseFrom S downs e (events ++ event ∷ []) m (ms ++ ns)
from_snoc S downs e [] event m ms ns loose step =
    let none : ms ≡ [] = loose in
    let z : e + 0 ≡ e = omega arith in
    let one : LooseStep S (faults_in downs e) event (last m ms) ns = subst
    (λ k. LooseStep S (faults_in downs k) event (last m ms) ns) z step in (
      ns,
      [],
      (ap (λ xs. xs ++ ns) none ∙ sym (append-nil ns)),
      subst (λ xs. LooseStep S (faults_in downs e) event (last m xs) ns) none one,
      refl,
    )
from_snoc S downs e (x ∷ xs) event m ms ns loose step =
    let now = loose.0 in
    let later = loose.1 in
    let at : last m ms ≡ last (last m now) later = ap (last m) loose.2 ∙ last-append m now later in
    let z : e + length (x ∷ xs) ≡ suc e + length xs = omega arith in
    let one : LooseStep S (faults_in downs (suc e + length xs)) event (last m ms) ns = subst
    (λ k. LooseStep S (faults_in downs k) event (last m ms) ns) z step in (
      now,
      later ++ ns,
      (ap (λ ys. ys ++ ns) loose.2 ∙ append_assoc now later ns),
      loose.3,
      from_snoc S downs (suc e) xs event (last m now) later ns loose.4
          (subst (λ k. LooseStep S (faults_in downs (suc e + length xs)) event k ns) at one),
    )

start_more : (S : Service) (servers : ℕ) (downs met : List FaultPoint) (n : ℕ) →
    All (λ (d : FaultPoint). d.event ≡ suc n) met → start S servers (downs ++ met) ≡ start S servers downs
start_more S servers downs met n h =
    let other : All (λ (d : FaultPoint). d.event ≢ 0) met = λ k d within same.
    (let f : (get_or met k d).event ≡ suc n = h k d within in absurd (omega arith)) in
    ap (λ f. fresh S servers ∷ moments (start_fault f) (fresh S servers) (below (3 * S.f + 1)))
    (faults_behind 0 downs met other)

-- the invariant of a program that steps event after event: its moments are those of a loose run with the fault points
-- so far
pub run_snoc : (S : Service) (servers : ℕ) (downs met : List FaultPoint) (events : List Event) (event : Event)
    (ms ns : List Moment) →
    All (λ (d : FaultPoint). d.event ≡ suc (length events)) met →
    All (λ (d : FaultPoint). d.event ≤ length events) downs →
    LooseRun S servers downs events ms → LooseStep S (faults_in met (suc (length events))) event
    (last (fresh S servers) ms) ns →
    LooseRun S servers (downs ++ met) (events ++ event ∷ []) (ms ++ ns)
run_snoc S servers downs met events event ms ns new old loose step =
    let n = length events in
    let ss = start S servers downs in
    let m = last (fresh S servers) ss in
    let later = loose.0 in
    let same : start S servers (downs ++ met) ≡ ss = start_more S servers downs met n new in
    let before : All (λ (d : FaultPoint). d.event ≢ suc n) downs = λ k d within e.
    (let f : (get_or downs k d).event ≤ n = old k d within in absurd (omega arith)) in
    let at : last (fresh S servers) ms ≡ last m later = ap (last (fresh S servers)) loose.1
    ∙ last-append (fresh S servers) ss later in
    let one : 1 + n ≡ suc n = omega arith in
    let step' : LooseStep S (faults_in (downs ++ met) (1 + n)) event (last m later) ns =
    subst (λ k. LooseStep S (faults_in (downs ++ met) k) event (last m later) ns) (sym one)
    (subst (λ f. LooseStep S f event (last m later) ns) (sym (faults_before (suc n) downs met before))
    (subst (λ k. LooseStep S (faults_in met (suc n)) event k ns) at step)) in
    let from : LooseFrom S (downs ++ met) 1 (events ++ event ∷ []) m (later ++ ns) =
    from_snoc S (downs ++ met) 1 events event m later ns
    (from_more S downs met 1 (suc n) events m later one new loose.2) step' in (
      later ++ ns,
      (ap (λ xs. xs ++ ns) loose.1 ∙ append_assoc ss later ns ∙ ap (λ xs. xs ++ (later ++ ns)) (sym same)),
      subst (λ xs. LooseFrom S (downs ++ met) 1 (events ++ event ∷ []) (last (fresh S servers) xs) (later ++ ns))
          (sym same) from,
    )
