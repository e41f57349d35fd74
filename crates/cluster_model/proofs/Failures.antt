-- Each fault point strikes one server: over the servers of the start the strikes are as many as the fault points.
use Rattle.std.proofs.Common.{◌≡◌, ℕ, zero, suc, ◌+◌, ◌*◌, ◌<◌, ◌≤◌, Bool, true, false, List, [], ◌∷◌, ◌++◌, length, get_or, refl, sym, ◌∙◌, ap, subst, ⊎_elim, arith}
use Rattle.std.specs.Prelude.{slice_index, drop, swap, ◌==◌, slice_set, slice_index_or, if◌then◌else◌}
use Rattle.std.specs.List.{All, flat_map, sum_by}
use Rattle.std.proofs.lemmas.Bool.{eqb-true, eq-eqb, cases_eq, cases_lt}
use Rattle.std.proofs.lemmas.Grind.{flat_map-append}
use Rattle.std.proofs.lemmas.List.{length-append, length-map, get_or_past}
use Rattle.std.proofs.lemmas.List.Sums.{sum_by_push}
use Rattle.std.proofs.lemmas.List.Elements.{All-nil, All-push, All-head, All-set, All-get_or, All-weaker}
use Rattle.log_format.specs.declared.Line.{Line}
use Rattle.log_format.specs.declared.Event.{Event}
use Rattle.server_trait.specs.declared.FaultPoint.{FaultPoint}
use Rattle.cluster_model.specs.Service.{Service}
use Rattle.cluster_model.specs.Tree.{below}
use Rattle.cluster_model.specs.State.{State}
use Rattle.cluster_model.specs.Moments.{Moment}
use Rattle.cluster_model.specs.Turns.{moments, last}
use Rattle.cluster_model.specs.Run.{Always, AreMet, failed_of, strikes, strikes_in, faults_in, fresh, start_fault, LooseFrom, LooseRun}
use Rattle.cluster_model.proofs.Lines.{Chain, same_grows, chain_append, chain_moments, loose_chain, start_fault_grows}
use Rattle.cluster_model.proofs.Keeping.{IsClosed, any_keeps}
use Rattle.cluster_model.proofs.Struck.{word_bench, root_bench}
use Rattle.cluster_model.proofs.Once.{run_keeps}

-- the number of fails that lines tell of
abbrev pub fails_of : List Line → ℕ
fails_of lines = length (flat_map failed_of lines)

abbrev pub total : ℕ → Moment → List Moment → ℕ
total n m ms = sum_by (λ s. strikes s m ms) (below n)

below_plus : (f g : ℕ → ℕ) (n : ℕ) → sum_by (λ s. f s + g s) (below n) ≡ sum_by f (below n) + sum_by g (below n)
below_plus f g zero = omega arith
below_plus f g (suc n) =
    let rest : sum_by (λ s. f s + g s) (below n) ≡ sum_by f (below n) + sum_by g (below n) = below_plus f g n in
    let a = sum_by_push (λ s. f s + g s) (below n) n in
    let b = sum_by_push f (below n) n in
    let c = sum_by_push g (below n) n in
    omega arith

none_below : (x n : ℕ) → n ≤ x → sum_by (λ s. if x == s then 1 else 0) (below n) ≡ 0
none_below x zero h = refl
none_below x (suc n) h =
    let rest : sum_by (λ s. if x == s then 1 else 0) (below n) ≡ 0 = none_below x n (omega arith) in
    let a = sum_by_push (λ s. if x == s then 1 else 0) (below n) n in
    let z : (let v : ℕ = if x == n then 1 else 0 in v) ≡ 0 = by (x == n) refl in
    omega arith
  where
    by : (b : Bool) → (x == n) ≡ b → (let z : ℕ = if b then 1 else 0 in z) ≡ 0
    by true e = absurd (let same : x ≡ n = eqb-true x n e in omega arith)
    by false e = refl

one_below : (x n : ℕ) → x < n → sum_by (λ s. if x == s then 1 else 0) (below n) ≡ 1
one_below x zero h = absurd (omega arith)
one_below x (suc n) h =
    let a = sum_by_push (λ s. if x == s then 1 else 0) (below n) n in
    ⊎_elim
    (λ same.
    let z : (let v : ℕ = if x == n then 1 else 0 in v) ≡ 1 = ap (λ b. if b then 1 else 0) (eq-eqb x n same) in
    let none : sum_by (λ s. if x == s then 1 else 0) (below n) ≡ 0 = none_below x n (omega arith) in omega arith)
    (λ other.
    let z : (let v : ℕ = if x == n then 1 else 0 in v) ≡ 0 = by (x == n) refl other in
    let rest : sum_by (λ s. if x == s then 1 else 0) (below n) ≡ 1 = one_below x n (below_next x n h other) in
    omega arith)
    (cases_eq x n)
  where
    by : (b : Bool) → (x == n) ≡ b → (x ≡ n → ⊥) → (let z : ℕ = if b then 1 else 0 in z) ≡ 0
    by true e other = absurd (other (eqb-true x n e))
    by false e other = refl

    below_next : (x n : ℕ) → x < suc n → (x ≡ n → ⊥) → x < n
    below_next x n h other = ⊎_elim (λ l. l) (λ g. absurd (other (omega arith))) (cases_lt x n)

-- where each server of the bench is one of the start's, each fail strikes one
in_total : (n : ℕ) (bench rs : List ℕ) → ((r : ℕ) → slice_index bench r < n) →
    sum_by (λ s. strikes_in s bench rs) (below n) ≡ length rs
in_total n bench [] low = zeros n
  where
    zeros : (n : ℕ) → sum_by (λ s. 0) (below n) ≡ 0
    zeros zero = refl
    zeros (suc n) = (let a = sum_by_push (λ (s : ℕ). 0) (below n) n in
        let rest : sum_by (λ s. 0) (below n) ≡ 0 = zeros n in omega arith)
in_total n bench (r ∷ rs) low =
    let rest : sum_by (λ s. strikes_in s bench rs) (below n) ≡ length rs = in_total n bench rs low in
    let here : sum_by (λ s. if slice_index bench r == s then 1 else 0) (below n) ≡ 1 = one_below (slice_index bench r) n
    (low r) in
    let both = below_plus (λ s. if slice_index bench r == s then 1 else 0) (λ s. strikes_in s bench rs) n in
    omega arith

drop_front : {X : Type 0} (xs ys : List X) → drop (length xs) (xs ++ ys) ≡ ys
drop_front [] ys = refl
drop_front (x ∷ xs) ys = drop_front xs ys

abbrev pub IsLow : ℕ → Moment → Type 0
IsLow n m = (r : ℕ) → slice_index m.state.bench r < n

pub total_is : (n : ℕ) (m : Moment) (ms : List Moment) → Chain m ms → Always (IsLow n) ms →
    total n m ms + fails_of m.lines ≡ fails_of (last m ms).lines
total_is n m [] chain low = (let z : sum_by (λ s. 0) (below n) ≡ 0 = zeros n in omega arith)
  where
    zeros : (n : ℕ) → sum_by (λ (s : ℕ). 0) (below n) ≡ 0
    zeros zero = refl
    zeros (suc n) = (let a = sum_by_push (λ (s : ℕ). 0) (below n) n in
        let rest : sum_by (λ (s : ℕ). 0) (below n) ≡ 0 = zeros n in omega arith)
total_is n m (k ∷ ms) chain low =
    let more = chain.0.longer.more in
    let is : k.lines ≡ m.lines ++ more = chain.0.longer.is in
    let new : drop (length m.lines) k.lines ≡ more = ap (drop (length m.lines)) is ∙ drop_front m.lines more in
    let here : sum_by (λ s. strikes_in s k.state.bench (flat_map failed_of (drop (length m.lines) k.lines))) (below n)
    ≡ fails_of more =
    in_total n k.state.bench (flat_map failed_of (drop (length m.lines) k.lines)) low.0 ∙ ap fails_of new in
    let all : fails_of k.lines ≡ fails_of m.lines + fails_of more = ap fails_of is
    ∙ ap length (flat_map-append failed_of m.lines more)
    ∙ length-append (flat_map failed_of m.lines) (flat_map failed_of more) in
    let rest : total n k ms + fails_of k.lines ≡ fails_of (last k ms).lines = total_is n k ms chain.1 low.1 in
    let both = below_plus (λ s. strikes_in s k.state.bench (flat_map failed_of (drop (length m.lines) k.lines)))
    (λ s. strikes s k ms) n in
    omega arith

-- from no lines on: as many as the fault points, which are met in order
pub points_strike : (n : ℕ) (m : Moment) (ms : List Moment) (downs : List FaultPoint) → m.lines ≡ [] → Chain m ms →
    Always (IsLow n) ms → AreMet downs (last m ms).lines → total n m ms ≡ length downs
points_strike n m ms downs none chain low met =
    let all = total_is n m ms chain low in
    let zero' : fails_of m.lines ≡ 0 = ap fails_of none in
    let same : length downs ≡ fails_of (last m ms).lines = sym (length-map downs (λ (d : FaultPoint). d.replica))
    ∙ ap length met in
    omega arith

-- Over a loose run

all_swap : {X : Type 0} (P : X → Type 0) (xs : List X) (i j : ℕ) → All P xs → All P (swap xs i j)
all_swap P [] i j h = h
all_swap {X} P (d ∷ ys) i j h =
    let at : (k : ℕ) → P (get_or (d ∷ ys) k d) = λ k. ⊎_elim (λ l. All-get_or P (d ∷ ys) k d l h)
    (λ g. subst P (sym (get_or_past (d ∷ ys) k d g)) (All-head P d ys h)) (cases_lt k (length (d ∷ ys))) in
    All-set P (slice_set (d ∷ ys) i (slice_index_or (d ∷ ys) j d)) j (slice_index_or (d ∷ ys) i d) (at i)
    (All-set P (d ∷ ys) i (slice_index_or (d ∷ ys) j d) (at j) h)

abbrev AreLow : ℕ → State → Type 0
AreLow n s = All (λ k. k < n) s.bench

low_closed : (S : Service) (n : ℕ) → IsClosed S (AreLow n)
low_closed S n = record {
  live = λ r l s h. h;
  down = λ r s h. h;
  reboot = λ r c s h. h;
  withdraw = λ r s h. h;
  word = λ r p w m h. subst (All (λ k. k < n)) (sym (word_bench S r p w m)) h;
  root_word = λ r p d m h. subst (All (λ k. k < n)) (sym (root_bench S r p d m)) h;
  ask = λ q s h. h;
}

low_here : (n : ℕ) (m : Moment) → 0 < n → AreLow n m.state → IsLow n m
low_here n m some h r = ⊎_elim (λ l. All-get_or (λ k. k < n) m.state.bench r 0 l h)
    (λ g. subst (λ k. k < n) (sym (get_or_past m.state.bench r 0 g)) some) (cases_lt r (length m.state.bench))

all_low : (n : ℕ) (ms : List Moment) → 0 < n → Always (λ m. AreLow n m.state) ms → Always (IsLow n) ms
all_low n [] some h = tt
all_low n (m ∷ ms) some h = (low_here n m some h.0, all_low n ms some h.1)

below_low : (n : ℕ) → All (λ k. k < n) (below n)
below_low zero = All-nil (λ k. k < 0)
below_low (suc n) = All-push (λ k. k < suc n) (below n) n
    (All-weaker (λ k. k < n) (λ k. k < suc n) (λ k h. omega arith) (below n) (below_low n)) (omega arith)

from_chain : (S : Service) (downs : List FaultPoint) (e : ℕ) (events : List Event) (m : Moment) (ms : List Moment) →
    LooseFrom S downs e events m ms → Chain m ms
from_chain S downs e [] m ms loose = subst (Chain m) (sym loose) tt
from_chain S downs e (event ∷ events) m ms loose = subst (Chain m) (sym loose.2)
    (chain_append m loose.0 loose.1 (loose_chain S (faults_in downs e) event m loose.0 loose.3)
    (from_chain S downs (suc e) events (last m loose.0) loose.1 loose.4))

pub run_chain : (S : Service) (servers : ℕ) (downs : List FaultPoint) (events : List Event) (ms : List Moment) →
    LooseRun S servers downs events ms → Chain (fresh S servers) ms
run_chain S servers downs events ms loose =
    let m = fresh S servers in
    let ns = moments (start_fault (faults_in downs 0)) m (below (3 * S.f + 1)) in
    subst (Chain m) (sym loose.1) (
      same_grows m,
      chain_append m ns loose.0
          (chain_moments (start_fault (faults_in downs 0)) (start_fault_grows (faults_in downs 0)) m
          (below (3 * S.f + 1)))
          (from_chain S downs 1 events (last m ns) loose.0 loose.2),
    )

-- the strikes of a run are as many as its fault points
pub run_strikes : (S : Service) (servers : ℕ) (downs : List FaultPoint) (events : List Event) (ms : List Moment) →
    0 < servers → LooseRun S servers downs events ms →
    AreMet downs (last (fresh S servers) ms).lines → total servers (fresh S servers) ms ≡ length downs
run_strikes S servers downs events ms some loose met =
    let m = fresh S servers in
    let low : Always (λ n. AreLow servers n.state) ms = run_keeps S (AreLow servers) (low_closed S servers)
    (λ e f k ns h l. any_keeps S (AreLow servers) (low_closed S servers) (λ r c s g. g) f k h e
    (λ r spare i. all_swap (λ j. j < servers) k.state.bench r spare h) ns l)
    servers downs events ms (below_low servers) loose in
    points_strike servers m ms downs refl (run_chain S servers downs events ms loose) (all_low servers ms some low) met
