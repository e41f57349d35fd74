-- Fault points of turns, read as where servers fail: each turn's server fails as its point says, since no two turns
-- have the same round and replica.
use Rattle.std.proofs.Common.{◌≡◌, ◌≢◌, ◌⊎◌, ℕ, zero, suc, ◌+◌, ◌*◌, ◌<◌, ◌≤◌, Bool, true, false, ◌||◌, ◌&&◌, List, [], ◌∷◌, ◌++◌, map, length, inl, inr, refl, sym, ◌∙◌, ap, subst, ⊎_elim, arith}
use Rattle.std.specs.Prelude.{◌==◌}
use Rattle.std.specs.List.{All}
use Rattle.std.proofs.lemmas.Bool.Decides.{nat_tests}
use Rattle.std.proofs.lemmas.List.Folds.{list_any-append}
use Rattle.std.proofs.lemmas.List.Elements.{All-nil, All-cons, All-head, All-tail, All-append, All-weaker, All-map}
use Rattle.std.proofs.lemmas.List.{length-map}
use Rattle.nfs2_types.specs.declared.Limits.{Limits}
use Rattle.server_trait.specs.declared.FaultPoint.{FaultPoint}
use Rattle.cluster_model.specs.Tree.{below}
use Rattle.cluster_model.specs.Moments.{Faults}
use Rattle.cluster_model.specs.Turns.{Slot, slots}
use Rattle.cluster_model.specs.Run.{faults_in}
use Rattle.cluster.specs.Steps.{ArePointsOf}
use Rattle.cluster.specs.Turned.{points, points_of, FailAs, round_slots}
use Rattle.cluster.proofs.Struck.{length-below}

-- two turns differ in their rounds or in their replicas
abbrev pub Differ : Slot → Slot → Type 0
Differ t u = (u.round ≢ t.round) ⊎ (u.replica ≢ t.replica)

-- each of these turns differs from those behind it
abbrev pub AllDiffer : List Slot → Type 0
AllDiffer [] = Unit {0}
AllDiffer (t ∷ ts) = All (Differ t) ts × AllDiffer ts

-- ONE TURN

here_false : (e : ℕ) (t u : Slot) → Differ t u →
    ((e == e) && (t.round == u.round) && (t.replica == u.replica)) ≡ false
here_false e t u (inl ne) = grind (arith, nat_tests)
here_false e t u (inr ne) = grind (arith, nat_tests)

pub point_here : (e : ℕ) (t : Slot) (b : Bool) → faults_in (points e t b) e t.round t.replica ≡ b
point_here e t false = refl
point_here e t true = grind (arith, nat_tests)

point_elsewhere : (e : ℕ) (t u : Slot) (b : Bool) → Differ t u → faults_in (points e t b) e u.round u.replica ≡ false
point_elsewhere e t u false d = refl
point_elsewhere e t u true d = ap (λ x. x || false) (here_false e t u d)

-- the faults of two lists of points
faults-append : (ps qs : List FaultPoint) (e stage r : ℕ) →
    faults_in (ps ++ qs) e stage r ≡ (faults_in ps e stage r || faults_in qs e stage r)
faults-append ps qs e stage r = list_any-append
    (λ (d : FaultPoint). (d.event == e) && (d.stage == stage) && (d.replica == r)) ps qs

-- MANY TURNS

absent : (e : ℕ) (t : Slot) (ts : List Slot) (fs : List Bool) → All (Differ t) ts →
    faults_in (points_of e ts fs) e t.round t.replica ≡ false
absent e t [] fs h = refl
absent e t (u ∷ ts) [] h = refl
absent e t (u ∷ ts) (b ∷ fs) h =
    let d : Differ t u = All-head (Differ t) u ts h in
    let back : Differ u t = ⊎_elim (λ ne. inl (λ x. ne (sym x))) (λ ne. inr (λ x. ne (sym x))) d in
    faults-append (points e u b) (points_of e ts fs) e t.round t.replica
    ∙ ap (λ x. x || faults_in (points_of e ts fs) e t.round t.replica) (point_elsewhere e u t b back)
    ∙ absent e t ts fs (All-tail (Differ t) u ts h)

-- the same faults at these turns
fail_same : (f g : Faults) (ts : List Slot) (fs : List Bool) →
    All (λ (u : Slot). g u.round u.replica ≡ f u.round u.replica) ts → FailAs f ts fs → FailAs g ts fs
fail_same f g [] [] same h = tt
fail_same f g [] (b ∷ fs) same h = h
fail_same f g (t ∷ ts) [] same h = h
fail_same f g (t ∷ ts) (b ∷ fs) same h =
    let P : Slot → Type 0 = λ u. g u.round u.replica ≡ f u.round u.replica in
    (All-head P t ts same ∙ h.0, fail_same f g ts fs (All-tail P t ts same) h.1)

-- servers fail at these turns as their points say
pub fails_as : (e : ℕ) (ts : List Slot) (fs : List Bool) → length fs ≡ length ts → AllDiffer ts →
    FailAs (faults_in (points_of e ts fs) e) ts fs
fails_as e [] [] long h = tt
fails_as e [] (b ∷ fs) long h = absurd (omega arith)
fails_as e (t ∷ ts) [] long h = absurd (omega arith)
fails_as e (t ∷ ts) (b ∷ fs) long h =
    let rest = points_of e ts fs in
    let head : faults_in (points e t b ++ rest) e t.round t.replica ≡ b =
    faults-append (points e t b) rest e t.round t.replica
    ∙ ap (λ x. x || faults_in rest e t.round t.replica) (point_here e t b)
    ∙ ap (λ x. b || x) (absent e t ts fs h.0) ∙ or_false b in (
      head,
      fail_same (faults_in rest e) (faults_in (points e t b ++ rest) e) ts fs
          (All-weaker (Differ t)
          (λ (u : Slot). faults_in (points e t b ++ rest) e u.round u.replica ≡ faults_in rest e u.round u.replica)
          (λ u d. faults-append (points e t b) rest e u.round u.replica
          ∙ ap (λ x. x || faults_in rest e u.round u.replica) (point_elsewhere e t u b d)) ts h.0)
          (fails_as e ts fs (omega arith) h.1),
    )
  where
    or_false : (b : Bool) → (b || false) ≡ b
    or_false true = refl
    or_false false = refl

-- THE TURNS OF A RUNALL

pub differ_append : (ts us : List Slot) → AllDiffer ts → AllDiffer us → All (λ (t : Slot). All (Differ t) us) ts →
    AllDiffer (ts ++ us)
differ_append [] us h g apart = g
differ_append (t ∷ ts) us h g apart =
    let P : Slot → Type 0 = λ t. All (Differ t) us in (
      All-append (Differ t) ts us h.0 (All-head P t ts apart),
      differ_append ts us h.1 g (All-tail P t ts apart),
    )

below_low : (n : ℕ) → All (λ k. k < n) (below n)
below_low zero = All-nil (λ k. k < 0)
below_low (suc n) = All-append (λ k. k < suc n) (below n) (n ∷ [])
    (All-weaker (λ k. k < n) (λ k. k < suc n) (λ k h. omega arith) (below n) (below_low n))
    (All-cons (λ k. k < suc n) n [] (omega arith) (All-nil (λ k. k < suc n)))

map_append : (round : ℕ) (xs ys : List ℕ) → map (λ r. let t : Slot = record { round = round; replica = r } in t) (xs ++ ys)
    ≡ map (λ r. let t : Slot = record { round = round; replica = r } in t) xs
    ++ map (λ r. let t : Slot = record { round = round; replica = r } in t) ys
map_append round [] ys = refl
map_append round (x ∷ xs) ys = ap (λ zs. record { round = round; replica = x } ∷ zs) (map_append round xs ys)

round_low : (round n : ℕ) → All (λ (t : Slot). (t.round ≡ round) × (t.replica < n)) (round_slots round n)
round_low round n = All-map (λ (t : Slot). (t.round ≡ round) × (t.replica < n))
    (λ r. record { round = round; replica = r }) (below n)
    (All-weaker (λ k. k < n) (λ k. (round ≡ round) × (k < n)) (λ k h. (refl, h)) (below n) (below_low n))

pub round_differ : (round n : ℕ) → AllDiffer (round_slots round n)
round_differ round zero = tt
round_differ round (suc n) =
    subst AllDiffer (sym (map_append round (below n) (n ∷ [])))
    (differ_append (round_slots round n) (record { round = round; replica = n } ∷ []) (round_differ round n)
    (All-nil (Differ (record { round = round; replica = n })), tt)
    (All-weaker (λ (t : Slot). (t.round ≡ round) × (t.replica < n))
    (λ (t : Slot). All (Differ t) (record { round = round; replica = n } ∷ []))
    (λ t h. All-cons (Differ t) (record { round = round; replica = n }) []
    (inr (λ e. omega (arith, e, h.1))) (All-nil (Differ t)))
    (round_slots round n) (round_low round n)))

pub round_within : (round n : ℕ) → All (λ (t : Slot). t.replica < n) (round_slots round n)
round_within round n = All-weaker (λ (t : Slot). (t.round ≡ round) × (t.replica < n)) (λ (t : Slot). t.replica < n)
    (λ t h. h.1) (round_slots round n) (round_low round n)

pub round_size : (n : ℕ) → length (round_slots 0 n) ≡ n
round_size n = length-map (below n) (λ r. let t : Slot = record { round = 0; replica = r } in t) ∙ length-below n

slots_low : (i n : ℕ) → All (λ (t : Slot). (t.round ≤ i) × (t.replica < n)) (slots i n)
slots_low zero n = All-nil (λ (t : Slot). (t.round ≤ 0) × (t.replica < n))
slots_low (suc i) n = All-append (λ (t : Slot). (t.round ≤ suc i) × (t.replica < n)) (slots i n) (round_slots (suc i) n)
    (All-weaker (λ (t : Slot). (t.round ≤ i) × (t.replica < n)) (λ (t : Slot). (t.round ≤ suc i) × (t.replica < n))
    (λ t h. (omega (arith, h.0), h.1)) (slots i n) (slots_low i n))
    (All-weaker (λ (t : Slot). (t.round ≡ suc i) × (t.replica < n)) (λ (t : Slot). (t.round ≤ suc i) × (t.replica < n))
    (λ t h. (omega (arith, h.0), h.1)) (round_slots (suc i) n) (round_low (suc i) n))

pub slots_differ : (i n : ℕ) → AllDiffer (slots i n)
slots_differ zero n = tt
slots_differ (suc i) n = differ_append (slots i n) (round_slots (suc i) n) (slots_differ i n) (round_differ (suc i) n)
    (All-weaker (λ (t : Slot). (t.round ≤ i) × (t.replica < n))
    (λ (t : Slot). All (Differ t) (round_slots (suc i) n))
    (λ t h. All-weaker (λ (u : Slot). (u.round ≡ suc i) × (u.replica < n)) (Differ t)
    (λ u g. inl (λ e. omega (arith, e, h.0, g.0))) (round_slots (suc i) n) (round_low (suc i) n))
    (slots i n) (slots_low i n))

-- the point of a turn is of its replica
pub point_low : (limits : Limits) (e : ℕ) (t : Slot) (b : Bool) → t.replica < 3 * limits.f + 1 →
    ArePointsOf limits e (points e t b)
point_low limits e t false h = All-nil (λ (d : FaultPoint). (d.event ≡ e) × (d.replica < 3 * limits.f + 1))
point_low limits e t true h = All-cons (λ (d : FaultPoint). (d.event ≡ e) × (d.replica < 3 * limits.f + 1))
    (record { event = e; stage = t.round; replica = t.replica }) [] (refl, h)
    (All-nil (λ (d : FaultPoint). (d.event ≡ e) × (d.replica < 3 * limits.f + 1)))

-- the points of turns are of replicas below n, where the turns are
pub points_low : (limits : Limits) (e : ℕ) (ts : List Slot) (fs : List Bool) →
    All (λ (t : Slot). t.replica < 3 * limits.f + 1) ts → ArePointsOf limits e (points_of e ts fs)
points_low limits e [] fs h = All-nil (λ (d : FaultPoint). (d.event ≡ e) × (d.replica < 3 * limits.f + 1))
points_low limits e (t ∷ ts) [] h = All-nil (λ (d : FaultPoint). (d.event ≡ e) × (d.replica < 3 * limits.f + 1))
points_low limits e (t ∷ ts) (b ∷ fs) h =
    let P : FaultPoint → Type 0 = λ d. (d.event ≡ e) × (d.replica < 3 * limits.f + 1) in
    let Q : Slot → Type 0 = λ t. t.replica < 3 * limits.f + 1 in
    All-append P (points e t b) (points_of e ts fs) (point_low limits e t b (All-head Q t ts h)) (points_low limits e ts fs (All-tail Q t ts h))

pub slots_within : (i n : ℕ) → All (λ (t : Slot). t.replica < n) (slots i n)
slots_within i n = All-weaker (λ (t : Slot). (t.round ≤ i) × (t.replica < n)) (λ (t : Slot). t.replica < n)
    (λ t h. h.1) (slots i n) (slots_low i n)
