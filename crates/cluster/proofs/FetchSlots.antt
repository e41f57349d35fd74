-- The slots of a Fetch: those of a stage are the moments of the model's stage, and no two are the same.
use Rattle.std.proofs.Common.{◌≡◌, ◌≢◌, ℕ, zero, suc, ◌<◌, Bool, true, false, cond, not, List, [], ◌∷◌, ◌++◌, map, length, inl, inr, refl, sym, ◌∙◌, ap, subst, arith}
use Rattle.std.specs.Prelude.{filter, ◌==◌}
use Rattle.std.specs.List.{All}
use Rattle.std.proofs.lemmas.Bool.Decides.{nat_tests}
use Rattle.std.proofs.lemmas.List.{append-nil}
use Rattle.std.proofs.lemmas.List.Elements.{All-nil, All-cons, All-append, All-weaker, filter-append}
use Rattle.server_trait.proofs.TreeLaws.{one_or_not}
use Rattle.cluster_model.specs.Tree.{below}
use Rattle.cluster_model.specs.Moments.{Moment, Faults}
use Rattle.cluster_model.specs.Turns.{Slot, moments}
use Rattle.cluster_model.specs.Step.{stage_fault, stage_order, stage_moments}
use Rattle.cluster.specs.Fetching.{slot_at, source_slots, stage_slots, slots_before, chance}
use Rattle.cluster.proofs.Faults.{Differ, AllDiffer, differ_append}
use Rattle.cluster.proofs.ListFacts.{map-append}

-- THE MOMENTS OF A STAGE

chances_map : (r stage : ℕ) (faults : Faults) (m : Moment) (js : List ℕ) →
    moments (stage_fault faults r stage) m js ≡ moments (chance r faults) m (map (slot_at stage) js)
chances_map r stage faults m [] = refl
chances_map r stage faults m (j ∷ js) =
    ap (λ ms. stage_fault faults r stage m j ∷ ms) (chances_map r stage faults (stage_fault faults r stage m j) js)

pub stage_is : (r stage : ℕ) (faults : Faults) (m : Moment) (n : ℕ) → length m.state.replicas ≡ n →
    stage_moments faults r stage m ≡ moments (chance r faults) m (stage_slots stage r n)
stage_is r stage faults m n size =
    let js = filter (λ j. not (j == r)) (below n) in
    ap (λ k. moments (stage_fault faults r stage) m (stage_order k r)) size
    ∙ chances_map r stage faults m (stage_order n r)
    ∙ ap (moments (chance r faults) m) (map-append (slot_at stage) js (r ∷ []))

-- ONE SOURCE MORE

pub sources_more : (stage r n : ℕ) → n ≢ r → source_slots stage r (suc n) ≡ source_slots stage r n ++ slot_at stage n ∷ []
sources_more stage r n ne =
    let js = filter (λ j. not (j == r)) (below n) in
    let one : filter (λ j. not (j == r)) (n ∷ []) ≡ n ∷ [] = kept (n == r) (grind (arith, nat_tests)) in
    ap (map (slot_at stage)) (filter-append (λ j. not (j == r)) (below n) (n ∷ []) ∙ ap (λ ks. js ++ ks) one)
    ∙ map-append (slot_at stage) js (n ∷ [])
  where
    kept : (b : Bool) → b ≡ false → cond (not b) (n ∷ []) [] ≡ n ∷ []
    kept true e = absurd (cc)
    kept false e = refl

pub sources_own : (stage r n : ℕ) → n ≡ r → source_slots stage r (suc n) ≡ source_slots stage r n
sources_own stage r n e =
    let js = filter (λ j. not (j == r)) (below n) in
    let none : filter (λ j. not (j == r)) (n ∷ []) ≡ [] = left (n == r) (grind (arith, nat_tests)) in
    ap (map (slot_at stage)) (filter-append (λ j. not (j == r)) (below n) (n ∷ []) ∙ ap (λ ks. js ++ ks) none
    ∙ append-nil js)
  where
    left : (b : Bool) → b ≡ true → cond (not b) (n ∷ []) [] ≡ []
    left true e = refl
    left false e = absurd (cc)

-- WHERE THEY ARE

-- a slot of a source of r at a stage, among the first n
abbrev pub IsSource : ℕ → ℕ → ℕ → Slot → Type 0
IsSource stage r n t = (t.round ≡ stage) × (t.replica < n) × (t.replica ≢ r)

-- a slot of a stage
abbrev IsOfStage : ℕ → ℕ → Slot → Type 0
IsOfStage stage n t = (t.round ≡ stage) × (t.replica < n)

pub sources_are : (stage r n : ℕ) → All (IsSource stage r n) (source_slots stage r n)
sources_are stage r zero = All-nil (IsSource stage r 0)
sources_are stage r (suc n) =
    let fewer : All (IsSource stage r (suc n)) (source_slots stage r n) = All-weaker (IsSource stage r n)
    (IsSource stage r (suc n)) (λ t h. (h.0, (let low = h.1 in omega arith), h.2)) (source_slots stage r n)
    (sources_are stage r n) in
    elim (one_or_not n r) as (λ _. All (IsSource stage r (suc n)) (source_slots stage r (suc n))) [
      | inl e ↦ subst (All (IsSource stage r (suc n))) (sym (sources_own stage r n e)) fewer
      | inr ne ↦ subst (All (IsSource stage r (suc n))) (sym (sources_more stage r n ne))
          (All-append (IsSource stage r (suc n)) (source_slots stage r n) (slot_at stage n ∷ []) fewer
          (All-cons (IsSource stage r (suc n)) (slot_at stage n) [] (refl, omega arith, ne)
          (All-nil (IsSource stage r (suc n)))))
    ]

stage_are : (stage r n : ℕ) → r < n → All (IsOfStage stage n) (stage_slots stage r n)
stage_are stage r n within = All-append (IsOfStage stage n) (source_slots stage r n) (slot_at stage r ∷ [])
    (All-weaker (IsSource stage r n) (IsOfStage stage n) (λ t h. (h.0, h.1)) (source_slots stage r n)
    (sources_are stage r n))
    (All-cons (IsOfStage stage n) (slot_at stage r) [] (refl, within) (All-nil (IsOfStage stage n)))

-- a slot of a stage below this one
abbrev IsBefore : ℕ → ℕ → Slot → Type 0
IsBefore stages n t = (t.round < stages) × (t.replica < n)

before_are : (r n stages : ℕ) → r < n → All (IsBefore stages n) (slots_before r n stages)
before_are r n zero within = All-nil (IsBefore 0 n)
before_are r n (suc stages) within = All-append (IsBefore (suc stages) n) (slots_before r n stages)
    (stage_slots stages r n)
    (All-weaker (IsBefore stages n) (IsBefore (suc stages) n) (λ t h. ((let low = h.0 in omega arith), h.1))
    (slots_before r n stages) (before_are r n stages within))
    (All-weaker (IsOfStage stages n) (IsBefore (suc stages) n) (λ t h. ((let e = h.0 in omega arith), h.1))
    (stage_slots stages r n) (stage_are stages r n within))

pub before_within : (r n stages : ℕ) → r < n → All (λ (t : Slot). t.replica < n) (slots_before r n stages)
before_within r n stages within = All-weaker (IsBefore stages n) (λ (t : Slot). t.replica < n) (λ t h. h.1)
    (slots_before r n stages) (before_are r n stages within)

-- NO TWO ARE THE SAME

one_differs : (t : Slot) → AllDiffer (t ∷ [])
one_differs t = (All-nil (Differ t), tt)

sources_differ : (stage r n : ℕ) → AllDiffer (source_slots stage r n)
sources_differ stage r zero = tt
sources_differ stage r (suc n) = elim (one_or_not n r) as (λ _. AllDiffer (source_slots stage r (suc n))) [
  | inl e ↦ subst AllDiffer (sym (sources_own stage r n e)) (sources_differ stage r n)
  | inr ne ↦ subst AllDiffer (sym (sources_more stage r n ne))
      (differ_append (source_slots stage r n) (slot_at stage n ∷ []) (sources_differ stage r n)
      (one_differs (slot_at stage n))
      (All-weaker (IsSource stage r n) (λ (t : Slot). All (Differ t) (slot_at stage n ∷ []))
      (λ t h. All-cons (Differ t) (slot_at stage n) [] (inr (λ e. (let low = h.1 in omega arith)))
      (All-nil (Differ t)))
      (source_slots stage r n) (sources_are stage r n)))
]

stage_differ : (stage r n : ℕ) → AllDiffer (stage_slots stage r n)
stage_differ stage r n = differ_append (source_slots stage r n) (slot_at stage r ∷ []) (sources_differ stage r n)
    (one_differs (slot_at stage r))
    (All-weaker (IsSource stage r n) (λ (t : Slot). All (Differ t) (slot_at stage r ∷ []))
    (λ t h. All-cons (Differ t) (slot_at stage r) [] (inr (λ e. h.2 (sym e))) (All-nil (Differ t)))
    (source_slots stage r n) (sources_are stage r n))

pub before_differ : (r n stages : ℕ) → r < n → AllDiffer (slots_before r n stages)
before_differ r n zero within = tt
before_differ r n (suc stages) within = differ_append (slots_before r n stages) (stage_slots stages r n)
    (before_differ r n stages within) (stage_differ stages r n)
    (All-weaker (IsBefore stages n) (λ (t : Slot). All (Differ t) (stage_slots stages r n))
    (λ t h. All-weaker (IsOfStage stages n) (Differ t) (λ u g. inl (λ e. (let low = h.0 in let at = g.0 in omega arith)))
    (stage_slots stages r n) (stage_are stages r n within))
    (slots_before r n stages) (before_are r n stages within))
