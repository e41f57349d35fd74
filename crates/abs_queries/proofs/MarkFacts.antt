-- marks, and what is reached
use Rattle.std.proofs.Common.{◌≡◌, ℕ, zero, suc, ◌+◌, ◌<◌, ◌≤◌, List, Bool, true, false, ◌||◌, length, get_or, set, replicate, refl, sym, ◌∙◌, subst, arith, inl, inr, get_or-set_same, get_or-set_other}
use Rattle.std.proofs.lemmas.Bool.{cases_lt, cases_eq, false≢true, or_cases}
use Rattle.std.proofs.lemmas.List.{get_or_past, get_or-replicate, length-replicate}
use Rattle.abs_model.specs.declared.Entry.{Entry}
use Rattle.abs_model.specs.Array.{entry_at, has_row_to}
use Rattle.abs_model.specs.Valid.{Walk}
use Rattle.abs_queries.specs.Marks.{is_marked, IsSound, IsComplete, Shows}
use Rattle.abs_model.proofs.Steps.{walk_on, named_lives}
use Rattle.abs_model.proofs.Shapes.{live_below}
use Rattle.abs_model.proofs.Reach.{reached_in_time}

within_marks : (marks : List Bool) (i : ℕ) → is_marked marks i ≡ true → i < length marks
within_marks marks i h = elim (cases_lt i (length marks)) [
  | inl below ↦ below
  | inr past ↦ absurd (false≢true (sym (get_or_past marks i false past) ∙ h))
]

-- the marks after a visit
abbrev pub Visited : List Entry → ℕ → List Bool → List Bool → Type 0
Visited A here old new = (i : ℕ) → i < length old → is_marked new i ≡ (is_marked old i || has_row_to i (entry_at A here))

pub visit_sound : (A : List Entry) (here : ℕ) (old new : List Bool) → length new ≡ length old → Visited A here old new → is_marked old here ≡ true →
    IsSound A old → IsSound A new
visit_sound A here old new long visited marked sound i h =
    let below : i < length old = subst (λ (n : ℕ). i < n) long (within_marks new i h) in
    elim (or_cases (is_marked old i) (has_row_to i (entry_at A here)) (sym (visited i below) ∙ h)) [
      | inl was ↦ sound i was
      | inr way ↦ let root = sound here marked in walk_on A root.0 1 0 here i root.1 (i, way, refl)
    ]

-- the last step of a walk
last_step : (A : List Entry) (k a i : ℕ) → Walk A (suc k) a i → (d : ℕ) × Walk A k a d × (has_row_to i (entry_at A d) ≡ true)
last_step A zero a i w = (a, refl, subst (λ (x : ℕ). has_row_to x (entry_at A a) ≡ true) w.2 w.1)
last_step A (suc k) a i w = let rest = last_step A k w.0 i w.2 in (rest.0, (w.0, w.1, rest.1), rest.2)

pub start_sound : (A : List Entry) → IsSound A (set (replicate (length A) false) 0 true)
start_sound A i h = elim (cases_eq i 0) [
  | inl same ↦ (zero, sym same)
  | inr other ↦ absurd (false≢true (sym (clear i) ∙ (sym (get_or-set_other (replicate (length A) false) 0 i true false other) ∙ h)))
]
  where
    clear : (i : ℕ) → get_or (replicate (length A) false) i false ≡ false
    clear i = elim (cases_lt i (length A)) [
      | inl below ↦ get_or-replicate (length A) i false false below
      | inr past ↦ get_or_past (replicate (length A) false) i false (let long = length-replicate {A = Bool} (length A) false in omega arith)
    ]

pub start_complete : (A : List Entry) → 0 < length A → IsComplete A (set (replicate (length A) false) 0 true) 0
start_complete A some m i none below w =
    let zero_steps : m ≡ 0 = omega arith in
    let at : 0 ≡ i = subst (λ (x : ℕ). Walk A x 0 i) zero_steps w in
    subst (λ (x : ℕ). is_marked (set (replicate (length A) false) 0 true) x ≡ true) at
    (get_or-set_same (replicate (length A) false) 0 true false (let long = length-replicate {A = Bool} (length A) false in omega arith))

-- one round more
pub more_complete : (A : List Entry) (old new : List Bool) (k n : ℕ) → length old ≡ length A → n ≡ k + 1 → IsComplete A old k →
    ((i : ℕ) → is_marked old i ≡ true → is_marked new i ≡ true) →
    ((d i : ℕ) → d < length old → i < length old → is_marked old d ≡ true → has_row_to i (entry_at A d) ≡ true → is_marked new i ≡ true) →
    IsComplete A new n
more_complete A old new k n long next complete grows spreads zero i le below w = grows i (complete zero i (omega arith) below w)
more_complete A old new k n long next complete grows spreads (suc m) i le below w =
    let last = last_step A m 0 i w in
    let d_below : last.0 < length A = live_below A last.0 (named_lives A last.0 i last.2) in
    spreads last.0 i (omega arith) (omega arith) (complete m last.0 (omega arith) d_below last.1) last.2

-- a round that marks nothing new has marked all
pub closed_complete : (A : List Entry) (marks : List Bool) (k n : ℕ) → length marks ≡ length A → IsComplete A marks k →
    ((d i : ℕ) → d < length marks → i < length marks → is_marked marks d ≡ true → has_row_to i (entry_at A d) ≡ true → is_marked marks i ≡ true) →
    IsComplete A marks (k + n)
closed_complete A marks k zero long complete spreads = λ m i le. complete m i (omega arith)
closed_complete A marks k (suc n) long complete spreads =
    more_complete A marks marks (k + n) (k + suc n) long (omega arith) (closed_complete A marks k n long complete spreads) (λ i h. h) spreads

pub shows_all : (A : List Entry) (marks : List Bool) (k : ℕ) → length A ≤ k + 1 → IsSound A marks → IsComplete A marks k → Shows A marks
shows_all A marks k enough sound complete i below =
    ((λ h. let w = sound i h in reached_in_time A w.0 i below w.1), (λ r. complete r.0 i (omega (arith, r.1)) below r.2))
