-- Each list of entries is an array of the service, or it is none.
use Rattle.std.proofs.Common.{◌≡◌, ◌≢◌, ℕ, zero, suc, ◌<◌, ◌≤◌, ◌⊎◌, inl, inr, ⊎_elim, Bool, true, false, List, [], ◌∷◌, length, refl, sym, subst, arith}
use Rattle.std.specs.Prelude.{◌==◌}
use Rattle.std.specs.List.{list_all, list_any}
use Rattle.std.proofs.lemmas.Bool.{cases_eq, cases_lt, or_cases, or_left, or_right, eq-eqb, eqb-true, false≢true}
use Rattle.nfs2_types.specs.declared.Limits.{Limits}
use Rattle.abs_model.specs.declared.NameRow.{NameRow}
use Rattle.abs_model.specs.declared.Entry.{Entry}
use Rattle.abs_model.specs.Objects.{is_null, is_dir, names_of}
use Rattle.abs_model.specs.Array.{entry_at, links, used}
use Rattle.abs_model.specs.Valid.{Walk, IsReached, Valid, entry_fits, leads}
use Rattle.abs_model.proofs.Shapes.{live_below}
use Rattle.abs_model.proofs.Facts.{dir_is}

abbrev Decided : Type 0 → Type 0
Decided P = P ⊎ (P → ⊥)

-- CLAIMS THAT ARE MADE OF OTHERS

same : (P Q : Type 0) → (P → Q) → (Q → P) → Decided P → Decided Q
same P Q to from (inl p) = inl (to p)
same P Q to from (inr none) = inr (λ q. none (from q))

both : (P Q : Type 0) → Decided P → Decided Q → Decided (P × Q)
both P Q (inl p) (inl q) = inl (p, q)
both P Q (inl p) (inr none) = inr (λ h. none h.1)
both P Q (inr none) d = inr (λ h. none h.0)

implied : (P Q : Type 0) → Decided P → Decided Q → Decided (P → Q)
implied P Q d (inl q) = inl (λ p. q)
implied P Q (inl p) (inr none) = inr (λ f. none (f p))
implied P Q (inr not) (inr none) = inl (λ p. absurd (not p))

tests : (a b : Bool) → Decided (a ≡ b)
tests true true = inl refl
tests true false = inr (λ e. false≢true (sym e))
tests false true = inr (λ e. false≢true e)
tests false false = inl refl

at_most : (a b : ℕ) → Decided (a ≤ b)
at_most a b = ⊎_elim (λ more. inr (λ le. omega (arith, more, le))) (λ le. inl le) (cases_lt b a)

module _ (P : ℕ → Type 0) (each : (i : ℕ) → Decided (P i)) where
  all_below : (n : ℕ) → Decided ((i : ℕ) → i < n → P i)
  all_below zero = inl (λ i low. absurd (omega (arith, low)))
  all_below (suc n) = by (all_below n) (each n)
    where
      by : Decided ((i : ℕ) → i < n → P i) → Decided (P n) → Decided ((i : ℕ) → i < suc n → P i)
      by (inl all) (inl here) = inl (λ i low. ⊎_elim (λ e. subst P (sym e) here)
          (λ other. all i (omega (arith, low, other))) (cases_eq i n))
      by (inl all) (inr none) = inr (λ h. none (h n (omega arith)))
      by (inr none) d = inr (λ h. none (λ i low. h i (omega (arith, low))))

  some_below : (n : ℕ) → Decided ((i : ℕ) × (i < n) × P i)
  some_below zero = inr (λ h. omega (arith, h.1))
  some_below (suc n) = by (some_below n) (each n)
    where
      by : Decided ((i : ℕ) × (i < n) × P i) → Decided (P n) → Decided ((i : ℕ) × (i < suc n) × P i)
      by (inl some) d = inl (some.0, let low = some.1 in omega (arith, low), some.2)
      by (inr none) (inl here) = inl (n, omega arith, here)
      by (inr none) (inr no_more) = inr (λ h. ⊎_elim (λ e. no_more (subst P e h.2))
          (λ other. none (h.0, (let low = h.1 in omega (arith, low, other)), h.2)) (cases_eq h.0 n))

-- WHAT THE ROOT LEADS TO

module _ (A : List Entry) where
  -- by one of these names to where a walk begins
  steps : (k i : ℕ) → ((next : ℕ) → Decided (Walk A k next i)) → (rows : List NameRow) →
      Decided ((next : ℕ) × (list_any (λ r. r.index == next) rows ≡ true) × Walk A k next i)
  steps k i walks [] = inr (λ w. false≢true w.1)
  steps k i walks (r ∷ rows) = by (walks r.index) (steps k i walks rows)
    where
      by : Decided (Walk A k r.index i) →
          Decided ((next : ℕ) × (list_any (λ r. r.index == next) rows ≡ true) × Walk A k next i) →
          Decided ((next : ℕ) × (list_any (λ r. r.index == next) (r ∷ rows) ≡ true) × Walk A k next i)
      by (inl here) d = inl (
        r.index,
        or_left (r.index == r.index) (list_any (λ s. s.index == r.index) rows) (eq-eqb r.index r.index refl),
        here,
      )
      by (inr none) (inl w) = inl (
        w.0,
        or_right (r.index == w.0) (list_any (λ s. s.index == w.0) rows) w.1,
        w.2,
      )
      by (inr none) (inr no_more) = inr (λ w. ⊎_elim
          (λ first. none (subst (λ next. Walk A k next i) (sym (eqb-true r.index w.0 first)) w.2))
          (λ later. no_more (w.0, later, w.2))
          (or_cases (r.index == w.0) (list_any (λ s. s.index == w.0) rows) w.1))

  walks : (k here i : ℕ) → Decided (Walk A k here i)
  walks zero here i = cases_eq here i
  walks (suc k) here i = steps k i (λ next. walks k next i) (names_of (entry_at A here))

  reached : (i : ℕ) → Decided (IsReached A i)
  reached i = some_below (λ k. Walk A k 0 i) (λ k. walks k 0 i) (length A)

-- THE RULES OF AN ARRAY

module _ (limits : Limits) (A : List Entry) where
  -- the rules on the whole
  abbrev Whole : Type 0
  Whole = (length A ≡ limits.n) × ((is_dir (entry_at A 0) ≡ true) × (used A ≤ limits.t))

  whole : Decided Whole
  whole = both (length A ≡ limits.n) ((is_dir (entry_at A 0) ≡ true) × (used A ≤ limits.t))
      (cases_eq (length A) limits.n)
      (both (is_dir (entry_at A 0) ≡ true) (used A ≤ limits.t) (tests (is_dir (entry_at A 0)) true)
      (at_most (used A) limits.t))

  -- the rules on what stands at an index
  abbrev Fits : ℕ → Type 0
  Fits i = (entry_fits (entry_at A i) ≡ true) × (list_all (leads A) (names_of (entry_at A i)) ≡ true)

  abbrev Reached : ℕ → Type 0
  Reached i = is_null (entry_at A i) ≡ false → IsReached A i

  abbrev OneName : ℕ → Type 0
  OneName i = is_dir (entry_at A i) ≡ true → i ≢ 0 → links A i ≡ 1

  abbrev At : ℕ → Type 0
  At i = Fits i × (Reached i × OneName i)

  fits : (i : ℕ) → Decided (Fits i)
  fits i = both (entry_fits (entry_at A i) ≡ true) (list_all (leads A) (names_of (entry_at A i)) ≡ true)
      (tests (entry_fits (entry_at A i)) true) (tests (list_all (leads A) (names_of (entry_at A i))) true)

  one_name : (i : ℕ) → Decided (OneName i)
  one_name i = implied (is_dir (entry_at A i) ≡ true) (i ≢ 0 → links A i ≡ 1) (tests (is_dir (entry_at A i)) true)
      (implied (i ≢ 0) (links A i ≡ 1) (implied (i ≡ 0) ⊥ (cases_eq i 0) (inr (λ h. h))) (cases_eq (links A i) 1))

  at : (i : ℕ) → Decided (At i)
  at i = both (Fits i) (Reached i × OneName i) (fits i) (both (Reached i) (OneName i)
      (implied (is_null (entry_at A i) ≡ false) (IsReached A i) (tests (is_null (entry_at A i)) false) (reached A i))
      (one_name i))

  abbrev Everywhere : Type 0
  Everywhere = (i : ℕ) → i < length A → At i

  valid_from : Whole × Everywhere → Valid limits A
  valid_from h = record {
    size = h.0.0;
    root = h.0.1.0;
    fits = λ i low. (h.1 i low).0.0;
    lead = λ d low. (h.1 d low).0.1;
    reached = λ i live. (h.1 i (live_below A i live)).1.0 live;
    one_name = λ i dir. (h.1 i (live_below A i (dir_is (entry_at A i) dir).null)).1.1 dir;
    room = h.0.1.1;
  }

  rules_of : Valid limits A → Whole × Everywhere
  rules_of v = (
    (v.size, (v.root, v.room)),
    λ i low. ((v.fits i low, v.lead i low), (v.reached i, v.one_name i)),
  )

  pub valid_or_not : Valid limits A ⊎ (Valid limits A → ⊥)
  valid_or_not = same (Whole × Everywhere) (Valid limits A) valid_from rules_of
      (both Whole Everywhere whole (all_below At at (length A)))
