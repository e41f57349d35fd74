-- Texts that are saved by index: what is found after one more is saved.
use Rattle.std.proofs.Common.{◌≡◌, ℕ, Bool, true, false, cond, List, [], ◌∷◌, ◌++◌, refl, sym, ap, subst, ◌∙◌, Option, Some, None}
use Rattle.std.specs.Prelude.{◌==◌, ◌||◌}
use Rattle.std.proofs.lemmas.Bool.{eqb-true, eq-eqb}
use Rattle.cluster_model.specs.State.{lookup, has, or_else}
use Rattle.cluster_model.specs.Right.{is_told}
use Rattle.cow_checkpoint.specs.Store.{saves}

abbrev Entries : Type 0
Entries = List (ℕ × List ℕ)

-- a text is saved unless there is one
pub saved_here : (i : ℕ) (t : List ℕ) (saved : Entries) →
    lookup i (saves i t saved) ≡ Some (or_else (lookup i saved) t)
saved_here i t saved = kept (lookup i saved) refl
  where
    kept : (o : Option (List ℕ)) → lookup i saved ≡ o →
        lookup i (cond (has o) saved ((i, t) ∷ saved)) ≡ Some (or_else o t)
    kept (Some u) e = e
    kept None e = ap (λ b. cond b (Some t) (lookup i saved)) (eq-eqb i i refl)

-- and no other
pub saved_other : (i j : ℕ) (t : List ℕ) (saved : Entries) → (j == i) ≡ false →
    lookup i (saves j t saved) ≡ lookup i saved
saved_other i j t saved apart = kept (has (lookup j saved))
  where
    kept : (b : Bool) → lookup i (cond b saved ((j, t) ∷ saved)) ≡ lookup i saved
    kept true = refl
    kept false = ap (λ b. cond b (Some t) (lookup i saved)) apart

-- what is saved stays
pub saved_stays : (i j : ℕ) (t u : List ℕ) (saved : Entries) → lookup i saved ≡ Some u →
    lookup i (saves j t saved) ≡ Some u
saved_stays i j t u saved is = by (j == i) refl
  where
    by : (b : Bool) → (j == i) ≡ b → lookup i (saves j t saved) ≡ Some u
    by true e =
        let same : j ≡ i = eqb-true j i e in
        subst (λ (k : ℕ). lookup i (saves k t saved) ≡ Some u) (sym same)
        (saved_here i t saved ∙ ap (λ (o : Option (List ℕ)). Some (or_else o t)) is)
    by false e = saved_other i j t saved e ∙ is

or_false : (b : Bool) → (b || false) ≡ b
or_false true = refl
or_false false = refl

or_true : (b : Bool) → (b || true) ≡ true
or_true true = refl
or_true false = refl

told_more : (q i : ℕ) (told : List ℕ) → is_told q (told ++ i ∷ []) ≡ (is_told q told || (i == q))
told_more q i [] = or_false (i == q)
told_more q i (k ∷ told) = first (k == q) (told_more q i told)
  where
    first : (b : Bool) → is_told q (told ++ i ∷ []) ≡ (is_told q told || (i == q)) →
        (b || is_told q (told ++ i ∷ [])) ≡ ((b || is_told q told) || (i == q))
    first true ih = refl
    first false ih = ih

-- exactly what is told is saved
pub exact_after : (told : List ℕ) (i : ℕ) (t : List ℕ) (saved : Entries) →
    ((q : ℕ) → has (lookup q saved) ≡ is_told q told) → (q : ℕ) →
    has (lookup q (saves i t saved)) ≡ is_told q (told ++ i ∷ [])
exact_after told i t saved exact q = by (i == q) refl ∙ sym (told_more q i told)
  where
    by : (b : Bool) → (i == q) ≡ b → has (lookup q (saves i t saved)) ≡ (is_told q told || b)
    by true e =
        let same : i ≡ q = eqb-true i q e in
        subst (λ (k : ℕ). has (lookup q (saves k t saved)) ≡ (is_told q told || true)) (sym same)
        (ap has (saved_here q t saved) ∙ sym (or_true (is_told q told)))
    by false e = ap has (saved_other q i t saved e) ∙ exact q ∙ sym (or_false (is_told q told))
