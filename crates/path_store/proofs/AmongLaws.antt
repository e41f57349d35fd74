-- Elements of lists, and entries whose keys differ.
use Rattle.std.proofs.Common.{◌⊎◌, inl, inr, ◌≡◌, ℕ, Bool, true, false, cond, ◌&&◌, T, List, [], ◌∷◌, ◌++◌, map, reverse, Some, None, refl, sym, ap, ◌∙◌, subst}
use Rattle.std.proofs.lemmas.List.{map-append, reverse-append, reverse-reverse}
use Rattle.std.specs.Prelude.{⊤}
use Rattle.std.specs.List.{filter}
use Rattle.std.specs.declared.cmp.Ordering.{Ordering}
use Rattle.std.specs.declared.cmp.Ordering.TheVariants.{Less, Equal, Greater}
use Rattle.std.specs.Ordering.{nat_cmp, is_eq, is_lt}
use Rattle.std.specs.Cmp.Lexicographic.{slice_cmp}
use Rattle.std.specs.FinMap.{find, is_sorted, get, entries, entries_sorted, get-entries}
use Rattle.std.specs.FinMap.Entries.{below_all}
use Rattle.server_trait.specs.Tree.{ByBytes}
use Rattle.server_trait.proofs.TreeLaws.{same-keys, same-key_refl, other-keys}
use Rattle.path_store.specs.Walks.{IsAmong}

-- ELEMENTS

module _ {A : Type 0} where
  pub among_left : (x : A) (xs ys : List A) → IsAmong x xs → IsAmong x (xs ++ ys)
  among_left x (y ∷ xs) ys (inl e) = inl e
  among_left x (y ∷ xs) ys (inr m) = inr (among_left x xs ys m)
  among_left x [] ys m = absurd m

  pub among_right : (x : A) (xs ys : List A) → IsAmong x ys → IsAmong x (xs ++ ys)
  among_right x [] ys m = m
  among_right x (y ∷ xs) ys m = inr (among_right x xs ys m)

  pub among_either : (x : A) (xs ys : List A) → IsAmong x (xs ++ ys) → IsAmong x xs ⊎ IsAmong x ys
  among_either x [] ys m = inr m
  among_either x (y ∷ xs) ys (inl e) = inl (inl e)
  among_either x (y ∷ xs) ys (inr m) = elim (among_either x xs ys m) as (λ _. IsAmong x (y ∷ xs) ⊎ IsAmong x ys)
      [ inl l ↦ inl (inr l) | inr r ↦ inr r ]

  pub among_filter : (p : A → Bool) (x : A) (xs : List A) → IsAmong x (filter p xs) → IsAmong x xs × (p x ≡ true)
  among_filter p x [] m = absurd m
  among_filter p x (y ∷ xs) m = elim (p y) as (λ b. p y ≡ b → IsAmong x (cond b (y ∷ filter p xs) (filter p xs)) →
      IsAmong x (y ∷ xs) × (p x ≡ true)) [
        | true ↦ λ t n. elim n as (λ _. IsAmong x (y ∷ xs) × (p x ≡ true)) [
          | inl e ↦ (inl e, ap p (sym e) ∙ t)
          | inr l ↦ (let rest = among_filter p x xs l in (inr rest.0, rest.1))
        ]
        | false ↦ λ f n. (let rest = among_filter p x xs n in (inr rest.0, rest.1))
      ] refl m

  pub among_kept : (p : A → Bool) (x : A) (xs : List A) → IsAmong x xs → p x ≡ true → IsAmong x (filter p xs)
  among_kept p x [] m t = absurd m
  among_kept p x (y ∷ xs) (inl e) t = subst (λ b. IsAmong x (cond b (y ∷ filter p xs) (filter p xs)))
      (sym (ap p e ∙ t)) (inl e)
  among_kept p x (y ∷ xs) (inr m) t = elim (p y) as (λ b. IsAmong x (cond b (y ∷ filter p xs) (filter p xs))) [
    | true ↦ inr (among_kept p x xs m t)
    | false ↦ among_kept p x xs m t
  ]

  pub among_reverse : (x : A) (xs : List A) → IsAmong x xs → IsAmong x (reverse xs)
  among_reverse x [] m = absurd m
  among_reverse x (y ∷ xs) (inl e) = subst (IsAmong x) (sym (reverse-append (y ∷ []) xs))
      (among_right x (reverse xs) (y ∷ []) (inl e))
  among_reverse x (y ∷ xs) (inr m) = subst (IsAmong x) (sym (reverse-append (y ∷ []) xs))
      (among_left x (reverse xs) (y ∷ []) (among_reverse x xs m))

  pub reverse_among : (x : A) (xs : List A) → IsAmong x (reverse xs) → IsAmong x xs
  reverse_among x xs m = subst (IsAmong x) (reverse-reverse xs) (among_reverse x (reverse xs) m)

module _ {A B : Type 0} (f : A → B) where
  pub map-reverse : (xs : List A) → map f (reverse xs) ≡ reverse (map f xs)
  map-reverse [] = refl
  map-reverse (x ∷ xs) = ap (map f) (reverse-append (x ∷ []) xs) ∙ map-append f (reverse xs) (x ∷ [])
      ∙ ap (λ l. l ++ f x ∷ []) (map-reverse xs) ∙ sym (reverse-append (f x ∷ []) (map f xs))

-- ENTRIES

pub first_test : (a b : Bool) → T (a && b) → T a
first_test true b p = tt
first_test false b p = p

pub second_test : (a b : Bool) → T (a && b) → T b
second_test true b p = p
second_test false b p = absurd p

not_less : (o : Ordering) → T (is_lt o) → is_eq o ≡ true → ⊥
not_less Less p e = let bad : false ≡ true = e in cc
not_less Equal p e = p
not_less Greater p e = p

module _ {X : Type 0} where
  -- no two keys are one
  abbrev pub AreApart : List (List ℕ × X) → Type 0
  AreApart [] = ⊤
  AreApart (e ∷ es) = ((x : X) → IsAmong (e.0, x) es → ⊥) × AreApart es

  pub found_among : (q : List ℕ) (v : X) (es : List (List ℕ × X)) → find (slice_cmp nat_cmp) q es ≡ Some v →
      IsAmong (q, v) es
  found_among q v [] is = absurd (let bad : None ≡ Some v = is in cc)
  found_among q v (e ∷ es) is =
      elim (is_eq (slice_cmp nat_cmp q e.0)) as (λ b. is_eq (slice_cmp nat_cmp q e.0) ≡ b →
      cond b (Some e.1) (find (slice_cmp nat_cmp) q es) ≡ Some v → IsAmong (q, v) (e ∷ es)) [
        | true ↦ λ t s.
            let value : e.1 ≡ v = (let same : Some e.1 ≡ Some v = s in cc) in
            inl (ap (λ k. (k, e.1)) (sym (same-keys q e.0 t)) ∙ ap (λ x. (q, x)) value)
        | false ↦ λ _ s. inr (found_among q v es s)
      ] refl is

  pub among_found : (q : List ℕ) (v : X) (es : List (List ℕ × X)) → AreApart es → IsAmong (q, v) es →
      find (slice_cmp nat_cmp) q es ≡ Some v
  among_found q v [] apart m = absurd m
  among_found q v (e ∷ es) apart (inl same) =
      subst (λ (k : List ℕ × X). cond (is_eq (slice_cmp nat_cmp q k.0)) (Some k.1)
      (find (slice_cmp nat_cmp) q es) ≡ Some v) (sym same)
      (ap (λ b. cond b (Some v) (find (slice_cmp nat_cmp) q es)) (same-key_refl q))
  among_found q v (e ∷ es) apart (inr m) =
      ap (λ b. cond b (Some e.1) (find (slice_cmp nat_cmp) q es))
      (other-keys q e.0 (λ same. apart.0 v (subst (λ k. IsAmong (k, v) es) same m)))
      ∙ among_found q v es apart.1 m

  -- entries that ascend are apart
  below_apart : (q : List ℕ) (es : List (List ℕ × X)) → T (below_all (slice_cmp nat_cmp) q es) → (x : X) →
      IsAmong (q, x) es → ⊥
  below_apart q [] below x m = m
  below_apart q (e ∷ es) below x (inl same) =
      let key : e.0 ≡ q = ap (λ (k : List ℕ × X). k.0) same in
      not_less (slice_cmp nat_cmp q e.0) (first_test (is_lt (slice_cmp nat_cmp q e.0))
      (below_all (slice_cmp nat_cmp) q es) below)
      (ap (λ k. is_eq (slice_cmp nat_cmp q k)) key ∙ same-key_refl q)
  below_apart q (e ∷ es) below x (inr m) =
      below_apart q es (second_test (is_lt (slice_cmp nat_cmp q e.0)) (below_all (slice_cmp nat_cmp) q es) below) x m

  pub sorted_apart : (es : List (List ℕ × X)) → T (is_sorted (slice_cmp nat_cmp) es) → AreApart es
  sorted_apart [] sorted = tt
  sorted_apart (e ∷ es) sorted = (
    below_apart e.0 es (first_test (below_all (slice_cmp nat_cmp) e.0 es) (is_sorted (slice_cmp nat_cmp) es) sorted),
    sorted_apart es (second_test (below_all (slice_cmp nat_cmp) e.0 es) (is_sorted (slice_cmp nat_cmp) es) sorted),
  )

  pub entry_got : (m : ByBytes X) (q : List ℕ) (v : X) → IsAmong (q, v) (entries m) → get m q ≡ Some v
  entry_got m q v a = get-entries m q ∙ among_found q v (entries m) (sorted_apart (entries m) (entries_sorted m)) a

  pub got_entry : (m : ByBytes X) (q : List ℕ) (v : X) → get m q ≡ Some v → IsAmong (q, v) (entries m)
  got_entry m q v is = found_among q v (entries m) (sym (get-entries m q) ∙ is)
