-- A map in the order of insertion, seen from its newest entry on: a look-up finds the same.
use Rattle.std.proofs.Common.{◌≡◌, ℕ, Bool, true, false, cond, List, [], ◌∷◌, ◌++◌, Bor, nat_eq, reverse, refl, sym, ap, subst, ◌∙◌, Option, Some, None}
use Rattle.std.specs.Option.{option_or, option_copied}
use Rattle.std.specs.Prelude.{◌==◌, is_some}
use Rattle.std.specs.List.{IsDistinct, AllByRecursion}
use Rattle.std.specs.Map as maps
use Rattle.std.proofs.lemmas.List.{reverse-append}
use Rattle.std.proofs.lemmas.Bool.{eqb-true, eq-eqb}
use Rattle.std.proofs.lemmas.Map.Keys.{IsDistinct-head, IsDistinct-tail}
use Rattle.cluster_model.specs.State.{lookup, has}

abbrev Entries : Type 0
Entries = List (ℕ × List ℕ)

behind : (i : ℕ) (xs ys : Entries) → lookup i (xs ++ ys) ≡ option_or (lookup i xs) (lookup i ys)
behind i [] ys = refl
behind i (x ∷ xs) ys = by (x.0 == i) (behind i xs ys)
  where
    by : (b : Bool) → lookup i (xs ++ ys) ≡ option_or (lookup i xs) (lookup i ys) →
        cond b (Some x.1) (lookup i (xs ++ ys)) ≡ option_or (cond b (Some x.1) (lookup i xs)) (lookup i ys)
    by true e = refl
    by false e = e

first_or : (o : Option (List ℕ)) → option_or o None ≡ o
first_or None = refl
first_or (Some t) = refl

turned : (a b : ℕ) (c : Bool) → (a == b) ≡ c → (b == a) ≡ c
turned a b true e = eq-eqb b a (sym (eqb-true a b e))
turned a b false e = by (b == a) refl
  where
    by : (c : Bool) → (b == a) ≡ c → c ≡ false
    by true f = absurd (let t : (a == b) ≡ true = eq-eqb a b (sym (eqb-true b a f)) in cc)
    by false f = refl

-- a key that differs from all is not found
absent : (k : ℕ) (es : Entries) → AllByRecursion (λ y. nat_eq k y ≡ false) (maps.keys_of es) →
    maps.lookup (nat_eq k) es ≡ None
absent k [] all = refl
absent k (e ∷ es) all =
    ap (λ b. cond b (Some e.1) (maps.lookup (nat_eq k) es)) all.0 ∙ absent k es all.1

pub looked_up : (i : ℕ) (es : Entries) → IsDistinct nat_eq (maps.keys_of es) →
    lookup i (reverse es) ≡ maps.lookup (nat_eq i) es
looked_up i [] distinct = refl
looked_up i (e ∷ es) distinct =
    ap (lookup i) (reverse-append (e ∷ []) es)
    ∙ behind i (reverse es) (e ∷ [])
    ∙ ap (λ o. option_or o (lookup i (e ∷ []))) (looked_up i es (IsDistinct-tail nat_eq e.0 (maps.keys_of es) distinct))
    ∙ by (nat_eq i e.0) refl
  where
    rest : Option (List ℕ)
    rest = maps.lookup (nat_eq i) es

    by : (b : Bool) → nat_eq i e.0 ≡ b → option_or rest (lookup i (e ∷ [])) ≡ cond b (Some e.1) rest
    by true same =
        let key : e.0 ≡ i = sym (eqb-true i e.0 same) in
        let none : rest ≡ None
        = absent i es (subst (λ k. AllByRecursion (λ y. nat_eq k y ≡ false) (maps.keys_of es)) key
        (IsDistinct-head nat_eq e.0 (maps.keys_of es) distinct)) in
        ap (λ o. option_or o (lookup i (e ∷ []))) none
        ∙ ap (λ b. cond b (Some e.1) None) (turned i e.0 true same)
    by false other =
        ap (λ b. option_or rest (cond b (Some e.1) None)) (turned i e.0 false other) ∙ first_or rest

-- whether there is one
pub has_is : (o : Option (List ℕ)) → has o ≡ is_some o
has_is None = refl
has_is (Some t) = refl

-- one text more, seen first
pub newest_first : (es new : Entries) (i : ℕ) (t : List ℕ) → new ≡ es ++ (i, t) ∷ [] → reverse new ≡ (i, t) ∷ reverse es
newest_first es new i t is = ap reverse is ∙ reverse-append es ((i, t) ∷ [])

-- a key without a text is not in the map
pub not_there : (i : ℕ) (es : Entries) → IsDistinct nat_eq (maps.keys_of es) → has (lookup i (reverse es)) ≡ false →
    maps.lookup (nat_eq i) es ≡ None
not_there i es distinct is = by (lookup i (reverse es)) refl is
  where
    by : (o : Option (List ℕ)) → lookup i (reverse es) ≡ o → has o ≡ false → maps.lookup (nat_eq i) es ≡ None
    by None e h = sym (looked_up i es distinct) ∙ e
    by (Some t) e h = absurd (let bad : true ≡ false = h in cc)

-- a reference is there where its value is
pub copied_some : {T : Type 0} (o : Option (Bor T)) → is_some (option_copied o) ≡ is_some o
copied_some None = refl
copied_some (Some x) = refl

pub copied_or : {T : Type 0} (a b : Option (Bor T)) →
    option_copied (option_or a b) ≡ option_or (option_copied a) (option_copied b)
copied_or None b = refl
copied_or (Some x) b = refl
