-- The places of a set, the greatest first, are those of a log's records, the newest first.
use Rattle.std.proofs.Common.{◌≡◌, ◌-◌, ◌++◌, ◌<◌, ◌||◌, ◌∙◌, ℕ, zero, suc, true, false, List, [], ◌∷◌, Some, length, get_or, reverse, slice_get, refl, sym, ap, subst, arith}
use Rattle.std.proofs.lemmas.List.{get_or-reverse, length-reverse}
use Rattle.std.proofs.lemmas.Map.Keys.{any_passes_from_place, below_from_sorted}
use Rattle.std.proofs.lemmas.Option.{get_or_from_slice_get, slice_get-get_or, slice_get_within}
use Rattle.std.specs.BTreeMap.{is_at}
use Rattle.std.specs.BTreeSet.{BTreeSet}
use Rattle.std.specs.Cmp.{nat_cmp_is, ranked}
use Rattle.std.specs.FinMap as map
use Rattle.std.specs.List.{list_any}
use Rattle.std.specs.List.Sorted.{IsStrictlySortedBy}
use Rattle.std.specs.Ordering.{is_eq, nat_cmp}
use Rattle.std.specs.declared.cmp.Ordering.TheVariants.{Less, Equal, Greater}
use Rattle.log_segments.specs.Newest.{ArePlacesUnder, place_of}
use Rattle.log_segments.specs.Segments.{HasUnder}
use Rattle.log_segments.proofs.Prefixes.{Places}

-- where a number of a list stands
record IsAt (ks : List ℕ) (i p : ℕ) : Type 0 where
  within : i < length ks
  there : slice_get ks i ≡ Some p
  is : get_or ks i 0 ≡ p

place_in : (ks : List ℕ) (p : ℕ) → list_any (is_at (nat_cmp p)) ks ≡ true → (i : ℕ) × (slice_get ks i ≡ Some p)
place_in [] p has = absurd (let no : false ≡ true = has in cc)
place_in (x ∷ ks) p has =
    elim (nat_cmp p x) as (λ r. r ≡ nat_cmp p x → (is_eq r || list_any (is_at (nat_cmp p)) ks) ≡ true
    → (i : ℕ) × (slice_get (x ∷ ks) i ≡ Some p)) [
      | Less ↦ λ _ rest. (let at = place_in ks p rest in (suc at.0, at.1))
      | Equal ↦ λ e _. (zero, ap Some (sym (ranked p x Equal e)))
      | Greater ↦ λ _ rest. (let at = place_in ks p rest in (suc at.0, at.1))
    ] refl has

at_place : (ks : List ℕ) (i p : ℕ) → slice_get ks i ≡ Some p → IsAt ks i p
at_place ks i p there = record {
  within = slice_get_within ks i p there;
  there = there;
  is = get_or_from_slice_get ks i p 0 there;
}

-- from the back
turned : (ks : List ℕ) (k p : ℕ) → slice_get (reverse ks) k ≡ Some p → IsAt ks (length ks - 1 - k) p
turned ks k p there =
    let within = slice_get_within (reverse ks) k p there in
    let few : k < length ks = omega (arith, length-reverse ks) in
    let is : get_or ks (length ks - 1 - k) 0 ≡ p = sym (get_or-reverse ks k 0 few)
    ∙ get_or_from_slice_get (reverse ks) k p 0 there in
    record {
      within = omega arith;
      there = slice_get-get_or ks (length ks - 1 - k) 0 (omega arith) ∙ ap Some is;
      is = is;
    }

back : (ks : List ℕ) (i p : ℕ) → slice_get ks i ≡ Some p → slice_get (reverse ks) (length ks - 1 - i) ≡ Some p
back ks i p there =
    let at = at_place ks i p there in
    let few = at.within in
    let again : length ks - 1 - (length ks - 1 - i) ≡ i = omega arith in
    slice_get-get_or (reverse ks) (length ks - 1 - i) 0 (omega (arith, length-reverse ks))
    ∙ ap Some (get_or-reverse ks (length ks - 1 - i) 0 (omega arith) ∙ (ap (λ n. get_or ks n 0) again ∙ at.is))

pub places_fall : (records : List (List ℕ)) (m : Places) (prefix : List ℕ) (set : BTreeSet ℕ) (places : List ℕ)
    → ((key : List ℕ) → map.get m key ≡ place_of records key) → HasUnder m prefix set
    → places ≡ reverse set.keys → IsStrictlySortedBy nat_cmp set.keys → ArePlacesUnder records prefix places
places_fall records m prefix set places noted has same rising =
    let at : (k p : ℕ) → slice_get places k ≡ Some p → IsAt set.keys (length set.keys - 1 - k) p =
    λ k p is. turned set.keys k p (subst (λ l. slice_get l k ≡ Some p) same is) in
    record {
      sound = λ k p is.
          let tied : is_at (nat_cmp p) p ≡ true = ap is_eq (sym (nat_cmp_is p p Equal refl)) in
          let found = (has p).0 (any_passes_from_place (is_at (nat_cmp p)) set.keys (length set.keys - 1 - k) p
          (at k p is).there tied) in
          (found.0, sym (noted (prefix ++ found.0)) ∙ found.1);
      complete = λ rest p is.
          let i = place_in set.keys p ((has p).1 (rest, noted (prefix ++ rest) ∙ is)) in (
            length set.keys - 1 - i.0,
            subst (λ l. slice_get l (length set.keys - 1 - i.0) ≡ Some p) (sym same) (back set.keys i.0 p i.1),
          );
      falling = λ j k p q at_j at_k less.
          let a = at j p at_j in
          let b = at k q at_k in
          let few : k < length set.keys = (let l = slice_get_within places k q at_k in
          let n = ap length same in omega (arith, length-reverse set.keys)) in
          let in_a = a.within in
          let below = below_from_sorted set.keys (length set.keys - 1 - k) (length set.keys - 1 - j) 0 rising
          (omega arith) in_a in
          subst (λ n. n < p) b.is (subst (λ n. get_or set.keys (length set.keys - 1 - k) 0 < n) a.is below);
    }
