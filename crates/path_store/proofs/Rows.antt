-- The rows of a map from byte strings, read as a `FinMap`.
use Rattle.std.proofs.Common.{inl, inr, ◌≡◌, ◌≢◌, ℕ, bytes_eq, not, List, [], ◌∷◌, map, cond, Bool, ◌&&◌, T, true, false, Option, Some, None, is_some, Result, Ok, Err, OnOk, refl, sym, ap, ◌∙◌}
use Rattle.std.proofs.lemmas.Bool.{not-true}
use Rattle.std.proofs.lemmas.Slice.Eq.{bytes_eq-Decides}
use Rattle.std.specs.List.{AllByRecursion}
use Rattle.std.specs.List.Sorted.{IsStrictlySortedBy}
use Rattle.std.specs.declared.cmp.Ordering.TheVariants.{Less, Equal, Greater}
use Rattle.std.specs.Cmp.Lexicographic.{slice_cmp, nat_list_cmp_total}
use Rattle.std.specs.Ordering.{nat_cmp, is_eq, is_lt, match_ordering}
use Rattle.std.specs.BTreeMap.{insert_entry}
use Rattle.std.specs.Map.{lookup}
use Rattle.std.specs.FinMap.{FinMap, IsAntisymmetric, is_sorted, find, put, get, insert, remove, entries, from_entries, from_sorted, same_map, entries-from_sorted, get-from_sorted, get-from_entries, get-insert, get-remove, slice_cmp-IsAntisymmetric, nat_cmp-IsAntisymmetric}
use Rattle.std.specs.FinMap.Entries.{by_order, below_all, find-put}
use Rattle.server_trait.proofs.TreeLaws.{bytes_or_not, other-keys, same_answers}

pub bytes_exact : IsAntisymmetric (slice_cmp nat_cmp)
bytes_exact = slice_cmp-IsAntisymmetric nat_cmp-IsAntisymmetric

pub none_of : {A : Type 0} (o : Option A) → is_some o ≡ false → o ≡ None
none_of None h = refl
none_of (Some x) h = absurd (let bad : true ≡ false = h in cc)

-- ROWS WHOSE KEYS ARE LISTS

module _ {X : Type 0} where
  find-lookup : (es : List (List ℕ × X)) (q : List ℕ) →
      find (slice_cmp nat_cmp) q es ≡ lookup (λ k. is_eq (slice_cmp nat_cmp q k)) es
  find-lookup [] q = refl
  find-lookup (e ∷ es) q = ap (cond (is_eq (slice_cmp nat_cmp q e.0)) (Some e.1)) (find-lookup es q)

  -- the view finds what the map finds
  pub get-rows : (es : List (List ℕ × X)) (q : List ℕ) →
      get (from_entries {R = slice_cmp nat_cmp} es) q ≡ lookup (λ k. is_eq (slice_cmp nat_cmp q k)) es
  get-rows es q = get-from_entries nat_list_cmp_total es q ∙ find-lookup es q

  put-row : (k : List ℕ) (v : X) (es : List (List ℕ × X)) →
      insert_entry (slice_cmp nat_cmp) es k v ≡ put (slice_cmp nat_cmp) k v es
  put-row k v [] = refl
  put-row k v (e ∷ es) = elim (slice_cmp nat_cmp k e.0) as (λ o. match_ordering o ((k, v) ∷ e ∷ es) ((e.0, v) ∷ es)
      (e ∷ insert_entry (slice_cmp nat_cmp) es k v) ≡ by_order o ((k, v) ∷ e ∷ es) ((e.0, v) ∷ es)
      (e ∷ put (slice_cmp nat_cmp) k v es)) [
        | Less ↦ refl
        | Equal ↦ refl
        | Greater ↦ ap (λ l. e ∷ l) (put-row k v es)
      ]

  -- an insertion into the map is one into the view
  insert-put : (es : List (List ℕ × X)) (k : List ℕ) (v : X) →
      from_entries {R = slice_cmp nat_cmp} (put (slice_cmp nat_cmp) k v es) ≡ insert (from_entries es) k v
  insert-put es k v = same_map nat_list_cmp_total bytes_exact _ _ (λ q.
      get-from_entries nat_list_cmp_total (put (slice_cmp nat_cmp) k v es) q
      ∙ find-put (slice_cmp nat_cmp) nat_list_cmp_total q k v es
      ∙ ap (cond (is_eq (slice_cmp nat_cmp q k)) (Some v)) (sym (get-from_entries nat_list_cmp_total es q))
      ∙ sym (get-insert nat_list_cmp_total (from_entries es) k v q))

  pub insert-rows : (es fs : List (List ℕ × X)) (k : List ℕ) (v w : X) → v ≡ w →
      fs ≡ insert_entry (slice_cmp nat_cmp) es k v →
      from_entries {R = slice_cmp nat_cmp} fs ≡ insert (from_entries es) k w
  insert-rows es fs k v w same is = ap from_entries (is ∙ put-row k v es) ∙ insert-put es k v
      ∙ ap (insert (from_entries es) k) same

turned : (k q : List ℕ) → is_eq (slice_cmp nat_cmp k q) ≡ is_eq (slice_cmp nat_cmp q k)
turned k q = elim (bytes_or_not k q) as (λ _. is_eq (slice_cmp nat_cmp k q) ≡ is_eq (slice_cmp nat_cmp q k)) [
  | inl e ↦ ap (λ l. is_eq (slice_cmp nat_cmp l q)) e ∙ ap (λ l. is_eq (slice_cmp nat_cmp q l)) (sym e)
  | inr ne ↦ other-keys k q ne ∙ sym (other-keys q k (λ e. ne (sym e)))
]

both_tests : (a b : Bool) → a ≡ true → T b → T (a && b)
both_tests true b p q = q
both_tests false b p q = absurd (let bad : false ≡ true = p in cc)

pub both_tests' : (a b : Bool) → T a → T b → T (a && b)
both_tests' true b p q = q
both_tests' false b p q = p

pub unlike : (a b : List ℕ) → not (bytes_eq a b) ≡ true → a ≢ b
unlike a b t e = let bad : true ≡ false = sym ((bytes_eq-Decides a b).1 e) ∙ not-true (bytes_eq a b) t in cc

pub alike : (a b : List ℕ) → not (bytes_eq a b) ≡ false → a ≡ b
alike a b f = (bytes_eq-Decides a b).0 (turn (bytes_eq a b) f)
  where
    turn : (b : Bool) → not b ≡ false → b ≡ true
    turn true e = refl
    turn false e = absurd (let bad : true ≡ false = e in cc)

pub on_ok : {A E : Type 0} (r : Result A E) (P Q : Type 0) → (P → Q) → OnOk r P → OnOk r Q
on_ok (Ok x) P Q f p = f p
on_ok (Err e) P Q f p = p

-- THE VIEW OF A MAP

module _ {X : Type 0} (es : List (List ℕ × X)) (m : FinMap (slice_cmp nat_cmp) X) (view : from_entries es ≡ m) where
  pub got-rows : (found : Option X) (q : List ℕ) → found ≡ lookup (λ k. is_eq (slice_cmp nat_cmp q k)) es →
      found ≡ get m q
  got-rows found q is = is ∙ sym (get-rows es q) ∙ ap (λ n. get n q) view

  pub inserted-rows : (fs : List (List ℕ × X)) (k : List ℕ) (v : X) → fs ≡ insert_entry (slice_cmp nat_cmp) es k v →
      from_entries fs ≡ insert m k v
  inserted-rows fs k v is = insert-rows es fs k v v refl is ∙ ap (λ n. insert n k v) view

  pub removed-rows : (fs : List (List ℕ × X)) (k : List ℕ) →
      ((q : List ℕ) → lookup (λ w. is_eq (slice_cmp nat_cmp q w)) fs ≡ cond (is_eq (slice_cmp nat_cmp k q))
      None (lookup (λ w. is_eq (slice_cmp nat_cmp q w)) es)) →
      from_entries fs ≡ remove m k
  removed-rows fs k updated = same_answers _ _ (λ q. get-rows fs q ∙ updated q
      ∙ ap (λ b. cond b None (lookup (λ w. is_eq (slice_cmp nat_cmp q w)) es)) (turned k q)
      ∙ ap (cond (is_eq (slice_cmp nat_cmp q k)) None) (sym (get-rows es q) ∙ ap (λ n. get n q) view)
      ∙ sym (get-remove nat_list_cmp_total m k q))

-- the entries of the view are the map's, which ascend
module _ {X : Type 0} where
  below_each : (k : List ℕ) (es : List (List ℕ × X)) →
      AllByRecursion (λ y. slice_cmp nat_cmp k y ≡ Less) (map (λ e. e.0) es) → T (below_all (slice_cmp nat_cmp) k es)
  below_each k [] less = tt
  below_each k (e ∷ es) less = both_tests (is_lt (slice_cmp nat_cmp k e.0)) _ (ap is_lt less.0)
      (below_each k es less.1)

  pub sorted_rows : (es : List (List ℕ × X)) → IsStrictlySortedBy (slice_cmp nat_cmp) (map (λ e. e.0) es) →
      T (is_sorted (slice_cmp nat_cmp) es)
  unfolding IsStrictlySortedBy
  sorted_rows [] sorted = tt
  sorted_rows (e ∷ es) sorted = both_tests' (below_all (slice_cmp nat_cmp) e.0 es) _ (below_each e.0 es sorted.0)
      (sorted_rows es sorted.1)

  pub entries-rows : (es : List (List ℕ × X)) → IsStrictlySortedBy (slice_cmp nat_cmp) (map (λ e. e.0) es) →
      entries (from_entries {R = slice_cmp nat_cmp} es) ≡ es
  entries-rows es sorted =
      let up = sorted_rows es sorted in
      ap entries (same_map nat_list_cmp_total bytes_exact (from_entries es) (from_sorted es)
      (λ q. get-from_entries nat_list_cmp_total es q ∙ sym (get-from_sorted (slice_cmp nat_cmp) es q up)))
      ∙ entries-from_sorted (slice_cmp nat_cmp) es up
