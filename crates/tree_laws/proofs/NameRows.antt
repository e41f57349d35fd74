-- The rows of an ordered map whose keys are vectors of bytes, read as a `FinMap`: looking, putting in, taking out.
use Rattle.std.proofs.Common.{inl, inr, ◌⊎◌, ◌≡◌, ℕ, Bool, List, [], ◌∷◌, map, cond, true, false, Option, Some, None, refl, sym, ap, ◌∙◌, subst}
use Rattle.std.specs.Prelude.{Vec}
use Rattle.std.specs.declared.alloc.Global.{Global}
use Rattle.std.specs.declared.cmp.Ordering.{Ordering}
use Rattle.std.specs.declared.cmp.Ordering.TheVariants.{Less, Equal, Greater}
use Rattle.std.specs.Cmp.Lexicographic.{slice_cmp, nat_list_cmp_total}
use Rattle.std.specs.Ordering.{nat_cmp, is_eq, match_ordering}
use Rattle.std.specs.BTreeMap.{insert_entry}
use Rattle.std.specs.Map.{lookup}
use Rattle.std.specs.FinMap.{FinMap, IsAntisymmetric, find, put, get, insert, remove, from_entries, same_map, get-from_entries, get-insert, get-remove, slice_cmp-IsAntisymmetric, nat_cmp-IsAntisymmetric}
use Rattle.std.specs.FinMap.Entries.{by_order, find-put}
use Rattle.server_trait.proofs.TreeLaws.{bytes_or_not, other-keys, same_answers}

bytes_exact : IsAntisymmetric (slice_cmp nat_cmp)
bytes_exact = slice_cmp-IsAntisymmetric nat_cmp-IsAntisymmetric

module _ {X : Type 0} where
  -- an insertion into the map is one into the view
  insert-put : (es : List (List ℕ × X)) (k : List ℕ) (v : X) →
      from_entries {R = slice_cmp nat_cmp} (put (slice_cmp nat_cmp) k v es) ≡ insert (from_entries es) k v
  insert-put es k v = same_map nat_list_cmp_total bytes_exact _ _ (λ q.
      get-from_entries nat_list_cmp_total (put (slice_cmp nat_cmp) k v es) q
      ∙ find-put (slice_cmp nat_cmp) nat_list_cmp_total q k v es
      ∙ ap (cond (is_eq (slice_cmp nat_cmp q k)) (Some v)) (sym (get-from_entries nat_list_cmp_total es q))
      ∙ sym (get-insert nat_list_cmp_total (from_entries es) k v q))

-- a row, with its key as a list
abbrev pub row : {X : Type 0} → Vec ℕ Global × X → List ℕ × X
row e = (e.0.items, e.1)

-- keys are compared as lists
abbrev pub vec_cmp : Vec ℕ Global → Vec ℕ Global → Ordering
vec_cmp a b = slice_cmp nat_cmp a.items b.items

module _ {X : Type 0} where
  find-vec : (es : List (Vec ℕ Global × X)) (q : List ℕ) →
      find (slice_cmp nat_cmp) q (map row es) ≡ lookup (λ k. is_eq (slice_cmp nat_cmp q k.items)) es
  find-vec [] q = refl
  find-vec (e ∷ es) q = ap (cond (is_eq (slice_cmp nat_cmp q e.0.items)) (Some e.1)) (find-vec es q)

  pub get-vec_rows : (es : List (Vec ℕ Global × X)) (m : FinMap (slice_cmp nat_cmp) X) (found : Option X)
      (k q : List ℕ) → from_entries (map row es) ≡ m → k ≡ q →
      found ≡ lookup (λ v. is_eq (slice_cmp nat_cmp k v.items)) es → found ≡ get m q
  get-vec_rows es m found k q is_map is_key is = is ∙ sym (get-from_entries nat_list_cmp_total (map row es) k
      ∙ find-vec es k) ∙ ap (λ m. get m k) is_map ∙ ap (get m) is_key

  put-vec : (k : Vec ℕ Global) (v : X) (es : List (Vec ℕ Global × X)) →
      map row (insert_entry vec_cmp es k v) ≡ put (slice_cmp nat_cmp) k.items v (map row es)
  put-vec k v [] = refl
  put-vec k v (e ∷ es) = elim (vec_cmp k e.0) as (λ o. map row (match_ordering o ((k, v) ∷ e ∷ es) ((e.0, v) ∷ es)
      (e ∷ insert_entry vec_cmp es k v)) ≡ by_order o ((k.items, v) ∷ map row (e ∷ es)) ((e.0.items, v) ∷ map row es)
      (row e ∷ put (slice_cmp nat_cmp) k.items v (map row es))) [
        | Less ↦ refl
        | Equal ↦ refl
        | Greater ↦ ap (λ l. row e ∷ l) (put-vec k v es)
      ]

  pub insert-vec_rows : (es fs : List (Vec ℕ Global × X)) (m : FinMap (slice_cmp nat_cmp) X) (k : Vec ℕ Global)
      (q : List ℕ) (v : X) → from_entries (map row es) ≡ m → k.items ≡ q →
      fs ≡ insert_entry vec_cmp es k v → from_entries (map row fs) ≡ insert m q v
  insert-vec_rows es fs m k q v is_map is_key is =
      ap (λ l. from_entries (map row l)) is ∙ ap from_entries (put-vec k v es) ∙ insert-put (map row es) k.items v
      ∙ ap (λ m. insert m k.items v) is_map ∙ ap (λ q. insert m q v) is_key

-- A ROW IS TAKEN OUT

none_or_some : {A : Type 0} (o : Option A) → (o ≡ None) ⊎ ((x : A) × (o ≡ Some x))
none_or_some None = inl refl
none_or_some (Some x) = inr (x, refl)

turned : (k q : List ℕ) → is_eq (slice_cmp nat_cmp k q) ≡ is_eq (slice_cmp nat_cmp q k)
turned k q = elim (bytes_or_not k q) as (λ _. is_eq (slice_cmp nat_cmp k q) ≡ is_eq (slice_cmp nat_cmp q k)) [
  | inl e ↦ ap (λ l. is_eq (slice_cmp nat_cmp l q)) e ∙ ap (λ l. is_eq (slice_cmp nat_cmp q l)) (sym e)
  | inr ne ↦ other-keys k q ne ∙ sym (other-keys q k (λ e. ne (sym e)))
]

without_none : {X : Type 0} (b : Bool) → ◌≡◌ {A = Option X} (cond b None None) None
without_none true = refl
without_none false = refl

module _ {X : Type 0} (es fs : List (Vec ℕ Global × X)) (k : List ℕ)
    (updated : (v : Vec ℕ Global) → lookup (λ w. is_eq (slice_cmp nat_cmp v.items w.items))
    fs ≡ cond (is_eq (slice_cmp nat_cmp k v.items)) None (lookup (λ w. is_eq (slice_cmp nat_cmp v.items w.items))
    es)) where
  at_vec : (q : List ℕ) (v : Vec ℕ Global) → v.items ≡ q →
      find (slice_cmp nat_cmp) q (map row fs) ≡ cond (is_eq (slice_cmp nat_cmp k q))
      None (find (slice_cmp nat_cmp) q (map row es))
  at_vec q v is = subst (λ l. find (slice_cmp nat_cmp) l (map row fs) ≡ cond (is_eq (slice_cmp nat_cmp k l))
      None (find (slice_cmp nat_cmp) l (map row es))) is
      (find-vec fs v.items ∙ updated v ∙ ap (cond (is_eq (slice_cmp nat_cmp k v.items)) None)
      (sym (find-vec es v.items)))

  -- a key that is found is that of a row
  vec_of : (gs : List (Vec ℕ Global × X)) (q : List ℕ) (x : X) → find (slice_cmp nat_cmp) q (map row gs) ≡ Some x →
      (v : Vec ℕ Global) × (v.items ≡ q)
  vec_of [] q x is = absurd (let bad : None ≡ Some x = is in cc)
  vec_of (e ∷ gs) q x is = elim (bytes_or_not q e.0.items) as (λ _. (v : Vec ℕ Global) × (v.items ≡ q)) [
    | inl same ↦ (e.0, sym same)
    | inr ne ↦ vec_of gs q x (sym (ap (λ b. cond b (Some e.1) (find (slice_cmp nat_cmp) q (map row gs)))
        (other-keys q e.0.items ne)) ∙ is)
  ]

  found_after : (q : List ℕ) → find (slice_cmp nat_cmp) q (map row fs) ≡ cond (is_eq (slice_cmp nat_cmp k q))
      None (find (slice_cmp nat_cmp) q (map row es))
  found_after q = elim (none_or_some (find (slice_cmp nat_cmp) q (map row fs))) as (λ _. find (slice_cmp nat_cmp)
      q (map row fs) ≡ cond (is_eq (slice_cmp nat_cmp k q)) None (find (slice_cmp nat_cmp) q (map row es))) [
        | inr x ↦ (let v = vec_of fs q x.0 x.1 in at_vec q v.0 v.1)
        | inl none ↦ elim (none_or_some (find (slice_cmp nat_cmp) q (map row es))) as (λ _. find (slice_cmp nat_cmp)
            q (map row fs) ≡ cond (is_eq (slice_cmp nat_cmp k q)) None (find (slice_cmp nat_cmp) q (map row es))) [
              | inr x ↦ (let v = vec_of es q x.0 x.1 in at_vec q v.0 v.1)
              | inl nothing ↦ none ∙ sym (ap (cond (is_eq (slice_cmp nat_cmp k q)) None) nothing
                  ∙ without_none (is_eq (slice_cmp nat_cmp k q)))
            ]
      ]

  pub remove-vec_rows : (m : FinMap (slice_cmp nat_cmp) X) → from_entries (map row es) ≡ m →
      from_entries (map row fs) ≡ remove m k
  remove-vec_rows m view = same_answers _ _ (λ q. get-from_entries nat_list_cmp_total (map row fs) q ∙ found_after q
      ∙ ap (λ b. cond b None (find (slice_cmp nat_cmp) q (map row es))) (turned k q)
      ∙ ap (cond (is_eq (slice_cmp nat_cmp q k)) None) (sym (get-from_entries nat_list_cmp_total (map row es) q)
      ∙ ap (λ n. get n q) view)
      ∙ sym (get-remove nat_list_cmp_total m k q))
