-- Maps with other keys and values.
use Rattle.std.proofs.Common.{inl, inr, ◌≡◌, ℕ, ◌+◌, Bool, true, false, cond, ◌&&◌, List, [], ◌∷◌, map, Some, None, refl, sym, ap, ◌∙◌}
use Rattle.std.specs.Prelude.{T, bytes_eq}
use Rattle.std.specs.Option.{option_map}
use Rattle.std.specs.declared.cmp.Ordering.{Ordering}
use Rattle.std.specs.declared.cmp.Ordering.TheVariants.{Less, Equal, Greater}
use Rattle.std.specs.Ordering.{nat_cmp, is_eq, is_lt}
use Rattle.std.specs.Cmp.Lexicographic.{slice_cmp, nat_list_cmp_total}
use Rattle.std.specs.FinMap.{find, get, insert, remove, empty, len, entries, from_entries, is_sorted, entries_sorted, get-entries, get-from_entries, get-empty}
use Rattle.std.specs.FinMap.Entries.{below_all}
use Rattle.std.proofs.lemmas.Map.Text.{is_eq-slice_cmp}
use Rattle.std.proofs.lemmas.Slice.Eq.{bytes_eq-Decides}
use Rattle.server_trait.specs.Sums.{sum_values, total}
use Rattle.server_trait.specs.Tree.{ByBytes}
use Rattle.server_trait.proofs.SumLaws.{total-insert_new, total-none, total-ones}
use Rattle.server_trait.proofs.TreeLaws.{some_none, same_answers, bytes_or_not, get-insert_same, get-insert_other, get-remove_same, get-remove_other}
use Rattle.path_server.specs.Shown.{rekeyed}

same_test : (a b : Bool) → (a ≡ true → b ≡ true) → (b ≡ true → a ≡ true) → a ≡ b
same_test true b f g = sym (f refl)
same_test false true f g = g refl
same_test false false f g = refl

first_of : (a b : Bool) → T (a && b) → T a
first_of true b p = tt
first_of false b p = absurd p

second_of : (a b : Bool) → T (a && b) → T b
second_of true b p = p
second_of false b p = absurd p

not_tied : (r : Ordering) → T (is_lt r) → is_eq r ≡ false
not_tied Less p = refl
not_tied Equal p = absurd p
not_tied Greater p = absurd p

-- a key below all keys is not among them
below_none : {A : Type 0} (x : List ℕ) (es : List (List ℕ × A)) → T (below_all (slice_cmp nat_cmp) x es) →
    find (slice_cmp nat_cmp) x es ≡ None
below_none x [] h = refl
below_none x (e ∷ es) h =
    ap (λ b. cond b (Some e.1) (find (slice_cmp nat_cmp) x es))
    (not_tied _ (first_of _ (below_all (slice_cmp nat_cmp) x es) h))
    ∙ below_none x es (second_of (is_lt (slice_cmp nat_cmp x e.0)) _ h)

module _ (key : List ℕ → List ℕ) (twice : (h : List ℕ) → key (key h) ≡ h) where
  -- a key meets another where the other's meets its own
  pub bytes_eq-key : (h q : List ℕ) → bytes_eq (key h) q ≡ bytes_eq h (key q)
  bytes_eq-key h q = same_test _ _
      (λ t. (bytes_eq-Decides h (key q)).1 (sym (twice h) ∙ ap key ((bytes_eq-Decides (key h) q).0 t)))
      (λ t. (bytes_eq-Decides (key h) q).1 (ap key ((bytes_eq-Decides h (key q)).0 t) ∙ twice q))

  ties-key : (q h : List ℕ) → is_eq (slice_cmp nat_cmp q (key h)) ≡ is_eq (slice_cmp nat_cmp (key q) h)
  ties-key q h = is_eq-slice_cmp q (key h) ∙ sym (bytes_eq-key q h) ∙ sym (is_eq-slice_cmp (key q) h)

  module _ {A B : Type 0} (value : A → B) where
    abbrev moved : List (List ℕ × A) → List (List ℕ × B)
    moved es = map (λ e. (key e.0, value e.1)) es

    find-moved : (q : List ℕ) (es : List (List ℕ × A)) →
        find (slice_cmp nat_cmp) q (moved es) ≡ option_map value (find (slice_cmp nat_cmp) (key q) es)
    find-moved q [] = refl
    find-moved q (e ∷ es) =
        ap (λ b. cond b (Some (value e.1)) (find (slice_cmp nat_cmp) q (moved es))) (ties-key q e.0)
        ∙ (elim (is_eq (slice_cmp nat_cmp (key q) e.0)) as
        (λ b. cond b (Some (value e.1)) (find (slice_cmp nat_cmp) q (moved es))
        ≡ option_map value (cond b (Some e.1) (find (slice_cmp nat_cmp) (key q) es))) [
          | true ↦ refl
          | false ↦ find-moved q es
        ])

    pub get-rekeyed : (m : ByBytes A) (q : List ℕ) → get (rekeyed key value m) q ≡ option_map value (get m (key q))
    unfolding rekeyed
    get-rekeyed m q = get-from_entries nat_list_cmp_total (moved (entries m)) q ∙ find-moved q (entries m)
        ∙ ap (option_map value) (sym (get-entries m (key q)))

    -- at a key that is given so
    pub get-rekeyed_at : (m : ByBytes A) (h : List ℕ) → get (rekeyed key value m) (key h) ≡ option_map value (get m h)
    get-rekeyed_at m h = get-rekeyed m (key h) ∙ ap (λ q. option_map value (get m q)) (twice h)

    pub rekeyed-insert : (m : ByBytes A) (k : List ℕ) (v : A) →
        rekeyed key value (insert m k v) ≡ insert (rekeyed key value m) (key k) (value v)
    rekeyed-insert m k v = same_answers _ _ (λ q. get-rekeyed (insert m k v) q ∙ (
        elim (bytes_or_not (key q) k) as (λ _. option_map value (get (insert m k v) (key q))
        ≡ get (insert (rekeyed key value m) (key k) (value v)) q) [
          | inl e ↦ ap (λ x. option_map value (get (insert m k v) x)) e ∙ ap (option_map value) (get-insert_same m k v)
              ∙ sym (ap (get (insert (rekeyed key value m) (key k) (value v))) (sym (twice q) ∙ ap key e)
              ∙ get-insert_same (rekeyed key value m) (key k) (value v))
          | inr ne ↦ ap (option_map value) (get-insert_other m k v (key q) ne)
              ∙ sym (get-insert_other (rekeyed key value m) (key k) (value v) q (λ e. ne (ap key e ∙ twice k))
              ∙ get-rekeyed m q)
        ]
        ))

    pub rekeyed-remove : (m : ByBytes A) (k : List ℕ) →
        rekeyed key value (remove m k) ≡ remove (rekeyed key value m) (key k)
    rekeyed-remove m k = same_answers _ _ (λ q. get-rekeyed (remove m k) q ∙ (
        elim (bytes_or_not (key q) k) as (λ _. option_map value (get (remove m k) (key q))
        ≡ get (remove (rekeyed key value m) (key k)) q) [
          | inl e ↦ ap (λ x. option_map value (get (remove m k) x)) e ∙ ap (option_map value) (get-remove_same m k)
              ∙ sym (ap (get (remove (rekeyed key value m) (key k))) (sym (twice q) ∙ ap key e)
              ∙ get-remove_same (rekeyed key value m) (key k))
          | inr ne ↦ ap (option_map value) (get-remove_other m k (key q) ne)
              ∙ sym (get-remove_other (rekeyed key value m) (key k) q (λ e. ne (ap key e ∙ twice k))
              ∙ get-rekeyed m q)
        ]
        ))

    pub rekeyed-empty : rekeyed key value empty ≡ empty
    rekeyed-empty = same_answers _ _ (λ q. get-rekeyed empty q
        ∙ ap (option_map value) (get-empty (slice_cmp nat_cmp) (key q)) ∙ sym (get-empty (slice_cmp nat_cmp) q))

    sum_moved : (w : B → ℕ) (es : List (List ℕ × A)) → T (is_sorted (slice_cmp nat_cmp) es) →
        total w (from_entries {R = slice_cmp nat_cmp} (moved es)) ≡ sum_values (λ x. w (value x)) es
    sum_moved w [] h = total-none nat_list_cmp_total w empty
        (λ q v is. absurd (some_none is (get-empty (slice_cmp nat_cmp) q)))
    sum_moved w (e ∷ es) h =
        let m : ByBytes B = from_entries (moved es) in
        let none : get m (key e.0) ≡ None = get-from_entries nat_list_cmp_total (moved es) (key e.0)
        ∙ find-moved (key e.0) es ∙ ap (λ q. option_map value (find (slice_cmp nat_cmp) q es)) (twice e.0)
        ∙ ap (option_map value) (below_none e.0 es (first_of _ (is_sorted (slice_cmp nat_cmp) es) h)) in
        total-insert_new nat_list_cmp_total w m (key e.0) (value e.1) none
        ∙ ap (λ n. w (value e.1) + n) (sum_moved w es (second_of (below_all (slice_cmp nat_cmp) e.0 es) _ h))

    -- a sum over the values
    pub total-rekeyed : (w : B → ℕ) (m : ByBytes A) → total w (rekeyed key value m) ≡ total (λ x. w (value x)) m
    unfolding total rekeyed
    total-rekeyed w m = sum_moved w (entries m) (entries_sorted m)

    pub len-rekeyed : (m : ByBytes A) → len (rekeyed key value m) ≡ len m
    len-rekeyed m = sym (total-ones (rekeyed key value m)) ∙ total-rekeyed (λ _. 1) m ∙ total-ones m
