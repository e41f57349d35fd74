-- A row that is set, and a map that goes with it.
use Rattle.std.proofs.Common.{◌≡◌, ◌≢◌, ◌⊎◌, inl, inr, ◌↔◌, ℕ, zero, suc, true, false, cond, Bool, List, [], ◌∷◌, Option, Some, None, slice_get, slice_set, refl, sym, ap, ◌∙◌}
use Rattle.std.specs.Prelude.{◌&&◌, not, if◌then◌else◌, bytes_eq}
use Rattle.std.specs.Option.{option_and_then}
use Rattle.std.specs.Ordering.{nat_cmp, is_eq}
use Rattle.std.specs.Cmp.Lexicographic.{slice_cmp}
use Rattle.std.proofs.lemmas.Map.Text.{is_eq-slice_cmp}
use Rattle.std.proofs.lemmas.Slice.Eq.{bytes_eq-Decides}
use Rattle.nfs2_types.specs.declared.Time.{Time}
use Rattle.server_trait.proofs.TreeLaws.{some_none, some_same, one_or_not, bytes_or_not}
use Rattle.server_trait.specs.declared.bench.ConfEntry.{ConfEntry}
use Rattle.server_trait.specs.declared.bench.ConfTable.{ConfTable}
use Rattle.conf_map.specs.Stands.{handle_at}
use Rattle.conf_map.specs.Tables.{index_in, touched, has_handle, IsInStep, IsUnshared}

-- LISTS

pub slice_get-set_same : {X : Type 0} (xs : List X) (i : ℕ) (v w : X) → slice_get xs i ≡ Some w →
    slice_get (slice_set xs i v) i ≡ Some v
slice_get-set_same [] i v w h = absurd (let bad : None ≡ Some w = h in cc)
slice_get-set_same (x ∷ xs) zero v w h = refl
slice_get-set_same (x ∷ xs) (suc i) v w h = slice_get-set_same xs i v w h

pub slice_get-set_other : {X : Type 0} (xs : List X) (i j : ℕ) (v : X) → j ≢ i →
    slice_get (slice_set xs i v) j ≡ slice_get xs j
slice_get-set_other [] i j v ne = refl
slice_get-set_other (x ∷ xs) zero zero v ne = absurd (ne refl)
slice_get-set_other (x ∷ xs) zero (suc j) v ne = refl
slice_get-set_other (x ∷ xs) (suc i) zero v ne = refl
slice_get-set_other (x ∷ xs) (suc i) (suc j) v ne = slice_get-set_other xs i j v (λ e. ne (ap suc e))

-- THE TESTS OF HANDLES

pub has_handle-some : (o : Option (List ℕ)) (q : List ℕ) → o ≡ Some q → has_handle o q ≡ true
has_handle-some None q is = absurd (let bad : None ≡ Some q = is in cc)
has_handle-some (Some x) q is = (bytes_eq-Decides x q).1 (some_same refl is ∙ some_same is refl ∙ some_same refl is)

pub has_handle-other : (o : Option (List ℕ)) (q : List ℕ) → o ≢ Some q → has_handle o q ≡ false
has_handle-other None q ne = refl
has_handle-other (Some x) q ne = elim (bytes_eq x q) as (λ b. bytes_eq x q ≡ b → bytes_eq x q ≡ false) [
  | true ↦ λ t. absurd (ne (ap Some ((bytes_eq-Decides x q).0 t)))
  | false ↦ λ f. f
] refl

pub handle_or_not : (o : Option (List ℕ)) (q : List ℕ) → (o ≡ Some q) ⊎ (o ≢ Some q)
handle_or_not None q = inr (λ e. let bad : None ≡ Some q = e in cc)
handle_or_not (Some x) q = elim (bytes_or_not x q) as (λ _. (Some x ≡ Some q) ⊎ (Some x ≢ Some q)) [
  | inl e ↦ inl (ap Some e)
  | inr ne ↦ inr (λ e. ne (let same : Some x ≡ Some q = e in cc))
]

-- what a map answers after a handle was put into it, or taken out
pub mapped : (o : Option (List ℕ)) (x q : List ℕ) (i : ℕ) (rest got : Option ℕ) → o ≡ Some x →
    got ≡ cond (is_eq (slice_cmp nat_cmp x q)) (Some i) rest → got ≡ (if has_handle o q then Some i else rest)
mapped o x q i rest got is g = g ∙ ap (λ b. cond b (Some i) rest)
    (is_eq-slice_cmp x q ∙ ap (λ o. has_handle o q) (sym is))

pub unmapped : (o kept : Option (List ℕ)) (x q : List ℕ) (rest got : Option ℕ) → o ≡ Some x →
    has_handle kept x ≡ false → got ≡ cond (is_eq (slice_cmp nat_cmp x q)) None rest →
    got ≡ (if has_handle o q && not (has_handle kept q) then None else rest)
unmapped o kept x q rest got is lacks g = elim (bytes_or_not x q) as
    (λ _. got ≡ (if has_handle o q && not (has_handle kept q) then None else rest)) [
      | inl e ↦ g ∙ ap (λ b. cond b None rest) (is_eq-slice_cmp x q ∙ (bytes_eq-Decides x q).1 e)
          ∙ sym (ap (λ b. cond (b && not (has_handle kept q)) None rest) (has_handle-some o q (is ∙ ap Some e))
          ∙ ap (λ b. cond (not b) None rest) (ap (has_handle kept) (sym e) ∙ lacks))
      | inr ne ↦ g ∙ ap (λ b. cond b None rest)
          (is_eq-slice_cmp x q ∙ has_handle-other (Some x) q (λ e. ne (let same : Some x ≡ Some q = e in cc)))
          ∙ sym (ap (λ b. cond (b && not (has_handle kept q)) None rest) (has_handle-other o q (λ e. ne (some_same is e))))
    ]

-- ONE ROW

module _ (old : ConfTable) (rows' : List ConfEntry) (find : List ℕ → Option ℕ) (i : ℕ) (before after : ConfEntry)
    (is_row : slice_get old.rows.items i ≡ Some before) (rows : rows' ≡ slice_set old.rows.items i after)
    (unshared : IsUnshared old.rows.items i after.handle)
    (by : (q : List ℕ) → find q ≡
    (if has_handle before.handle q && not (has_handle after.handle q) then None else
    (if has_handle after.handle q then Some i else index_in old q)))
    (step : IsInStep old) where
  here : handle_at rows' i ≡ after.handle
  here = ap (option_and_then (λ (r : ConfEntry). r.handle))
      (ap (λ l. slice_get l i) rows ∙ slice_get-set_same old.rows.items i after before is_row)

  was : handle_at old.rows.items i ≡ before.handle
  was = ap (option_and_then (λ (r : ConfEntry). r.handle)) is_row

  other : (k : ℕ) → k ≢ i → handle_at rows' k ≡ handle_at old.rows.items k
  other k ne = ap (option_and_then (λ (r : ConfEntry). r.handle))
      (ap (λ l. slice_get l k) rows ∙ slice_get-set_other old.rows.items i k after ne)

  has_new : (q : List ℕ) → after.handle ≡ Some q → find q ≡ Some i
  has_new q is = by q ∙ ap (λ b. cond (has_handle before.handle q && not b) None (cond b (Some i) (index_in old q)))
      (has_handle-some after.handle q is) ∙ both (has_handle before.handle q)
    where
      both : (b : Bool) → cond (b && false) None (Some i) ≡ Some i
      both true = refl
      both false = refl

  lost_old : (q : List ℕ) → before.handle ≡ Some q → after.handle ≢ Some q → find q ≡ None
  lost_old q is ne = by q
      ∙ ap (λ b. cond (b && not (has_handle after.handle q)) None
      (cond (has_handle after.handle q) (Some i) (index_in old q))) (has_handle-some before.handle q is)
      ∙ ap (λ b. cond (not b) None (cond b (Some i) (index_in old q))) (has_handle-other after.handle q ne)

  kept : (q : List ℕ) → before.handle ≢ Some q → after.handle ≢ Some q → find q ≡ index_in old q
  kept q ne ne' = by q ∙ ap
      (λ b. cond (b && not (has_handle after.handle q)) None
      (cond (has_handle after.handle q) (Some i) (index_in old q))) (has_handle-other before.handle q ne)
      ∙ ap (λ b. cond b (Some i) (index_in old q)) (has_handle-other after.handle q ne')

  there : (q : List ℕ) (k : ℕ) → find q ≡ Some k → handle_at rows' k ≡ Some q
  there q k is = elim (handle_or_not after.handle q) as (λ _. handle_at rows' k ≡ Some q) [
    | inl e ↦ ap (handle_at rows') (some_same is (has_new q e)) ∙ here ∙ e
    | inr ne ↦ elim (handle_or_not before.handle q) as (λ _. handle_at rows' k ≡ Some q) [
      | inl e ↦ absurd (some_none is (lost_old q e ne))
      | inr ne' ↦
          let at = (step q k).0 (sym (kept q ne' ne) ∙ is) in
          other k (λ e. ne' (sym was ∙ ap (handle_at old.rows.items) (sym e) ∙ at)) ∙ at
    ]
  ]

  back : (q : List ℕ) (k : ℕ) → handle_at rows' k ≡ Some q → find q ≡ Some k
  back q k at = elim (one_or_not k i) as (λ _. find q ≡ Some k) [
    | inl e ↦ has_new q (sym here ∙ ap (handle_at rows') (sym e) ∙ at) ∙ ap Some (sym e)
    | inr ne ↦
        let had = sym (other k ne) ∙ at in
        let found = (step q k).1 had in
        kept q (λ e. ne (some_same found ((step q i).1 (was ∙ e)))) (λ e. ne (unshared k q e had)) ∙ found
  ]

  pub in_step : (q : List ℕ) (k : ℕ) → (find q ≡ Some k) ↔ (handle_at rows' k ≡ Some q)
  in_step q k = (there q k, back q k)

-- OTHER TIMES

-- a row at other times keeps its handle
pub touched_handles : (rows : List ConfEntry) (d : ℕ) (r : ConfEntry) (t : Time) → slice_get rows d ≡ Some r → (k : ℕ) →
    handle_at (slice_set rows d (touched t r)) k ≡ handle_at rows k
touched_handles rows d r t is k = elim (one_or_not k d) as
    (λ _. handle_at (slice_set rows d (touched t r)) k ≡ handle_at rows k) [
      | inl e ↦ ap (λ k. handle_at (slice_set rows d (touched t r)) k) e
          ∙ ap (option_and_then (λ (r : ConfEntry). r.handle)) (slice_get-set_same rows d (touched t r) r is)
          ∙ sym (ap (option_and_then (λ (r : ConfEntry). r.handle)) is) ∙ sym (ap (handle_at rows) e)
      | inr ne ↦ ap (option_and_then (λ (r : ConfEntry). r.handle)) (slice_get-set_other rows d k (touched t r) ne)
    ]

pub touched_in_step : (old : ConfTable) (rows' : List ConfEntry) (find : List ℕ → Option ℕ) →
    ((q : List ℕ) → find q ≡ index_in old q) → ((k : ℕ) → handle_at rows' k ≡ handle_at old.rows.items k) →
    IsInStep old →
    (q : List ℕ) (k : ℕ) → (find q ≡ Some k) ↔ (handle_at rows' k ≡ Some q)
touched_in_step old rows' find same handles step q k =
    ((λ is. handles k ∙ (step q k).0 (sym (same q) ∙ is)), (λ at. same q ∙ (step q k).1 (sym (handles k) ∙ at)))
