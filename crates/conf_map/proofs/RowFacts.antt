-- The names of one directory: each row of a list that rises is the one that its name finds.
use Rattle.std.proofs.Common.{◌≡◌, ◌≢◌, ℕ, zero, suc, true, false, Bool, List, [], ◌∷◌, slice_get, Some, None, refl, sym, ap, ◌∙◌, cond}
use Rattle.std.specs.Prelude.{◌&&◌, bytes_eq}
use Rattle.std.specs.List.{list_all}
use Rattle.std.specs.Ordering.{nat_cmp, is_lt}
use Rattle.std.specs.Cmp.Lexicographic.{slice_cmp, nat_list_cmp_total}
use Rattle.std.specs.Cmp.{tied_itself}
use Rattle.std.proofs.lemmas.Slice.Eq.{bytes_eq-Decides}
use Rattle.server_trait.proofs.TreeLaws.{some_same}
use Rattle.abs_model.specs.declared.entry.NameRow.{NameRow}
use Rattle.abs_model.specs.Objects.{row_of, name_lt}
use Rattle.abs_model.specs.Valid.{is_rising}

-- where two tests hold the first does
pub and_left : (a b : Bool) → (a && b) ≡ true → a ≡ true
and_left true b is = refl
and_left false b is = is

-- and so does the second
pub and_right : (a b : Bool) → (a && b) ≡ true → b ≡ true
and_right true b is = is
and_right false b is = absurd (let bad : false ≡ true = is in cc)

-- what holds of all rows holds of each
pub all_at : (p : NameRow → Bool) (rows : List NameRow) (i : ℕ) (r : NameRow) → list_all p rows ≡ true →
    slice_get rows i ≡ Some r → p r ≡ true
all_at p [] i r all at = absurd (let bad : None ≡ Some r = at in cc)
all_at p (x ∷ rows) zero r all at = and_left (p r) (list_all p rows)
    (ap (λ y. p y && list_all p rows) (let same : r ≡ x = (let e : Some x ≡ Some r = at in cc) in same) ∙ all)
all_at p (x ∷ rows) (suc i) r all at = all_at p rows i r (and_right (p x) (list_all p rows) all) at

-- a name doesn't lie below itself
pub not_below : (a b : List ℕ) → name_lt a b ≡ true → a ≢ b
not_below a b lt e = let bad : false ≡ true = sym
    (ap is_lt (ap (λ x. slice_cmp nat_cmp x b) e ∙ tied_itself nat_list_cmp_total b)) ∙ lt in cc

-- in a list that rises each row is the one that its name finds
pub row_of-at : (rows : List NameRow) (i : ℕ) (r : NameRow) → is_rising rows ≡ true → slice_get rows i ≡ Some r →
    row_of r.name rows ≡ Some r
row_of-at [] i r rising at = absurd (let bad : None ≡ Some r = at in cc)
row_of-at (x ∷ rows) zero r rising at =
    let same : r ≡ x = (let e : Some x ≡ Some r = at in cc) in
    ap (λ b. cond b (Some x) (row_of r.name rows))
    (ap (λ (y : NameRow). bytes_eq y.name r.name) (sym same) ∙ (bytes_eq-Decides r.name r.name).1 refl)
    ∙ ap Some (sym same)
row_of-at (x ∷ rows) (suc i) r rising at =
    let lt = all_at (λ s. name_lt x.name s.name) rows i r
    (and_left (list_all (λ s. name_lt x.name s.name) rows) (is_rising rows) rising) at in
    let rest = row_of-at rows i r (and_right (list_all (λ s. name_lt x.name s.name) rows) (is_rising rows) rising) at in
    elim (bytes_eq x.name r.name) as (λ b. bytes_eq x.name r.name ≡ b → cond b (Some x) (row_of r.name rows) ≡ Some r) [
      | true ↦ λ is. absurd (not_below x.name r.name lt ((bytes_eq-Decides x.name r.name).0 is))
      | false ↦ λ _. rest
    ] refl

-- in a list that rises each name stands once
pub apart_in : (rows : List NameRow) (i j : ℕ) (a b : NameRow) → is_rising rows ≡ true → slice_get rows i ≡ Some a →
    slice_get rows j ≡ Some b → a.name ≡ b.name → i ≡ j
apart_in [] i j a b rising at_i at_j same = absurd (let bad : None ≡ Some a = at_i in cc)
apart_in (x ∷ rows) zero zero a b rising at_i at_j same = refl
apart_in (x ∷ rows) (suc i) (suc j) a b rising at_i at_j same = ap suc
    (apart_in rows i j a b
    (and_right (list_all (λ s. name_lt x.name s.name) rows) (is_rising rows) rising) at_i at_j same)
apart_in (x ∷ rows) zero (suc j) a b rising at_i at_j same =
    let lt = all_at (λ s. name_lt x.name s.name) rows j b
    (and_left (list_all (λ s. name_lt x.name s.name) rows) (is_rising rows) rising) at_j in
    absurd (not_below x.name b.name lt (ap (λ (r : NameRow). r.name) (some_same refl at_i) ∙ same))
apart_in (x ∷ rows) (suc i) zero a b rising at_i at_j same =
    let lt = all_at (λ s. name_lt x.name s.name) rows i a
    (and_left (list_all (λ s. name_lt x.name s.name) rows) (is_rising rows) rising) at_i in
    absurd (not_below x.name a.name lt (ap (λ (r : NameRow). r.name) (some_same refl at_j) ∙ sym same))

-- the row that a name finds stands in the list
pub found_at : (rows : List NameRow) (name : List ℕ) (r : NameRow) → row_of name rows ≡ Some r →
    (i : ℕ) × (slice_get rows i ≡ Some r) × (r.name ≡ name)
found_at [] name r is = absurd (let bad : None ≡ Some r = is in cc)
found_at (x ∷ rows) name r is = elim (bytes_eq x.name name) as
    (λ b. bytes_eq x.name name ≡ b → cond b (Some x) (row_of name rows) ≡ Some r →
    (i : ℕ) × (slice_get (x ∷ rows) i ≡ Some r) × (r.name ≡ name)) [
      | true ↦ λ t e. (zero, e, ap (λ (r : NameRow). r.name) (some_same e refl) ∙ (bytes_eq-Decides x.name name).0 t)
      | false ↦ λ _ e. let f = found_at rows name r e in (suc f.0, f.1, f.2)
    ] refl is
