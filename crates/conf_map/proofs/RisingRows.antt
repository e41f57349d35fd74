-- Rows whose names rise are determined by their look-ups.
use Rattle.std.proofs.Common.{◌≡◌, ◌≢◌, inl, inr, ℕ, List, [], ◌∷◌, Bool, true, false, cond, refl, sym, ◌∙◌, ap, subst, Some, None, Ordering}
use Rattle.std.specs.Prelude.{bytes_eq}
use Rattle.std.specs.List.{list_all}
use Rattle.std.specs.Ordering.{nat_cmp, is_lt, is_eq, ordering_reverse}
use Rattle.std.specs.declared.cmp.Ordering.TheVariants.{Less, Equal, Greater}
use Rattle.std.specs.Cmp.Lexicographic.{slice_cmp}
use Rattle.std.proofs.lemmas.Cmp.{nat_list_cmp_total}
use Rattle.std.proofs.lemmas.Map.Text.{is_eq-slice_cmp}
use Rattle.std.proofs.lemmas.Slice.Eq.{bytes_eq-Decides}
use Rattle.std.proofs.lemmas.Bool.{and_parts, and_from, false≢true, true≢false}
use Rattle.server_trait.proofs.TreeLaws.{some_same, some_none, bytes_or_not}
use Rattle.abs_model.specs.declared.entry.NameRow.{NameRow}
use Rattle.abs_model.specs.Objects.{name_lt, row_of}
use Rattle.abs_model.specs.Valid.{is_rising}

-- THE ORDER OF NAMES

lt_trans : (a b c : List ℕ) → name_lt a b ≡ true → name_lt b c ≡ true → name_lt a c ≡ true
lt_trans a b c ab bc = ap is_lt
    (nat_list_cmp_total.trans a b c (less (slice_cmp nat_cmp a b) ab) (less (slice_cmp nat_cmp b c) bc))
  where
    less : (o : Ordering) → is_lt o ≡ true → o ≡ Less
    less Less h = refl
    less Equal h = absurd (false≢true h)
    less Greater h = absurd (false≢true h)

-- neither below nor equal is above
lt_other : (a b : List ℕ) → name_lt a b ≡ false → bytes_eq b a ≡ false → name_lt b a ≡ true
lt_other a b low same =
    go (slice_cmp nat_cmp a b) (slice_cmp nat_cmp b a) (nat_list_cmp_total.antisymm a b) low
    (is_eq-slice_cmp b a ∙ same)
  where
    go : (o p : Ordering) → o ≡ ordering_reverse p → is_lt o ≡ false → is_eq p ≡ false → is_lt p ≡ true
    go o Less e h k = refl
    go o Equal e h k = absurd (true≢false k)
    go o Greater e h k = absurd (true≢false (sym (ap is_lt e) ∙ h))

lt_differs : (a b : List ℕ) → name_lt a b ≡ true → bytes_eq b a ≡ false
lt_differs a b low =
    sym (is_eq-slice_cmp b a) ∙ go (slice_cmp nat_cmp a b) (slice_cmp nat_cmp b a) (nat_list_cmp_total.antisymm b a) low
  where
    go : (o p : Ordering) → p ≡ ordering_reverse o → is_lt o ≡ true → is_eq p ≡ false
    go Less p e h = ap is_eq e
    go Equal p e h = absurd (false≢true h)
    go Greater p e h = absurd (false≢true h)

-- LOOK-UPS

-- a name below all rows has none
above : (name : List ℕ) (rows : List NameRow) → list_all (λ s. name_lt name s.name) rows ≡ true →
    row_of name rows ≡ None
above name [] h = refl
above name (r ∷ rs) h =
    let parts = and_parts (name_lt name r.name) (list_all (λ s. name_lt name s.name) rs) h in
    ap (λ b. cond b (Some r) (row_of name rs)) (lt_differs name r.name parts.0) ∙ above name rs parts.1

lower : (name other : List ℕ) (rows : List NameRow) → name_lt name other ≡ true →
    list_all (λ s. name_lt other s.name) rows ≡ true → list_all (λ s. name_lt name s.name) rows ≡ true
lower name other [] low h = refl
lower name other (r ∷ rs) low h =
    let parts = and_parts (name_lt other r.name) (list_all (λ s. name_lt other s.name) rs) h in
    and_from (name_lt name r.name) _ (lt_trans name other r.name low parts.0) (lower name other rs low parts.1)

below_all : (name : List ℕ) (r : NameRow) (rs : List NameRow) → name_lt name r.name ≡ true → is_rising (r ∷ rs) ≡ true →
    row_of name (r ∷ rs) ≡ None
below_all name r rs low h =
    above name (r ∷ rs) (and_from (name_lt name r.name) _ low
    (lower name r.name rs low (and_parts (list_all (λ s. name_lt r.name s.name) rs) (is_rising rs) h).0))

first_row : (r : NameRow) (rs : List NameRow) (name : List ℕ) → r.name ≡ name → row_of name (r ∷ rs) ≡ Some r
first_row r rs name e = ap (λ b. cond b (Some r) (row_of name rs)) ((bytes_eq-Decides r.name name).1 e)

not_true : (b : Bool) → b ≢ true → b ≡ false
not_true true h = absurd (h refl)
not_true false h = refl

later_row : (r : NameRow) (rs : List NameRow) (name : List ℕ) → r.name ≢ name → row_of name (r ∷ rs) ≡ row_of name rs
later_row r rs name ne = ap (λ b. cond b (Some r) (row_of name rs))
    (not_true _ (λ e. ne ((bytes_eq-Decides r.name name).0 e)))

-- rows that rise and answer alike are the same
pub same_rows : (xs ys : List NameRow) → is_rising xs ≡ true → is_rising ys ≡ true →
    ((name : List ℕ) → row_of name xs ≡ row_of name ys) → xs ≡ ys
same_rows [] [] p q h = refl
same_rows [] (y ∷ ys) p q h = absurd (some_none (first_row y ys y.name refl) (sym (h y.name)))
same_rows (x ∷ xs) [] p q h = absurd (some_none (first_row x xs x.name refl) (h x.name))
same_rows (x ∷ xs) (y ∷ ys) p q h = by_order (name_lt x.name y.name) refl (λ a b k. same_rows xs ys a b k)
  where
    Tails : Type 0
    Tails = is_rising xs ≡ true → is_rising ys ≡ true → ((name : List ℕ) → row_of name xs ≡ row_of name ys) → xs ≡ ys

    by_name : (b : Bool) → name_lt x.name y.name ≡ false → bytes_eq y.name x.name ≡ b → Tails → x ∷ xs ≡ y ∷ ys
    by_name false high differs rest = absurd
        (some_none (first_row y ys y.name refl)
        (sym (h y.name) ∙ below_all y.name x xs (lt_other x.name y.name high differs) p))
    by_name true high same rest =
        let name : y.name ≡ x.name = (bytes_eq-Decides y.name x.name).0 same in
        let head : x ≡ y = some_same (sym (h x.name) ∙ first_row x xs x.name refl) (first_row y ys x.name name) in
        let rises_x = and_parts (list_all (λ s. name_lt x.name s.name) xs) (is_rising xs) p in
        let rises_y = and_parts (list_all (λ s. name_lt y.name s.name) ys) (is_rising ys) q in
        let tail : xs ≡ ys = rest rises_x.1 rises_y.1
        (λ n. elim (bytes_or_not x.name n) as (λ _. row_of n xs ≡ row_of n ys) [
          | inl e ↦ subst (λ n. row_of n xs ≡ row_of n ys) e
              (above x.name xs rises_x.0 ∙ sym (subst (λ n. row_of n ys ≡ None) name (above y.name ys rises_y.0)))
          | inr ne ↦ sym (later_row x xs n ne) ∙ h n ∙ later_row y ys n (λ e. ne (sym name ∙ e))
        ]) in
        ap (λ r. r ∷ xs) head ∙ ap (λ rs. y ∷ rs) tail

    by_order : (b : Bool) → name_lt x.name y.name ≡ b → Tails → x ∷ xs ≡ y ∷ ys
    by_order true low rest = absurd (some_none (first_row x xs x.name refl) (h x.name ∙ below_all x.name y ys low q))
    by_order false high rest = by_name (bytes_eq y.name x.name) high refl rest

-- A ROW THAT WAS FOUND

pub row_name : (name : List ℕ) (rows : List NameRow) (row : NameRow) → row_of name rows ≡ Some row → row.name ≡ name
row_name name [] row h = absurd (some_none h refl)
row_name name (r ∷ rs) row h = elim (bytes_or_not r.name name) as (λ _. row.name ≡ name) [
  | inl e ↦ ap (λ (r : NameRow). r.name) (some_same h (first_row r rs name e)) ∙ e
  | inr ne ↦ row_name name rs row (sym (later_row r rs name ne) ∙ h)
]

pub row_passes : (p : NameRow → Bool) (name : List ℕ) (rows : List NameRow) (row : NameRow) → list_all p rows ≡ true →
    row_of name rows ≡ Some row → p row ≡ true
row_passes p name [] row all h = absurd (some_none h refl)
row_passes p name (r ∷ rs) row all h = elim (bytes_or_not r.name name) as (λ _. p row ≡ true) [
  | inl e ↦ ap p (some_same h (first_row r rs name e)) ∙ (and_parts (p r) (list_all p rs) all).0
  | inr ne ↦ row_passes p name rs row (and_parts (p r) (list_all p rs) all).1 (sym (later_row r rs name ne) ∙ h)
]
