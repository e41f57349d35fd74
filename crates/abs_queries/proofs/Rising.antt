-- names that each stand below the next rise
use Rattle.std.proofs.Common.{◌≡◌, ℕ, ◌+◌, ◌-◌, ◌<◌, ◌≤◌, List, [], ◌∷◌, Bool, true, false, ◌&&◌, length, get_or, drop, refl, sym, ◌∙◌, ap, arith, inl, inr, length-drop}
use Rattle.std.specs.List.{list_all}
use Rattle.std.proofs.lemmas.Bool.{and_parts, and_from, cases_Bool}
use Rattle.std.proofs.lemmas.List.{drop_more}
use Rattle.abs_model.specs.declared.NameRow.{NameRow}
use Rattle.abs_model.specs.Objects.{name_lt}
use Rattle.abs_model.specs.Valid.{is_rising}
use Rattle.abs_model.proofs.RowLists.{lt_trans, all_weaker}

and_no : (a : Bool) → (a && false) ≡ false
and_no true = refl
and_no false = refl

-- the rows from the one before this place
two_left : (rows : List NameRow) (i : ℕ) (d e : NameRow) → 1 ≤ i → i < length rows → drop (i - 1) rows ≡ get_or rows (i - 1) d ∷ get_or rows i e ∷ drop (i + 1) rows
two_left rows i d e one below =
    let next : (i - 1) + 1 ≡ i = omega arith in
    drop_more rows (i - 1) d (omega arith) ∙ ap (λ (xs : List NameRow). get_or rows (i - 1) d ∷ xs) (ap (λ (k : ℕ). drop k rows) next ∙ drop_more rows i e below)

rises_on : (a b : NameRow) (rest : List NameRow) → name_lt a.name b.name ≡ true → is_rising (a ∷ b ∷ rest) ≡ is_rising (b ∷ rest)
rises_on a b rest low = elim (cases_Bool (is_rising (b ∷ rest))) [
  | inl rises ↦
      let above = (and_parts (list_all (λ (s : NameRow). name_lt b.name s.name) rest) (is_rising rest) rises).0 in
      let far = all_weaker (λ (s : NameRow). name_lt b.name s.name) (λ s. name_lt a.name s.name) (λ s k. lt_trans a.name b.name s.name low k) rest above in
      and_from (list_all (λ (s : NameRow). name_lt a.name s.name) (b ∷ rest)) _ (and_from (name_lt a.name b.name) _ low far) rises ∙ sym rises
  | inr falls ↦ ap (λ (x : Bool). list_all (λ (s : NameRow). name_lt a.name s.name) (b ∷ rest) && x) falls ∙ and_no _ ∙ sym falls
]

pub next_rises : (rows : List NameRow) (i : ℕ) (d e : NameRow) → 1 ≤ i → i < length rows → name_lt (get_or rows (i - 1) d).name (get_or rows i e).name ≡ true →
    is_rising (drop (i - 1) rows) ≡ is_rising (drop (i + 1 - 1) rows)
next_rises rows i d e one below low =
    let here : i ≡ i + 1 - 1 = omega arith in
    ap is_rising (two_left rows i d e one below) ∙ rises_on (get_or rows (i - 1) d) (get_or rows i e) (drop (i + 1) rows) low ∙
    ap is_rising (sym (drop_more rows i e below) ∙ ap (λ (k : ℕ). drop k rows) here)

pub next_falls : (rows : List NameRow) (i : ℕ) (d e : NameRow) → 1 ≤ i → i < length rows → name_lt (get_or rows (i - 1) d).name (get_or rows i e).name ≡ false →
    is_rising (drop (i - 1) rows) ≡ false
next_falls rows i d e one below high =
    ap is_rising (two_left rows i d e one below) ∙
    ap (λ (x : Bool). (x && list_all (λ (s : NameRow). name_lt (get_or rows (i - 1) d).name s.name) (drop (i + 1) rows)) && is_rising (get_or rows i e ∷ drop (i + 1) rows)) high

short_rises : (xs : List NameRow) → length xs ≤ 1 → is_rising xs ≡ true
short_rises [] few = refl
short_rises (x ∷ []) few = refl
short_rises (x ∷ y ∷ xs) few = absurd (omega arith)

pub last_rises : (rows : List NameRow) (i : ℕ) → length rows ≤ i → is_rising (drop (i - 1) rows) ≡ true
last_rises rows i end = short_rises (drop (i - 1) rows) (let long = length-drop (i - 1) rows in omega arith)
