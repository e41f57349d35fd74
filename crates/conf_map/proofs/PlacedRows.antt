-- Rows by name where one more is placed among them.
use Rattle.std.proofs.Common.{◌≡◌, ◌≢◌, List, [], ◌∷◌, true, false, cond, ℕ, Some, None, refl, sym, ap, ◌∙◌}
use Rattle.std.specs.Prelude.{bytes_eq, if◌then◌else◌}
use Rattle.std.proofs.lemmas.Slice.Eq.{bytes_eq-Decides}
use Rattle.abs_model.specs.declared.entry.NameRow.{NameRow}
use Rattle.abs_model.specs.Objects.{name_lt, row_of, placed}

not_same : (a b : List ℕ) → a ≢ b → bytes_eq a b ≡ false
not_same a b ne = elim (bytes_eq a b) as
    (λ x. bytes_eq a b ≡ x → x ≡ false) [
      | true ↦ λ t. absurd
          (ne ((bytes_eq-Decides a b).0 t))
      | false ↦ λ _. refl
    ] refl

at_head : (row : NameRow) (rows : List NameRow) → row_of row.name (row ∷ rows) ≡ Some row
at_head row rows = ap (λ b. cond b (Some row) (row_of row.name rows)) ((bytes_eq-Decides row.name row.name).1 refl)

past_head : (row : NameRow) (rows : List NameRow) (name : List ℕ) → row.name ≢ name →
    row_of name (row ∷ rows) ≡ row_of name rows
past_head row rows name ne = ap (λ b. cond b (Some row) (row_of name rows)) (not_same row.name name ne)

-- where no row has a name, the rows behind the first have not either
head_is_other : (r : NameRow) (rows : List NameRow) (name : List ℕ) → row_of name (r ∷ rows) ≡ None →
    (r.name ≢ name) × (row_of name rows ≡ None)
head_is_other r rows name none =
    let ne : r.name ≢ name = λ e. let found : row_of name (r ∷ rows) ≡ Some r = ap
    (λ b. cond b (Some r) (row_of name rows)) ((bytes_eq-Decides r.name name).1 e) in
    let bad : Some r ≡ None = sym found ∙ none in cc in
    (ne, sym (past_head r rows name ne) ∙ none)

-- a name that was new leads to the row that is placed
pub row_of-placed_same : (row : NameRow) (rows : List NameRow) → row_of row.name rows ≡ None →
    row_of row.name (placed row rows) ≡ Some row
row_of-placed_same row [] none = at_head row []
row_of-placed_same row (r ∷ rows) none = elim (name_lt row.name r.name) as
    (λ b. row_of row.name (if b then row ∷ r ∷ rows else r ∷ placed row rows) ≡ Some row) [
      | true ↦ at_head row (r ∷ rows)
      | false ↦ let h = head_is_other r rows row.name none in past_head r (placed row rows) row.name h.0
          ∙ row_of-placed_same row rows h.1
    ]

-- other names lead where they led
pub row_of-placed_other : (row : NameRow) (rows : List NameRow) (name : List ℕ) → name ≢ row.name →
    row_of name (placed row rows) ≡ row_of name rows
row_of-placed_other row [] name ne = past_head row [] name (λ e. ne (sym e))
row_of-placed_other row (r ∷ rows) name ne = elim (name_lt row.name r.name) as
    (λ b. row_of name (if b then row ∷ r ∷ rows else r ∷ placed row rows) ≡ row_of name (r ∷ rows)) [
      | true ↦ past_head row (r ∷ rows) name (λ e. ne (sym e))
      | false ↦ ap (λ o. cond (bytes_eq r.name name) (Some r) o) (row_of-placed_other row rows name ne)
    ]
