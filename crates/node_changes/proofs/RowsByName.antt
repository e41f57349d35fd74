-- Rows by name, where one name goes and a row comes in place of one of its name.
use Rattle.std.proofs.Common.{◌≡◌, ◌≢◌, ℕ, List, true, false, Option, Some, None, refl, sym, ◌∙◌}
use Rattle.std.specs.Prelude.{bytes_eq}
use Rattle.std.proofs.lemmas.Slice.Eq.{bytes_eq-Decides}
use Rattle.abs_model.specs.declared.entry.NameRow.{NameRow}
use Rattle.abs_model.specs.Objects.{row_of, without, placed}
use Rattle.abs_model.proofs.RowLists.{row_of-without_same, row_of-without_none, row_of-without_other}
use Rattle.conf_map.proofs.PlacedRows.{row_of-placed_same, row_of-placed_other}

pub names_differ : (a b : List ℕ) → a ≢ b → bytes_eq a b ≡ false
names_differ a b ne = elim (bytes_eq a b) as (λ x. bytes_eq a b ≡ x → x ≡ false) [
  | true ↦ λ t. absurd (ne ((bytes_eq-Decides a b).0 t))
  | false ↦ λ _. refl
] refl

-- names other than the one that goes lead where they led
pub row_of-without : (name other : List ℕ) (rows : List NameRow) → name ≢ other →
    row_of name (without other rows) ≡ row_of name rows
row_of-without name other rows ne = by_row (row_of name rows) refl
  where
    by_row : (o : Option NameRow) → row_of name rows ≡ o → row_of name (without other rows) ≡ row_of name rows
    by_row None is = row_of-without_none name other rows is ∙ sym is
    by_row (Some r) is = row_of-without_other name other rows r (names_differ name other ne) is ∙ sym is

-- the row that comes is found by its name
pub row_of-comes_same : (row : NameRow) (rows : List NameRow) →
    row_of row.name (placed row (without row.name rows)) ≡ Some row
row_of-comes_same row rows = row_of-placed_same row (without row.name rows) (row_of-without_same row.name rows)

-- and other names lead where they led
pub row_of-comes_other : (row : NameRow) (rows : List NameRow) (name : List ℕ) → name ≢ row.name →
    row_of name (placed row (without row.name rows)) ≡ row_of name rows
row_of-comes_other row rows name ne =
    row_of-placed_other row (without row.name rows) name ne ∙ row_of-without name row.name rows ne
