-- The names of a directory from what its server lists in any order.
use Rattle.std.specs.Prelude.{◌≡◌, List, [], ◌∷◌, Some, ⊤}
use Rattle.std.specs.Ordering.{nat_cmp}
use Rattle.std.specs.Cmp.Lexicographic.{slice_cmp}
use Rattle.std.specs.List.Sorted.{IsPermutation, IsSortedByKey}
use Rattle.server_trait.specs.declared.server.Listed.{Listed}
use Rattle.server_trait.specs.declared.bench.ConfTable.{ConfTable}
use Rattle.abs_model.specs.declared.entry.NameRow.{NameRow}
use Rattle.conf_map.specs.Tables.{index_in}

-- the same names, in their order by bytes
pub record AreInOrder (listed names : List Listed) : Type 0 where
  pub moved : IsPermutation listed names
  pub sorted : IsSortedByKey (λ l. l.name) (slice_cmp nat_cmp) names

-- a listed name is that of a row, and the table has its handle where the row leads
pub record IsRow (table : ConfTable) (l : Listed) (row : NameRow) : Type 0 where
  pub name : l.name ≡ row.name
  pub index : index_in table l.handle ≡ Some row.index

-- listed names are those of these rows, one by one
abbrev pub AreRows : ConfTable → List Listed → List NameRow → Type 0
AreRows table [] [] = ⊤
AreRows table [] (row ∷ rows) = ⊥
AreRows table (l ∷ ls) [] = ⊥
AreRows table (l ∷ ls) (row ∷ rows) = IsRow table l row × AreRows table ls rows
