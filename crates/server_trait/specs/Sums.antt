-- Sums over the values of a finite map, as the bytes that the nodes of a tree use.
use Rattle.std.specs.Prelude.{ℕ, ◌+◌, List, [], ◌∷◌}
use Rattle.std.specs.declared.cmp.Ordering.{Ordering}
use Rattle.std.specs.FinMap.{FinMap, entries}

-- the sum of f over the values of these entries
abbrev pub sum_values : {K X : Type 0} → (X → ℕ) → List (K × X) → ℕ
sum_values f [] = 0
sum_values f (e ∷ es) = f e.1 + sum_values f es

-- the sum of f over the values of a map
unfoldable pub total : {K X : Type 0} {R : K → K → Ordering} → (X → ℕ) → FinMap R X → ℕ
total f m = sum_values f (entries m)
