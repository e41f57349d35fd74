-- Rows by the numbers of their nodes.
use Rattle.std.specs.Prelude.{◌≡◌, ℕ, List, Some, IsSome, IsSomeAnd, slice_get}
use Rattle.std.specs.BTreeMap.{BTreeMap, get}
use Rattle.std.specs.Ordering.{nat_cmp}
use Rattle.server_trait.specs.declared.bench.ConfEntry.{ConfEntry}

-- the row has a handle, and its node the number
abbrev pub HasNumber : List ConfEntry → ℕ → ℕ → Type 0
HasNumber rows i number = IsSomeAnd (slice_get rows i) (λ r. IsSome r.handle × (r.number ≡ number))

-- the map leads from a number to a row whose node has it, where there is one
pub record IsNumbered (rows : List ConfEntry) (m : BTreeMap ℕ ℕ) : Type 0 where
  pub sound : (number i : ℕ) → get nat_cmp m number ≡ Some i → HasNumber rows i number
  pub complete : (number i : ℕ) → HasNumber rows i number → IsSome (get nat_cmp m number)
