-- Rows of a table that take new handles.
use Rattle.std.specs.Prelude.{◌≡◌, ℕ, List, Option, Some, slice_get, length}
use Rattle.std.specs.Option.{option_and_then}
use Rattle.server_trait.specs.declared.bench.ConfEntry.{ConfEntry}
use Rattle.server_trait.specs.declared.bench.ConfTable.{ConfTable}

-- the handle at a place
abbrev pub handle_of : List (Option (List ℕ)) → ℕ → Option (List ℕ)
handle_of handles i = option_and_then (λ o. o) (slice_get handles i)

-- no handle stands at two places
abbrev pub AreApart : List (Option (List ℕ)) → Type 0
AreApart handles = (i j : ℕ) (h : List ℕ) → handle_of handles i ≡ Some h → handle_of handles j ≡ Some h → i ≡ j

-- of the rows and what is kept beside them, nothing but handles has changed
pub record AreRelinked (old new : ConfTable) : Type 0 where
  pub size : length new.rows.items ≡ length old.rows.items
  pub rows : (i : ℕ) (r : ConfEntry) → slice_get old.rows.items i ≡ Some r → (handle : Option (List ℕ))
      × (slice_get new.rows.items i ≡ Some (record r { handle = handle }))
  pub used : new.used ≡ old.used
  pub lowest : new.lowest ≡ old.lowest
