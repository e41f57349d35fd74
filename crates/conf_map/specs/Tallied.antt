-- What a table keeps of its array as a whole.
use Rattle.std.specs.Prelude.{◌≡◌, ◌<◌, ◌^◌, ◌-◌, ℕ, List, Bool, ◌&&◌, nat_lt, is_none, false, Some, slice_get}
use Rattle.server_trait.specs.declared.bench.ConfEntry.{ConfEntry}
use Rattle.server_trait.specs.declared.bench.ConfTable.{ConfTable}
use Rattle.abs_model.specs.declared.entry.Entry.{Entry}
use Rattle.abs_model.specs.Array as array

-- a null row whose generation can rise
abbrev pub is_free_row : ConfEntry → Bool
is_free_row r = is_none r.handle && nat_lt r.generation (2 ^ 32 - 1)

-- no row below an index is free
abbrev pub NoneFreeBelow : ℕ → List ConfEntry → Type 0
NoneFreeBelow most rows = (i : ℕ) (r : ConfEntry) → i < most → slice_get rows i ≡ Some r → is_free_row r ≡ false

-- the table has the number of bytes in use, and an index below which no row is free
pub record Tallied (table : ConfTable) (A : List Entry) : Type 0 where
  pub used : table.used ≡ array.used A
  pub none_below : NoneFreeBelow table.lowest table.rows.items

-- as many bytes are in use as before, and no row below the lowest has become free
pub record KeepsTally (old new : ConfTable) : Type 0 where
  pub used : new.used ≡ old.used
  pub none_below : NoneFreeBelow old.lowest old.rows.items → NoneFreeBelow new.lowest new.rows.items
