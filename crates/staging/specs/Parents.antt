-- Tables that differ in the parents of their rows alone.
use Rattle.std.specs.Prelude.{◌≡◌, ℕ, length, slice_get, Some}
use Rattle.server_trait.specs.declared.bench.ConfEntry.{ConfEntry}
use Rattle.server_trait.specs.declared.bench.ConfTable.{ConfTable}

-- a row under another parent
abbrev pub under : ℕ → ConfEntry → ConfEntry
under p r = record r { parent = p }

-- each row is as it was, but for its parent
pub record OnlyParents (old new : ConfTable) : Type 0 where
  pub size : length new.rows.items ≡ length old.rows.items
  pub rows : (i : ℕ) (r : ConfEntry) → slice_get new.rows.items i ≡ Some r →
      (before : ConfEntry) × (slice_get old.rows.items i ≡ Some before) × (r ≡ under r.parent before)
  pub by_handle : new.by_handle ≡ old.by_handle
