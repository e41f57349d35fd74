-- Rows of a directory that is written, and of an object that loses a name, gets one, or gets another parent.
use Rattle.std.specs.Prelude.{◌≡◌, ◌≢◌, ℕ, Some, length, slice_get, slice_set}
use Rattle.nfs2_types.specs.declared.Time.{Time}
use Rattle.server_trait.specs.declared.bench.ConfEntry.{ConfEntry}
use Rattle.server_trait.specs.declared.bench.ConfTable.{ConfTable}
use Rattle.conf_map.specs.Tables.{IsInStep, emptied, touched}

-- a row whose object is changed at a moment
abbrev pub changed_row : Time → ConfEntry → ConfEntry
changed_row t r = record r { ctime = t }

-- one row is that of an object that was written, and one of an object that was changed
pub record ChangesRow (old new : ConfTable) (d i : ℕ) (t : Time) : Type 0 where
  pub rows : (r o : ConfEntry) → slice_get old.rows.items d ≡ Some r → slice_get old.rows.items i ≡ Some o →
      new.rows.items ≡ slice_set (slice_set old.rows.items d (touched t r)) i (changed_row t o)
  pub by_handle : new.by_handle ≡ old.by_handle

-- one row is that of an object that was written, and one is null
pub record ClearsRow (old new : ConfTable) (d i : ℕ) (t : Time) : Type 0 where
  pub rows : (r o : ConfEntry) → slice_get old.rows.items d ≡ Some r → slice_get old.rows.items i ≡ Some o →
      new.rows.items ≡ slice_set (slice_set old.rows.items d (touched t r)) i (emptied o)
  pub in_step : IsInStep old → IsInStep new

-- a row under another parent
abbrev pub under : ℕ → ConfEntry → ConfEntry
under p r = record r { parent = p }

-- one row has another parent, which is written
pub record IsPutUnder (old new : ConfTable) (parent i : ℕ) (t : Time) : Type 0 where
  pub rows : (r s : ConfEntry) → slice_get old.rows.items i ≡ Some r →
      slice_get old.rows.items parent ≡ Some s →
      parent ≢ i → new.rows.items ≡ slice_set (slice_set old.rows.items i (under parent r)) parent (touched t s)
  pub size : length new.rows.items ≡ length old.rows.items
  pub by_handle : new.by_handle ≡ old.by_handle
