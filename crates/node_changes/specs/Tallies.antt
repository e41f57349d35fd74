-- How a table's tally goes with the bytes of its array.
use Rattle.std.specs.Prelude.{◌≡◌, ◌+◌, ◌<◌, ◌≤◌, ◌^◌, ℕ, List}
use Rattle.server_trait.specs.declared.bench.ConfTable.{ConfTable}
use Rattle.abs_model.specs.declared.entry.Entry.{Entry}
use Rattle.abs_model.specs.Array.{used}
use Rattle.conf_map.specs.Tallied.{Tallied}

-- the table can count these bytes in place of those
pub record CanShift (table : ConfTable) (goes comes : ℕ) : Type 0 where
  pub fits : table.used + comes < 2 ^ 64
  pub has : goes ≤ table.used + comes

-- the tally is right again for every array that uses these bytes in place of those
abbrev pub ShiftsTally : ConfTable → ConfTable → ℕ → ℕ → Type 0
ShiftsTally old new goes comes =
    (A A' : List Entry) → Tallied old A → used A' + goes ≡ used A + comes → Tallied new A'
