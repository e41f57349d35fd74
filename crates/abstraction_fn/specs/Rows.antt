-- The row of a name, by what a server lists and what the table has for its handle. Contracts inside the crate and their
-- proofs use it.
use Rattle.std.specs.Prelude.{ℕ, List, slice_get, unwrap_or, option_map}
use Rattle.server_trait.specs.declared.Listed.{Listed}
use Rattle.server_trait.specs.declared.ConfEntry.{ConfEntry}
use Rattle.server_trait.specs.declared.ConfTable.{ConfTable}
use Rattle.abs_model.specs.declared.NameRow.{NameRow}
use Rattle.conf_map.specs.Tables.{index_in}

-- the generation of a row
abbrev pub generation_at : List ConfEntry → ℕ → ℕ
generation_at rows i = unwrap_or (option_map (λ (r : ConfEntry). r.generation) (slice_get rows i)) 0

-- the index of the name's object, and its generation
abbrev pub row_by : ConfTable → Listed → NameRow
row_by table l = record {
  name = l.name;
  index = unwrap_or (index_in table l.handle) 0;
  generation = generation_at table.rows.items (unwrap_or (index_in table l.handle) 0);
}
