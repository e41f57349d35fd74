-- The rows of a list of the names of a directory.
use Rattle.std.specs.Prelude.{◌≡◌, ℕ, List, [], drop, get_or, Some}
use Rattle.server_trait.specs.declared.server.Listed.{Listed}
use Rattle.log_segments.specs.Newest.{place_of}
use Rattle.log_segments.specs.Record.{key_of}
use Rattle.log_records.specs.Layout.{child_in, name_key, value_of}
use Rattle.log_tree.specs.Held.{Records, handle_of}

-- the row of a record of a name
abbrev pub row_in : List ℕ → Listed
row_in r = record { name = drop 9 (key_of r); handle = handle_of (child_in (value_of r)) }

-- the row of the record at a place
abbrev pub row_from : Records → ℕ → Listed
row_from records place = row_in (get_or records place [])

-- the newest record of a name of a directory stands at this place
abbrev pub IsNamePlace : Records → ℕ → Type 0
IsNamePlace records place = (dir : List ℕ) × (name : List ℕ) × (place_of records (name_key dir name) ≡ Some place)
