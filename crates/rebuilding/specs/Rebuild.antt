-- Which objects are staged before the names of an array are put.
use Rattle.std.specs.Prelude.{ℕ, List, Bool, not, ◌&&◌, ◌==◌}
use Rattle.abs_model.specs.declared.entry.Entry.{Entry}
use Rattle.abs_model.specs.Objects.{is_null}
use Rattle.abs_model.specs.Array.{entry_at}

-- an object other than the first stands at an index
abbrev pub is_object : List Entry → ℕ → Bool
is_object C i = not (i == 0) && not (is_null (entry_at C i))
