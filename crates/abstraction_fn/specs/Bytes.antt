-- Entries without the bytes of files, and with them again.
use Rattle.std.specs.Prelude.{ℕ, List, []}
use Rattle.abs_model.specs.declared.Object.TheVariants.{Null, File, Dir, Link}
use Rattle.abs_model.specs.declared.Entry.{Entry}

-- a file has these bytes instead of its own; another entry is as it is
abbrev pub with_bytes : List ℕ → Entry → Entry
with_bytes new e = record {
  generation = e.generation;
  object = elim e.object [
    | Null ↦ Null
    | File attr bytes ↦ File attr new
    | Dir attr names ↦ Dir attr names
    | Link attr text ↦ Link attr text
  ];
}

-- a file has no bytes
abbrev pub without_bytes : Entry → Entry
without_bytes e = with_bytes [] e
