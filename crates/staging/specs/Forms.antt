-- Forms of entries while an array is built: with other names, and as they begin.
use Rattle.std.specs.Prelude.{List, []}
use Rattle.abs_model.specs.declared.entry.NameRow.{NameRow}
use Rattle.abs_model.specs.declared.entry.Object.TheVariants.{Null, File, Dir, Link}
use Rattle.abs_model.specs.declared.entry.Entry.{Entry}
use Rattle.abs_model.specs.Objects.{zero_attr}

-- an entry with other names, where it is a directory
abbrev pub with_names : List NameRow → Entry → Entry
with_names names e = record {
  generation = e.generation;
  object = elim e.object [
    | Null ↦ Null
    | File attr bytes ↦ File attr bytes
    | Dir attr old ↦ Dir attr names
    | Link attr text ↦ Link attr text
  ];
}

-- an object as it is made: a file without bytes, a directory without names, a link with its text
abbrev pub begun : Entry → Entry
begun e = record {
  generation = e.generation;
  object = elim e.object [
    | Null ↦ Null
    | File attr bytes ↦ File zero_attr []
    | Dir attr names ↦ Dir zero_attr []
    | Link attr text ↦ Link zero_attr text
  ];
}

-- an object with its bytes or text, and still without names and attributes
abbrev pub whole : Entry → Entry
whole e = record {
  generation = e.generation;
  object = elim e.object [
    | Null ↦ Null
    | File attr bytes ↦ File zero_attr bytes
    | Dir attr names ↦ Dir zero_attr []
    | Link attr text ↦ Link zero_attr text
  ];
}
