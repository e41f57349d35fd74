-- Other times of an object, and another generation of an index, said of the row and of the entry.
use Rattle.std.specs.Prelude.{ℕ}
use Rattle.nfs2_types.specs.declared.Time.{Time}
use Rattle.server_trait.specs.declared.bench.ConfEntry.{ConfEntry}
use Rattle.abs_model.specs.declared.entry.Entry.{Entry}
use Rattle.abs_model.specs.Objects.{attr_of, with_attr}

-- a row with these times
abbrev pub row_timed : Time → Time → Time → ConfEntry → ConfEntry
row_timed atime mtime ctime r = record r { atime = atime; mtime = mtime; ctime = ctime }

-- an entry with these times
abbrev pub entry_timed : Time → Time → Time → Entry → Entry
entry_timed atime mtime ctime e = with_attr
    (record (attr_of e) { atime = atime; mtime = mtime; ctime = ctime }) e

-- a row of this generation
abbrev pub row_of_generation : ℕ → ConfEntry → ConfEntry
row_of_generation g r = record r { generation = g }

-- an entry of this generation
abbrev pub entry_of_generation : ℕ → Entry → Entry
entry_of_generation g e = record e { generation = g }
