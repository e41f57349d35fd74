-- Entries by themselves: kinds, names, attributes (RFC 1094, 2.3.5 and 2.3.6),
-- and how a call changes one.
use Rattle.std.specs.Prelude.{ℕ, ◌+◌, ◌*◌, List, [], ◌∷◌, Bool, true, false, not, ◌==◌, if◌then◌else◌, length, filter, is_some, Option, unwrap_or, bytes_eq, find}
use Rattle.std.specs.Ordering.{nat_cmp, is_lt}
use Rattle.std.specs.Cmp.Lexicographic.{slice_cmp}
use Rattle.nfs2_types.specs.Bytes.{overwritten}
use Rattle.nfs2_types.specs.declared.Time.{Time}
use Rattle.nfs2_types.specs.declared.Cred.{Cred}
use Rattle.nfs2_types.specs.declared.Sattr.{Sattr}
use Rattle.nfs2_types.specs.declared.SetTime.{SetTime}
use Rattle.nfs2_types.specs.declared.SetTime.TheVariants.{Keep, Now, At}
use Rattle.abs_model.specs.declared.entry.Attr.{Attr}
use Rattle.abs_model.specs.declared.entry.NameRow.{NameRow}
use Rattle.abs_model.specs.declared.entry.Object.TheVariants.{Null, File, Dir, Link}
use Rattle.abs_model.specs.declared.entry.Entry.{Entry}
use Rattle.abs_model.specs.Numbers.{name_space}

-- nothing stands there; a regular file, a directory, a symbolic link does
abbrev pub is_null : Entry → Bool
is_null e = elim e.object [ Null ↦ true | File attr bytes ↦ false | Dir attr names ↦ false | Link attr text ↦ false ]

abbrev pub is_file : Entry → Bool
is_file e = elim e.object [ Null ↦ false | File attr bytes ↦ true | Dir attr names ↦ false | Link attr text ↦ false ]

abbrev pub is_dir : Entry → Bool
is_dir e = elim e.object [ Null ↦ false | File attr bytes ↦ false | Dir attr names ↦ true | Link attr text ↦ false ]

abbrev pub is_link : Entry → Bool
is_link e = elim e.object [ Null ↦ false | File attr bytes ↦ false | Dir attr names ↦ false | Link attr text ↦ true ]

-- the names of a directory; what is none has none
abbrev pub names_of : Entry → List NameRow
names_of e = elim e.object [ Null ↦ [] | File attr bytes ↦ [] | Dir attr names ↦ names | Link attr text ↦ [] ]

-- the bytes of a file, or of a link's text
abbrev pub bytes_of : Entry → List ℕ
bytes_of e = elim e.object [ Null ↦ [] | File attr bytes ↦ bytes | Dir attr names ↦ [] | Link attr text ↦ text ]

-- what an entry counts of the space
abbrev pub used_by : Entry → ℕ
used_by e = length (bytes_of e) + name_space * length (names_of e)

-- the first moment
abbrev pub zero_time : Time
zero_time = record { secs = 0; micros = 0 }

-- attributes that are all zero
abbrev pub zero_attr : Attr
zero_attr = record { mode = 0; uid = 0; gid = 0; atime = zero_time; mtime = zero_time; ctime = zero_time }

-- the attributes of an object; what is none has zeros
abbrev pub attr_of : Entry → Attr
attr_of e = elim e.object [ Null ↦ zero_attr | File attr bytes ↦ attr | Dir attr names ↦ attr | Link attr text ↦ attr ]

-- the entry with other attributes
abbrev pub with_attr : Attr → Entry → Entry
with_attr new e = record {
  generation = e.generation;
  object = elim e.object [
    | Null ↦ Null
    | File attr bytes ↦ File new bytes
    | Dir attr names ↦ Dir new names
    | Link attr text ↦ Link new text
  ];
}

-- a null entry with the same generation
abbrev pub nulled : Entry → Entry
nulled e = record { generation = e.generation; object = Null }

-- NAMES

-- one name stands before another, by bytes
abbrev pub name_lt : List ℕ → List ℕ → Bool
name_lt a b = is_lt (slice_cmp nat_cmp a b)

-- the row of a name
abbrev pub row_of : List ℕ → List NameRow → Option NameRow
row_of name rows = find (λ r. bytes_eq r.name name) rows

-- the rows without a name's
abbrev pub without : List ℕ → List NameRow → List NameRow
without name rows = filter (λ r. not (bytes_eq r.name name)) rows

-- the rows with one more, in the order of the names
abbrev pub placed : NameRow → List NameRow → List NameRow
placed row [] = row ∷ []
placed row (r ∷ rs) = if name_lt row.name r.name then row ∷ r ∷ rs else r ∷ placed row rs

-- TIMES AND ATTRIBUTES

-- the time that is given, t where that is asked for, else the old one
abbrev pub time_given : SetTime → Time → Time → Time
time_given Keep t old = old
time_given Now t old = t
time_given (At x) t old = x

-- the attributes of a new object
abbrev pub new_attr : ℕ → Cred → Time → Sattr → Attr
new_attr mode cred t s = record {
  mode = unwrap_or s.mode mode;
  uid = unwrap_or s.uid cred.uid;
  gid = unwrap_or s.gid cred.gid;
  atime = time_given s.atime t t;
  mtime = time_given s.mtime t t;
  ctime = t;
}

-- given attributes are set; with a size and no mtime the object was written at t
abbrev pub set_attr_of : Sattr → Time → Attr → Attr
set_attr_of s t a = record {
  mode = unwrap_or s.mode a.mode;
  uid = unwrap_or s.uid a.uid;
  gid = unwrap_or s.gid a.gid;
  atime = time_given s.atime t a.atime;
  mtime = time_given s.mtime t (if is_some s.size then t else a.mtime);
  ctime = t;
}

-- mtime and ctime become t
abbrev pub written_at : Time → Attr → Attr
written_at t a = record a { mtime = t; ctime = t }

-- ctime becomes t
abbrev pub changed_at : Time → Attr → Attr
changed_at t a = record a { ctime = t }

-- BYTES

-- these bytes stand at the offset, and a gap is zeros; no bytes change nothing
abbrev pub written : ℕ → List ℕ → List ℕ → List ℕ
written offset piece bytes = if length piece == 0 then bytes else overwritten offset piece bytes
