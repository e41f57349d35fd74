-- The array as a whole: what handles name (RFC 1094, 2.3.3), what is free, what is used,
-- and the attributes that a client sees (RFC 1094, 2.3.5).
use Rattle.std.specs.Prelude.{ℕ, zero, suc, ◌+◌, ◌-◌, ◌*◌, ◌/◌, ◌^◌, List, [], ◌∷◌, Bool, not, ◌&&◌, ◌||◌, ◌==◌, nat_lt, if◌then◌else◌, length, get_or, set, replicate, is_some, Option, Some, None, unwrap_or, option_map, option_and_then, count_by, sum_by, position}
use Rattle.std.specs.List.{list_any}
use Rattle.nfs2_types.specs.declared.Fattr.{Fattr}
use Rattle.nfs2_types.specs.Handle.{handle_bytes, oid_in}
use Rattle.abs_model.specs.declared.entry.Attr.{Attr}
use Rattle.abs_model.specs.declared.entry.NameRow.{NameRow}
use Rattle.abs_model.specs.declared.entry.Object.TheVariants.{Null, File, Dir, Link}
use Rattle.abs_model.specs.declared.entry.Entry.{Entry}
use Rattle.abs_model.specs.declared.entry.Change.{Change}
use Rattle.abs_model.specs.Numbers.{no_type, file_type, file_mode, dir_type, dir_mode, link_type, link_mode, open_mode}
use Rattle.abs_model.specs.Objects.{is_null, is_dir, names_of, used_by, row_of, zero_attr}

-- an entry that was never taken
abbrev pub null_entry : Entry
null_entry = record { generation = 0; object = Null }

-- a directory of mode 0777 without names
abbrev pub empty_root : Entry
empty_root = record { generation = 1; object = Dir (record zero_attr { mode = open_mode }) [] }

-- the array with which a service begins
abbrev pub empty_array : ℕ → List Entry
empty_array n = empty_root ∷ replicate (n - 1) null_entry

-- the entry at an index; null past the end
abbrev pub entry_at : List Entry → ℕ → Entry
entry_at A i = get_or A i null_entry

-- the array with these entries put in
abbrev pub changed : List Change → List Entry → List Entry
changed [] A = A
changed (c ∷ cs) A = changed cs (set A c.index c.entry)

-- SPACE

-- the bytes in use
abbrev pub used : List Entry → ℕ
used A = sum_by used_by A

-- a null entry whose generation can rise
abbrev pub can_take : Entry → Bool
can_take e = is_null e && nat_lt e.generation (2 ^ 32 - 1)

-- the lowest index that a new object can have
abbrev pub free : List Entry → Option ℕ
free A = position can_take A

-- NAMES

-- how many names lead to an index
abbrev pub links : List Entry → ℕ → ℕ
links A i = sum_by (λ e. count_by (λ r. r.index == i) (names_of e)) A

-- a directory's names lead to an index
abbrev pub has_row_to : ℕ → Entry → Bool
has_row_to i e = list_any (λ r. r.index == i) (names_of e)

-- the directory whose list names an index; the root's is the root
abbrev pub parent : List Entry → ℕ → ℕ
parent A i = if i == 0 then 0 else unwrap_or (position (has_row_to i) A) 0

-- in at most k steps to parents one comes from here to i
abbrev pub climbs_to : List Entry → ℕ → ℕ → ℕ → Bool
climbs_to A i zero here = here == i
climbs_to A i (suc k) here = here == i || climbs_to A i k (parent A here)

-- HANDLES

-- an entry is live with this generation
abbrev pub is_named_by : ℕ → Entry → Bool
is_named_by generation e = not (is_null e) && e.generation == generation

-- the index that a handle names, where it is not stale
abbrev pub live : List Entry → List ℕ → Option ℕ
live A h =
    option_and_then (λ o. if is_named_by o.generation (entry_at A o.index) then Some o.index else None) (oid_in h)

-- the same, with the array's length for a stale handle
abbrev pub at : List Entry → List ℕ → ℕ
at A h = unwrap_or (live A h) (length A)

-- where a name of a directory leads, and the array's length where the directory has no such name
abbrev pub target : List Entry → ℕ → List ℕ → ℕ
target A d name = unwrap_or (option_map (λ r. r.index) (row_of name (names_of (entry_at A d)))) (length A)

-- the directory has the name
abbrev pub has_name : List Entry → ℕ → List ℕ → Bool
has_name A d name = is_some (row_of name (names_of (entry_at A d)))

-- the handle of what stands at an index
abbrev pub handle_at : List Entry → ℕ → List ℕ
handle_at A i = handle_bytes (record { index = i; generation = (entry_at A i).generation })

-- WHAT A CLIENT SEES

-- the subdirectories among these names
abbrev pub subdirs : List Entry → List NameRow → ℕ
subdirs A rows = count_by (λ r. is_dir (entry_at A r.index)) rows

-- the words of fattr
abbrev pub fattr_by : Attr → ℕ → ℕ → ℕ → ℕ → ℕ → Fattr
fattr_by a ftype kind_bits nlink size i = record {
  ftype = ftype;
  mode = kind_bits + a.mode;
  nlink = nlink;
  uid = a.uid;
  gid = a.gid;
  size = size;
  blocksize = 4096;
  rdev = 0;
  blocks = (size + 511) / 512;
  fsid = 1;
  fileid = i + 1;
  atime_secs = a.atime.secs;
  atime_micros = a.atime.micros;
  mtime_secs = a.mtime.secs;
  mtime_micros = a.mtime.micros;
  ctime_secs = a.ctime.secs;
  ctime_micros = a.ctime.micros;
}

-- the attributes of what stands at an index, by its kind
abbrev pub fattr : List Entry → ℕ → Fattr
fattr A i = elim (entry_at A i).object [
  | Null ↦ fattr_by zero_attr no_type 0 0 0 i
  | File attr bytes ↦ fattr_by attr file_type file_mode (links A i) (length bytes) i
  | Dir attr names ↦ fattr_by attr dir_type dir_mode (2 + subdirs A names) (512 + 32 * length names) i
  | Link attr text ↦ fattr_by attr link_type link_mode (links A i) (length text) i
]
