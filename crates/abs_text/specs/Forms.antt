-- The text of an entry as a format of items (RFC 4506, 4): a tag, the index, the generation, the kind, and what the
-- kind has.
use Rattle.std.specs.Prelude.{ℕ, Bool, true, ◌&&◌, ◌||◌, ◌==◌, ◌-◌, nat_le, nat_lt, if◌then◌else◌, List, [], length, slice_get, Option, Some, None}
use Rattle.nfs2_types.specs.declared.Time.{Time}
use Rattle.nfs2_types.specs.Names.{is_name}
use Rattle.nfs2_types.specs.Sizes.{max_name}
use Rattle.xdr_core.specs.Items.{Item, word, opaque, any_word, any_opaque}
use Rattle.xdr_core.specs.Grammar.{Grammar, gives, item, and_then, listed}
use Rattle.abs_model.specs.declared.Attr.{Attr}
use Rattle.abs_model.specs.declared.NameRow.{NameRow}
use Rattle.abs_model.specs.declared.Object.{Object}
use Rattle.abs_model.specs.declared.Object.TheVariants.{Null, File, Dir, Link}
use Rattle.abs_model.specs.declared.Entry.{Entry}
use Rattle.abs_model.specs.Numbers.{file_limit, text_limit}
use Rattle.abs_model.specs.Objects.{name_lt}

-- the most names of a directory in a text
abbrev pub most_names : ℕ
most_names = 32768

-- Words with a rule

-- the tag of an entry's text
abbrev pub tag_word : Item
tag_word = word (λ n. n == 0)

-- nothing, a file, a directory, a link
abbrev pub kind_word : Item
kind_word = word (λ n. n == 0 || n == 1 || n == 2 || n == 5)

-- a mode has twelve bits
abbrev pub mode_word : Item
mode_word = word (λ n. nat_lt n 4096)

-- microseconds are below a million
abbrev pub micros_word : Item
micros_word = word (λ n. nat_lt n 1000000)

-- how many names there are
abbrev pub count_word : Item
count_word = word (λ n. nat_le n most_names)

-- Parts

-- a time: seconds and microseconds
unfoldable pub time_form : Grammar Time
time_form = item any_word λ secs. item micros_word λ micros. gives (record { secs = secs; micros = micros })

-- mode, owners and times
unfoldable pub attr_form : Grammar Attr
attr_form =
    item mode_word λ mode. item any_word λ uid. item any_word λ gid.
    and_then time_form λ atime. and_then time_form λ mtime. and_then time_form λ ctime.
    gives (record { mode = mode; uid = uid; gid = gid; atime = atime; mtime = mtime; ctime = ctime })

-- the name stands behind that of this row
abbrev pub is_behind : Option NameRow → List ℕ → Bool
is_behind None name = true
is_behind (Some r) name = name_lt r.name name

-- the last of these rows
abbrev pub last_row : List NameRow → Option NameRow
last_row rows = slice_get rows (length rows - 1)

-- a name that a directory may have, behind the last of these
abbrev pub may_follow : List NameRow → List ℕ → Bool
may_follow before name = is_name name && is_behind (last_row before) name

-- the name of the next row
abbrev pub name_item : List NameRow → Item
name_item before = opaque max_name (may_follow before)

-- a name and where it leads, behind these
unfoldable pub row_form : List NameRow → Grammar NameRow
row_form before = item (name_item before) λ name. item any_word λ index. item any_word λ generation.
    gives (record { name = name; index = index; generation = generation })

-- a count, and so many names that rise
unfoldable pub names_form : Grammar (List NameRow)
names_form = item count_word λ count. listed row_form count []

-- Objects

-- attributes and bytes
unfoldable pub file_form : Grammar Object
file_form = and_then attr_form λ attr. item (any_opaque file_limit) λ bytes. gives (File attr bytes)

-- attributes and names
unfoldable pub dir_form : Grammar Object
dir_form = and_then attr_form λ attr. and_then names_form λ names. gives (Dir attr names)

-- attributes and a text
unfoldable pub link_form : Grammar Object
link_form = and_then attr_form λ attr. item (any_opaque text_limit) λ text. gives (Link attr text)

-- what stands behind the kind
abbrev pub kind_form : ℕ → Grammar Object
kind_form kind =
    if kind == 0 then gives Null else
    if kind == 1 then file_form else
    if kind == 2 then dir_form else link_form

-- the kind, and what it has
unfoldable pub object_form : Grammar Object
object_form = item kind_word λ kind. kind_form kind

-- an index and the entry there
unfoldable pub entry_form : Grammar (ℕ × Entry)
entry_form =
    item tag_word λ tag. item any_word λ index. item any_word λ generation.
    and_then object_form λ object. gives (index, record { generation = generation; object = object })
