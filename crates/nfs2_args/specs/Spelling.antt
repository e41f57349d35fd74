-- The one spelling of a call that is written (RFC 1094, 2.2), and the calls that are read again from it.
use Rattle.std.specs.Prelude.{◌≡◌, ℕ, ◌<◌, ◌^◌, Bool, true, ◌&&◌, nat_lt, List, [], ◌++◌, length, Option, Some, None}
use Rattle.xdr_core.specs.Items.{spell_word, spell_fixed, spell_opaque}
use Rattle.nfs2_types.specs.declared.args.SetTime.{SetTime}
use Rattle.nfs2_types.specs.declared.args.Sattr.{Sattr}
use Rattle.nfs2_types.specs.Call.{Call, null, root, write_cache, get_attr, set_attr, lookup, read_link, read, write}
use Rattle.nfs2_types.specs.Call.{create, remove, rename, link, symlink, make_dir, remove_dir, read_dir, stat_fs}

-- the number of the procedure (RFC 1094, 2.2)
abbrev pub number_of : Call → ℕ
number_of null = 0
number_of (get_attr node) = 1
number_of (set_attr node sattr) = 2
number_of root = 3
number_of (lookup dir name) = 4
number_of (read_link node) = 5
number_of (read file offset count) = 6
number_of write_cache = 7
number_of (write file offset bytes) = 8
number_of (create dir name sattr) = 9
number_of (remove dir name) = 10
number_of (rename from name to to_name) = 11
number_of (link node dir name) = 12
number_of (symlink dir name text sattr) = 13
number_of (make_dir dir name sattr) = 14
number_of (remove_dir dir name) = 15
number_of (read_dir dir cookie count) = 16
number_of (stat_fs node) = 17

-- ---- fields that are given, and those that are left alone

-- a given number is below all ones
abbrev pub field_fits : Option ℕ → Bool
field_fits None = true
field_fits (Some n) = nat_lt n 4294967295

-- the seconds of a time that is set are below all ones
abbrev pub seconds_fit : SetTime → Bool
seconds_fit SetTime.Keep = true
seconds_fit SetTime.Now = true
seconds_fit (SetTime.At t) = nat_lt t.secs 4294967295

-- no given field has the word that leaves it alone (RFC 1094, 2.3.6)
abbrev pub fields_fit : Sattr → Bool
fields_fit s = field_fits s.uid && field_fits s.gid && field_fits s.size && seconds_fit s.atime && seconds_fit s.mtime

-- the same of what a call sets
abbrev pub call_fields_fit : Call → Bool
call_fields_fit null = true
call_fields_fit root = true
call_fields_fit write_cache = true
call_fields_fit (get_attr node) = true
call_fields_fit (set_attr node sattr) = fields_fit sattr
call_fields_fit (lookup dir name) = true
call_fields_fit (read_link node) = true
call_fields_fit (read file offset count) = true
call_fields_fit (write file offset bytes) = true
call_fields_fit (create dir name sattr) = fields_fit sattr
call_fields_fit (remove dir name) = true
call_fields_fit (rename from name to to_name) = true
call_fields_fit (link node dir name) = true
call_fields_fit (symlink dir name text sattr) = fields_fit sattr
call_fields_fit (make_dir dir name sattr) = fields_fit sattr
call_fields_fit (remove_dir dir name) = true
call_fields_fit (read_dir dir cookie count) = true
call_fields_fit (stat_fs node) = true

-- ---- the spelling

-- all ones where a field is not given (RFC 1094, 2.3.6)
abbrev pub word_of : Option ℕ → ℕ
word_of None = 4294967295
word_of (Some n) = n

-- all ones where a time is left alone, and 0 for the time of the request
abbrev pub secs_of : SetTime → ℕ
secs_of SetTime.Keep = 4294967295
secs_of SetTime.Now = 0
secs_of (SetTime.At t) = t.secs

-- all ones where a time is left alone, and a million for the time of the request
abbrev pub micros_of : SetTime → ℕ
micros_of SetTime.Keep = 4294967295
micros_of SetTime.Now = 1000000
micros_of (SetTime.At t) = t.micros

-- the two words of a time
abbrev pub time_text : SetTime → List ℕ
time_text t = spell_word (secs_of t) ++ spell_word (micros_of t)

-- the eight words of a sattr (RFC 1094, 2.3.6)
unfoldable pub sattr_text : Sattr → List ℕ
sattr_text s =
    spell_word (word_of s.mode) ++ (spell_word (word_of s.uid)
    ++ (spell_word (word_of s.gid) ++ (spell_word (word_of s.size)
    ++ (spell_word (secs_of s.atime) ++ (spell_word (micros_of s.atime)
    ++ (spell_word (secs_of s.mtime) ++ spell_word (micros_of s.mtime)))))))

-- a directory and a name in it (RFC 1094, 2.3.10)
abbrev pub place_text : (dir name : List ℕ) → List ℕ
place_text dir name = spell_fixed dir ++ spell_opaque name

-- the arguments of a call; an ignored word is written as 0
abbrev pub args_text : Call → List ℕ
args_text null = []
args_text root = []
args_text write_cache = []
args_text (get_attr node) = spell_fixed node
args_text (set_attr node sattr) = spell_fixed node ++ sattr_text sattr
args_text (lookup dir name) = place_text dir name
args_text (read_link node) = spell_fixed node
args_text (read file offset count) = spell_fixed file ++ (spell_word offset ++ (spell_word count ++ spell_word 0))
args_text (write file offset bytes) = spell_fixed file ++ (spell_word 0
    ++ (spell_word offset ++ (spell_word 0 ++ spell_opaque bytes)))
args_text (create dir name sattr) = place_text dir name ++ sattr_text sattr
args_text (remove dir name) = place_text dir name
args_text (rename from name to to_name) = place_text from name ++ place_text to to_name
args_text (link node dir name) = spell_fixed node ++ place_text dir name
args_text (symlink dir name text sattr) = place_text dir name ++ (spell_opaque text ++ sattr_text sattr)
args_text (make_dir dir name sattr) = place_text dir name ++ sattr_text sattr
args_text (remove_dir dir name) = place_text dir name
args_text (read_dir dir cookie count) = spell_fixed dir ++ (spell_word cookie ++ spell_word count)
args_text (stat_fs node) = spell_fixed node

-- ---- what the types of a program's arguments say of a call

-- handles have 32 bytes, and words 32 bits
abbrev pub IsShaped : Call → Type 0
IsShaped null = Unit {0}
IsShaped root = Unit {0}
IsShaped write_cache = Unit {0}
IsShaped (get_attr node) = length node ≡ 32
IsShaped (set_attr node sattr) = length node ≡ 32
IsShaped (lookup dir name) = length dir ≡ 32
IsShaped (read_link node) = length node ≡ 32
IsShaped (read file offset count) = (length file ≡ 32) × (offset < 2 ^ 32) × (count < 2 ^ 32)
IsShaped (write file offset bytes) = (length file ≡ 32) × (offset < 2 ^ 32)
IsShaped (create dir name sattr) = length dir ≡ 32
IsShaped (remove dir name) = length dir ≡ 32
IsShaped (rename from name to to_name) = (length from ≡ 32) × (length to ≡ 32)
IsShaped (link node dir name) = (length node ≡ 32) × (length dir ≡ 32)
IsShaped (symlink dir name text sattr) = length dir ≡ 32
IsShaped (make_dir dir name sattr) = length dir ≡ 32
IsShaped (remove_dir dir name) = length dir ≡ 32
IsShaped (read_dir dir cookie count) = (length dir ≡ 32) × (cookie < 2 ^ 32) × (count < 2 ^ 32)
IsShaped (stat_fs node) = length node ≡ 32
