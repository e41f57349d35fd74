-- The arguments of each procedure (RFC 1094, 2.2) as formats of items.
use Rattle.std.specs.Prelude.{ℕ, ◌%◌, ◌==◌, nat_lt, if◌then◌else◌, Option, Some, None}
use Rattle.xdr_core.specs.Items.{Item, fixed, any_word, any_opaque}
use Rattle.xdr_core.specs.Grammar.{Grammar, gives, item, and_then}
use Rattle.nfs2_types.specs.declared.args.SetTime.{SetTime}
use Rattle.nfs2_types.specs.declared.args.Sattr.{Sattr}
use Rattle.nfs2_types.specs.Sizes.{max_name, max_path, max_data}
use Rattle.nfs2_types.specs.Call.{Call, null, root, write_cache, get_attr, set_attr, lookup, read_link, read, write}
use Rattle.nfs2_types.specs.Call.{create, remove, rename, link, symlink, make_dir, remove_dir, read_dir, stat_fs}

-- ---- the types that arguments are made of

-- fhandle (RFC 1094, 2.3.3)
abbrev pub handle : Item
handle = fixed 32

-- filename (RFC 1094, 2.3.7)
abbrev pub name : Item
name = any_opaque max_name

-- path (RFC 1094, 2.3.8)
abbrev pub path : Item
path = any_opaque max_path

-- nfsdata (RFC 1094, 2.2.7)
abbrev pub content : Item
content = any_opaque max_data

-- a field of all ones is left alone (RFC 1094, 2.3.6)
abbrev pub given : ℕ → Option ℕ
given n = if n == 4294967295 then None else Some n

-- of a mode the low twelve bits count (RFC 1094, 2.3.5)
abbrev pub mode_given : ℕ → Option ℕ
mode_given n = if n == 4294967295 then None else Some (n % 4096)

-- seconds of all ones leave a time alone; microseconds of a million or more mean the time of the request
abbrev pub when : ℕ → ℕ → SetTime
when secs micros =
    if secs == 4294967295 then SetTime.Keep else
    if nat_lt micros 1000000 then SetTime.At (record { secs = secs; micros = micros }) else SetTime.Now

-- what the eight words of a sattr set (RFC 1094, 2.3.6)
abbrev pub sattr_of : (mode uid gid size atime_secs atime_micros mtime_secs mtime_micros : ℕ) → Sattr
sattr_of mode uid gid size atime_secs atime_micros mtime_secs mtime_micros = record {
  mode = mode_given mode;
  uid = given uid;
  gid = given gid;
  size = given size;
  atime = when atime_secs atime_micros;
  mtime = when mtime_secs mtime_micros;
}

-- sattr (RFC 1094, 2.3.6)
unfoldable pub sattr_form : Grammar Sattr
sattr_form =
    item any_word λ mode. item any_word λ uid. item any_word λ gid. item any_word λ size.
    item any_word λ atime_secs. item any_word λ atime_micros. item any_word λ mtime_secs. item any_word λ mtime_micros.
    gives (sattr_of mode uid gid size atime_secs atime_micros mtime_secs mtime_micros)

-- ---- the procedures

-- GETATTR: fhandle (RFC 1094, 2.2.2)
unfoldable pub get_attr_form : Grammar Call
get_attr_form = item handle λ node. gives (get_attr node)

-- SETATTR: fhandle, sattr (RFC 1094, 2.2.3)
unfoldable pub set_attr_form : Grammar Call
set_attr_form = item handle λ node. and_then sattr_form λ sattr. gives (set_attr node sattr)

-- LOOKUP: diropargs (RFC 1094, 2.2.5)
unfoldable pub lookup_form : Grammar Call
lookup_form = item handle λ dir. item name λ n. gives (lookup dir n)

-- READLINK: fhandle (RFC 1094, 2.2.6)
unfoldable pub read_link_form : Grammar Call
read_link_form = item handle λ node. gives (read_link node)

-- READ: fhandle, offset, count, and totalcount, which is ignored (RFC 1094, 2.2.7)
unfoldable pub read_form : Grammar Call
read_form =
    item handle λ file. item any_word λ offset. item any_word λ count. item any_word λ total_count.
    gives (read file offset count)

-- WRITE: fhandle, beginoffset, offset, totalcount, nfsdata; beginoffset and totalcount are ignored (RFC 1094, 2.2.9)
unfoldable pub write_form : Grammar Call
write_form =
    item handle λ file. item any_word λ begin_offset. item any_word λ offset. item any_word λ total_count.
    item content λ bytes.
    gives (write file offset bytes)

-- CREATE: diropargs, sattr (RFC 1094, 2.2.10)
unfoldable pub create_form : Grammar Call
create_form = item handle λ dir. item name λ n. and_then sattr_form λ sattr. gives (create dir n sattr)

-- REMOVE: diropargs (RFC 1094, 2.2.11)
unfoldable pub remove_form : Grammar Call
remove_form = item handle λ dir. item name λ n. gives (remove dir n)

-- RENAME: diropargs of the old name, diropargs of the new one (RFC 1094, 2.2.12)
unfoldable pub rename_form : Grammar Call
rename_form = item handle λ from. item name λ n. item handle λ to. item name λ to_name. gives (rename from n to to_name)

-- LINK: fhandle, diropargs (RFC 1094, 2.2.13)
unfoldable pub link_form : Grammar Call
link_form = item handle λ node. item handle λ dir. item name λ n. gives (link node dir n)

-- SYMLINK: diropargs, path, sattr (RFC 1094, 2.2.14)
unfoldable pub symlink_form : Grammar Call
symlink_form =
    item handle λ dir. item name λ n. item path λ text. and_then sattr_form λ sattr.
    gives (symlink dir n text sattr)

-- MKDIR: diropargs, sattr (RFC 1094, 2.2.15)
unfoldable pub make_dir_form : Grammar Call
make_dir_form = item handle λ dir. item name λ n. and_then sattr_form λ sattr. gives (make_dir dir n sattr)

-- RMDIR: diropargs (RFC 1094, 2.2.16)
unfoldable pub remove_dir_form : Grammar Call
remove_dir_form = item handle λ dir. item name λ n. gives (remove_dir dir n)

-- READDIR: fhandle, a cookie of four bytes, count (RFC 1094, 2.2.17)
unfoldable pub read_dir_form : Grammar Call
read_dir_form = item handle λ dir. item any_word λ cookie. item any_word λ count. gives (read_dir dir cookie count)

-- STATFS: fhandle (RFC 1094, 2.2.18)
unfoldable pub stat_fs_form : Grammar Call
stat_fs_form = item handle λ node. gives (stat_fs node)

-- by the number of the procedure, 0 to 17; NULL, ROOT and WRITECACHE have no arguments (RFC 1094, 2.2, 2.2.1, 2.2.4,
-- 2.2.8)
abbrev pub args_form : ℕ → Grammar Call
args_form proc =
    if proc == 1 then get_attr_form else
    if proc == 2 then set_attr_form else
    if proc == 3 then gives root else
    if proc == 4 then lookup_form else
    if proc == 5 then read_link_form else
    if proc == 6 then read_form else
    if proc == 7 then gives write_cache else
    if proc == 8 then write_form else
    if proc == 9 then create_form else
    if proc == 10 then remove_form else
    if proc == 11 then rename_form else
    if proc == 12 then link_form else
    if proc == 13 then symlink_form else
    if proc == 14 then make_dir_form else
    if proc == 15 then remove_dir_form else
    if proc == 16 then read_dir_form else
    if proc == 17 then stat_fs_form else
    gives null
