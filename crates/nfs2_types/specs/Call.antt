-- A call as plain lists and numbers: what its arguments say, wherever their bytes lie (RFC 1094, 2.2).
use Rattle.std.specs.Prelude.{ℕ, List, Bool, true, ◌&&◌, nat_lt, nat_le, length, unwrap_or}
use Rattle.nfs2_types.specs.declared.args.SetTime.{SetTime}
use Rattle.nfs2_types.specs.declared.args.Sattr.{Sattr}
use Rattle.nfs2_types.specs.declared.args.Args.{Args}
use Rattle.nfs2_types.specs.Sizes.{max_name, max_path, max_data}
use Rattle.nfs2_types.specs.Times.{is_time}

-- a call by its procedure
pub data Call : Type 0 where
  null : Call
  root : Call
  write_cache : Call
  get_attr : (node : List ℕ) → Call
  set_attr : (node : List ℕ) (sattr : Sattr) → Call
  lookup : (dir name : List ℕ) → Call
  read_link : (node : List ℕ) → Call
  read : (file : List ℕ) (offset count : ℕ) → Call
  write : (file : List ℕ) (offset : ℕ) (bytes : List ℕ) → Call
  create : (dir name : List ℕ) (sattr : Sattr) → Call
  remove : (dir name : List ℕ) → Call
  rename : (from name to to_name : List ℕ) → Call
  link : (node dir name : List ℕ) → Call
  symlink : (dir name text : List ℕ) (sattr : Sattr) → Call
  make_dir : (dir name : List ℕ) (sattr : Sattr) → Call
  remove_dir : (dir name : List ℕ) → Call
  read_dir : (dir : List ℕ) (cookie count : ℕ) → Call
  stat_fs : (node : List ℕ) → Call

-- what the arguments of the program say
abbrev pub call_of : Args → Call
call_of Args.Null = null
call_of Args.Root = root
call_of Args.WriteCache = write_cache
call_of (Args.GetAttr node) = get_attr node
call_of (Args.SetAttr node sattr) = set_attr node sattr
call_of (Args.Lookup dir name) = lookup dir name.now
call_of (Args.ReadLink node) = read_link node
call_of (Args.Read file offset count) = read file offset count
call_of (Args.Write file offset bytes) = write file offset bytes.now
call_of (Args.Create dir name sattr) = create dir name.now sattr
call_of (Args.Remove dir name) = remove dir name.now
call_of (Args.Rename from name to to_name) = rename from name.now to to_name.now
call_of (Args.Link node dir name) = link node dir name.now
call_of (Args.Symlink dir name text sattr) = symlink dir name.now text.now sattr
call_of (Args.MkDir dir name sattr) = make_dir dir name.now sattr
call_of (Args.RmDir dir name) = remove_dir dir name.now
call_of (Args.ReadDir dir cookie count) = read_dir dir cookie count
call_of (Args.StatFs node) = stat_fs node

-- ---- calls within the bounds of their procedures

-- a time that is set is a moment
abbrev pub set_time_fits : SetTime → Bool
set_time_fits SetTime.Keep = true
set_time_fits SetTime.Now = true
set_time_fits (SetTime.At t) = is_time t

-- a given mode has twelve bits, and the times that are set are moments (RFC 1094, 2.3.6)
abbrev pub sattr_fits : Sattr → Bool
sattr_fits s = nat_lt (unwrap_or s.mode 0) 4096 && set_time_fits s.atime && set_time_fits s.mtime

-- names, texts and bytes to write of at most their sizes (RFC 1094, 2.3.7, 2.3.8, 2.2.9)
abbrev pub call_fits : Call → Bool
call_fits null = true
call_fits root = true
call_fits write_cache = true
call_fits (get_attr node) = true
call_fits (set_attr node sattr) = sattr_fits sattr
call_fits (lookup dir name) = nat_le (length name) max_name
call_fits (read_link node) = true
call_fits (read file offset count) = true
call_fits (write file offset bytes) = nat_le (length bytes) max_data
call_fits (create dir name sattr) = nat_le (length name) max_name && sattr_fits sattr
call_fits (remove dir name) = nat_le (length name) max_name
call_fits (rename from name to to_name) = nat_le (length name) max_name && nat_le (length to_name) max_name
call_fits (link node dir name) = nat_le (length name) max_name
call_fits (symlink dir name text sattr) =
    nat_le (length name) max_name && nat_le (length text) max_path && sattr_fits sattr
call_fits (make_dir dir name sattr) = nat_le (length name) max_name && sattr_fits sattr
call_fits (remove_dir dir name) = nat_le (length name) max_name
call_fits (read_dir dir cookie count) = true
call_fits (stat_fs node) = true
