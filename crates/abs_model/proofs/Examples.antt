-- Worked examples: what the machine answers, by computing. A service of sixteen entries and 65,536 bytes; the call
-- in place p comes at second p from a caller without a name (65534), and sets nothing that is not said.
pub mod Arrays
pub mod Attributes
pub mod Histories
pub mod Orders
pub mod Service
use Rattle.std.proofs.Common.{◌≡◌, ℕ, zero, suc, ◌+◌, List, [], ◌∷◌, ◌++◌, true, false, refl, replicate, Option, Some, None}
use Rattle.nfs2_types.specs.declared.Limits.{Limits}
use Rattle.nfs2_types.specs.declared.Time.{Time}
use Rattle.nfs2_types.specs.declared.Cred.{Cred}
use Rattle.nfs2_types.specs.declared.Fattr.{Fattr}
use Rattle.nfs2_types.specs.declared.Sattr.{Sattr}
use Rattle.nfs2_types.specs.declared.SetTime.TheVariants.{Keep}
use Rattle.nfs2_types.specs.declared.ListEntry.{ListEntry}
use Rattle.nfs2_types.specs.declared.NfsResult.{NfsResult}
use Rattle.nfs2_types.specs.declared.Stat.{Stat}
use Rattle.nfs2_types.specs.declared.stat.TheConstants.{EXIST, FBIG, STALE}
use Rattle.nfs2_types.specs.declared.NfsResult.TheVariants as Result
use Rattle.nfs2_types.specs.Handle.{handle_bytes, oid_in}
use Rattle.nfs2_types.specs.Call.{Call, get_attr, set_attr, lookup, read, write, create, remove, rename, link, make_dir, read_dir, stat_fs}
use Rattle.abs_model.specs.declared.entry.Entry.{Entry}
use Rattle.abs_model.specs.Array.{empty_array}
use Rattle.abs_model.specs.Machine.{array_after, effect, result_of, told, first_of, refusals}
use Rattle.abs_model.proofs.Examples.Service.{moment, nobody, nothing_set, bytes_in_use, handle, root, listed_as}

-- the array after calls at the seconds from this one
abbrev after : Limits → ℕ → List Call → List Entry → List Entry
after limits s [] A = A
after limits s (c ∷ cs) A = after limits (s + 1) cs (array_after A limits nobody (moment s) c)

-- and their results
abbrev results_from : Limits → ℕ → List Call → List Entry → List NfsResult
results_from limits s [] A = []
results_from limits s (c ∷ cs) A = result_of A limits nobody (moment s) c ∷ results_from limits (s + 1) cs (array_after A limits nobody (moment s) c)

-- the statuses of results: 0 is OK
abbrev statuses : List NfsResult → List ℕ
statuses [] = []
statuses (Result.Refused s ∷ rs) = s.0 ∷ statuses rs
statuses (_ ∷ rs) = 0 ∷ statuses rs

abbrev results : List Call → List NfsResult
results calls = results_from (bytes_in_use 65536) 1 calls (empty_array 16)

-- a name of one letter
abbrev name : ℕ → List ℕ
name c = c ∷ []

-- a directory's attributes and a file's, with their times in seconds
abbrev attr : ℕ → ℕ → ℕ → ℕ → ℕ → ℕ → ℕ → ℕ → ℕ → ℕ → Fattr
attr ftype mode nlink owner size blocks fileid atime mtime ctime = record {
  ftype = ftype;
  mode = mode;
  nlink = nlink;
  uid = owner;
  gid = owner;
  size = size;
  blocksize = 4096;
  rdev = 0;
  blocks = blocks;
  fsid = 1;
  fileid = fileid;
  atime_secs = atime;
  atime_micros = 0;
  mtime_secs = mtime;
  mtime_micros = 0;
  ctime_secs = ctime;
  ctime_micros = 0;
}

-- AT THE START

-- GETATTR of the root: a directory of mode 0777, two links and 512 bytes
pub root_at_the_start : results (get_attr root ∷ []) ≡ Result.Attr (attr 2 0x41ff 2 0 512 1 1 0 0 0) ∷ []
unfolding result_of array_after effect handle_bytes oid_in
root_at_the_start = refl

-- READDIR of the root: "." and "..", and no more
pub list_at_the_start : results (read_dir root 0 4096 ∷ []) ≡
    Result.Entries (listed_as 1 (46 ∷ []) 1 ∷ listed_as 1 (46 ∷ 46 ∷ []) 2 ∷ []) true ∷ []
unfolding result_of array_after effect handle_bytes oid_in
list_at_the_start = refl

-- STATFS: 128 blocks of 512 bytes, and all are free
pub space_at_the_start : results (stat_fs root ∷ []) ≡ Result.Space 8192 512 128 128 128 ∷ []
unfolding result_of array_after effect handle_bytes oid_in
space_at_the_start = refl

-- after one CREATE a block is used by its name
pub space_after_a_create : results (create root (name 97) nothing_set ∷ stat_fs root ∷ []) ≡
    Result.Node (handle 1 1) (attr 1 0x81a4 1 65534 0 0 2 1 1 1) ∷ Result.Space 8192 512 128 127 127 ∷ []
unfolding result_of array_after effect handle_bytes oid_in
space_after_a_create = refl

-- DIRECTORIES

-- MKDIR "b" takes index 1 with generation 1; LOOKUP finds it; a second MKDIR is refused
pub a_directory_is_made : results (make_dir root (name 98) nothing_set ∷ lookup root (name 98) ∷ make_dir root (name 98) nothing_set ∷ []) ≡
    Result.Node (handle 1 1) (attr 2 0x41ed 2 65534 512 1 2 1 1 1) ∷
    Result.Node (handle 1 1) (attr 2 0x41ed 2 65534 512 1 2 1 1 1) ∷
    Result.Refused EXIST ∷ []
unfolding result_of array_after effect handle_bytes oid_in
a_directory_is_made = refl

-- MKDIR tells the root and the new index; a refused call tells nothing
pub making_tells_both : told (empty_array 16) (bytes_in_use 65536) nobody (moment 1) (make_dir root (name 98) nothing_set) ≡ 0 ∷ 1 ∷ []
unfolding told effect handle_bytes oid_in
making_tells_both = refl

pub refusing_tells_nothing : told (empty_array 16) (bytes_in_use 65536) nobody (moment 1) (remove root (name 98)) ≡ []
unfolding told effect handle_bytes oid_in
refusing_tells_nothing = refl

-- SETATTR of "b" to mode 0700 leaves the other times
pub a_mode_is_set : results (make_dir root (name 98) nothing_set ∷ set_attr (handle 1 1) (record nothing_set { mode = Some 448 }) ∷ []) ≡
    Result.Node (handle 1 1) (attr 2 0x41ed 2 65534 512 1 2 1 1 1) ∷
    Result.Attr (attr 2 0x41c0 2 65534 512 1 2 1 1 2) ∷ []
unfolding result_of array_after effect handle_bytes oid_in
a_mode_is_set = refl

-- ".." of "b" is the root, which has a subdirectory more and 32 bytes more
pub dots_lead_up : results (make_dir root (name 98) nothing_set ∷ lookup (handle 1 1) (46 ∷ 46 ∷ []) ∷ []) ≡
    Result.Node (handle 1 1) (attr 2 0x41ed 2 65534 512 1 2 1 1 1) ∷
    Result.Node root (attr 2 0x41ff 3 0 544 2 1 0 1 1) ∷ []
unfolding result_of array_after effect handle_bytes oid_in
dots_lead_up = refl

-- LISTS

-- the array after MKDIR "b" and CREATE "a"
abbrev with_two : List Entry
with_two = after (bytes_in_use 65536) 1 (make_dir root (name 98) nothing_set ∷ create root (name 97) nothing_set ∷ []) (empty_array 16)

-- READDIR of it, from a cookie and with a count
abbrev listed_from : ℕ → ℕ → NfsResult
listed_from cookie count = result_of with_two (bytes_in_use 65536) nobody (moment 3) (read_dir root cookie count)

-- the names stand in their order, whichever was made first
pub names_in_order : listed_from 0 4096 ≡
    Result.Entries (listed_as 1 (46 ∷ []) 1 ∷ listed_as 1 (46 ∷ 46 ∷ []) 2 ∷ listed_as 3 (name 97) 3 ∷ listed_as 2 (name 98) 4 ∷ []) true
unfolding result_of array_after effect handle_bytes oid_in
names_in_order = refl

pub no_count_no_entry : listed_from 0 0 ≡ Result.Entries [] false
unfolding result_of array_after effect handle_bytes oid_in
no_count_no_entry = refl

-- two entries take 40 bytes, and the end takes eight
pub room_for_one : listed_from 0 47 ≡ Result.Entries (listed_as 1 (46 ∷ []) 1 ∷ []) false
unfolding result_of array_after effect handle_bytes oid_in
room_for_one = refl

pub room_for_two : listed_from 0 48 ≡ Result.Entries (listed_as 1 (46 ∷ []) 1 ∷ listed_as 1 (46 ∷ 46 ∷ []) 2 ∷ []) false
unfolding result_of array_after effect handle_bytes oid_in
room_for_two = refl

pub behind_the_last : listed_from 4 4096 ≡ Result.Entries [] true
unfolding result_of array_after effect handle_bytes oid_in
behind_the_last = refl

pub past_the_end : listed_from 9 4096 ≡ Result.Entries [] true
unfolding result_of array_after effect handle_bytes oid_in
past_the_end = refl

-- FILES

-- CREATE, REMOVE, CREATE: the index is taken again with the next generation, and the first handle is stale
pub made_again : results (create root (name 97) nothing_set ∷ remove root (name 97) ∷ create root (name 97) nothing_set ∷ get_attr (handle 1 1) ∷ []) ≡
    Result.Node (handle 1 1) (attr 1 0x81a4 1 65534 0 0 2 1 1 1) ∷
    Result.Done ∷
    Result.Node (handle 1 2) (attr 1 0x81a4 1 65534 0 0 2 3 3 3) ∷
    Result.Refused STALE ∷ []
unfolding result_of array_after effect handle_bytes oid_in
made_again = refl

-- bytes are written behind a gap of 100, which reads as zeros
pub a_gap_is_zeros : results (create root (name 97) nothing_set ∷ write (handle 1 1) 100 (replicate 8192 7) ∷ read (handle 1 1) 0 100 ∷ []) ≡
    Result.Node (handle 1 1) (attr 1 0x81a4 1 65534 0 0 2 1 1 1) ∷
    Result.Attr (attr 1 0x81a4 1 65534 8292 17 2 1 2 2) ∷
    Result.Content (attr 1 0x81a4 1 65534 8292 17 2 1 2 2) (replicate 100 0) ∷ []
unfolding result_of array_after effect handle_bytes oid_in
a_gap_is_zeros = refl

-- LIMITS

-- as many CREATEs, of names from the last to the first
abbrev creates : ℕ → List Call
creates zero = []
creates (suc k) = create root (name (97 + k)) nothing_set ∷ creates k

-- fifteen files beside the root fill sixteen entries
pub the_entries_are_full : statuses (results (creates 16)) ≡ replicate 15 0 ++ 28 ∷ []
unfolding result_of array_after effect handle_bytes oid_in
the_entries_are_full = refl

-- a name and 512 bytes fill 1,024 bytes
pub the_space_is_full : statuses (results_from (bytes_in_use 1024) 1
    (create root (name 97) nothing_set ∷ write (handle 1 1) 0 (replicate 512 7) ∷ write (handle 1 1) 512 (7 ∷ []) ∷ []) (empty_array 16)) ≡ 0 ∷ 0 ∷ 28 ∷ []
unfolding result_of array_after effect handle_bytes oid_in
the_space_is_full = refl

-- the array after CREATE "a" in a service of 16,777,216 bytes, and the status with which it refuses a call
abbrev refused_with_one : Call → Option Stat
refused_with_one call = first_of (refusals (after (bytes_in_use 16777216) 1 (create root (name 97) nothing_set ∷ []) (empty_array 16)) (bytes_in_use 16777216) call)

-- a file may have 1,048,576 bytes, and no more
pub largest_size : refused_with_one (set_attr (handle 1 1) (record nothing_set { size = Some 1048576 })) ≡ None
unfolding array_after effect handle_bytes oid_in
largest_size = refl

pub too_large_a_size : refused_with_one (set_attr (handle 1 1) (record nothing_set { size = Some 1048577 })) ≡ Some FBIG
unfolding array_after effect handle_bytes oid_in
too_large_a_size = refl

pub last_byte : refused_with_one (write (handle 1 1) 1048575 (7 ∷ [])) ≡ None
unfolding array_after effect handle_bytes oid_in
last_byte = refl

pub one_byte_more : refused_with_one (write (handle 1 1) 1048576 (7 ∷ [])) ≡ Some FBIG
unfolding array_after effect handle_bytes oid_in
one_byte_more = refl

-- RENAME

abbrev in_root : ℕ → ℕ → Call
in_root from to = rename root (name from) root (name to)

-- MKDIR "d", CREATE "e" in it, CREATE "f", LINK of "f" as "g"
abbrev four_names : List Call
four_names = make_dir root (name 100) nothing_set ∷ create (handle 1 1) (name 101) nothing_set ∷ create root (name 102) nothing_set ∷ link (handle 3 1) root (name 103) ∷ []

-- "f" to "f" and to "g" are OK, "f" to "d" is ISDIR, "d" to "f" NOTDIR, a second directory "h" to "d" NOTEMPTY,
-- "d" to "x" in "d" ACCES, "." to "x" PERM, and "q" to "x" NOENT
pub renames : statuses (results (four_names ++ in_root 102 102 ∷ in_root 102 103 ∷ in_root 102 100 ∷ in_root 100 102 ∷
    make_dir root (name 104) nothing_set ∷ in_root 104 100 ∷ rename root (name 100) (handle 1 1) (name 120) ∷ in_root 46 120 ∷ in_root 113 120 ∷ [])) ≡
    0 ∷ 0 ∷ 0 ∷ 0 ∷ 0 ∷ 0 ∷ 21 ∷ 20 ∷ 0 ∷ 66 ∷ 13 ∷ 1 ∷ 2 ∷ []
unfolding result_of array_after effect handle_bytes oid_in
renames = refl

-- where both names are of one object, both stay and nothing is told
pub one_object_two_names : array_after (after (bytes_in_use 65536) 1 four_names (empty_array 16)) (bytes_in_use 65536) nobody (moment 5) (in_root 102 103) ≡
    after (bytes_in_use 65536) 1 four_names (empty_array 16)
unfolding array_after effect handle_bytes oid_in
one_object_two_names = refl

-- "e" in "d" to "f" in the root tells "d", the root, and the file that was there, which has the name "g" left
pub a_move_tells_three : told (after (bytes_in_use 65536) 1 four_names (empty_array 16)) (bytes_in_use 65536) nobody (moment 5) (rename (handle 1 1) (name 101) root (name 102)) ≡ 1 ∷ 0 ∷ 3 ∷ []
unfolding told array_after effect handle_bytes oid_in
a_move_tells_three = refl
