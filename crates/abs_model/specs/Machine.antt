-- The machine (RFC 1094, 2.2): for each call its refusals in order, what it changes,
-- and what it answers.
use Rattle.std.specs.Prelude.{ℕ, ◌+◌, ◌-◌, ◌/◌, min, max, List, [], ◌∷◌, ◌++◌, Bool, not, ◌&&◌, ◌||◌, ◌==◌, nat_lt, nat_le, if◌then◌else◌, length, take, drop, replicate, is_some, is_none, Option, Some, None, unwrap_or, map, bytes_eq}
use Rattle.nfs2_types.specs.declared.Limits.{Limits}
use Rattle.nfs2_types.specs.declared.Stat.{Stat}
use Rattle.nfs2_types.specs.declared.Time.{Time}
use Rattle.nfs2_types.specs.declared.Cred.{Cred}
use Rattle.nfs2_types.specs.declared.NfsResult.{NfsResult}
use Rattle.nfs2_types.specs.declared.NfsResult.TheVariants as Result
use Rattle.nfs2_types.specs.declared.stat.TheConstants.{PERM, NOENT, NXIO, ACCES, EXIST, NOTDIR, ISDIR, FBIG, NOSPC, NOTEMPTY, STALE}
use Rattle.nfs2_types.specs.Call.{Call, null, root, write_cache, get_attr, set_attr, lookup, read_link, read, write, create, remove, rename, link, symlink, make_dir, remove_dir, read_dir, stat_fs}
use Rattle.abs_model.specs.declared.entry.NameRow.{NameRow}
use Rattle.abs_model.specs.declared.entry.Object.{Object}
use Rattle.abs_model.specs.declared.entry.Object.TheVariants.{File, Dir, Link}
use Rattle.abs_model.specs.declared.entry.Entry.{Entry}
use Rattle.abs_model.specs.declared.entry.Change.{Change}
use Rattle.abs_model.specs.Objects.{is_file, is_dir, is_link, names_of, bytes_of, attr_of, with_attr, nulled, without, placed, new_attr, set_attr_of, written_at, changed_at, written}
use Rattle.nfs2_types.specs.Bytes.{resized}
use Rattle.nfs2_types.specs.Names.{is_bad, is_dot, name_dot, name_dots}
use Rattle.abs_model.specs.Array.{entry_at, changed, used, free, links, parent, climbs_to, live, at, target, has_name, handle_at, fattr}
use Rattle.abs_model.specs.Numbers.{name_space, transfer_limit, new_file_mode, new_dir_mode, open_mode}
use Rattle.abs_model.specs.Listed.{listed}
pub use Rattle.abs_model.specs.Numbers.{file_limit}

-- REFUSALS

-- a test, and the status where it holds
pub record Refusal : Type 0 where
  pub holds : Bool
  pub stat : Stat

infix 5 ◌answers◌
abbrev pub ◌answers◌ : Bool → Stat → Refusal
b answers s = record { holds = b; stat = s }

-- the status of the first test that holds
abbrev pub first_of : List Refusal → Option Stat
first_of [] = None
first_of (r ∷ rs) = if r.holds then Some r.stat else first_of rs

abbrev pub is_stale : List Entry → List ℕ → Bool
is_stale A h = is_none (live A h)

-- more than T would be used after this many bytes go and that many come
abbrev pub no_room : List Entry → Limits → ℕ → ℕ → Bool
no_room A limits goes comes = nat_lt limits.t (used A + comes - goes)

-- a new name of a new object with these bytes finds no index or no space
abbrev pub no_new : List Entry → Limits → ℕ → Bool
no_new A limits bytes = is_none (free A) || no_room A limits 0 (name_space + bytes)

-- THE TESTS OF EACH PART OF A CALL

-- of a handle
abbrev pub node_tests : List Entry → List ℕ → List Refusal
node_tests A node = (is_stale A node answers STALE) ∷ []

-- of a directory
abbrev pub dir_tests : List Entry → List ℕ → List Refusal
dir_tests A dir = node_tests A dir ++ (not (is_dir (entry_at A (at A dir))) answers NOTDIR) ∷ []

-- of a name by itself
abbrev pub name_tests : List ℕ → List Refusal
name_tests name = (is_bad name answers ACCES) ∷ []

-- of a directory and a name in it
abbrev pub in_dir : List Entry → List ℕ → List ℕ → List Refusal
in_dir A dir name = dir_tests A dir ++ name_tests name

-- of a name that goes, which is there and is no dot
abbrev pub old_name_tests : List Entry → List ℕ → List ℕ → List Refusal
old_name_tests A dir name = in_dir A dir name ++
    (is_dot name answers PERM) ∷
    (not (has_name A (at A dir) name) answers NOENT) ∷ []

-- of a name that comes with a new object of these bytes, and neither is there nor a dot
abbrev pub new_name_tests : List Entry → Limits → List ℕ → List ℕ → ℕ → List Refusal
new_name_tests A limits dir name bytes = in_dir A dir name ++
    (is_dot name answers EXIST) ∷
    (has_name A (at A dir) name answers EXIST) ∷
    (no_new A limits bytes answers NOSPC) ∷ []

-- of a file that is read or written
abbrev pub file_tests : List Entry → List ℕ → List Refusal
file_tests A file =
    let e = entry_at A (at A file) in
    node_tests A file ++ (is_dir e answers ISDIR) ∷ (is_link e answers ACCES) ∷ []

-- of bytes that are written to an entry and end there
abbrev pub write_tests : List Entry → Limits → Entry → List ℕ → ℕ → List Refusal
write_tests A limits e bytes end =
    let some = nat_lt 0 (length bytes) in
    let had = length (bytes_of e) in
    (some && nat_lt file_limit end answers FBIG) ∷
    (some && no_room A limits had (max had end) answers NOSPC) ∷ []

-- of a size, if one is given to an entry
abbrev pub size_tests : List Entry → Limits → Entry → Option ℕ → List Refusal
size_tests A limits e given =
    let size = unwrap_or given 0 in
    (is_some given && is_dir e answers ISDIR) ∷
    (is_some given && is_link e answers ACCES) ∷
    (is_some given && nat_lt file_limit size answers FBIG) ∷
    (is_some given && no_room A limits (length (bytes_of e)) size answers NOSPC) ∷ []

-- of what CREATE finds under its name, and of the size that it gives
abbrev pub create_tests : List Entry → Limits → ℕ → List ℕ → Option ℕ → List Refusal
create_tests A limits d name given =
    let e = entry_at A (target A d name) in
    let size = unwrap_or given 0 in
    (has_name A d name && not (is_file e) answers EXIST) ∷
    (nat_lt file_limit size answers FBIG) ∷
    ((if has_name A d name then is_some given && no_room A limits (length (bytes_of e)) size
    else no_new A limits size) answers NOSPC) ∷ []

-- of a new name of an object that is there
abbrev pub link_tests : List Entry → Limits → List ℕ → List ℕ → List Refusal
link_tests A limits dir name =
    (is_dot name answers PERM) ∷
    (has_name A (at A dir) name answers EXIST) ∷
    (no_room A limits 0 name_space answers NOSPC) ∷ []

-- of the two directories of RENAME
abbrev pub two_dir_tests : List Entry → List ℕ → List ℕ → List Refusal
two_dir_tests A from to = node_tests A from ++ node_tests A to ++
    (not (is_dir (entry_at A (at A from))) answers NOTDIR) ∷
    (not (is_dir (entry_at A (at A to))) answers NOTDIR) ∷ []

-- of its two names
abbrev pub two_name_tests : List ℕ → List ℕ → List Refusal
two_name_tests name to_name = name_tests name ++ name_tests to_name ++
    (is_dot name || is_dot to_name answers PERM) ∷ []

-- of the entry that moves and the one that it replaces, if it replaces one
abbrev pub over_tests : Bool → Entry → Entry → List Refusal
over_tests over moved replaced =
    (over && (not (is_dir moved) && is_dir replaced) answers ISDIR) ∷
    (over && (is_dir moved && not (is_dir replaced)) answers NOTDIR) ∷
    (over && (is_dir moved && nat_lt 0 (length (names_of replaced))) answers NOTEMPTY) ∷ []

-- of a directory i that moves into e, which may not be i nor lie below it
abbrev pub below_tests : List Entry → Bool → ℕ → ℕ → List Refusal
below_tests A moves i e =
    (moves && (is_dir (entry_at A i) && climbs_to A i (length A) e) answers ACCES) ∷ []

-- of what the names of RENAME lead to: nothing moves where both lead to one object
abbrev pub move_tests : List Entry → ℕ → ℕ → List ℕ → ℕ → List Refusal
move_tests A i e to_name j =
    let there = has_name A e to_name in
    over_tests (there && not (i == j)) (entry_at A i) (entry_at A j) ++
    below_tests A (not (there && i == j)) i e

-- THE REFUSALS OF EACH CALL, IN THEIR ORDER

abbrev pub refusals : List Entry → Limits → Call → List Refusal
refusals A limits null = []
refusals A limits root = []
refusals A limits write_cache = []
refusals A limits (get_attr node) = node_tests A node
refusals A limits (set_attr node sattr) =
    node_tests A node ++ size_tests A limits (entry_at A (at A node)) sattr.size
refusals A limits (lookup dir name) = in_dir A dir name ++
    (not (is_dot name) && not (has_name A (at A dir) name) answers NOENT) ∷ []
refusals A limits (read_link node) = node_tests A node ++
    (not (is_link (entry_at A (at A node))) answers NXIO) ∷ []
refusals A limits (read file offset count) = file_tests A file
refusals A limits (write file offset bytes) =
    file_tests A file ++ write_tests A limits (entry_at A (at A file)) bytes (offset + length bytes)
refusals A limits (create dir name sattr) = in_dir A dir name ++
    (is_dot name answers EXIST) ∷ create_tests A limits (at A dir) name sattr.size
refusals A limits (remove dir name) = old_name_tests A dir name ++
    (is_dir (entry_at A (target A (at A dir) name)) answers ISDIR) ∷ []
refusals A limits (rename from name to to_name) =
    two_dir_tests A from to ++ two_name_tests name to_name ++
    (not (has_name A (at A from) name) answers NOENT) ∷
    move_tests A (target A (at A from) name) (at A to) to_name (target A (at A to) to_name)
refusals A limits (link node dir name) = node_tests A node ++ node_tests A dir ++
    (is_dir (entry_at A (at A node)) answers PERM) ∷
    (not (is_dir (entry_at A (at A dir))) answers NOTDIR) ∷
    name_tests name ++ link_tests A limits dir name
refusals A limits (symlink dir name text sattr) = new_name_tests A limits dir name (length text)
refusals A limits (make_dir dir name sattr) = new_name_tests A limits dir name 0
refusals A limits (remove_dir dir name) =
    let e = entry_at A (target A (at A dir) name) in
    old_name_tests A dir name ++
    (not (is_dir e) answers NOTDIR) ∷
    (nat_lt 0 (length (names_of e)) answers NOTEMPTY) ∷ []
refusals A limits (read_dir dir cookie count) = dir_tests A dir
refusals A limits (stat_fs node) = node_tests A node

-- CHANGES

-- at an index this entry is put
abbrev pub to_be : ℕ → Entry → Change
to_be i e = record { index = i; entry = e }

-- a file with its bytes changed, a directory with its names changed; written at t
abbrev pub with_bytes : (List ℕ → List ℕ) → Time → Entry → Entry
with_bytes f t e = record { generation = e.generation; object = File (written_at t (attr_of e)) (f (bytes_of e)) }

abbrev pub with_names : (List NameRow → List NameRow) → Time → Entry → Entry
with_names f t e = record { generation = e.generation; object = Dir (written_at t (attr_of e)) (f (names_of e)) }

-- the row by which a name leads to an entry of this generation
abbrev pub row_to : List ℕ → ℕ → ℕ → NameRow
row_to name i generation = record { name = name; index = i; generation = generation }

-- an entry that loses one name: null with the last, else changed at t
abbrev pub unlinked : List Entry → ℕ → Time → Entry
unlinked A i t = if nat_le (links A i) 1 then nulled (entry_at A i)
    else with_attr (changed_at t (attr_of (entry_at A i))) (entry_at A i)

-- a new object takes a null entry and raises its generation
abbrev pub made : Object → Entry → Entry
made new e = record { generation = e.generation + 1; object = new }

-- a directory gets a name, and the lowest free index a new object
abbrev pub adds : List Entry → ℕ → List ℕ → Time → Object → List Change
adds A d name t new =
    let i = unwrap_or (free A) (length A) in
    let e = entry_at A i in
    to_be d (with_names (placed (row_to name i (e.generation + 1))) t (entry_at A d)) ∷
    to_be i (made new e) ∷ []

-- a name goes from d and a row comes to e, in place of one of its name
abbrev pub rows_move : List Entry → ℕ → List ℕ → ℕ → NameRow → Time → List Change
rows_move A d name e row t =
    let comes = λ (rows : List NameRow). placed row (without row.name rows) in
    if d == e then to_be d (with_names (λ rows. comes (without name rows)) t (entry_at A d)) ∷ []
    else to_be d (with_names (without name) t (entry_at A d)) ∷ to_be e (with_names comes t (entry_at A e)) ∷ []

-- what each call puts where, in the order in which it is told
abbrev pub changes : List Entry → Cred → Time → Call → List Change
changes A cred t null = []
changes A cred t root = []
changes A cred t write_cache = []
changes A cred t (get_attr node) = []
changes A cred t (set_attr node sattr) =
    let i = at A node in
    let e = entry_at A i in
    let new = set_attr_of sattr t (attr_of e) in
    to_be i (if is_some sattr.size
    then record { generation = e.generation; object = File new (resized (unwrap_or sattr.size 0) (bytes_of e)) }
    else with_attr new e) ∷ []
changes A cred t (lookup dir name) = []
changes A cred t (read_link node) = []
changes A cred t (read file offset count) = []
changes A cred t (write file offset bytes) =
    to_be (at A file) (with_bytes (written offset bytes) t (entry_at A (at A file))) ∷ []
changes A cred t (create dir name sattr) =
    let d = at A dir in
    let i = target A d name in
    if has_name A d name then
    (if is_some sattr.size then to_be i (with_bytes (resized (unwrap_or sattr.size 0)) t (entry_at A i)) ∷ [] else [])
    else adds A d name t (File (new_attr new_file_mode cred t sattr) (replicate (unwrap_or sattr.size 0) 0))
changes A cred t (remove dir name) =
    let d = at A dir in
    let i = target A d name in
    to_be d (with_names (without name) t (entry_at A d)) ∷ to_be i (unlinked A i t) ∷ []
changes A cred t (rename from name to to_name) =
    let e = at A to in
    let i = target A (at A from) name in
    let j = target A e to_name in
    if has_name A e to_name && i == j then [] else
    (rows_move A (at A from) name e (row_to to_name i (entry_at A i).generation) t
    ++ (if has_name A e to_name then to_be j (unlinked A j t) ∷ [] else []))
changes A cred t (link node dir name) =
    let i = at A node in
    let e = entry_at A i in
    to_be (at A dir) (with_names (placed (row_to name i e.generation)) t (entry_at A (at A dir))) ∷
    to_be i (with_attr (changed_at t (attr_of e)) e) ∷ []
changes A cred t (symlink dir name text sattr) = adds A (at A dir) name t (Link (new_attr open_mode cred t sattr) text)
changes A cred t (make_dir dir name sattr) = adds A (at A dir) name t (Dir (new_attr new_dir_mode cred t sattr) [])
changes A cred t (remove_dir dir name) =
    let d = at A dir in
    let i = target A d name in
    to_be d (with_names (without name) t (entry_at A d)) ∷ to_be i (nulled (entry_at A i)) ∷ []
changes A cred t (read_dir dir cookie count) = []
changes A cred t (stat_fs node) = []

-- ANSWERS

abbrev pub node_at : List Entry → ℕ → NfsResult
node_at A i = Result.Node (handle_at A i) (fattr A i)

-- the index that a call finds or makes for a name
abbrev pub found_or_made : List Entry → ℕ → List ℕ → ℕ
found_or_made A d name = if has_name A d name then target A d name else unwrap_or (free A) (length A)

-- what each call answers where it is not refused: A is the array before it, and B after it
abbrev pub answer : List Entry → List Entry → Limits → Call → NfsResult
answer A B limits null = Result.Nothing
answer A B limits root = Result.Nothing
answer A B limits write_cache = Result.Nothing
answer A B limits (get_attr node) = Result.Attr (fattr B (at A node))
answer A B limits (set_attr node sattr) = Result.Attr (fattr B (at A node))
answer A B limits (lookup dir name) =
    let d = at A dir in
    node_at B (if bytes_eq name name_dot then d else if bytes_eq name name_dots then parent A d else target A d name)
answer A B limits (read_link node) = Result.Path (bytes_of (entry_at A (at A node)))
answer A B limits (read file offset count) =
    let bytes = bytes_of (entry_at A (at A file)) in
    Result.Content (fattr B (at A file)) (take (min count transfer_limit) (drop offset bytes))
answer A B limits (write file offset bytes) = Result.Attr (fattr B (at A file))
answer A B limits (create dir name sattr) = node_at B (found_or_made A (at A dir) name)
answer A B limits (remove dir name) = Result.Done
answer A B limits (rename from name to to_name) = Result.Done
answer A B limits (link node dir name) = Result.Done
answer A B limits (symlink dir name text sattr) = Result.Done
answer A B limits (make_dir dir name sattr) = node_at B (found_or_made A (at A dir) name)
answer A B limits (remove_dir dir name) = Result.Done
answer A B limits (read_dir dir cookie count) = listed B (at A dir) cookie count
answer A B limits (stat_fs node) =
    let left = (limits.t - used A) / 512 in
    Result.Space transfer_limit 512 (limits.t / 512) left left

-- THE STEP

-- what the call puts where; nothing after a refusal
unfoldable pub effect : List Entry → Limits → Cred → Time → Call → List Change
effect A limits cred t call = if is_some (first_of (refusals A limits call)) then [] else changes A cred t call

-- the array after the call
unfoldable pub array_after : List Entry → Limits → Cred → Time → Call → List Entry
array_after A limits cred t call = changed (effect A limits cred t call) A

-- the first refusal that applies, else the answer
unfoldable pub result_of : List Entry → Limits → Cred → Time → Call → NfsResult
result_of A limits cred t call = elim (first_of (refusals A limits call)) [
  | Some s ↦ Result.Refused s
  | None ↦ answer A (array_after A limits cred t call) limits call
]

-- the objects that are told, in their order
unfoldable pub told : List Entry → Limits → Cred → Time → Call → List ℕ
told A limits cred t call = map (λ c. c.index) (effect A limits cred t call)
