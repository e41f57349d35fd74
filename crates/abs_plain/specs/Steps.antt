-- Parts of the machine as the program takes them.
use Rattle.std.specs.Prelude.{ℕ, ◌-◌, ◌/◌, List, if◌then◌else◌, bytes_eq, Option, Some, None}
use Rattle.nfs2_types.specs.declared.Limits.{Limits}
use Rattle.nfs2_types.specs.declared.NfsResult.{NfsResult}
use Rattle.nfs2_types.specs.declared.NfsResult.TheVariants as Result
use Rattle.nfs2_types.specs.Call.{Call, null, root, write_cache, get_attr, set_attr, lookup, read_link, read, write, create, make_dir, read_dir, stat_fs}
use Rattle.nfs2_types.specs.Names.{name_dot, name_dots}
use Rattle.abs_model.specs.declared.Entry.{Entry}
use Rattle.abs_model.specs.Array.{at, target, parent, fattr, used}
use Rattle.abs_model.specs.Machine.{node_at, answer, found_or_made}

-- where LOOKUP leads
abbrev pub found : List Entry → ℕ → List ℕ → ℕ
found A d name = if bytes_eq name name_dot then d else if bytes_eq name name_dots then parent A d else target A d name

-- the answer of a call that only reads; none of one that changes the array
abbrev pub read_answer : List Entry → Limits → Call → Option NfsResult
read_answer A limits null = Some (answer A A limits null)
read_answer A limits root = Some (answer A A limits root)
read_answer A limits write_cache = Some (answer A A limits write_cache)
read_answer A limits (get_attr node) = Some (answer A A limits (get_attr node))
read_answer A limits (lookup dir name) = Some (answer A A limits (lookup dir name))
read_answer A limits (read_link node) = Some (answer A A limits (read_link node))
read_answer A limits (read file offset count) = Some (answer A A limits (read file offset count))
read_answer A limits (read_dir dir cookie count) = Some (answer A A limits (read_dir dir cookie count))
read_answer A limits (stat_fs node) = Some (answer A A limits (stat_fs node))
read_answer A limits _ = None

-- the index of which the answer of a call that changes the array speaks;
-- the root's where it speaks of none
abbrev pub place_of : List Entry → Call → ℕ
place_of A (set_attr node sattr) = at A node
place_of A (write file offset bytes) = at A file
place_of A (create dir name sattr) = found_or_made A (at A dir) name
place_of A (make_dir dir name sattr) = found_or_made A (at A dir) name
place_of A _ = 0

-- the answer of a call that changes the array, from the array after it
abbrev pub write_answer : List Entry → ℕ → Call → NfsResult
write_answer B i (set_attr node sattr) = Result.Attr (fattr B i)
write_answer B i (write file offset bytes) = Result.Attr (fattr B i)
write_answer B i (create dir name sattr) = node_at B i
write_answer B i (make_dir dir name sattr) = node_at B i
write_answer B i _ = Result.Done

-- the answer of STATFS
abbrev pub space : List Entry → Limits → NfsResult
space A limits = let left = (limits.t - used A) / 512 in Result.Space 8192 512 (limits.t / 512) left left
