-- What calls change, and when: times, what is told, and what is left of a file that is made again.
use Rattle.std.proofs.Common.{refl, [], ◌∷◌, codes, replicate, Some}
use Rattle.nfs2_types.specs.declared.SetTime.TheVariants.{At}
use Rattle.nfs2_types.specs.declared.NfsResult.TheVariants as Result
use Rattle.nfs2_types.specs.Handle.{handle_bytes, oid_in}
use Rattle.nfs2_types.specs.Call.{get_attr, set_attr, read, write, create, remove, rename, link, symlink, make_dir, remove_dir}
use Rattle.abs_model.specs.Machine.{array_after, effect, result_of, told}
use Rattle.abs_model.proofs.Examples.Service.{moment, moment_in, nothing_set, handle, root, attr, node, ◌gives◌tells◌, IsAnswered}

-- CREATE of a file that is there: nothing changes without a size; with one the bytes are cut and
-- the file is written
pub created_again : IsAnswered (
    (create root (codes "a") nothing_set gives
    node 1 1 (attr 1 0x81a4 1 65534 65534 0 0 2 (moment 1) (moment 1) (moment 1)) tells 0 ∷ 1 ∷
    []) ∷
    (write (handle 1 1) 0 (codes "hello") gives
    Result.Attr (attr 1 0x81a4 1 65534 65534 5 1 2 (moment 1) (moment 2) (moment 2)) tells 1 ∷
    []) ∷
    (create root (codes "a") (record nothing_set { mode = Some 0; uid = Some 7 }) gives
    node 1 1 (attr 1 0x81a4 1 65534 65534 5 1 2 (moment 1) (moment 2) (moment 2)) tells []) ∷
    (create root (codes "a") (record nothing_set {
      mode = Some 0;
      uid = Some 7;
      size = Some 3;
      mtime = At (moment_in 9 9);
    }) gives
    node 1 1 (attr 1 0x81a4 1 65534 65534 3 1 2 (moment 1) (moment 4) (moment 4)) tells 1 ∷ [])
    ∷
    (read (handle 1 1) 0 9 gives
    Result.Content (attr 1 0x81a4 1 65534 65534 3 1 2 (moment 1) (moment 4) (moment 4)) (codes
    "hel") tells []) ∷
    (get_attr root gives
    Result.Attr (attr 2 0x41ff 2 0 0 544 2 1 (moment 0) (moment 1) (moment 1)) tells []) ∷ [])
unfolding result_of array_after effect told handle_bytes oid_in
created_again = refl

-- each call that changes the names of a directory writes it at its time
pub times_of_directories : IsAnswered (
    (make_dir root (codes "d") nothing_set gives
    node 1 1 (attr 2 0x41ed 2 65534 65534 512 1 2 (moment 1) (moment 1) (moment 1)) tells 0 ∷ 1
    ∷ []) ∷
    (create root (codes "f") nothing_set gives
    node 2 1 (attr 1 0x81a4 1 65534 65534 0 0 3 (moment 2) (moment 2) (moment 2)) tells 0 ∷ 2 ∷
    []) ∷
    (link (handle 2 1) (handle 1 1) (codes "g") gives Result.Done tells 1 ∷ 2 ∷ []) ∷
    (get_attr (handle 1 1) gives
    Result.Attr (attr 2 0x41ed 2 65534 65534 544 2 2 (moment 1) (moment 3) (moment 3)) tells
    []) ∷
    (remove (handle 1 1) (codes "g") gives Result.Done tells 1 ∷ 2 ∷ []) ∷
    (get_attr (handle 1 1) gives
    Result.Attr (attr 2 0x41ed 2 65534 65534 512 1 2 (moment 1) (moment 5) (moment 5)) tells
    []) ∷
    (rename root (codes "f") (handle 1 1) (codes "h") gives Result.Done tells 0 ∷ 1 ∷ []) ∷
    (get_attr root gives
    Result.Attr (attr 2 0x41ff 3 0 0 544 2 1 (moment 0) (moment 7) (moment 7)) tells []) ∷
    (get_attr (handle 1 1) gives
    Result.Attr (attr 2 0x41ed 2 65534 65534 544 2 2 (moment 1) (moment 7) (moment 7)) tells
    []) ∷
    (rename (handle 1 1) (codes "h") (handle 1 1) (codes "i") gives Result.Done tells 1 ∷ []) ∷
    (get_attr (handle 1 1) gives
    Result.Attr (attr 2 0x41ed 2 65534 65534 544 2 2 (moment 1) (moment 10) (moment 10)) tells
    []) ∷
    (make_dir (handle 1 1) (codes "e") nothing_set gives
    node 3 1 (attr 2 0x41ed 2 65534 65534 512 1 4 (moment 12) (moment 12) (moment 12)) tells 1
    ∷ 3 ∷ []) ∷
    (remove_dir (handle 1 1) (codes "e") gives Result.Done tells 1 ∷ 3 ∷ []) ∷
    (get_attr (handle 1 1) gives
    Result.Attr (attr 2 0x41ed 2 65534 65534 544 2 2 (moment 1) (moment 13) (moment 13)) tells
    []) ∷ [])
unfolding result_of array_after effect told handle_bytes oid_in
times_of_directories = refl

-- a file that RENAME replaces under one of its names is changed; what moves is not
pub a_replaced_file_with_a_name_left : IsAnswered (
    (create root (codes "a") nothing_set gives
    node 1 1 (attr 1 0x81a4 1 65534 65534 0 0 2 (moment 1) (moment 1) (moment 1)) tells 0 ∷ 1 ∷
    []) ∷
    (create root (codes "b") nothing_set gives
    node 2 1 (attr 1 0x81a4 1 65534 65534 0 0 3 (moment 2) (moment 2) (moment 2)) tells 0 ∷ 2 ∷
    []) ∷
    (link (handle 2 1) root (codes "c") gives Result.Done tells 0 ∷ 2 ∷ []) ∷
    (rename root (codes "a") root (codes "b") gives Result.Done tells 0 ∷ 2 ∷ []) ∷
    (get_attr (handle 2 1) gives
    Result.Attr (attr 1 0x81a4 1 65534 65534 0 0 3 (moment 2) (moment 2) (moment 4)) tells []) ∷
    (get_attr (handle 1 1) gives
    Result.Attr (attr 1 0x81a4 1 65534 65534 0 0 2 (moment 1) (moment 1) (moment 1)) tells [])
    ∷ [])
unfolding result_of array_after effect told handle_bytes oid_in
a_replaced_file_with_a_name_left = refl

-- what is told: the directory first, and then what its name leads to
pub all_told : IsAnswered (
    (make_dir root (codes "d") nothing_set gives
    node 1 1 (attr 2 0x41ed 2 65534 65534 512 1 2 (moment 1) (moment 1) (moment 1)) tells 0 ∷ 1
    ∷ []) ∷
    (create root (codes "a") nothing_set gives
    node 2 1 (attr 1 0x81a4 1 65534 65534 0 0 3 (moment 2) (moment 2) (moment 2)) tells 0 ∷ 2 ∷
    []) ∷
    (set_attr (handle 2 1) nothing_set gives
    Result.Attr (attr 1 0x81a4 1 65534 65534 0 0 3 (moment 2) (moment 2) (moment 3)) tells 2 ∷
    []) ∷
    (write (handle 2 1) 0 [] gives
    Result.Attr (attr 1 0x81a4 1 65534 65534 0 0 3 (moment 2) (moment 4) (moment 4)) tells 2 ∷
    []) ∷
    (create root (codes "a") (record nothing_set { size = Some 1 }) gives
    node 2 1 (attr 1 0x81a4 1 65534 65534 1 1 3 (moment 2) (moment 5) (moment 5)) tells 2 ∷ [])
    ∷
    (create root (codes "a") nothing_set gives
    node 2 1 (attr 1 0x81a4 1 65534 65534 1 1 3 (moment 2) (moment 5) (moment 5)) tells []) ∷
    (link (handle 2 1) (handle 1 1) (codes "b") gives Result.Done tells 1 ∷ 2 ∷ []) ∷
    (remove root (codes "a") gives Result.Done tells 0 ∷ 2 ∷ []) ∷
    (symlink root (codes "s") (codes "x") nothing_set gives Result.Done tells 0 ∷ 3 ∷ []) ∷
    (remove root (codes "s") gives Result.Done tells 0 ∷ 3 ∷ []) ∷
    (remove (handle 1 1) (codes "b") gives Result.Done tells 1 ∷ 2 ∷ []) ∷
    (remove_dir root (codes "d") gives Result.Done tells 0 ∷ 1 ∷ []) ∷ [])
unfolding result_of array_after effect told handle_bytes oid_in
all_told = refl

-- a WRITE of no bytes at any offset sets the times and adds nothing
pub no_bytes_are_written : IsAnswered (
    (create root (codes "a") nothing_set gives
    node 1 1 (attr 1 0x81a4 1 65534 65534 0 0 2 (moment 1) (moment 1) (moment 1)) tells 0 ∷ 1 ∷
    []) ∷
    (write (handle 1 1) 4294967295 [] gives
    Result.Attr (attr 1 0x81a4 1 65534 65534 0 0 2 (moment 1) (moment 2) (moment 2)) tells 1 ∷
    []) ∷ [])
unfolding result_of array_after effect told handle_bytes oid_in
no_bytes_are_written = refl

-- READ gives 8,192 bytes at most
pub reads_of_8192 : IsAnswered (
    (create root (codes "a") (record nothing_set { size = Some 9000 }) gives
    node 1 1 (attr 1 0x81a4 1 65534 65534 9000 18 2 (moment 1) (moment 1) (moment 1)) tells 0 ∷
    1 ∷ []) ∷
    (read (handle 1 1) 0 9000 gives
    Result.Content (attr 1 0x81a4 1 65534 65534 9000 18 2 (moment 1) (moment 1) (moment 1))
    (replicate 8192 0) tells []) ∷ [])
unfolding result_of array_after effect told handle_bytes oid_in
reads_of_8192 = refl
