-- What is given to an object and what a client sees of it (RFC 1094, 2.3.5 and 2.3.6).
use Rattle.std.proofs.Common.{refl, [], ◌∷◌, codes, Some}
use Rattle.nfs2_types.specs.declared.SetTime.TheVariants.{Now, At}
use Rattle.nfs2_types.specs.declared.NfsResult.TheVariants as Result
use Rattle.nfs2_types.specs.Handle.{handle_bytes, oid_in}
use Rattle.nfs2_types.specs.Call.{get_attr, set_attr, lookup, read_link, create, link, symlink, make_dir}
use Rattle.abs_model.specs.Machine.{array_after, effect, result_of, told}
use Rattle.abs_model.proofs.Examples.Service.{moment, moment_in, caller, nothing_set, handle, root, attr, node, ◌gives◌tells◌, IsAnswered, IsAnsweredTo}

-- a symbolic link has type 5 and mode 0120777; a second name changes its ctime
pub a_link_is_seen : IsAnswered (
    (symlink root (codes "s") (codes "d/g") nothing_set gives Result.Done tells 0 ∷ 1 ∷ []) ∷
    (lookup root (codes "s") gives
    node 1 1 (attr 5 0xa1ff 1 65534 65534 3 1 2 (moment 1) (moment 1) (moment 1)) tells []) ∷
    (link (handle 1 1) root (codes "t") gives Result.Done tells 0 ∷ 1 ∷ []) ∷
    (get_attr (handle 1 1) gives
    Result.Attr (attr 5 0xa1ff 2 65534 65534 3 1 2 (moment 1) (moment 1) (moment 3)) tells []) ∷
    (read_link (handle 1 1) gives Result.Path (codes "d/g") tells []) ∷ [])
unfolding result_of array_after effect told handle_bytes oid_in
a_link_is_seen = refl

-- CREATE takes the mode, the owners, the size and the times that it is given
pub fields_given_to_a_file : IsAnswered (
    (create root (codes "a") (record nothing_set {
      mode = Some 0x1a0;
      uid = Some 7;
      gid = Some 8;
      size = Some 600;
      atime = At (moment_in 5 6);
      mtime = Now;
    }) gives
    node 1 1 (attr 1 0x81a0 1 7 8 600 2 2 (moment_in 5 6) (moment 1) (moment 1)) tells 0 ∷ 1 ∷
    []) ∷ [])
unfolding result_of array_after effect told handle_bytes oid_in
fields_given_to_a_file = refl

-- MKDIR takes all but the size
pub fields_given_to_a_directory : IsAnswered (
    (make_dir root (codes "d") (record nothing_set {
      mode = Some 0x1c0;
      uid = Some 7;
      gid = Some 8;
      size = Some 9;
      atime = Now;
      mtime = At (moment_in 3 4);
    }) gives
    node 1 1 (attr 2 0x41c0 2 7 8 512 1 2 (moment 1) (moment_in 3 4) (moment 1)) tells 0 ∷ 1 ∷
    []) ∷ [])
unfolding result_of array_after effect told handle_bytes oid_in
fields_given_to_a_directory = refl

-- and so does SYMLINK
pub fields_given_to_a_link : IsAnswered (
    (symlink root (codes "s") (codes "x") (record nothing_set {
      mode = Some 0x800;
      uid = Some 7;
      gid = Some 8;
      atime = At (moment_in 5 6);
      mtime = At (moment_in 7 8);
    }) gives
    Result.Done tells 0 ∷ 1 ∷ []) ∷
    (get_attr (handle 1 1) gives
    Result.Attr (attr 5 0xa800 1 7 8 1 1 2 (moment_in 5 6) (moment_in 7 8) (moment 1)) tells
    []) ∷ [])
unfolding result_of array_after effect told handle_bytes oid_in
fields_given_to_a_link = refl

-- SETATTR sets what is given and keeps the rest; a size without an mtime is written at the time of
-- the request
pub fields_are_set : IsAnswered (
    (create root (codes "a") nothing_set gives
    node 1 1 (attr 1 0x81a4 1 65534 65534 0 0 2 (moment 1) (moment 1) (moment 1)) tells 0 ∷ 1 ∷
    []) ∷
    (set_attr (handle 1 1) (record nothing_set {
      uid = Some 7;
      atime = At (moment_in 5 6);
      mtime =
          Now;
    }) gives
    Result.Attr (attr 1 0x81a4 1 7 65534 0 0 2 (moment_in 5 6) (moment 2) (moment 2)) tells 1 ∷
    []) ∷
    (set_attr (handle 1 1) (record nothing_set {
      gid = Some 8;
      size = Some 3;
      atime = Now;
      mtime =
          At (moment_in 7 8);
    }) gives
    Result.Attr (attr 1 0x81a4 1 7 8 3 1 2 (moment 3) (moment_in 7 8) (moment 3)) tells 1 ∷ [])
    ∷ [])
unfolding result_of array_after effect told handle_bytes oid_in
fields_are_set = refl

-- a new object has the owner and the group of its caller
pub the_group_of_the_caller : IsAnsweredTo (caller 7 8) (
    (create root (codes "a") nothing_set gives
    node 1 1 (attr 1 0x81a4 1 7 8 0 0 2 (moment 1) (moment 1) (moment 1)) tells 0 ∷ 1 ∷ []) ∷
    [])
unfolding result_of array_after effect told handle_bytes oid_in
the_group_of_the_caller = refl

-- a directory counts 2 links and one for each directory in it; a name takes 32 bytes of its size
pub subdirectories_alone_count : IsAnswered (
    (make_dir root (codes "d") nothing_set gives
    node 1 1 (attr 2 0x41ed 2 65534 65534 512 1 2 (moment 1) (moment 1) (moment 1)) tells 0 ∷ 1
    ∷ []) ∷
    (make_dir (handle 1 1) (codes "e") nothing_set gives
    node 2 1 (attr 2 0x41ed 2 65534 65534 512 1 3 (moment 2) (moment 2) (moment 2)) tells 1 ∷ 2
    ∷ []) ∷
    (create (handle 1 1) (codes "f") nothing_set gives
    node 3 1 (attr 1 0x81a4 1 65534 65534 0 0 4 (moment 3) (moment 3) (moment 3)) tells 1 ∷ 3 ∷
    []) ∷
    (get_attr (handle 1 1) gives
    Result.Attr (attr 2 0x41ed 3 65534 65534 576 2 2 (moment 1) (moment 3) (moment 3)) tells
    []) ∷ [])
unfolding result_of array_after effect told handle_bytes oid_in
subdirectories_alone_count = refl
