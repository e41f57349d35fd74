-- Which status comes first, the order of names, and what counts as space.
use Rattle.std.proofs.Common.{◌≡◌, replicate, false, refl, [], ◌∷◌, codes, Some, true}
use Rattle.nfs2_types.specs.declared.NfsResult.TheVariants as Result
use Rattle.nfs2_types.specs.Handle.{handle_bytes, oid_in}
use Rattle.nfs2_types.specs.Call as call
use Rattle.nfs2_types.specs.Call.{null, write_cache, lookup, create, rename, link, symlink, make_dir, read_dir, stat_fs}
use Rattle.abs_model.specs.declared.entry.Object.TheVariants.{Null}
use Rattle.abs_model.specs.Array.{empty_root, null_entry, free}
use Rattle.abs_model.specs.Listed.{page}
use Rattle.abs_model.specs.Machine.{array_after, effect, result_of, told}
use Rattle.abs_model.proofs.Examples.Service.{moment, nothing_set, handle, root, attr, node, refused, listed_as, ◌gives◌tells◌, IsAnswered, IsAnsweredIn}

-- the first of several statuses
pub first_refusals : IsAnsweredIn 1100 (
    (create root (codes "f") nothing_set gives
    node 1 1 (attr 1 0x81a4 1 65534 65534 0 0 2 (moment 1) (moment 1) (moment 1)) tells 0 ∷ 1 ∷
    []) ∷
    (make_dir root (codes "d") nothing_set gives
    node 2 1 (attr 2 0x41ed 2 65534 65534 512 1 3 (moment 2) (moment 2) (moment 2)) tells 0 ∷ 2
    ∷ []) ∷
    (lookup (handle 1 1) (codes "") gives refused 20 tells []) ∷
    (lookup root (102 ∷ 0 ∷ []) gives refused 13 tells []) ∷
    (link (handle 1 1) root (codes "f") gives refused 17 tells []) ∷
    (make_dir root (codes "f") nothing_set gives refused 17 tells []) ∷
    (symlink root (codes "f") (codes "x") nothing_set gives refused 17 tells []) ∷
    (create root (codes ".") (record nothing_set { size = Some 1048577 }) gives
    refused 17 tells []) ∷
    (create root (codes "d") (record nothing_set { size = Some 1048577 }) gives
    refused 17 tells []) ∷
    (make_dir root (codes "x") nothing_set gives refused 28 tells []) ∷ [])
unfolding result_of array_after effect told handle_bytes oid_in
first_refusals = refl

-- NOTEMPTY comes before the test for a directory below itself
pub not_empty_before_below : IsAnswered (
    (make_dir root (codes "d") nothing_set gives
    node 1 1 (attr 2 0x41ed 2 65534 65534 512 1 2 (moment 1) (moment 1) (moment 1)) tells 0 ∷ 1
    ∷ []) ∷
    (make_dir (handle 1 1) (codes "e") nothing_set gives
    node 2 1 (attr 2 0x41ed 2 65534 65534 512 1 3 (moment 2) (moment 2) (moment 2)) tells 1 ∷ 2
    ∷ []) ∷
    (make_dir (handle 2 1) (codes "x") nothing_set gives
    node 3 1 (attr 2 0x41ed 2 65534 65534 512 1 4 (moment 3) (moment 3) (moment 3)) tells 2 ∷ 3
    ∷ []) ∷
    (make_dir (handle 3 1) (codes "y") nothing_set gives
    node 4 1 (attr 2 0x41ed 2 65534 65534 512 1 5 (moment 4) (moment 4) (moment 4)) tells 3 ∷ 4
    ∷ []) ∷
    (rename root (codes "d") (handle 2 1) (codes "x") gives refused 66 tells []) ∷ [])
unfolding result_of array_after effect told handle_bytes oid_in
not_empty_before_below = refl

-- names stand in the order of their bytes, and not of their lengths
pub names_by_their_bytes : IsAnswered (
    (create root (codes "b") nothing_set gives
    node 1 1 (attr 1 0x81a4 1 65534 65534 0 0 2 (moment 1) (moment 1) (moment 1)) tells 0 ∷ 1 ∷
    []) ∷
    (create root (codes "ab") nothing_set gives
    node 2 1 (attr 1 0x81a4 1 65534 65534 0 0 3 (moment 2) (moment 2) (moment 2)) tells 0 ∷ 2 ∷
    []) ∷
    (create root (codes "a") nothing_set gives
    node 3 1 (attr 1 0x81a4 1 65534 65534 0 0 4 (moment 3) (moment 3) (moment 3)) tells 0 ∷ 3 ∷
    []) ∷
    (read_dir root 0 4096 gives
    Result.Entries (listed_as 1 (codes ".") 1 ∷ listed_as 1 (codes "..") 2 ∷ listed_as 4 (codes
    "a") 3 ∷ listed_as 3 (codes "ab") 4 ∷ listed_as 2 (codes "b") 5 ∷ []) true tells []) ∷
    [])
unfolding result_of array_after effect told handle_bytes oid_in
names_by_their_bytes = refl

-- STATFS counts whole blocks
pub blocks_are_cut_down : IsAnsweredIn 1000 (
    (stat_fs root gives Result.Space 8192 512 1 1 1 tells []) ∷ [])
unfolding result_of array_after effect told handle_bytes oid_in
blocks_are_cut_down = refl

-- a size that is given to MKDIR takes no space
pub a_size_of_a_directory_takes_no_space : IsAnsweredIn 512 (
    (make_dir root (codes "d") (record nothing_set { size = Some 9 }) gives
    node 1 1 (attr 2 0x41ed 2 65534 65534 512 1 2 (moment 1) (moment 1) (moment 1)) tells 0 ∷ 1
    ∷ []) ∷ [])
unfolding result_of array_after effect told handle_bytes oid_in
a_size_of_a_directory_takes_no_space = refl

-- the statuses of RENAME in their order: both handles, both directories, both names
pub renames_of_no_names : IsAnswered (
    (create root (codes "f") nothing_set gives
    node 1 1 (attr 1 0x81a4 1 65534 65534 0 0 2 (moment 1) (moment 1) (moment 1)) tells 0 ∷ 1 ∷ []) ∷
    (rename (handle 9 1) (codes "x") (handle 1 1) (codes "y") gives refused 70 tells []) ∷
    (rename (handle 1 1) (codes "x") (handle 9 1) (codes "y") gives refused 70 tells []) ∷
    (rename (handle 1 1) (codes "/") root (codes "y") gives refused 20 tells []) ∷
    (rename root (codes "/") (handle 1 1) (codes "y") gives refused 20 tells []) ∷
    (rename root (codes "a/b") root (codes ".") gives refused 13 tells []) ∷
    (rename root (codes ".") root [] gives refused 13 tells []) ∷ [])
unfolding result_of array_after effect told handle_bytes oid_in
renames_of_no_names = refl

-- the three procedures that do nothing
pub nothing_is_done : IsAnswered (
    (null gives Result.Nothing tells []) ∷
    (write_cache gives Result.Nothing tells []) ∷
    (call.root gives Result.Nothing tells []) ∷ [])
unfolding result_of array_after effect told handle_bytes oid_in
nothing_is_done = refl

-- PLACES

-- an index whose generation is the last word is never taken again
pub a_generation_at_its_end : free (empty_root ∷ record { generation = 4294967295; object = Null } ∷ null_entry ∷ []) ≡ Some 2
a_generation_at_its_end = refl

-- an entry with the longest name takes 272 bytes, so that 8,184 have room for 30
pub a_list_of_8192 : page (replicate 40 (listed_as 1 (replicate 255 97) 3)) 0 10000 ≡
    Result.Entries (replicate 30 (listed_as 1 (replicate 255 97) 3)) false
a_list_of_8192 = refl
