-- What the program needs of an array before it does the work of a call.
use Rattle.std.specs.Prelude.{ℕ, ◌^◌, ◌<◌, ◌≤◌, ◌≡◌, true, false, List, length, IsSome}
use Rattle.nfs2_types.specs.declared.Limits.{Limits}
use Rattle.nfs2_types.specs.Call.{Call, null, root, write_cache, get_attr, set_attr, lookup, read_link, read, write, create, remove, rename, link, symlink, make_dir, remove_dir, read_dir, stat_fs}
use Rattle.abs_model.specs.declared.Entry.{Entry}
use Rattle.abs_model.specs.Array.{links, at, target, has_name, free, used}
use Rattle.abs_model.specs.Bounds.{HasBounds}
use Rattle.abs_queries.specs.Listable.{CanList}
use Rattle.abs_plain.specs.Steps.{found}

-- an entry stands at an index
pub record IsAt (A : List Entry) (i : ℕ) : Type 0 where
  pub small : length A < 2 ^ 32
  pub within : i < length A

-- a name can be taken out
pub record CanTakeOut (A : List Entry) (dir name : List ℕ) : Type 0 where
  pub small : length A < 2 ^ 32
  pub dir_within : at A dir < length A
  pub within : target A (at A dir) name < length A
  pub few : links A (target A (at A dir) name) < 2 ^ 64

-- an object can be made
pub record CanAdd (A : List Entry) (d : ℕ) : Type 0 where
  pub small : length A < 2 ^ 32
  pub dir_within : d < length A
  pub room : IsSome (free A)

-- CREATE finds the object of a name, or can make one
pub record CanCreate (A : List Entry) (d : ℕ) (name : List ℕ) : Type 0 where
  pub small : length A < 2 ^ 32
  pub found : has_name A d name ≡ true → target A d name < length A
  pub makes : has_name A d name ≡ false → CanAdd A d

-- a name can be added to an object
pub record CanLink (A : List Entry) (node dir : List ℕ) : Type 0 where
  pub small : length A < 2 ^ 32
  pub within : at A node < length A
  pub dir_within : at A dir < length A

-- a name can be moved
pub record CanRename (A : List Entry) (from name to to_name : List ℕ) : Type 0 where
  pub small : length A < 2 ^ 32
  pub from_within : at A from < length A
  pub to_within : at A to < length A
  pub within : target A (at A from) name < length A
  pub over : has_name A (at A to) to_name ≡ true → target A (at A to) to_name < length A
  pub few : links A (target A (at A to) to_name) < 2 ^ 64

-- a call that only reads can be answered
abbrev pub CanRead : Limits → List Entry → Call → Type 0
CanRead limits A (get_attr node) = HasBounds A (at A node)
CanRead limits A (lookup dir name) = HasBounds A (found A (at A dir) name)
CanRead limits A (read file offset count) = HasBounds A (at A file)
CanRead limits A (read_dir dir cookie count) = CanList A (at A dir)
CanRead limits A (stat_fs node) = used A ≤ limits.t
CanRead limits A _ = Unit {0}

-- the work of a call that changes the array can be done
abbrev pub CanChange : List Entry → Call → Type 0
CanChange A null = Unit {0}
CanChange A root = Unit {0}
CanChange A write_cache = Unit {0}
CanChange A (get_attr node) = Unit {0}
CanChange A (set_attr node sattr) = IsAt A (at A node)
CanChange A (lookup dir name) = Unit {0}
CanChange A (read_link node) = Unit {0}
CanChange A (read file offset count) = Unit {0}
CanChange A (write file offset bytes) = IsAt A (at A file)
CanChange A (create dir name sattr) = CanCreate A (at A dir) name
CanChange A (remove dir name) = CanTakeOut A dir name
CanChange A (rename from name to to_name) = CanRename A from name to to_name
CanChange A (link node dir name) = CanLink A node dir
CanChange A (symlink dir name text sattr) = CanAdd A (at A dir)
CanChange A (make_dir dir name sattr) = CanAdd A (at A dir)
CanChange A (remove_dir dir name) = CanTakeOut A dir name
CanChange A (read_dir dir cookie count) = Unit {0}
CanChange A (stat_fs node) = Unit {0}
