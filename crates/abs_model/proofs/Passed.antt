-- what a call that is not refused can rely on, by name
use Rattle.std.proofs.Common.{◌≡◌, ℕ, ◌+◌, List, Bool, true, false, not, ◌&&◌, max, length, Option}
use Rattle.std.specs.Prelude.{◌==◌, is_some, unwrap_or, nat_lt, if◌then◌else◌}
use Rattle.std.proofs.lemmas.Bool.{not-false, or_parts}
use Rattle.nfs2_types.specs.declared.Limits.{Limits}
use Rattle.nfs2_types.specs.Call.{Call, null, root, write_cache, get_attr, set_attr, lookup, read_link, read, write, create, remove, rename, link, symlink, make_dir, remove_dir, read_dir, stat_fs}
use Rattle.nfs2_types.specs.Names.{is_bad, is_dot}
use Rattle.abs_model.specs.declared.entry.Entry.{Entry}
use Rattle.abs_model.specs.Numbers.{file_limit, name_space}
use Rattle.abs_model.specs.Objects.{is_file, is_dir, is_link, names_of, bytes_of}
use Rattle.abs_model.specs.Array.{entry_at, at, target, has_name, climbs_to}
use Rattle.abs_model.specs.Machine.{refusals, is_stale, no_new, no_room}
use Rattle.abs_model.proofs.Facts.{AllFalse, IsLiveAt, live_at}

-- the handle is that of a directory, and the name can stand in one
pub record InDir (A : List Entry) (dir name : List ℕ) : Type 0 where
  pub live : IsLiveAt A (at A dir)
  pub kind : is_dir (entry_at A (at A dir)) ≡ true
  pub good : is_bad name ≡ false

-- and the name is there, and no dot
pub record OldName (A : List Entry) (dir name : List ℕ) : Type 0 where
  pub in_dir : InDir A dir name
  pub no_dot : is_dot name ≡ false
  pub has : has_name A (at A dir) name ≡ true

-- or it is new, and an object of so many bytes has its place
pub record NewName (A : List Entry) (limits : Limits) (dir name : List ℕ) (bytes : ℕ) : Type 0 where
  pub in_dir : InDir A dir name
  pub no_dot : is_dot name ≡ false
  pub absent : has_name A (at A dir) name ≡ false
  pub room : no_new A limits bytes ≡ false

-- the handle is that of a file
pub record IsFileAt (A : List Entry) (file : List ℕ) : Type 0 where
  pub live : IsLiveAt A (at A file)
  pub no_dir : is_dir (entry_at A (at A file)) ≡ false
  pub no_link : is_link (entry_at A (at A file)) ≡ false

-- SETATTR
pub record CanSet (A : List Entry) (limits : Limits) (node : List ℕ) (size : Option ℕ) : Type 0 where
  pub live : IsLiveAt A (at A node)
  pub no_dir : (is_some size && is_dir (entry_at A (at A node))) ≡ false
  pub no_link : (is_some size && is_link (entry_at A (at A node))) ≡ false
  pub small : (is_some size && nat_lt file_limit (unwrap_or size 0)) ≡ false
  pub room : (is_some size && no_room A limits (length (bytes_of (entry_at A (at A node)))) (unwrap_or size 0)) ≡ false

-- LOOKUP
pub record CanFind (A : List Entry) (dir name : List ℕ) : Type 0 where
  pub in_dir : InDir A dir name
  pub found : (not (is_dot name) && not (has_name A (at A dir) name)) ≡ false

-- CREATE
pub record CanCreate (A : List Entry) (limits : Limits) (dir name : List ℕ) (size : Option ℕ) : Type 0 where
  pub in_dir : InDir A dir name
  pub no_dot : is_dot name ≡ false
  pub file : (has_name A (at A dir) name && not (is_file (entry_at A (target A (at A dir) name)))) ≡ false
  pub small : nat_lt file_limit (unwrap_or size 0) ≡ false
  pub room : (if has_name A (at A dir) name then is_some size && no_room A limits (length (bytes_of (entry_at A (target A (at A dir) name)))) (unwrap_or size 0) else no_new A limits (unwrap_or size 0)) ≡ false

-- RENAME, where another object is replaced and where what moves is a directory
abbrev pub over : List Entry → List ℕ → List ℕ → List ℕ → List ℕ → Bool
over A from name to to_name =
    has_name A (at A to) to_name && not (target A (at A from) name == target A (at A to) to_name)

abbrev pub moves : List Entry → List ℕ → List ℕ → List ℕ → List ℕ → Bool
moves A from name to to_name =
    not (has_name A (at A to) to_name && (target A (at A from) name == target A (at A to) to_name))

pub record CanMove (A : List Entry) (from name to to_name : List ℕ) : Type 0 where
  pub from_live : IsLiveAt A (at A from)
  pub to_live : IsLiveAt A (at A to)
  pub from_dir : is_dir (entry_at A (at A from)) ≡ true
  pub to_dir : is_dir (entry_at A (at A to)) ≡ true
  pub good : is_bad name ≡ false
  pub to_good : is_bad to_name ≡ false
  pub no_dot : is_dot name ≡ false
  pub to_no_dot : is_dot to_name ≡ false
  pub has : has_name A (at A from) name ≡ true
  pub over_dir : (over A from name to to_name && (not (is_dir (entry_at A (target A (at A from) name))) && is_dir (entry_at A (target A (at A to) to_name)))) ≡ false
  pub dir_over : (over A from name to to_name && (is_dir (entry_at A (target A (at A from) name)) && not (is_dir (entry_at A (target A (at A to) to_name))))) ≡ false
  pub over_names : (over A from name to to_name && (is_dir (entry_at A (target A (at A from) name)) && nat_lt 0 (length (names_of (entry_at A (target A (at A to) to_name)))))) ≡ false
  pub not_below : (moves A from name to to_name && (is_dir (entry_at A (target A (at A from) name)) && climbs_to A (target A (at A from) name) (length A) (at A to))) ≡ false

-- LINK
pub record CanLink (A : List Entry) (limits : Limits) (node dir name : List ℕ) : Type 0 where
  pub live : IsLiveAt A (at A node)
  pub no_dir : is_dir (entry_at A (at A node)) ≡ false
  pub in_dir : InDir A dir name
  pub no_dot : is_dot name ≡ false
  pub absent : has_name A (at A dir) name ≡ false
  pub room : no_room A limits 0 name_space ≡ false

-- READDIR
pub record IsDirAt (A : List Entry) (dir : List ℕ) : Type 0 where
  pub live : IsLiveAt A (at A dir)
  pub kind : is_dir (entry_at A (at A dir)) ≡ true

-- what each call can rely on
abbrev pub Passed : List Entry → Limits → Call → Type 0
Passed A limits null = Unit {0}
Passed A limits root = Unit {0}
Passed A limits write_cache = Unit {0}
Passed A limits (get_attr node) = IsLiveAt A (at A node)
Passed A limits (set_attr node sattr) = CanSet A limits node sattr.size
Passed A limits (lookup dir name) = CanFind A dir name
Passed A limits (read_link node) = IsLiveAt A (at A node) × (is_link (entry_at A (at A node)) ≡ true)
Passed A limits (read file offset count) = IsFileAt A file
Passed A limits (write file offset bytes) = IsFileAt A file
    × ((nat_lt 0 (length bytes) && nat_lt file_limit (offset + length bytes)) ≡ false)
    × ((nat_lt 0 (length bytes) && no_room A limits (length (bytes_of (entry_at A (at A file)))) (max (length (bytes_of (entry_at A (at A file)))) (offset + length bytes))) ≡ false)
Passed A limits (create dir name sattr) = CanCreate A limits dir name sattr.size
Passed A limits (remove dir name) = OldName A dir name × (is_dir (entry_at A (target A (at A dir) name)) ≡ false)
Passed A limits (rename from name to to_name) = CanMove A from name to to_name
Passed A limits (link node dir name) = CanLink A limits node dir name
Passed A limits (symlink dir name text sattr) = NewName A limits dir name (length text)
Passed A limits (make_dir dir name sattr) = NewName A limits dir name 0
Passed A limits (remove_dir dir name) = OldName A dir name × (is_dir (entry_at A (target A (at A dir) name)) ≡ true)
    × (nat_lt 0 (length (names_of (entry_at A (target A (at A dir) name)))) ≡ false)
Passed A limits (read_dir dir cookie count) = IsDirAt A dir
Passed A limits (stat_fs node) = IsLiveAt A (at A node)

in_dir_is : (A : List Entry) (dir name : List ℕ) → is_stale A dir ≡ false → not (is_dir (entry_at A (at A dir))) ≡ false → is_bad name ≡ false → InDir A dir name
in_dir_is A dir name fresh kind good = record {
  live = live_at A dir fresh;
  kind = not-false (is_dir (entry_at A (at A dir))) kind;
  good = good;
}

old_is : (A : List Entry) (dir name : List ℕ) → is_stale A dir ≡ false → not (is_dir (entry_at A (at A dir))) ≡ false → is_bad name ≡ false →
    is_dot name ≡ false → not (has_name A (at A dir) name) ≡ false → OldName A dir name
old_is A dir name fresh kind good no_dot has =
    record { in_dir = in_dir_is A dir name fresh kind good; no_dot = no_dot; has = not-false (has_name A (at A dir) name) has }

new_is : (A : List Entry) (limits : Limits) (dir name : List ℕ) (bytes : ℕ) → is_stale A dir ≡ false → not (is_dir (entry_at A (at A dir))) ≡ false →
    is_bad name ≡ false → is_dot name ≡ false → has_name A (at A dir) name ≡ false → no_new A limits bytes ≡ false → NewName A limits dir name bytes
new_is A limits dir name bytes fresh kind good no_dot absent room =
    record { in_dir = in_dir_is A dir name fresh kind good; no_dot = no_dot; absent = absent; room = room }

-- the one place where tests are found by their places in the list
pub passed : (A : List Entry) (limits : Limits) (call : Call) → AllFalse (refusals A limits call) → Passed A limits call
passed A limits null f = tt
passed A limits root f = tt
passed A limits write_cache f = tt
passed A limits (get_attr node) f = live_at A node f.0
passed A limits (set_attr node sattr) f = record {
  live = live_at A node f.0;
  no_dir = f.1.0;
  no_link = f.1.1.0;
  small = f.1.1.1.0;
  room = f.1.1.1.1.0;
}
passed A limits (lookup dir name) f = record { in_dir = in_dir_is A dir name f.0 f.1.0 f.1.1.0; found = f.1.1.1.0 }
passed A limits (read_link node) f = (live_at A node f.0, not-false (is_link (entry_at A (at A node))) f.1.0)
passed A limits (read file offset count) f = record { live = live_at A file f.0; no_dir = f.1.0; no_link = f.1.1.0 }
passed A limits (write file offset bytes) f =
    (record { live = live_at A file f.0; no_dir = f.1.0; no_link = f.1.1.0 }, f.1.1.1.0, f.1.1.1.1.0)
passed A limits (create dir name sattr) f = record {
  in_dir = in_dir_is A dir name f.0 f.1.0 f.1.1.0;
  no_dot = f.1.1.1.0;
  file = f.1.1.1.1.0;
  small = f.1.1.1.1.1.0;
  room = f.1.1.1.1.1.1.0;
}
passed A limits (remove dir name) f = (old_is A dir name f.0 f.1.0 f.1.1.0 f.1.1.1.0 f.1.1.1.1.0, f.1.1.1.1.1.0)
passed A limits (rename from name to to_name) f =
    let dots = or_parts (is_dot name) (is_dot to_name) f.1.1.1.1.1.1.0 in
    record {
      from_live = live_at A from f.0;
      to_live = live_at A to f.1.0;
      from_dir = not-false (is_dir (entry_at A (at A from))) f.1.1.0;
      to_dir = not-false (is_dir (entry_at A (at A to))) f.1.1.1.0;
      good = f.1.1.1.1.0;
      to_good = f.1.1.1.1.1.0;
      no_dot = dots.0;
      to_no_dot = dots.1;
      has = not-false (has_name A (at A from) name) f.1.1.1.1.1.1.1.0;
      over_dir = f.1.1.1.1.1.1.1.1.0;
      dir_over = f.1.1.1.1.1.1.1.1.1.0;
      over_names = f.1.1.1.1.1.1.1.1.1.1.0;
      not_below = f.1.1.1.1.1.1.1.1.1.1.1.0;
    }
passed A limits (link node dir name) f = record {
  live = live_at A node f.0;
  no_dir = f.1.1.0;
  in_dir = in_dir_is A dir name f.1.0 f.1.1.1.0 f.1.1.1.1.0;
  no_dot = f.1.1.1.1.1.0;
  absent = f.1.1.1.1.1.1.0;
  room = f.1.1.1.1.1.1.1.0;
}
passed A limits (symlink dir name text sattr) f = new_is A limits dir name (length text) f.0 f.1.0 f.1.1.0 f.1.1.1.0 f.1.1.1.1.0 f.1.1.1.1.1.0
passed A limits (make_dir dir name sattr) f = new_is A limits dir name 0 f.0 f.1.0 f.1.1.0 f.1.1.1.0 f.1.1.1.1.0 f.1.1.1.1.1.0
passed A limits (remove_dir dir name) f = (
  old_is A dir name f.0 f.1.0 f.1.1.0 f.1.1.1.0 f.1.1.1.1.0,
  not-false (is_dir (entry_at A (target A (at A dir) name))) f.1.1.1.1.1.0,
  f.1.1.1.1.1.1.0,
)
passed A limits (read_dir dir cookie count) f = record { live = live_at A dir f.0; kind = not-false (is_dir (entry_at A (at A dir))) f.1.0 }
passed A limits (stat_fs node) f = live_at A node f.0
