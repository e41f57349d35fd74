-- Calls that only read (RFC 1094, 2.2), how they walk from a directory by a name, and which files they find.
use Rattle.std.specs.Prelude.{◌≡◌, ℕ, List, Bool, true, false, not, ◌&&◌, if◌then◌else◌, bytes_eq, Option, Some, None, slice_get}
use Rattle.std.specs.Option.{option_and_then, option_map}
use Rattle.nfs2_types.specs.Call.{Call, null, root, write_cache, get_attr, lookup, read_link, read, read_dir, stat_fs}
use Rattle.nfs2_types.specs.Names.{is_dot, name_dot, name_dots}
use Rattle.server_trait.specs.declared.bench.ConfEntry.{ConfEntry}
use Rattle.abs_model.specs.declared.entry.Entry.{Entry}
use Rattle.abs_model.specs.Objects.{is_file}
use Rattle.abs_model.specs.Array.{entry_at, live, at, parent, target, has_name}
use Rattle.conf_map.specs.declared.table.Located.{Located}
use Rattle.conf_map.specs.Stands.{handle_at}
use Rattle.conf_map.specs.Shown.{IsTold}
use Rattle.conf_map.specs.Tables.{IsLive}
use Rattle.wrap_read.specs.declared.content.OpenFile.{OpenFile}

-- a call that is answered by reading
abbrev pub is_read_call : Call → Bool
is_read_call null = true
is_read_call root = true
is_read_call write_cache = true
is_read_call (get_attr node) = true
is_read_call (lookup dir name) = true
is_read_call (read_link node) = true
is_read_call (read file offset count) = true
is_read_call (read_dir dir cookie count) = true
is_read_call (stat_fs node) = true
is_read_call _ = false

-- the row of a row's parent, and its node's handle
abbrev pub parent_in : List ConfEntry → ℕ → Option Located
parent_in rows i = option_and_then (λ (r : ConfEntry). option_map (λ h. record { index = r.parent; handle = h })
    (handle_at rows r.parent)) (slice_get rows i)

-- no name of the directory, and neither "." nor ".."
abbrev pub is_missing : List Entry → ℕ → List ℕ → Bool
is_missing A d name = not (is_dot name) && not (has_name A d name)

-- a name of a directory leads to a live object; "." to the directory, and ".." to its parent
pub record IsStep (A : List Entry) (rows : List ConfEntry) (d : ℕ) (name : List ℕ) (at : Located) : Type 0 where
  pub present : is_missing A d name ≡ false
  pub index : (if bytes_eq name name_dot then d else if bytes_eq name name_dots then parent A d else target A d name)
      ≡ at.index
  pub live : IsLive rows at

-- where a name of a directory leads, if it does
abbrev pub StepFound : List Entry → List ConfEntry → ℕ → List ℕ → Option Located → Type 0
StepFound A rows d name None = is_missing A d name ≡ true
StepFound A rows d name (Some at) = IsStep A rows d name at

-- the handle is that of a file, of which the server told this
pub record IsFileCall (A : List Entry) (rows : List ConfEntry) (file : List ℕ) (o : OpenFile) : Type 0 where
  pub is_index : live A file ≡ Some o.at.index
  pub live : IsLive rows o.at
  pub is_file : is_file (entry_at A o.at.index) ≡ true
  pub told : IsTold A rows o.at.index o.attr
