-- Words for parts of the refusals.
use Rattle.std.specs.Prelude.{ℕ, List, Bool, ◌&&◌, if◌then◌else◌, length, is_some, unwrap_or}
use Rattle.nfs2_types.specs.declared.Limits.{Limits}
use Rattle.nfs2_types.specs.declared.Sattr.{Sattr}
use Rattle.abs_model.specs.declared.Entry.{Entry}
use Rattle.abs_model.specs.Objects.{bytes_of}
use Rattle.abs_model.specs.Array.{entry_at, has_name, target}
use Rattle.abs_model.specs.Machine.{no_room, no_new}

-- CREATE finds no space
abbrev pub no_file : List Entry → Limits → ℕ → List ℕ → Sattr → Bool
no_file A limits d name s =
    let size = unwrap_or s.size 0 in
    if has_name A d name
    then is_some s.size && no_room A limits (length (bytes_of (entry_at A (target A d name)))) size
    else no_new A limits size

-- limits for a call whose refusals are the same at all limits
abbrev pub any_limits : Limits
any_limits = record { n = 0; k = 0; t = 0; f = 0 }
