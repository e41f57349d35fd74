-- The object of a call that writes a file or sets attributes (RFC 1094, 2.2.3 and 2.2.9).
use Rattle.std.specs.Prelude.{◌≡◌, ℕ, ◌+◌, max, List, ◌∷◌, [], length, ◌&&◌, nat_lt, is_some, unwrap_or, Option, Some}
use Rattle.nfs2_types.specs.declared.Limits.{Limits}
use Rattle.nfs2_types.specs.declared.Stat.{Stat}
use Rattle.nfs2_types.specs.declared.stat.TheConstants.{ISDIR, ACCES, FBIG, NOSPC}
use Rattle.server_trait.specs.declared.server.NodeAttr.{NodeAttr}
use Rattle.server_trait.specs.declared.bench.ConfEntry.{ConfEntry}
use Rattle.abs_model.specs.declared.entry.Entry.{Entry}
use Rattle.abs_model.specs.Objects.{is_dir, is_link, bytes_of}
use Rattle.abs_model.specs.Array.{entry_at, live}
use Rattle.abs_model.specs.Machine.{Refusal, ◌answers◌, first_of, file_limit, no_room}
use Rattle.conf_map.specs.Found.{IsSeen, is_dir_kind, is_link_kind}
use Rattle.conf_map.specs.Tables.{IsLive}
use Rattle.wrap_write.specs.declared.target.Target.{Target}

-- the handle names a live object, and the server told of it
pub record IsTarget (A : List Entry) (rows : List ConfEntry) (node : List ℕ) (o : Target) : Type 0 where
  pub is_index : live A node ≡ Some o.at.index
  pub live : IsLive rows o.at
  pub seen : IsSeen (entry_at A o.at.index) o.attr

-- the first refusal of what is no file
abbrev pub no_file : NodeAttr → Option Stat
no_file a = first_of ((is_dir_kind a.kind answers ISDIR) ∷ (is_link_kind a.kind answers ACCES) ∷ [])

-- the first refusal of bytes that end there and come in place of others
abbrev pub no_space : List Entry → Limits → ℕ → ℕ → ℕ → Option Stat
no_space A limits goes end comes =
    first_of ((nat_lt file_limit end answers FBIG) ∷ (no_room A limits goes comes answers NOSPC) ∷ [])

-- the tests of an entry at which bytes are written
abbrev pub write_tests : List Entry → Limits → Entry → ℕ → ℕ → List Refusal
write_tests A limits e offset count =
    (is_dir e answers ISDIR) ∷
    (is_link e answers ACCES) ∷
    (nat_lt 0 count && nat_lt file_limit (offset + count) answers FBIG) ∷
    (nat_lt 0 count && no_room A limits (length (bytes_of e))
    (max (length (bytes_of e)) (offset + count)) answers
    NOSPC) ∷ []

-- the tests of an entry that gets a size, if one is given
abbrev pub size_tests : List Entry → Limits → Entry → Option ℕ → List Refusal
size_tests A limits e size =
    (is_some size && is_dir e answers ISDIR) ∷
    (is_some size && is_link e answers ACCES) ∷
    (is_some size && nat_lt file_limit (unwrap_or size 0) answers FBIG) ∷
    (is_some size && no_room A limits (length (bytes_of e)) (unwrap_or size 0) answers NOSPC) ∷ []
