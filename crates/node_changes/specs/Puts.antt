-- When bytes can be put into a file, and when it can be cut or filled (RFC 1094, 2.2.3, 2.2.9 and 2.2.10).
use Rattle.std.specs.Prelude.{◌≡◌, ℕ, ◌+◌, ◌-◌, ◌≤◌, ◌==◌, if◌then◌else◌, max, List, length, set, true, Some}
use Rattle.std.specs.FinMap.{len}
use Rattle.nfs2_types.specs.declared.Limits.{Limits}
use Rattle.nfs2_types.specs.declared.Time.{Time}
use Rattle.server_trait.specs.Tree.{Tree, Server, bytes_at}
use Rattle.server_trait.specs.Tree as trees
use Rattle.server_trait.specs.declared.bench.ConfTable.{ConfTable}
use Rattle.abs_model.specs.declared.entry.Entry.{Entry}
use Rattle.abs_model.specs.Objects.{is_file, bytes_of}
use Rattle.abs_model.specs.Array.{entry_at, used}
use Rattle.abs_model.specs.Machine.{with_bytes}
use Rattle.abs_model.specs.Valid.{Valid}
use Rattle.conf_map.specs.Fresh.{HoldsUpTo}
use Rattle.conf_map.specs.Stands.{Stands, AreWithin, HasRoom}
use Rattle.conf_map.specs.Tallied.{Tallied}
use Rattle.conf_map.specs.Tables.{IsLive}
use Rattle.conf_map.specs.declared.table.Located.{Located}

-- THE SERVER

-- the server has a file of these bytes, and room for it to have so many bytes instead
pub record CanHold (s : Server) (file bytes : List ℕ) (size : ℕ) : Type 0 where
  pub tree : Tree
  pub has_tree : s.tree ≡ Some tree
  pub has_bytes : bytes_at tree file ≡ Some bytes
  pub room : HoldsUpTo s.limits (len tree.nodes) ((trees.used tree - length bytes) + size)
  pub small : size ≤ 8388608

-- the size of a file after so many bytes were put at an offset
abbrev pub size_after : ℕ → ℕ → ℕ → ℕ
size_after offset count size = if count == 0 then size else max size (offset + count)

-- SERVER AND TABLE

-- in place of so many bytes of all that are in use a file may have so many: at most a mebibyte, within the
-- limit
pub record Suits (limits : Limits) (all goes size : ℕ) : Type 0 where
  pub space : all + size ≤ limits.t + goes
  pub small : size ≤ 1048576

-- A server and a table, which stand for a valid array, and in which a file of this size can have that size.
pub record CanResize (server : Server) (table : ConfTable) (A : List Entry) (before after : ℕ) (o : Located)
    : Type 0 where
  pub limits : Limits
  pub within : AreWithin limits
  pub valid : Valid limits A
  pub stands : Stands server.tree table A
  pub tallied : Tallied table A
  pub room : HasRoom limits server.limits
  pub live : IsLive table.rows.items o
  pub is_file : is_file (entry_at A o.index) ≡ true
  pub is_size : length (bytes_of (entry_at A o.index)) ≡ before
  pub suits : Suits limits (used A) before after

-- the same for the size that the file has after so many bytes were put at an offset
abbrev pub CanWrite : Server → ConfTable → List Entry → ℕ → ℕ → ℕ → Located → Type 0
CanWrite server table A size offset count o = CanResize server table A size (size_after offset count size) o

-- the array with other bytes in a file, which is written
abbrev pub with_bytes_at : List Entry → ℕ → (List ℕ → List ℕ) → Time → List Entry
with_bytes_at A i f t = set A i (with_bytes f t (entry_at A i))
