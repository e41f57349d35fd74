-- Where a new object goes: the directory that gets its name, and the index that it takes (RFC 1094, 2.2.14 and
-- 2.2.15).
use Rattle.std.specs.Prelude.{◌≡◌, ℕ, ◌≤◌, ◌+◌, List, ◌∷◌, [], ◌++◌, true, false, Option, Some, None, Result, Ok, Err}
use Rattle.nfs2_types.specs.declared.Limits.{Limits}
use Rattle.nfs2_types.specs.declared.Stat.{Stat}
use Rattle.nfs2_types.specs.declared.Time.{Time}
use Rattle.nfs2_types.specs.declared.stat.TheConstants.{EXIST, NOSPC}
use Rattle.nfs2_types.specs.Names.{is_name, is_dot}
use Rattle.server_trait.specs.Tree.{Tree, Server}
use Rattle.server_trait.specs.declared.bench.ConfEntry.{ConfEntry}
use Rattle.server_trait.specs.declared.bench.ConfTable.{ConfTable}
use Rattle.abs_model.specs.declared.entry.Entry.{Entry}
use Rattle.abs_model.specs.declared.entry.Change.{Change}
use Rattle.abs_model.specs.declared.entry.Object.{Object}
use Rattle.abs_model.specs.Array.{entry_at, at, free, has_name, used}
use Rattle.abs_model.specs.Machine.{◌answers◌, first_of, in_dir, no_new}
use Rattle.conf_map.specs.Found.{IsDirCall}
use Rattle.conf_map.specs.declared.table.Located.{Located}
use Rattle.node_changes.specs.declared.add.Place.{Place}
use Rattle.node_changes.specs.News.{CanAdd, IsAdded, added, with_new}
use Rattle.node_changes.specs.Objects.{New}

-- the lowest free index, with space for one name and so many bytes more
pub record IsIndex (A : List Entry) (limits : Limits) (bytes index : ℕ) : Type 0 where
  pub is_free : free A ≡ Some index
  pub space : used A + (512 + bytes) ≤ limits.t

-- an index for a new object of so many bytes, if there are one and the space
abbrev pub IndexFound : List Entry → Limits → ℕ → Option ℕ → Type 0
IndexFound A limits bytes None = no_new A limits bytes ≡ true
IndexFound A limits bytes (Some index) = IsIndex A limits bytes index

-- the directory of a call lacks the name, and a new object of so many bytes has its index and its space
pub record IsPlace (A : List Entry) (limits : Limits) (rows : List ConfEntry) (dir name : List ℕ) (bytes : ℕ)
    (p : Place) : Type 0 where
  pub in_dir : IsDirCall A rows dir name p.dir
  pub no_dot : is_dot name ≡ false
  pub good : is_name name ≡ true
  pub lacks : has_name A p.dir.index name ≡ false
  pub index : IsIndex A limits bytes p.index

-- A server and a table, which stand for a valid array, and in which a new object can take the lowest free
-- index.
pub record CanMake (server : Server) (table : ConfTable) (A : List Entry) (name : List ℕ) (new : New)
    (p : Place) : Type 0 where
  pub can : CanAdd server table A name new p
  pub is_free : free A ≡ Some p.index

-- the generation of the next object at an index
abbrev pub next_generation : List Entry → ℕ → ℕ
next_generation A i = (entry_at A i).generation + 1

-- a directory is written, and an object takes an index at its next generation
abbrev pub added_next : List Entry → ℕ → ℕ → List ℕ → Time → Object → List Change
added_next A d i name t new = added A d i (next_generation A i) name t new

-- the array with the new object
abbrev pub with_next : List Entry → Place → List ℕ → Time → Object → List Entry
with_next A p name t new = with_new A p (next_generation A p.index) name t new

-- tree and table stand for it, and the object is live at its index
abbrev pub IsAddedNext : List Entry → Place → List ℕ → Time → Object → Option Tree → ConfTable → Located →
    Type 0
IsAddedNext A p name t new tree table at = IsAdded A p (next_generation A p.index) name t new tree table at
