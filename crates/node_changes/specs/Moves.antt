-- A name that moves to one that is free (RFC 1094, 2.2.12).
use Rattle.std.specs.Prelude.{◌≡◌, ◌≢◌, ℕ, List, true, false}
use Rattle.nfs2_types.specs.declared.Time.{Time}
use Rattle.nfs2_types.specs.Names.{is_name}
use Rattle.server_trait.specs.Tree.{Server}
use Rattle.server_trait.specs.declared.bench.ConfTable.{ConfTable}
use Rattle.abs_model.specs.declared.entry.Change.{Change}
use Rattle.abs_model.specs.declared.entry.Entry.{Entry}
use Rattle.abs_model.specs.Objects.{is_dir, names_of}
use Rattle.abs_model.specs.Array.{entry_at, has_name}
use Rattle.abs_model.specs.Machine.{rows_move, row_to}
use Rattle.abs_model.specs.Valid.{is_rising, Walk}
use Rattle.conf_map.specs.Found.{IsLed}
use Rattle.conf_map.specs.Stands.{Stands}
use Rattle.conf_map.specs.Tallied.{Tallied}
use Rattle.conf_map.specs.Tables.{IsLive}
use Rattle.conf_map.specs.declared.table.Located.{Located}

-- a name moves, and leads to the same object
abbrev pub name_moves : List Entry → ℕ → List ℕ → ℕ → List ℕ → ℕ → Time → List Change
name_moves A d name e to_name i t = rows_move A d name e (row_to to_name i (entry_at A i).generation) t

-- A server and a table, which stand for an array in which a name of one directory leads to an object, and another
-- directory, which does not lie below that object, lacks the other name.
pub record CanMove (server : Server) (table : ConfTable) (A : List Entry) (name to_name : List ℕ)
    (d e o : Located)
    : Type 0 where
  pub stands : Stands server.tree table A
  pub tallied : Tallied table A
  pub from_live : IsLive table.rows.items d
  pub to_live : IsLive table.rows.items e
  pub from_dir : is_dir (entry_at A d.index) ≡ true
  pub to_dir : is_dir (entry_at A e.index) ≡ true
  pub good : is_name name ≡ true
  pub to_good : is_name to_name ≡ true
  pub led : IsLed A table.rows.items d.index name o
  pub lacks : has_name A e.index to_name ≡ false
  pub rising : is_rising (names_of (entry_at A d.index)) ≡ true
  pub not_root : o.index ≢ 0
  pub apart : d.index ≢ o.index
  pub not_below : is_dir (entry_at A o.index) ≡ true → (k : ℕ) → Walk A k o.index e.index → ⊥
