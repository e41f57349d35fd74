-- One name: a staged object comes under a name of the array that is aimed at.
use Rattle.std.specs.Prelude.{◌≡◌, ℕ, List, true, Some, None, set}
use Rattle.nfs2_types.specs.declared.Limits.{Limits}
use Rattle.nfs2_types.specs.Names.{is_name}
use Rattle.server_trait.specs.Tree.{Tree}
use Rattle.server_trait.specs.declared.bench.ConfTable.{ConfTable}
use Rattle.abs_model.specs.declared.entry.NameRow.{NameRow}
use Rattle.abs_model.specs.declared.entry.Entry.{Entry}
use Rattle.abs_model.specs.Objects.{is_dir, names_of, row_of, placed}
use Rattle.abs_model.specs.Array.{entry_at, has_row_to}
use Rattle.abs_model.specs.Valid.{Valid}
use Rattle.conf_map.specs.Tables.{IsLive}
use Rattle.conf_map.specs.declared.table.Located.{Located}
use Rattle.staging.specs.Forms.{with_names}
use Rattle.staging.specs.Staged.{Staged}

-- an array's names are among those of another
abbrev pub AreAmong : List Entry → List Entry → Type 0
AreAmong A C = (d i : ℕ) → has_row_to i (entry_at A d) ≡ true → has_row_to i (entry_at C d) ≡ true

-- Tree and table stand for A with its staged objects. All names of A are names of the valid array C, which has this
-- name in a directory that lacks it still. What it leads to is staged.
pub record CanPlace (t : Tree) (area : List ℕ) (table : ConfTable) (A C : List Entry) (S : List NameRow)
    (staged_name : List ℕ) (d : Located) (row : NameRow) : Type 0 where
  pub limits : Limits
  pub valid : Valid limits C
  pub staged : Staged t area table A S
  pub among : AreAmong A C
  pub live : IsLive table.rows.items d
  pub is_dir : is_dir (entry_at A d.index) ≡ true
  pub has : row_of row.name (names_of (entry_at C d.index)) ≡ Some row
  pub lacks : row_of row.name (names_of (entry_at A d.index)) ≡ None
  pub good : is_name row.name ≡ true
  pub staged_row : NameRow
  pub stands_there : row_of staged_name S ≡ Some staged_row
  pub same_index : staged_row.index ≡ row.index

-- the array with the name in its directory
abbrev pub put_in : List Entry → ℕ → NameRow → List Entry
put_in A d row = set A d (with_names (placed row (names_of (entry_at A d))) (entry_at A d))
