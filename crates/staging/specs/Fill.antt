-- A file that has just begun gets its bytes.
use Rattle.std.specs.Prelude.{◌≡◌, ◌≤◌, ◌+◌, ℕ, List, [], length, set, slice_get, Some}
use Rattle.std.specs.FinMap.{len}
use Rattle.server_trait.specs.Tree.{Tree, used}
use Rattle.server_trait.specs.declared.server.ServerLimits.{ServerLimits}
use Rattle.server_trait.specs.declared.bench.ConfTable.{ConfTable}
use Rattle.abs_model.specs.declared.entry.NameRow.{NameRow}
use Rattle.abs_model.specs.declared.entry.Object.TheVariants.{Null, File, Dir, Link}
use Rattle.abs_model.specs.declared.entry.Entry.{Entry}
use Rattle.conf_map.specs.Fresh.{HoldsUpTo}
use Rattle.staging.specs.Forms.{begun, whole}
use Rattle.staging.specs.Staged.{Staged}

-- the bytes of a file; what is none has none
abbrev pub file_bytes : Entry → List ℕ
file_bytes e = elim e.object [ Null ↦ [] | File attr bytes ↦ bytes | Dir attr names ↦ [] | Link attr text ↦ [] ]

-- tree and table stand for an array in which an object has begun, and there is room for its bytes
pub record CanFill (t : Tree) (limits : ServerLimits) (area : List ℕ) (table : ConfTable) (A : List Entry)
    (S : List NameRow) (i : ℕ) (e : Entry) : Type 0 where
  pub staged : Staged t area table A S
  pub begun : slice_get A i ≡ Some (begun e)
  pub small : length (file_bytes e) ≤ 1048576
  pub room : HoldsUpTo limits (len t.nodes) (used t + length (file_bytes e))

-- the array with its bytes
abbrev pub filled_at : List Entry → ℕ → Entry → List Entry
filled_at A i e = set A i (whole e)
