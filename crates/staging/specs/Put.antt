-- A staged object comes under a name: its first name is moved out of staging, each further one is a link.
use Rattle.std.specs.Prelude.{◌≡◌, ◌<◌, ◌+◌, ◌*◌, ℕ, List, Bool, true, false, if◌then◌else◌, not, length, slice_get, Some, None, count_by}
use Rattle.std.specs.Fmt.{decimal}
use Rattle.std.specs.FinMap.{len}
use Rattle.nfs2_types.specs.declared.Limits.{Limits}
use Rattle.nfs2_types.specs.Names.{is_name}
use Rattle.server_trait.specs.Tree.{Tree, names_in, used}
use Rattle.server_trait.specs.Step.{IsNo, LacksName}
use Rattle.server_trait.specs.declared.server.ServerLimits.{ServerLimits}
use Rattle.server_trait.specs.declared.bench.ConfTable.{ConfTable}
use Rattle.abs_model.specs.declared.entry.NameRow.{NameRow}
use Rattle.abs_model.specs.declared.entry.Entry.{Entry}
use Rattle.abs_model.specs.Objects.{is_dir, is_null, names_of, row_of, without}
use Rattle.abs_model.specs.Array.{entry_at}
use Rattle.abs_model.specs.Array as array
use Rattle.abs_model.specs.Valid.{Valid, is_rising}
use Rattle.conf_map.specs.Fresh.{HoldsUpTo}
use Rattle.staging.specs.Place.{AreAmong}
use Rattle.staging.specs.Staged.{Staged, StandOnce}

-- a file or a link can have a name more
pub record CanLink (t : Tree) (limits : ServerLimits) (h dir name : List ℕ) : Type 0 where
  pub other : IsNo names_in t h
  pub free : LacksName t dir name
  pub room : HoldsUpTo limits (len t.nodes) (used t + 512)

-- the server has room for these entries with so many names in staging, and for one more name
pub record HasRoomForName (limits : ServerLimits) (A : List Entry) (S : List NameRow) : Type 0 where
  pub rising : (i : ℕ) (e : Entry) → slice_get A i ≡ Some e → is_rising (names_of e) ≡ true
  pub once : StandOnce S
  pub room : HoldsUpTo limits (2 + count_by (λ e. not (is_null e)) A) (1024 + (array.used A + 512 * length S) + 512)

-- what is to be linked is live, and no directory
pub record IsLinkable (limits : ServerLimits) (A : List Entry) (S : List NameRow) (i : ℕ) : Type 0 where
  pub live : is_null (entry_at A i) ≡ false
  pub other : is_dir (entry_at A i) ≡ false
  pub room : HasRoomForName limits A S

-- All names of A are names of the valid array C, which has this name in a directory that lacks it still. What it
-- leads to is staged, or can have one name more.
pub record CanPut (most : ServerLimits) (A C : List Entry) (S : List NameRow) (is_staged : Bool) (d : ℕ)
    (row : NameRow) : Type 0 where
  pub limits : Limits
  pub valid : Valid limits C
  pub among : AreAmong A C
  pub within : d < length A
  pub is_dir : is_dir (entry_at A d) ≡ true
  pub has : row_of row.name (names_of (entry_at C d)) ≡ Some row
  pub lacks : row_of row.name (names_of (entry_at A d)) ≡ None
  pub good : is_name row.name ≡ true
  pub moves : is_staged ≡ true → (r : NameRow) × (row_of (decimal row.index) S ≡ Some r) × (r.index ≡ row.index)
  pub links : is_staged ≡ false → IsLinkable most A S row.index

pub record CanPutAt (t : Tree) (most : ServerLimits) (area : List ℕ) (table : ConfTable) (A C : List Entry)
    (S : List NameRow) (is_staged : Bool) (d : ℕ) (row : NameRow) : Type 0 where
  pub staged : Staged t area table A S
  pub can : CanPut most A C S is_staged d row

-- staging's names after it
abbrev pub let_out : List NameRow → Bool → NameRow → List NameRow
let_out S is_staged row = if is_staged then without (decimal row.index) S else S
