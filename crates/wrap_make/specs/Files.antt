-- What CREATE finds, and what it does to a file that is there (RFC 1094, 2.2.10).
use Rattle.std.specs.Prelude.{◌≡◌, ℕ, ◌≤◌, List, ◌∷◌, [], length, true, false, not, ◌&&◌, nat_lt, if◌then◌else◌, Option, Some, None, is_some, unwrap_or, Result, Ok, Err}
use Rattle.nfs2_types.specs.declared.Limits.{Limits}
use Rattle.nfs2_types.specs.declared.Sattr.{Sattr}
use Rattle.nfs2_types.specs.declared.Time.{Time}
use Rattle.nfs2_types.specs.declared.stat.TheConstants.{EXIST, FBIG, NOSPC}
use Rattle.nfs2_types.specs.Bytes.{resized}
use Rattle.server_trait.specs.Tree.{Server}
use Rattle.server_trait.specs.declared.bench.ConfEntry.{ConfEntry}
use Rattle.server_trait.specs.declared.bench.ConfTable.{ConfTable}
use Rattle.abs_model.specs.declared.entry.Change.{Change}
use Rattle.abs_model.specs.declared.entry.Entry.{Entry}
use Rattle.abs_model.specs.Objects.{is_file, bytes_of}
use Rattle.abs_model.specs.Array.{entry_at, at, has_name, target}
use Rattle.abs_model.specs.Machine.{Refusal, ◌answers◌, file_limit, no_new, no_room, to_be, with_bytes}
use Rattle.abs_model.specs.Valid.{Valid}
use Rattle.conf_map.specs.Stands.{Stands, AreWithin, HasRoom}
use Rattle.conf_map.specs.Tallied.{Tallied}
use Rattle.conf_map.specs.Tables.{IsLive}
use Rattle.conf_map.specs.declared.table.Located.{Located}
use Rattle.node_changes.specs.declared.add.Place.{Place}
use Rattle.wrap_make.specs.Places.{IsIndex, IsPlace}
use Rattle.wrap_make.specs.declared.spot.Spot.{Spot}
use Rattle.wrap_make.specs.declared.spot.Spot.TheVariants.{Free, Taken}

-- the tests of a call that gives this size to what stands at an index
abbrev pub present_tests : List Entry → Limits → ℕ → Option ℕ → List Refusal
present_tests A limits i size =
    (not (is_file (entry_at A i)) answers EXIST) ∷
    (nat_lt file_limit (unwrap_or size 0) answers FBIG) ∷
    (is_some size && no_room A limits (length (bytes_of (entry_at A i))) (unwrap_or size 0) answers NOSPC) ∷ []

-- and of one that makes a file of this size
abbrev pub new_file_tests : List Entry → Limits → ℕ → List Refusal
new_file_tests A limits size = (nat_lt file_limit size answers FBIG) ∷ (no_new A limits size answers NOSPC) ∷ []

-- the index of a new file of this size
abbrev pub IsFileIndex : List Entry → Limits → ℕ → ℕ → Type 0
IsFileIndex A limits size i = IsIndex A limits size i × (size ≤ 1048576)

-- a file can be given this size, if one is given: it is not too large, and its bytes have space
pub record CanHave (A : List Entry) (limits : Limits) (i : ℕ) (size : Option ℕ) : Type 0 where
  pub is_file : is_file (entry_at A i) ≡ true
  pub small : unwrap_or size 0 ≤ 1048576
  pub space : is_some size ≡ true → no_room A limits (length (bytes_of (entry_at A i))) (unwrap_or size 0)
      ≡ false

-- a file of this size, which can be given the other
pub record IsPresent (A : List Entry) (limits : Limits) (i : ℕ) (size : Option ℕ) (before : ℕ) : Type 0 where
  pub is_size : length (bytes_of (entry_at A i)) ≡ before
  pub can_have : CanHave A limits i size

-- the name leads to a file of this size
pub record IsOldFile (A : List Entry) (limits : Limits) (rows : List ConfEntry) (dir name : List ℕ)
    (sattr : Sattr)
    (o : Located) (before : ℕ) : Type 0 where
  pub has : has_name A (at A dir) name ≡ true
  pub target : target A (at A dir) name ≡ o.index
  pub live : IsLive rows o
  pub present : IsPresent A limits o.index sattr.size before

-- a new file has its place
pub record IsNewFile (A : List Entry) (limits : Limits) (rows : List ConfEntry) (dir name : List ℕ)
    (sattr : Sattr)
    (p : Place) : Type 0 where
  pub place : IsPlace A limits rows dir name (unwrap_or sattr.size 0) p
  pub small : unwrap_or sattr.size 0 ≤ 1048576

-- the file that is there, or the place of a new one
abbrev pub IsSpot : List Entry → Limits → List ConfEntry → List ℕ → List ℕ → Sattr → Spot → Type 0
IsSpot A limits rows dir name sattr (Free p) = IsNewFile A limits rows dir name sattr p
IsSpot A limits rows dir name sattr (Taken o before) = IsOldFile A limits rows dir name sattr o before

-- a size that is given cuts or fills the file, which is written; without one nothing changes
abbrev pub resizes : List Entry → ℕ → Option ℕ → Time → List Change
resizes A i size t =
    if is_some size then to_be i (with_bytes (resized (unwrap_or size 0)) t (entry_at A i)) ∷ [] else []

-- what is told of it
abbrev pub told_sized : ℕ → Option ℕ → List ℕ
told_sized i size = if is_some size then i ∷ [] else []

-- A server and a table, which stand for a valid array, and in which a file can be given this size, if one is
-- given.
pub record CanGive (server : Server) (table : ConfTable) (A : List Entry) (before : ℕ) (size : Option ℕ)
    (o : Located) : Type 0 where
  pub limits : Limits
  pub within : AreWithin limits
  pub valid : Valid limits A
  pub stands : Stands server.tree table A
  pub tallied : Tallied table A
  pub room : HasRoom limits server.limits
  pub live : IsLive table.rows.items o
  pub present : IsPresent A limits o.index size before
