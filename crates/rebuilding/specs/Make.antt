-- Objects are made in the staging directory, each under its index in decimal, with their bytes.
use Rattle.std.specs.Prelude.{◌≡◌, ◌≢◌, ◌<◌, ◌≤◌, ◌+◌, ◌*◌, ◌^◌, ℕ, zero, suc, List, Bool, true, false, not, if◌then◌else◌, length, slice_get, get_or, Some, None, count_by}
use Rattle.std.specs.Fmt.{decimal}
use Rattle.server_trait.specs.Tree.{Tree}
use Rattle.server_trait.specs.declared.server.ServerLimits.{ServerLimits}
use Rattle.server_trait.specs.declared.bench.ConfTable.{ConfTable}
use Rattle.abs_model.specs.declared.entry.NameRow.{NameRow}
use Rattle.abs_model.specs.declared.entry.Entry.{Entry}
use Rattle.abs_model.specs.Objects.{is_null, bytes_of, names_of, row_of}
use Rattle.abs_model.specs.Array.{entry_at}
use Rattle.abs_model.specs.Array as array
use Rattle.abs_model.specs.Valid.{is_rising}
use Rattle.conf_map.specs.Fresh.{HoldsUpTo}
use Rattle.staging.specs.Begin.{CanBegin, begun_at, begun_bytes, staged_with}
use Rattle.staging.specs.Fill.{file_bytes, filled_at}
use Rattle.staging.specs.Staged.{Staged, StandOnce}

-- whether an index keeps its object; what is past the end does
abbrev pub stays_at : List Bool → ℕ → Bool
stays_at stays i = get_or stays i true

-- of so many indexes the first alone keeps its object
pub record FirstAlone (n : ℕ) (stays : List Bool) : Type 0 where
  pub first : stays_at stays 0 ≡ true
  pub others : (i : ℕ) → i ≢ 0 → i < n → stays_at stays i ≡ false

-- the array, and staging's names, after one index
abbrev pub made_at : List Entry → ℕ → Bool → Entry → List Entry
made_at A i stay e = if stay then A else filled_at A i e

abbrev pub staged_at : List NameRow → ℕ → Bool → Entry → List NameRow
staged_at S i stay e = if stay then S else staged_with S i e

-- and after the first indexes
abbrev pub made_to : List Entry → List Entry → List Bool → ℕ → List Entry
made_to A after stays zero = A
made_to A after stays (suc n) = made_at (made_to A after stays n) n (stays_at stays n) (entry_at after n)

abbrev pub staged_to : List NameRow → List Entry → List Bool → ℕ → List NameRow
staged_to S after stays zero = S
staged_to S after stays (suc n) = staged_at (staged_to S after stays n) n (stays_at stays n) (entry_at after n)

-- once an object has begun there is room for its bytes
pub record HasRoomToFill (limits : ServerLimits) (A : List Entry) (S : List NameRow) (i : ℕ) (e : Entry) : Type 0 where
  pub small : length (file_bytes e) ≤ 1048576
  pub rising : (j : ℕ) (x : Entry) → slice_get (begun_at A i e) j ≡ Some x → is_rising (names_of x) ≡ true
  pub once : StandOnce (staged_with S i e)
  pub room : HoldsUpTo limits (2 + count_by (λ e. not (is_null e)) (begun_at A i e))
      (1024 + (array.used (begun_at A i e) + 512 * length (staged_with S i e)) + length (file_bytes e))

-- Tree and table stand for the array with what is staged, and what is not to begin stays.
pub record CanMakeAt (t : Tree) (limits : ServerLimits) (area : List ℕ) (table : ConfTable) (A : List Entry)
    (S : List NameRow) (i : ℕ) (stay : Bool) (e : Entry) : Type 0 where
  pub staged : Staged t area table A S
  pub begins : stay ≡ false → CanBegin t limits area table A S i e
  pub fills : stay ≡ false → is_null e ≡ false → HasRoomToFill limits A S i e

-- the server has room for these entries with so many names in staging, and for one more node with its name and its
-- bytes
abbrev pub HasRoomBeside : ServerLimits → List Entry → List NameRow → ℕ → Type 0
HasRoomBeside limits A S bytes =
    HoldsUpTo limits (2 + count_by (λ e. not (is_null e)) A + 1)
    (1024 + (array.used A + 512 * length S) + (512 + bytes))

-- All that doesn't stay is null, staging lacks its names, and each object finds room when its turn comes.
pub record CanMake (t : Tree) (limits : ServerLimits) (area : List ℕ) (table : ConfTable) (A : List Entry)
    (S : List NameRow) (after : List Entry) (stays : List Bool) : Type 0 where
  pub staged : Staged t area table A S
  pub size : length after ≡ length A
  pub few : length A < 2 ^ 32
  pub null : (i : ℕ) → i < length A → stays_at stays i ≡ false → is_null (entry_at A i) ≡ true
  pub free : (i : ℕ) → i < length A → stays_at stays i ≡ false → row_of (decimal i) S ≡ None
  pub texts : (i : ℕ) → i < length A → begun_bytes (entry_at after i) ≤ 1024
  pub small : (i : ℕ) → i < length A → length (file_bytes (entry_at after i)) ≤ 1048576
  pub rising : (i : ℕ) (e : Entry) → slice_get A i ≡ Some e → is_rising (names_of e) ≡ true
  pub once : StandOnce S
  pub room : (i : ℕ) → i < length A → stays_at stays i ≡ false → is_null (entry_at after i) ≡ false →
      HasRoomBeside limits (made_to A after stays i) (staged_to S after stays i) (length (bytes_of (entry_at after i)))
