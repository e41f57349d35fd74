-- Staged objects come under their names. The first name of an object is moved out of staging, each further one is a
-- link.
use Rattle.std.specs.Prelude.{◌≡◌, ◌<◌, ℕ, zero, suc, List, [], Bool, false, length, slice_set, get_or, slice_get, Some}
use Rattle.server_trait.specs.Tree.{Tree}
use Rattle.server_trait.specs.declared.server.ServerLimits.{ServerLimits}
use Rattle.server_trait.specs.declared.bench.ConfTable.{ConfTable}
use Rattle.abs_model.specs.declared.entry.NameRow.{NameRow}
use Rattle.abs_model.specs.declared.entry.Entry.{Entry}
use Rattle.abs_model.specs.Objects.{names_of}
use Rattle.abs_model.specs.Array.{entry_at}
use Rattle.staging.specs.Place.{put_in}
use Rattle.staging.specs.Put.{CanPut, let_out}
use Rattle.staging.specs.Staged.{Staged}

-- ONE DIRECTORY

abbrev pub row_at : List NameRow → ℕ → NameRow
row_at rows k = get_or rows k (record { name = []; index = 0; generation = 0 })

-- whether an index stands in staging
abbrev pub bit_at : List Bool → ℕ → Bool
bit_at bits i = get_or bits i false

-- the array after the first names of a directory, what is staged still, and staging's names
abbrev pub put_to : List Entry → ℕ → List NameRow → ℕ → List Entry
put_to A d rows zero = A
put_to A d rows (suc k) = put_in (put_to A d rows k) d (row_at rows k)

abbrev pub bits_to : List Bool → List NameRow → ℕ → List Bool
bits_to bits rows zero = bits
bits_to bits rows (suc k) = slice_set (bits_to bits rows k) (row_at rows k).index false

abbrev pub out_to : List NameRow → List Bool → List NameRow → ℕ → List NameRow
out_to S bits rows zero = S
out_to S bits rows (suc k) =
    let_out (out_to S bits rows k) (bit_at (bits_to bits rows k) (row_at rows k).index) (row_at rows k)

-- each name can be put in when its turn comes
abbrev pub CanPutEach : ServerLimits → List Entry → List Entry → List NameRow → List Bool → ℕ → List NameRow → Type 0
CanPutEach most A C S bits d rows = (k : ℕ) → k < length rows → CanPut most (put_to A d rows k) C (out_to S bits rows k)
    (bit_at (bits_to bits rows k) (row_at rows k).index) d (row_at rows k)

pub record CanNameDir (t : Tree) (most : ServerLimits) (area : List ℕ) (table : ConfTable) (A C : List Entry)
    (S : List NameRow) (bits : List Bool) (d : ℕ) (rows : List NameRow) : Type 0 where
  pub staged : Staged t area table A S
  pub each : CanPutEach most A C S bits d rows

-- ALL DIRECTORIES

-- the array after the names of the first directories, what is staged still, and staging's names
abbrev pub named_to : List Entry → List Entry → ℕ → List Entry
named_to A C zero = A
named_to A C (suc d) =
    put_to (named_to A C d) d (names_of (entry_at C d)) (length (names_of (entry_at C d)))

abbrev pub all_bits_to : List Bool → List Entry → ℕ → List Bool
all_bits_to bits C zero = bits
all_bits_to bits C (suc d) =
    bits_to (all_bits_to bits C d) (names_of (entry_at C d)) (length (names_of (entry_at C d)))

abbrev pub all_out_to : List NameRow → List Bool → List Entry → ℕ → List NameRow
all_out_to S bits C zero = S
all_out_to S bits C (suc d) =
    out_to (all_out_to S bits C d) (all_bits_to bits C d) (names_of (entry_at C d)) (length (names_of (entry_at C d)))

-- names lead within the list of what is staged
abbrev pub LeadWithin : List Entry → List Bool → Type 0
LeadWithin C bits = (d k : ℕ) (r : NameRow) → slice_get (names_of (entry_at C d)) k ≡ Some r → r.index < length bits

pub record CanName (t : Tree) (most : ServerLimits) (area : List ℕ) (table : ConfTable) (A C : List Entry)
    (S : List NameRow) (bits : List Bool) : Type 0 where
  pub staged : Staged t area table A S
  pub each : (d : ℕ) → d < length C →
      CanPutEach most (named_to A C d) C (all_out_to S bits C d) (all_bits_to bits C d) d (names_of (entry_at C d))
