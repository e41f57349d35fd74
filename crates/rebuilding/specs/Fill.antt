-- An object's attributes, times and generation.
use Rattle.std.specs.Prelude.{◌≡◌, ◌<◌, ℕ, zero, suc, List, false, Option, Some, None, length}
use Rattle.server_trait.specs.Tree.{Tree}
use Rattle.server_trait.specs.declared.bench.ConfTable.{ConfTable}
use Rattle.abs_model.specs.declared.entry.NameRow.{NameRow}
use Rattle.abs_model.specs.declared.entry.Attr.{Attr}
use Rattle.abs_model.specs.declared.entry.Object.TheVariants.{Null, File, Dir, Link}
use Rattle.abs_model.specs.declared.entry.Entry.{Entry}
use Rattle.abs_model.specs.Objects.{is_null}
use Rattle.abs_model.specs.Array.{entry_at}
use Rattle.staging.specs.Dress.{dressed_at}
use Rattle.staging.specs.Staged.{Staged}

-- the attributes of what is live
abbrev pub live_attr : Entry → Option Attr
live_attr e = elim e.object [
  | Null ↦ None
  | File attr bytes ↦ Some attr
  | Dir attr names ↦ Some attr
  | Link attr text ↦ Some attr
]

abbrev pub dressed_if : List Entry → ℕ → ℕ → Option Attr → List Entry
dressed_if A i generation None = A
dressed_if A i generation (Some attr) = dressed_at A i generation attr

-- the array after the first indexes
abbrev pub dressed_to : List Entry → List Entry → ℕ → List Entry
dressed_to A after zero = A
dressed_to A after (suc n) =
    dressed_if (dressed_to A after n) n (entry_at after n).generation (live_attr (entry_at after n))

-- what is to be live is there
pub record CanDressAt (t : Tree) (area : List ℕ) (table : ConfTable) (A : List Entry)
    (S : List NameRow) (i : ℕ) (e : Entry) : Type 0 where
  pub staged : Staged t area table A S
  pub live : (attr : Attr) → live_attr e ≡ Some attr → is_null (entry_at A i) ≡ false

pub record CanDressAll (t : Tree) (area : List ℕ) (table : ConfTable) (A : List Entry)
    (S : List NameRow) (after : List Entry) : Type 0 where
  pub staged : Staged t area table A S
  pub live : (i : ℕ) → i < length after → (attr : Attr) → live_attr (entry_at after i) ≡ Some attr →
      is_null (entry_at (dressed_to A after i) i) ≡ false
