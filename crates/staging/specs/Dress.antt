-- An object's attributes, times and generation.
use Rattle.std.specs.Prelude.{◌≡◌, ℕ, List, false, set}
use Rattle.server_trait.specs.Tree.{Tree}
use Rattle.server_trait.specs.declared.bench.ConfTable.{ConfTable}
use Rattle.abs_model.specs.declared.entry.NameRow.{NameRow}
use Rattle.abs_model.specs.declared.entry.Attr.{Attr}
use Rattle.abs_model.specs.declared.entry.Entry.{Entry}
use Rattle.abs_model.specs.Objects.{is_null, with_attr}
use Rattle.abs_model.specs.Array.{entry_at}
use Rattle.staging.specs.Staged.{Staged}

-- an entry with this generation and these attributes, whose bytes, text or names stay
abbrev pub dressed : ℕ → Attr → Entry → Entry
dressed generation attr e = record { generation = generation; object = (with_attr attr e).object }

abbrev pub dressed_at : List Entry → ℕ → ℕ → Attr → List Entry
dressed_at A i generation attr = set A i (dressed generation attr (entry_at A i))

-- a live entry of those for which tree and table stand
pub record CanDress (t : Tree) (area : List ℕ) (table : ConfTable) (A : List Entry)
    (S : List NameRow) (i : ℕ) : Type 0 where
  pub staged : Staged t area table A S
  pub live : is_null (entry_at A i) ≡ false
