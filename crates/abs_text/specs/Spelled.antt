-- The entries that have a text of the format at an index.
use Rattle.std.specs.Prelude.{◌≡◌, ℕ, ◌^◌, ◌<◌, ◌≤◌, true, List, [], ◌∷◌, length}
use Rattle.abs_model.specs.declared.NameRow.{NameRow}
use Rattle.abs_model.specs.declared.Entry.{Entry}
use Rattle.abs_model.specs.Objects.{names_of}
use Rattle.abs_model.specs.Valid.{entry_fits}
use Rattle.abs_text.specs.Forms.{most_names}
use Rattle.abs_text.specs.Wordy.{IsWordy}

-- where these names lead is said in words
abbrev pub AreWordyRows : List NameRow → Type 0
AreWordyRows [] = Unit {0}
AreWordyRows (r ∷ rs) = (r.index < 2 ^ 32) × (r.generation < 2 ^ 32) × AreWordyRows rs

-- the entry keeps the rules of one by itself, its names are not too many, and all its numbers are words
pub record IsSpelled (i : ℕ) (e : Entry) : Type 0 where
  pub index : i < 2 ^ 32
  pub fits : entry_fits e ≡ true
  pub few : length (names_of e) ≤ most_names
  pub wordy : IsWordy e
  pub rows : AreWordyRows (names_of e)
