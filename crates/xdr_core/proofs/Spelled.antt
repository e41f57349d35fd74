-- Spellings of formats item by item, as what is written shows them.
use Rattle.std.proofs.Common.{◌≡◌, List, ℕ, [], ◌++◌, refl, sym}
use Rattle.std.proofs.lemmas.List.{append-nil}
use Rattle.xdr_core.specs.Items.{Item, Value, Fits, spell}
use Rattle.xdr_core.specs.Grammar.{Grammar, gives, item, Spells}

-- a spelling, as a record
pub record IsSpelled {A : Type 0} (g : Grammar A) (value : A) (text : List ℕ) : Type 0 where
  pub spells : Spells g value text

-- one item, and what stands behind it
pub before : {A : Type 0} (i : Item) (next : Value i → Grammar A) (x : Value i) (value : A) (more : List ℕ) → Fits i x
    → IsSpelled (next x) value more → IsSpelled (item i next) value (spell i x ++ more)
before i next x value more fits s = record { spells = (x, more, fits, refl, s.spells) }

-- the last item of a format
pub last : {A : Type 0} (i : Item) (f : Value i → A) (x : Value i) (value : A) → Fits i x → value ≡ f x
    → IsSpelled (item i (λ y. gives (f y))) value (spell i x)
last i f x value fits e = record { spells = (x, [], fits, sym (append-nil (spell i x)), (e, refl)) }
