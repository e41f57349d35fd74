-- Formats that are lists of fields: each field's need is worked out from the fields behind it.
use Rattle.std.specs.Prelude.{ℕ, ◌+◌, if◌then◌else◌, List, [], ◌∷◌, Option, Some, None}
use Rattle.xdr_core.specs.Items.{word, boolean, any_opaque, padding}
use Rattle.xdr_core.specs.Items as items
use Rattle.xdr_cut.specs.Cut.{Plan, gives, item}
use Rattle.xdr_cut.specs.Needs.{within, word_need, bool_need, piece_need, opaque_need}

-- a word of some ranges, opaque data of at most max bytes, of a fixed size, and a bool with an opaque where it
-- is true
pub data Field : Type 0 where
  number : (ranges : List (ℕ × ℕ)) → Field
  blob : (max : ℕ) → Field
  exactly : (size : ℕ) → Field
  maybe : (max : ℕ) → Field

-- a word from a number to a number, both within
abbrev pub from : ℕ → ℕ → Field
from low high = number ((low, high) ∷ [])

-- any word
abbrev pub any : Field
any = from 0 4294967295

-- the values of a field
abbrev pub Given : Field → Type 0
Given (number ranges) = ℕ
Given (blob max) = List ℕ
Given (exactly size) = List ℕ
Given (maybe max) = Option (List ℕ)

-- what makes a value of the fields
abbrev pub Maker : List Field → Type 0 → Type 0
Maker [] A = A
Maker (x ∷ xs) A = Given x → Maker xs A

-- the least number of bytes that the fields take
abbrev pub least : List Field → ℕ
least [] = 0
least (number ranges ∷ xs) = 4 + least xs
least (blob max ∷ xs) = 4 + least xs
least (exactly size ∷ xs) = (size + padding size) + least xs
least (maybe max ∷ xs) = 4 + least xs

-- the fields one after the other, each with what it needs
abbrev pub plan_of : {A : Type 0} → (xs : List Field) → Maker xs A → Plan A
plan_of [] make = gives make
plan_of (number ranges ∷ xs) make =
    item (word (within ranges)) (word_need ranges (least xs)) λ x. plan_of xs (make x)
plan_of (blob max ∷ xs) make =
    item (any_opaque max) (opaque_need max (least xs)) λ x. plan_of xs (make x)
plan_of (exactly size ∷ xs) make =
    item (items.fixed size) (piece_need size (least xs)) λ x. plan_of xs (make x)
plan_of (maybe max ∷ xs) make =
    item boolean (bool_need (least xs)) λ present.
    if present then (item (any_opaque max) (opaque_need max (least xs)) λ x. plan_of xs (make (Some x)))
    else plan_of xs (make None)
