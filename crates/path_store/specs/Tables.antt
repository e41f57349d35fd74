-- Rows that stand at the places that their handles carry, read as a map.
use Rattle.std.specs.Prelude.{◌≡◌, ℕ, List, [], ◌∷◌, take, drop, Option, Some, None, IsSome, slice_index_or}
use Rattle.std.specs.Int.{w64, from_be_bytes}
use Rattle.std.specs.FinMap.{get, from_entries}
use Rattle.server_trait.specs.Tree.{ByBytes}

-- the place that a handle carries: its bytes from 16 to 24, the most significant first
unfoldable pub place_of : List ℕ → ℕ
place_of h = from_be_bytes w64 (take 8 (drop 16 h))

module _ {A X : Type 0} (handle : A → List ℕ) (value : A → X) where
  -- the values of the rows, under their handles
  abbrev pub entries_of : List (Option A) → List (List ℕ × X)
  entries_of [] = []
  entries_of (None ∷ rows) = entries_of rows
  entries_of (Some a ∷ rows) = (handle a, value a) ∷ entries_of rows

  -- the same as a map
  unfoldable pub table : List (Option A) → ByBytes X
  table rows = from_entries (entries_of rows)

-- each row stands at the place that its handle carries
abbrev pub ArePlaced : {A : Type 0} → (A → List ℕ) → List (Option A) → Type 0
ArePlaced handle rows = (k : ℕ) (a : _) → slice_index_or rows k None ≡ Some a → place_of (handle a) ≡ k

-- no other handle of a map carries the place of this one
abbrev pub HasRoom : {X : Type 0} → ByBytes X → List ℕ → Type 0
HasRoom m h = (q : List ℕ) → IsSome (get m q) → place_of q ≡ place_of h → q ≡ h
