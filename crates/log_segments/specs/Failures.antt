-- What stands after a write that failed.
use Rattle.std.specs.Prelude.{◌≡◌, ◌⊎◌, ℕ, List, [], ◌∷◌, ◌++◌, length}
use Rattle.log_segments.specs.Newest.{live, after}

-- the records are as they were, or have one more, of any 512 bytes
abbrev pub MayGrow : List (List ℕ) → List (List ℕ) → Type 0
MayGrow old new = (new ≡ old) ⊎ ((block : List ℕ) × (length block ≡ 512) × (new ≡ old ++ block ∷ []))

-- the records are as they were, or only the live ones are left
abbrev pub MayShrink : List (List ℕ) → List (List ℕ) → Type 0
MayShrink old new = (new ≡ old) ⊎ (new ≡ live old)

-- the live records are as they were, or one more stands behind them, of any 512 bytes
abbrev pub MayPut : List (List ℕ) → List (List ℕ) → Type 0
MayPut old new = (new ≡ old) ⊎ ((block : List ℕ) × (length block ≡ 512) × (new ≡ after old block))
