-- How a rebuilding ends.
use Rattle.std.specs.Prelude.{◌≡◌, ◌≤◌, ℕ, Result, Err}
use Rattle.nfs2_types.specs.Counts.{Rose}
use Rattle.server_trait.specs.Tree.{Server}
use Rattle.server_trait.specs.declared.bench.WrapErr.{WrapErr}
use Rattle.server_trait.specs.declared.bench.WrapErr.TheVariants.{Down as ServerDown, NoMemory as ServerNoMemory}
use Rattle.recovery.specs.declared.failure.FinishErr.{FinishErr}
use Rattle.recovery.specs.declared.failure.FinishErr.TheVariants.{Invalid, Down, NoMemory}
use Rattle.recovery.specs.Rebuilt.{Rebuilt}

-- the same failure of a wrapped server
abbrev pub of_wrap : WrapErr → FinishErr
of_wrap ServerDown = Down
of_wrap ServerNoMemory = NoMemory

-- P of what is handed back, where what was fetched makes no valid array
abbrev pub IfInvalid : {T : Type 0} → Result T FinishErr → (Rebuilt → Type 0) → Type 0
IfInvalid (Err (Invalid b)) P = P b
IfInvalid r P = Unit {0}

-- the count by an answer: Down exactly where it rose
abbrev pub FinishCounted : {T : Type 0} → ℕ → ℕ → Result T FinishErr → Type 0
FinishCounted before now (Err Down) = (before ≤ now) × Rose before now
FinishCounted before now r = now ≡ before

-- the limits are as before, and the count never falls
pub record FinishWatched {T : Type 0} (old new : Server) (r : Result T FinishErr) : Type 0 where
  pub limits : new.limits ≡ old.limits
  pub faults : FinishCounted old.faults new.faults r
