-- All that a replay may change.
use Rattle.std.specs.Prelude.{◌≡◌, ℕ, List, Option}
use Rattle.server_trait.specs.declared.ConfTable.{ConfTable}
use Rattle.server_trait.specs.declared.FaultPoint.{FaultPoint}

-- what the source has left and the sink holds, where they tell; and the bench
pub record Setting (X : Type 0) : Type 0 where
  pub left : Option (List ℕ)
  pub held : Option (List ℕ)
  pub servers : List X
  pub tables : List ConfTable
  pub downs : List FaultPoint

abbrev pub setting : {X : Type 0} → Option (List ℕ) → Option (List ℕ) → List X → List ConfTable →
    List FaultPoint → Setting X
setting left held servers tables downs =
    record { left = left; held = held; servers = servers; tables = tables; downs = downs }

-- servers, tables and fault points are as they were
pub record SameBench {X : Type 0} (old new : Setting X) : Type 0 where
  pub servers : new.servers ≡ old.servers
  pub tables : new.tables ≡ old.tables
  pub downs : new.downs ≡ old.downs
