-- What a run does to the servers of its bench. Each takes `state`, which says what a server of the bench is.
use Rattle.std.specs.Prelude.{◌≡◌, ℕ, ◌+◌, ◌-◌, ◌*◌, ◌^◌, ◌<◌, ◌≤◌, min, List, Some, slice_get, All}
use Rattle.std.specs.List.Sorted.{IsNonDecreasingBy}
use Rattle.nfs2_types.specs.declared.Limits.{Limits}
use Rattle.server_trait.specs.Tree.{Server}
use Rattle.server_trait.specs.declared.ConfTable.{ConfTable}
use Rattle.server_trait.specs.declared.FaultPoint.{FaultPoint}
use Rattle.cluster_model.specs.State.{Running, Live, State}
use Rattle.cluster_model.specs.Moments.{Moment, replica}
use Rattle.cluster_model.specs.Turns.{last}
use Rattle.cluster_model.specs.Run.{strikes}
use Rattle.seats.specs.Positions.{StandsAt}

-- server and table at the position of each live replica stand for its array
abbrev pub LiveStand : {X : Type 0} → (X → Server) → Limits → State → List X → List ConfTable → Type 0
LiveStand state limits s servers tables = (r : ℕ) (l : Running) → (replica s r).condition ≡ Live l →
    StandsAt state limits (slice_get servers r) (slice_get tables r) l.array

-- Fault points in their order: each is of the start or of one of so many records, and of a replica.
pub record ArePoints (limits : Limits) (number : ℕ) (downs : List FaultPoint) : Type 0 where
  pub rising : IsNonDecreasingBy (λ (d : FaultPoint). d.event) downs
  pub events : All (λ (d : FaultPoint). d.event ≤ number) downs
  pub replicas : All (λ (d : FaultPoint). d.replica < 3 * limits.f + 1) downs

-- a server later: of the same limits, with at least so many more failures, where a count at its greatest value stays
-- there, and never with fewer
pub record IsWorn (n : ℕ) (old new : Server) : Type 0 where
  pub limits : new.limits ≡ old.limits
  pub rose : min (old.faults + n) (2 ^ 64 - 1) ≤ new.faults
  pub later : old.faults ≤ new.faults

-- Each server failed at least as often as these moments, which follow m, strike it. It is followed by its position
-- through the benches of the moments.
abbrev pub ServersAreWorn : {X : Type 0} → (X → Server) → Moment → List Moment → List X → List X → Type 0
ServersAreWorn {X} state m ms servers servers' = (s i j : ℕ) (x y : X) → slice_get m.state.bench i ≡ Some s →
    slice_get (last m ms).state.bench j ≡ Some s → slice_get servers i ≡ Some x → slice_get servers' j ≡ Some y →
    IsWorn (strikes s m ms) (state x) (state y)

-- the servers behind those of the replicas are as they were
abbrev pub SparesStay : {X : Type 0} → Limits → List X → List X → Type 0
SparesStay limits old new = (k : ℕ) → 3 * limits.f + 1 ≤ k → slice_get new k ≡ slice_get old k
