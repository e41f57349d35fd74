-- The start of a run. Contracts inside the crate and their proofs use it.
use Rattle.std.specs.Prelude.{◌≡◌, ◌⊎◌, ℕ, ◌+◌, ◌*◌, List, [], length, Result, Ok, Err}
use Rattle.nfs2_types.specs.declared.Limits.{Limits}
use Rattle.server_trait.specs.Tree.{Server}
use Rattle.cluster.specs.declared.cluster.state.Cluster.{Cluster}
use Rattle.seats.specs.Positions.{AreLater}
use Rattle.cluster.specs.Kept.{kept}
use Rattle.basefs.specs.declared.run_err.RunErr.{RunErr}
use Rattle.basefs.specs.declared.run_err.RunErr.TheVariants.{NoMemory}
use Rattle.basefs.specs.declared.status.Status.{Status}
use Rattle.basefs.specs.declared.status.Status.TheVariants as status
use Rattle.basefs.specs.Log.{Log, records_from}
use Rattle.basefs.specs.Setting.{Setting}
use Rattle.basefs.specs.Run.{Ran}
use Rattle.basefs.specs.Going.{Going, run_status}

-- memory wanted before the replicas were started: no fault point is known
pub record Unstarted {X : Type 0} (state : X → Server) (limits : Limits) (old new : Setting X) : Type 0 where
  pub left : new.left ≡ old.left
  pub held : new.held ≡ old.held
  pub downs : new.downs ≡ []
  pub later : AreLater state (3 * limits.f + 1) old.servers new.servers

-- the records of a log that begin at byte 24, over so many servers
abbrev pub all_records : Limits → ℕ → List ℕ → Log
all_records limits servers = records_from 16777216 limits.f servers [] 24

-- the replicas were started and their lines written; or some of these; or nothing was started
abbrev pub Begun : {X : Type 0} → (X → Server) → Limits → Setting X → Setting X → Result Cluster RunErr → Type 0
Begun state limits old new (Ok c) =
    Going state limits (all_records limits (length old.servers)) old new (kept c) 16777216 24 × ((kept c).events ≡ 0)
Begun state limits old new (Err e) =
    Ran state limits (all_records limits (length old.servers)) old new (run_status e) ⊎
    ((e ≡ NoMemory) × Unstarted state limits old new)

-- all records were run, or nothing was started
abbrev pub RunsAll : {X : Type 0} → (X → Server) → Limits → Setting X → Setting X → Status → Type 0
RunsAll state limits old new s = Ran state limits (all_records limits (length old.servers)) old new s ⊎
    ((s ≡ status.NoMemory) × Unstarted state limits old new)
