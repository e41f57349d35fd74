-- What a program that starts a cluster and steps events over it knows of them, whatever list of events it
-- is.
use Rattle.std.specs.Prelude.{◌≡◌, ℕ, ◌≤◌, List, length, All}
use Rattle.abs_model.specs.declared.Entry.{Entry}
use Rattle.log_format.specs.declared.Line.{Line}
use Rattle.log_format.specs.declared.Event.{Event}
use Rattle.server_trait.specs.declared.FaultPoint.{FaultPoint}
use Rattle.cluster_model.specs.Service.{Service}
use Rattle.cluster_model.specs.Moments.{Moment}
use Rattle.cluster_model.specs.Turns.{last}
use Rattle.cluster_model.specs.Run.{fresh, LooseRun, AreMet, IsRising}
use Rattle.cluster_model.specs.Struck.{AreStruck}
use Rattle.cluster_model.specs.Steady.{IsSteady}
use Rattle.cluster_model.specs.OverBench.{ClusterView, IsState}

module _ (S : Service) (Server Table Limits : Type 0) (count : Server → ℕ) (limits : Server → Limits)
    (Stands : Server → Table → List Entry → Type 0) where
  -- a cluster was started and stepped by these events: what is known of it, of the servers, of the fault
  -- points and of the lines
  pub record RanOver (events : List Event) (servers : List Server) (downs : List FaultPoint)
      (new : ClusterView) (servers' : List Server) (tables' : List Table) (lines : List Line) : Type 0 where
    pub ms : List Moment
    -- the moments are those of a run of these events, with these lines
    pub is_run : LooseRun S (length servers) downs events ms
    pub told : (last (fresh S (length servers)) ms).lines ≡ lines
    pub numbered : new.events ≡ length events
    -- servers and tables stand for the last of them
    pub stands : IsState S Server Table Limits count limits Stands new servers' tables'
        (last (fresh S (length servers)) ms).state
    pub steady : IsSteady S (last (fresh S (length servers)) ms).state
    -- each fault point has its line, and each server failed as often as it was struck, at least
    pub points : All (λ (d : FaultPoint). d.event ≤ length events) downs
    pub rising : IsRising downs
    pub met : AreMet downs lines
    pub struck : AreStruck Server Limits count limits (fresh S (length servers)) ms servers servers'
