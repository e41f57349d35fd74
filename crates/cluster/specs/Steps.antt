-- What the start of a cluster does, and what a step of it does, in the terms of the model.
use Rattle.std.specs.Prelude.{◌≡◌, ℕ, suc, ◌+◌, ◌*◌, ◌^◌, ◌<◌, Bool, true, false, IsTrue, List, [], ◌∷◌, ◌++◌, length, All}
use Rattle.nfs2_types.specs.declared.Limits.{Limits}
use Rattle.nfs2_types.specs.Times.{is_time}
use Rattle.server_trait.specs.Tree.{Server}
use Rattle.server_trait.specs.declared.ConfTable.{ConfTable}
use Rattle.server_trait.specs.declared.FaultPoint.{FaultPoint}
use Rattle.server_trait.specs.declared.ServerLimits.{ServerLimits}
use Rattle.log_format.specs.declared.Event.{Event}
use Rattle.log_format.specs.declared.Event.TheVariants.{Request as Ask, Run, RunAll, Reboot, Fetch, Rogue, Skip, LieReply, LieRoot, LieItem, Wipe, End}
use Rattle.log_format.specs.declared.Line.{Line}
use Rattle.cluster_model.specs.declared.Request.{Request}
use Rattle.cluster_model.specs.Moments.{Moment}
use Rattle.cluster_model.specs.Turns.{last}
use Rattle.cluster_model.specs.Good.{AllGood}
use Rattle.cluster_model.specs.Walk.{WalkedStep}
use Rattle.cluster_model.specs.Run.{AreMet, faults_in, fresh, start}
use Rattle.cluster_model.specs.Struck.{AreStruck}
use Rattle.service_laws.specs.Served.{service}
use Rattle.cluster.specs.OverBench.{Kept, IsState}

-- the records whose steps are built
abbrev pub is_built : Event → Bool
is_built (Ask client time bytes) = true
is_built (Run r) = true
is_built RunAll = true
is_built (Reboot r) = true
is_built (Fetch r n) = true
is_built (Rogue r time bytes) = true
is_built (Skip r) = true
is_built (LieReply r place word) = true
is_built (LieRoot r place root) = true
is_built (LieItem r level number text) = true
is_built (Wipe r) = true
is_built End = true
is_built event = false

-- the request that a record appends, if it is one
abbrev pub asked_by : Event → List Request
asked_by (Ask client time bytes) = record { time = time; bytes = bytes } ∷ []
asked_by event = []

-- A record that can be stepped behind these requests: a request comes at a time, and a word has its number; a replica
-- that is to run, is rebooted or harmed, is one of the 3f + 1.
abbrev pub CanStep : Limits → List Request → Event → Type 0
CanStep limits requests (Ask client time bytes) = (length requests + 1 < 2 ^ 32) × (is_time time ≡ true)
CanStep limits requests (Run r) = r < 3 * limits.f + 1
CanStep limits requests (Reboot r) = r < 3 * limits.f + 1
CanStep limits requests (Fetch r n) = r < 3 * limits.f + 1
CanStep limits requests (Rogue r time bytes) = (r < 3 * limits.f + 1) × (is_time time ≡ true)
CanStep limits requests (Skip r) = r < 3 * limits.f + 1
CanStep limits requests (LieReply r place word) = r < 3 * limits.f + 1
CanStep limits requests (LieRoot r place root) = r < 3 * limits.f + 1
CanStep limits requests (LieItem r level number text) = r < 3 * limits.f + 1
CanStep limits requests (Wipe r) = r < 3 * limits.f + 1
CanStep limits requests event = IsTrue (is_built event)

-- each server failed at least as often as these moments, which follow m, strike it, and not where they do not
abbrev pub ServersAreStruck : {X : Type 0} → (X → Server) → Moment → List Moment → List X → List X → Type 0
ServersAreStruck {X} state = AreStruck X ServerLimits (λ x. (state x).faults) (λ x. (state x).limits)

-- From a moment that cluster and bench stood for, moments follow that a walked step gives, where servers fail at the
-- fault points met; cluster and bench stand for the last of them, and these are the lines that it adds.
pub record Follows {X : Type 0} (state : X → Server) (old new : Kept) (servers servers' : List X)
    (tables' : List ConfTable) (met : List FaultPoint) (event : Event) (lines : List Line) (m : Moment)
    : Type 0 where
  pub ms : List Moment
  pub is_step : WalkedStep (service old.limits) (faults_in met (suc old.events)) event m ms
  pub stands : IsState state new servers' tables' (last m ms).state
  pub adds : (last m ms).lines ≡ m.lines ++ lines
  pub struck : ServersAreStruck state m ms servers servers'

-- fault points of one event, each of a replica
abbrev pub ArePointsOf : Limits → ℕ → List FaultPoint → Type 0
ArePointsOf limits event = All (λ (d : FaultPoint). (d.event ≡ event) × (d.replica < 3 * limits.f + 1))

-- A step of the cluster: the fault points that it met come behind the others, in order, each with its `down` line;
-- limits and earlier requests stay, one event more is counted; and from every moment that cluster and bench stood for,
-- with good arrays, the model makes this step.
pub record Steps {X : Type 0} (state : X → Server) (old new : Kept) (servers servers' : List X)
    (tables tables' : List ConfTable) (downs downs' : List FaultPoint) (event : Event)
    (lines : List Line) : Type 0 where
  pub met : List FaultPoint
  pub downs_are : downs' ≡ downs ++ met
  pub numbered : ArePointsOf old.limits (suc old.events) met
  pub lines_are : AreMet met lines
  pub limits : new.limits ≡ old.limits
  pub requests : new.requests ≡ old.requests ++ asked_by event
  pub events : new.events ≡ suc old.events
  pub moves : (m : Moment) → AllGood (service old.limits) m.state → IsState state old servers tables m.state →
      Follows state old new servers servers' tables' met event lines m

-- The start over these servers: its fault points have the event number 0; cluster and bench stand for the last
-- moment of the model's start, and these are its lines.
pub record Starts {X : Type 0} (state : X → Server) (limits : Limits) (new : Kept) (servers servers' : List X)
    (tables' : List ConfTable) (downs : List FaultPoint) (lines : List Line) : Type 0 where
  pub numbered : ArePointsOf limits 0 downs
  pub lines_are : AreMet downs lines
  pub limits_are : new.limits ≡ limits
  pub requests : new.requests ≡ []
  pub events : new.events ≡ 0
  pub stands : let first = fresh (service limits) (length servers) in
      IsState state new servers' tables' (last first (start (service limits) (length servers) downs)).state
  pub lines_said : let first = fresh (service limits) (length servers) in
      (last first (start (service limits) (length servers) downs)).lines ≡ lines
  pub struck : ServersAreStruck state (fresh (service limits) (length servers))
      (start (service limits) (length servers) downs) servers servers'
