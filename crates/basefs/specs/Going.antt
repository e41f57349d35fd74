-- A run that goes on: what was read, stepped and written so far. Contracts inside the crate and their proofs use it.
use Rattle.std.specs.Prelude.{◌≡◌, ℕ, suc, ◌+◌, ◌*◌, ◌≤◌, List, [], ◌++◌, length, Option, All}
use Rattle.std.specs.Io.KnownBytes.{Consumes, Appends, IsAtEnd}
use Rattle.nfs2_types.specs.declared.Limits.{Limits}
use Rattle.server_trait.specs.Tree.{Server}
use Rattle.server_trait.specs.declared.ConfTable.{ConfTable}
use Rattle.server_trait.specs.declared.FaultPoint.{FaultPoint}
use Rattle.log_format.specs.declared.Event.{Event}
use Rattle.log_format.specs.Lines.{text_of}
use Rattle.log_stream.specs.declared.ReadErr.{ReadErr}
use Rattle.log_stream.specs.declared.ReadErr.TheVariants as read
use Rattle.outside.specs.declared.SinkErr.{SinkErr}
use Rattle.outside.specs.declared.SinkErr.TheVariants as sink
use Rattle.cluster_model.specs.Moments.{Moment}
use Rattle.cluster_model.specs.Good.{FitsEvent}
use Rattle.cluster_model.specs.Steady.{IsSteady}
use Rattle.cluster_model.specs.Run.{fresh, LooseRun, AreMet}
use Rattle.service_laws.specs.Served.{IsSized, service}
use Rattle.seats.specs.Positions.{AreLater}
use Rattle.cluster.specs.OverBench.{Kept, IsState}
use Rattle.cluster.specs.Steps.{ServersAreStruck}
use Rattle.basefs.specs.declared.run_err.RunErr.{RunErr}
use Rattle.basefs.specs.declared.run_err.RunErr.TheVariants as run
use Rattle.basefs.specs.declared.status.Status.{Status}
use Rattle.basefs.specs.declared.status.Status.TheVariants as statuses
use Rattle.basefs.specs.declared.turn.Turn.{Turn}
use Rattle.basefs.specs.declared.turn.Turn.TheVariants as turns
use Rattle.basefs.specs.Log.{Log, records_from}
use Rattle.basefs.specs.Setting.{Setting}
use Rattle.basefs.specs.Servers.{ArePoints}
use Rattle.basefs.specs.Run.{end_of, requests_of, Ran}

-- these records, and then those of a log
abbrev pub behind : List Event → Log → Log
behind events log = record { events = events ++ log.events; stop = log.stop }

-- from a source some bytes were taken, which are these records of the log; what follows them is the rest of it
pub record Goes (old left : Option (List ℕ)) (log rest : List ℕ → Log) (events : List Event) : Type 0 where
  pub taken : List ℕ
  pub consumed : Consumes old left taken
  pub goes : (more : List ℕ) → log (taken ++ more) ≡ behind events (rest more)

-- Cluster and bench stand for the last moment of a model's run of these records, in which servers failed at the fault
-- points. The servers were these before.
pub record Here {X : Type 0} (state : X → Server) (limits : Limits) (before servers : List X) (tables : List ConfTable)
    (downs : List FaultPoint) (kept : Kept) (events : List Event) : Type 0 where
  pub ms : List Moment
  pub is_run : LooseRun (service limits) (length before) downs events ms
  pub sized : IsSized limits
  pub fits : All (FitsEvent (service limits)) events
  pub is_state : IsState state kept servers tables (end_of limits (length before) ms).state
  pub steady : IsSteady (service limits) (end_of limits (length before) ms).state
  pub requests : kept.requests ≡ requests_of events
  pub counted : kept.events ≡ length events
  pub limits_are : kept.limits ≡ limits
  pub points : ArePoints limits (length events) downs
  pub met : AreMet downs (end_of limits (length before) ms).lines
  pub struck : ServersAreStruck state (fresh (service limits) (length before)) ms before servers
  pub later : AreLater state (3 * limits.f + 1) before servers

-- Some records were stepped, and their lines were written. At most n records are to come, the first at this byte.
pub record Going {X : Type 0} (state : X → Server) (limits : Limits) (log : List ℕ → Log) (old now : Setting X)
    (kept : Kept) (n place : ℕ) : Type 0 where
  pub events : List Event
  pub goes : Goes old.left now.left log
      (records_from n limits.f (length old.servers) kept.requests place) events
  pub here : Here state limits old.servers now.servers now.tables now.downs kept events
  pub printed : Appends old.held now.held (text_of (end_of limits (length old.servers) here.ms).lines)

-- what a turn came to
abbrev pub TurnSays : {X : Type 0} → (X → Server) → Limits → (List ℕ → Log) → Setting X → Setting X → Kept → ℕ →
    Turn → Type 0
TurnSays state limits log old now kept n (turns.Goes next) = Going state limits log old now kept n next
TurnSays state limits log old now kept n (turns.Over ended) = Ran state limits log old now ended

-- from any run so far a turn leads to where this one says
abbrev pub Turns : {X : Type 0} → (X → Server) → Setting X → Setting X → Kept → Kept → ℕ → Turn → Type 0
Turns {X} state before now kept kept' place result =
    (limits : Limits) (log : List ℕ → Log) (old : Setting X) (n : ℕ) →
    Going state limits log old before kept (suc n) place → TurnSays state limits log old now kept' n result

-- the status of an error of the source, at an item that begins at this byte
abbrev pub read_status : ReadErr → ℕ → Status
read_status read.Failed at = statuses.ReadFault
read_status read.NoMemory at = statuses.NoMemory
read_status read.Wrong at = statuses.BadLog at

-- the status of an error of the sink
abbrev pub write_status : SinkErr → Status
write_status sink.Failed = statuses.WriteFault
write_status sink.NoMemory = statuses.NoMemory

-- the status of what ends a run: an error of the sink, or want of memory beside it
abbrev pub run_status : RunErr → Status
run_status (run.Sink e) = write_status e
run_status run.NoMemory = statuses.NoMemory

-- WHAT IS FOUND BEHIND THE LAST RECORD, which ends before this byte

abbrev pub FinishSays : Status → ℕ → List ℕ → Option (List ℕ) → Type 0
FinishSays statuses.Done place taken left = (taken ≡ []) × IsAtEnd left
FinishSays (statuses.BadLog at) place taken left = (at ≡ place) × (1 ≤ length taken)
FinishSays statuses.ReadFault place taken left = taken ≡ []
FinishSays s place taken left = ⊥

pub record Finishes (old left : Option (List ℕ)) (place : ℕ) (ended : Status) : Type 0 where
  pub taken : List ℕ
  pub consumed : Consumes old left taken
  pub says : FinishSays ended place taken left
