-- What a run of a log comes to: which records were stepped, what was written, and what holds of replicas and servers.
use Rattle.std.specs.Prelude.{◌≡◌, ◌≢◌, ℕ, ◌≤◌, List, [], ◌++◌, length, Option, None, IfSome, All, ◌⊎◌}
use Rattle.std.specs.List.{flat_map}
use Rattle.std.specs.Io.KnownBytes.{Consumes, Appends, IsAtEnd}
use Rattle.nfs2_types.specs.declared.Limits.{Limits}
use Rattle.server_trait.specs.Tree.{Server}
use Rattle.server_trait.specs.declared.FaultPoint.{FaultPoint}
use Rattle.log_format.specs.declared.Event.{Event}
use Rattle.log_format.specs.Lines.{text_of}
use Rattle.log_format.specs.Records.{header_at}
use Rattle.cluster_model.specs.declared.Request.{Request}
use Rattle.cluster_model.specs.Moments.{Moment}
use Rattle.cluster_model.specs.Turns.{last}
use Rattle.cluster_model.specs.Calm.{IsHarmless}
use Rattle.cluster_model.specs.Run.{fresh, run, LooseRun, Always, SameUptoApart, UptoApart, nothing, IsAsPromised, IsOnce, replies, AreMet}
use Rattle.cluster_model.specs.Served.{IsServed}
use Rattle.service_laws.specs.Served.{service}
use Rattle.cluster.specs.Steps.{asked_by, ServersAreStruck}
use Rattle.basefs.specs.declared.status.Status.{Status}
use Rattle.basefs.specs.declared.status.Status.TheVariants as status
use Rattle.basefs.specs.Log.{Log, Stop, whole, bad, not_built, too_few, too_small}
use Rattle.basefs.specs.Setting.{Setting}
use Rattle.basefs.specs.Servers.{LiveStand, ArePoints, ServersAreWorn, SparesStay}

-- WHICH RECORDS WERE STEPPED

abbrev pub IsPrefix : {X : Type 0} → List X → List X → Type 0
IsPrefix {X} part list = (rest : List X) × (list ≡ part ++ rest)

-- It holds of the log that was taken, and of that with what the source has left, where it tells.
abbrev pub HoldsOf : (List ℕ → Log) → List ℕ → Option (List ℕ) → (Log → Type 0) → Type 0
HoldsOf log taken left P = P (log taken) × IfSome left (λ more. P (log (taken ++ more)))

-- what a status says of the log and of the records that were stepped
abbrev pub Says : Status → (List ℕ → Log) → List ℕ → Option (List ℕ) → List Event → Type 0
Says status.Done log taken left events = (log taken ≡ record { events = events; stop = whole }) × IsAtEnd left
Says (status.BadLog at) log taken left events =
    HoldsOf log taken left (λ l. l ≡ record { events = events; stop = bad at })
Says (status.NotBuilt at) log taken left events =
    HoldsOf log taken left (λ l. l ≡ record { events = events; stop = not_built at })
Says (status.TooFewServers have need) log taken left events =
    HoldsOf log taken left (λ l. l ≡ record { events = events; stop = too_few have need })
Says (status.ServerTooSmall server) log taken left events =
    HoldsOf log taken left (λ l. l ≡ record { events = events; stop = too_small server })
-- every record that lies whole in what was taken was stepped
Says status.ReadFault log taken left events = (log taken).events ≡ events
Says status.WriteFault log taken left events = HoldsOf log taken left (λ l. IsPrefix events l.events)
Says status.NoMemory log taken left events = HoldsOf log taken left (λ l. IsPrefix events l.events)
-- these don't come of a log
Says status.Usage log taken left events = ⊥
Says status.LinkFault log taken left events = ⊥

-- from a source with `old` left some bytes were taken, and these records of the log were stepped
pub record Ends (old left : Option (List ℕ)) (log : List ℕ → Log) (status : Status) (events : List Event) : Type 0 where
  pub taken : List ℕ
  pub consumed : Consumes old left taken
  pub says : Says status log taken left events

-- WHAT WAS WRITTEN

-- all of a text, or a first part of it where a write failed or memory ran out
abbrev pub Wrote : Status → List ℕ → List ℕ → Type 0
Wrote status.WriteFault part text = IsPrefix part text
Wrote status.NoMemory part text = IsPrefix part text
Wrote s part text = part ≡ text

pub record Printed (old new : Option (List ℕ)) (status : Status) (text : List ℕ) : Type 0 where
  pub part : List ℕ
  pub appended : Appends old new part
  pub wrote : Wrote status part text

-- A WHOLE RUN

-- the last of these moments of a run over so many servers
abbrev pub end_of : Limits → ℕ → List Moment → Moment
end_of limits servers ms = last (fresh (service limits) servers) ms

-- the requests of these records, in order
abbrev pub requests_of : List Event → List Request
requests_of events = flat_map asked_by events

-- What was written holds the lines of all records before the last one, and their moments come first. Where no record
-- was stepped, the lines of the start may be cut.
pub record IsCutAtLast (limits : Limits) (servers : ℕ) (downs : List FaultPoint) (events : List Event)
    (ms : List Moment) (part : List ℕ) : Type 0 where
  pub before : List Event
  pub final : List Event
  pub parts : events ≡ before ++ final
  pub one : length final ≤ 1
  pub earlier : List Moment
  pub later : List Moment
  pub moments : ms ≡ earlier ++ later
  pub is_run : LooseRun (service limits) servers downs before earlier
  pub written : (events ≡ []) ⊎ IsPrefix (text_of (end_of limits servers earlier).lines) part

-- the replies among the lines are the decisions, in order, and no place has two
pub record IsTold (m : Moment) : Type 0 where
  pub decisions : replies m.lines ≡ m.state.decisions
  pub once : IsOnce (replies m.lines)

-- The replicas were started, and the records of the log were stepped up to the one at which the status stops the run.
pub record Ran {X : Type 0} (state : X → Server) (limits : Limits) (log : List ℕ → Log) (old new : Setting X)
    (ended : Status) : Type 0 where
  pub events : List Event
  pub ends : Ends old.left new.left log ended events
  -- the moments of the model's run of these records, in which servers fail at the fault points
  pub ms : List Moment
  pub is_run : LooseRun (service limits) (length old.servers) new.downs events ms
  -- what was written is the text of its lines
  pub printed : Printed old.held new.held ended (text_of (end_of limits (length old.servers) ms).lines)
  -- a write that fails stops the run: its record is the last that was stepped, and nothing is read behind it
  pub cut : IsCutAtLast limits (length old.servers) new.downs events ms printed.part
  pub unread : ended ≡ status.WriteFault → (log ends.taken).events ≡ events
  -- Up to the last moment at which at most f replicas are unsound and no two different texts so far share a digest, the
  -- run is the exact one, and as promised: each decision is the service's word at its place, and each sound replica's
  -- array is that of its place.
  pub exact : SameUptoApart (service limits) nothing ms (run (service limits) (length old.servers) new.downs events)
  pub promised : UptoApart (service limits) nothing (IsAsPromised (service limits)) ms
  -- where no record harms, at every moment, whatever servers fail
  pub calm : All IsHarmless events → Always (IsServed (service limits)) ms
  pub told : IsTold (end_of limits (length old.servers) ms)
  pub requests : (end_of limits (length old.servers) ms).state.requests ≡ requests_of events
  -- the server of each live replica holds exactly its array
  pub stands : ended ≢ status.NoMemory →
      LiveStand state limits (end_of limits (length old.servers) ms).state new.servers new.tables
  -- each fault point has its line, in order
  pub points : ArePoints limits (length events) new.downs
  pub met : AreMet new.downs (end_of limits (length old.servers) ms).lines
  -- the count of each server rose for its fault points, and without one stayed
  pub struck : ended ≢ status.NoMemory →
      ServersAreStruck state (fresh (service limits) (length old.servers)) ms old.servers new.servers
  pub worn : ServersAreWorn state (fresh (service limits) (length old.servers)) ms old.servers new.servers
  pub size : length new.servers ≡ length old.servers
  pub spares : SparesStay limits old.servers new.servers

-- BEFORE THE START

-- the statuses that a log can have before its replicas are started
abbrev pub IsEarly : Status → List ℕ → Type 0
IsEarly (status.BadLog at) taken = at ≡ 0
IsEarly (status.TooFewServers have need) taken = Unit {0}
IsEarly (status.ServerTooSmall server) taken = Unit {0}
IsEarly status.ReadFault taken = header_at taken ≡ None
IsEarly status.NoMemory taken = Unit {0}
IsEarly s taken = ⊥

-- no replica was started, and nothing was written
pub record Stopped (old left : Option (List ℕ)) (log : List ℕ → Log) (status : Status) : Type 0 where
  pub ends : Ends old left log status []
  pub early : IsEarly status ends.taken

-- WHICH STATUS A LOG GIVES

abbrev pub status_of : Stop → Status
status_of whole = status.Done
status_of (bad at) = status.BadLog at
status_of (not_built at) = status.NotBuilt at
status_of (too_few have need) = status.TooFewServers have need
status_of (too_small server) = status.ServerTooSmall server

-- a fault of the outside, or want of memory
abbrev pub IsFault : Status → Type 0
IsFault s = (s ≡ status.ReadFault) ⊎ ((s ≡ status.WriteFault) ⊎ (s ≡ status.NoMemory))
