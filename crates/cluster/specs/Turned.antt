-- What a turn of a replica does, and turns one after the other. Contracts inside the crate and their proofs use it.
use Rattle.std.specs.Prelude.{◌≡◌, ◌≢◌, ◌<◌, ◌≤◌, ℕ, suc, Bool, false, true, List, [], ◌∷◌, ◌++◌, map, length, slice_get, Option, Some, None, Result, Ok, Err, ◌+◌, nat_le, nat_lt, if◌then◌else◌}
use Rattle.std.specs.List.{flat_map}
use Rattle.server_trait.specs.Tree.{Server}
use Rattle.server_trait.specs.declared.ConfTable.{ConfTable}
use Rattle.server_trait.specs.declared.FaultPoint.{FaultPoint}
use Rattle.server_trait.specs.declared.ServerLimits.{ServerLimits}
use Rattle.log_format.specs.declared.Line.{Line}
use Rattle.log_format.specs.declared.IdleCause.{IdleCause}
use Rattle.log_format.specs.declared.IdleCause.TheVariants.{NotLive, AtEnd, Behind}
use Rattle.cluster_model.specs.declared.Request.{Request}
use Rattle.cluster_model.specs.Tree.{below}
use Rattle.cluster_model.specs.Moments.{Moment, Faults}
use Rattle.cluster_model.specs.Turns.{Slot, slots, slot_turn, rogue_turn, skip_turn, turn, Not, moments, last}
use Rattle.cluster_model.specs.Run.{failed_of, strikes_in}
use Rattle.cluster_model.specs.Struck.{IsLater}
use Rattle.service_laws.specs.Served.{service}
use Rattle.seats.specs.declared.Seat.{Seat}
use Rattle.seats.specs.declared.Seat.TheVariants.{Live as LiveSeat, Rebuilding as RebuildingSeat, Down as DownSeat}
use Rattle.cluster.specs.OverBench.{Kept, IsState, HaveArrays, HaveRoom}

-- the fault point of a turn, if its server failed
abbrev pub points : ℕ → Slot → Bool → List FaultPoint
points e t false = []
points e t true = record { event = e; stage = t.round; replica = t.replica } ∷ []

-- each server failed at least as often as a `down` line tells of its replica, and not where none does
abbrev pub AreStruckBy : {X : Type 0} → (X → Server) → List Line → List X → List X → Type 0
AreStruckBy {X} state ls servers servers' = (s : ℕ) (x y : X) → slice_get servers s ≡ Some x →
    slice_get servers' s ≡ Some y → IsLater X ServerLimits (λ z. (state z).faults) (λ z. (state z).limits)
    (strikes_in s (below (length servers)) (flat_map failed_of ls)) x y

-- From each state that cluster and bench stood for, what the model does leads to one that they stand for, and prints
-- these lines, where the server fails at this turn as it did.
pub record TurnedBy {X : Type 0} (state : X → Server) (does : Faults → Moment → Moment) (t : Slot) (old new : Kept)
    (servers servers' : List X) (tables tables' : List ConfTable) (met met' : List FaultPoint) (ls ls' : List Line)
    : Type 0 where
  pub fault : Bool
  pub more : List Line
  pub met_are : met' ≡ met ++ points (suc old.events) t fault
  pub lines_are : ls' ≡ ls ++ more
  -- the `down` lines are those of the fault points
  pub tells : flat_map failed_of more ≡ map (λ (d : FaultPoint). d.replica) (points (suc old.events) t fault)
  pub size : length servers' ≡ length servers
  pub struck : AreStruckBy state more servers servers'
  pub moves : (faults : Faults) → faults t.round t.replica ≡ fault → (m : Moment) →
      IsState state old servers tables m.state →
      IsState state new servers' tables' (does faults m).state × ((does faults m).lines ≡ m.lines ++ more)

-- a turn of a round
abbrev pub Turned : {X : Type 0} → (X → Server) → Slot → Kept → Kept → List X → List X → List ConfTable →
    List ConfTable → List FaultPoint → List FaultPoint → List Line → List Line → Type 0
Turned state t old new servers servers' tables tables' met met' ls ls' =
    TurnedBy state (λ faults m. slot_turn (service old.limits) faults m t) t old new servers servers' tables tables'
    met met' ls ls'

-- a turn of replica r in which it runs another request, and one in which it runs none
abbrev pub rogue_by : Kept → ℕ → Request → Faults → Moment → Moment
rogue_by c r q faults m =
    rogue_turn (service c.limits) (faults 0 r) r q (turn (service c.limits) m.state r) m

abbrev pub skip_by : Kept → ℕ → Faults → Moment → Moment
skip_by c r faults m = skip_turn (service c.limits) (faults 0 r) r (turn (service c.limits) m.state r) m

-- the first stage of a record, for a replica
abbrev pub first_slot : ℕ → Slot
first_slot r = record { round = 0; replica = r }

-- what stays over turns
pub record Stays (old new : Kept) : Type 0 where
  pub limits : new.limits ≡ old.limits
  pub requests : new.requests ≡ old.requests
  pub seats : length new.seats ≡ length old.seats
  pub events : new.events ≡ old.events

-- what stays, and that servers and tables of live replicas stand for arrays, with room
pub record TurnStays {X : Type 0} (state : X → Server) (old new : Kept) (servers' : List X)
    (tables' : List ConfTable) : Type 0 where
  pub same : Stays old new
  pub arrays : HaveArrays state new servers' tables'
  pub room : HaveRoom state old.limits servers'

-- what a replica may run next, by its place, or why it has no turn: it is not live, has run all requests, or stands too
-- far behind the stable place
abbrev pub next_in : Kept → Seat → Result ℕ IdleCause
next_in c DownSeat = Err NotLive
next_in c (RebuildingSeat b) = Err NotLive
next_in c (LiveSeat k) =
    if nat_le (length c.requests) k.place then Err AtEnd
    else if nat_lt (k.place + c.limits.k) c.stable then Err Behind
    else Ok k.place

-- The replica has no turn, for this cause, and nothing changes; or it has one.
abbrev pub IsIdle : {X : Type 0} → (X → Server) → Kept → Kept → List X → List X → List ConfTable → List ConfTable →
    List FaultPoint → List FaultPoint → List Line → List Line → ℕ → Option IdleCause → Type 0
IsIdle state old new servers servers' tables tables' met met' ls ls' r None = (m : Moment) →
    IsState state old servers tables m.state → (c : IdleCause) → turn (service old.limits) m.state r ≡ Not c → ⊥
IsIdle state old new servers servers' tables tables' met met' ls ls' r (Some c) =
    (new ≡ old) × (servers' ≡ servers) × (tables' ≡ tables) × (met' ≡ met) × (ls' ≡ ls)
    × ((m : Moment) → IsState state old servers tables m.state → turn (service old.limits) m.state r ≡ Not c)

-- at these turns servers fail where these say so
abbrev pub FailAs : Faults → List Slot → List Bool → Type 0
FailAs faults [] [] = Unit {0}
FailAs faults [] (b ∷ fs) = ⊥
FailAs faults (t ∷ ts) [] = ⊥
FailAs faults (t ∷ ts) (b ∷ fs) = (faults t.round t.replica ≡ b) × FailAs faults ts fs

-- the fault points of turns
abbrev pub points_of : ℕ → List Slot → List Bool → List FaultPoint
points_of e [] fs = []
points_of e (t ∷ ts) [] = []
points_of e (t ∷ ts) (b ∷ fs) = points e t b ++ points_of e ts fs

-- these turns, one after the other
pub record TurnedAll {X : Type 0} (state : X → Server) (ts : List Slot) (old new : Kept) (servers servers' : List X)
    (tables tables' : List ConfTable) (met met' : List FaultPoint) (ls ls' : List Line) : Type 0 where
  pub faults_are : List Bool
  pub more : List Line
  pub long : length faults_are ≡ length ts
  pub met_are : met' ≡ met ++ points_of (suc old.events) ts faults_are
  pub lines_are : ls' ≡ ls ++ more
  pub tells : flat_map failed_of more ≡ map (λ (d : FaultPoint). d.replica) (points_of (suc old.events) ts faults_are)
  pub size : length servers' ≡ length servers
  pub struck : AreStruckBy state more servers servers'
  pub moves : (faults : Faults) → FailAs faults ts faults_are → (m : Moment) →
      IsState state old servers tables m.state →
      let n = last m (moments (slot_turn (service old.limits) faults) m ts) in
      IsState state new servers' tables' n.state × (n.lines ≡ m.lines ++ more)

-- the turns of a round, up to a replica
abbrev pub round_slots : ℕ → ℕ → List Slot
round_slots round n = map (λ r. record { round = round; replica = r }) (below n)

-- no replica has a turn
abbrev pub IsQuietNow : {X : Type 0} → (X → Server) → Kept → List X → List ConfTable → Type 0
IsQuietNow state c servers tables = (m : Moment) → IsState state c servers tables m.state → (r : ℕ) →
    r < length c.seats → (d : IdleCause) × (turn (service c.limits) m.state r ≡ Not d)

-- what a loop over turns keeps
pub record Going {X : Type 0} (state : X → Server) (ts : List Slot) (old new : Kept) (servers servers' : List X)
    (tables tables' : List ConfTable) (met met' : List FaultPoint) (ls ls' : List Line) : Type 0 where
  pub turned : TurnedAll state ts old new servers servers' tables tables' met met' ls ls'
  pub stays : TurnStays state old new servers' tables'

-- of the first n replicas none had a turn, and nothing changed
pub record Idled {X : Type 0} (state : X → Server) (n : ℕ) (old new : Kept) (servers servers' : List X)
    (tables tables' : List ConfTable) : Type 0 where
  pub kept_same : new ≡ old
  pub servers_same : servers' ≡ servers
  pub tables_same : tables' ≡ tables
  pub idle : (m : Moment) → IsState state old servers tables m.state → (r : ℕ) → r < n →
      (d : IdleCause) × (turn (service old.limits) m.state r ≡ Not d)

-- so many rounds were run: all, or as many as change something
pub record RanRounds {X : Type 0} (state : X → Server) (old new : Kept) (servers servers' : List X)
    (tables tables' : List ConfTable) (met met' : List FaultPoint) (ls ls' : List Line) : Type 0 where
  pub rounds : ℕ
  pub going : Going state (slots rounds (length old.seats)) old new servers servers' tables tables' met met' ls ls'
  pub few : rounds ≤ length old.requests
  pub ended : (rounds ≢ length old.requests) → IsQuietNow state new servers' tables'
