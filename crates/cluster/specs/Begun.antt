-- How replicas begin. Contracts inside the crate and their proofs use it.
use Rattle.std.specs.Prelude.{◌≡◌, ◌<◌, ℕ, Bool, false, true, List, [], ◌∷◌, ◌++◌, map, length, slice_get, slice_index_or, Option, IsSome}
use Rattle.std.specs.List.{flat_map}
use Rattle.nfs2_types.specs.declared.Limits.{Limits}
use Rattle.abs_model.specs.Array.{empty_array}
use Rattle.server_trait.specs.Tree.{Server}
use Rattle.server_trait.specs.declared.ConfTable.{ConfTable}
use Rattle.server_trait.specs.declared.FaultPoint.{FaultPoint}
use Rattle.log_format.specs.declared.Line.{Line}
use Rattle.log_format.specs.declared.Line.TheVariants as lines
use Rattle.cluster_model.specs.Tree.{below}
use Rattle.cluster_model.specs.Moments.{Faults}
use Rattle.cluster_model.specs.Run.{failed_of}
use Rattle.replica.specs.Replicas.{begun}
use Rattle.seats.specs.declared.Seat.{Seat}
use Rattle.seats.specs.declared.Seat.TheVariants.{Live as LiveSeat, Rebuilding as RebuildingSeat, Down as DownSeat}
use Rattle.seats.specs.Positions.{StandsAt, ChangesAt}
use Rattle.cluster.specs.OverBench.{AreOver}
use Rattle.cluster.specs.Turned.{AreStruckBy, FailAs, points, points_of, round_slots}

-- a replica whose server failed is down; another is live as at the beginning, and its position stands for that array;
-- each has server and table
abbrev pub SeatBegins : {X : Type 0} → (X → Server) → Limits → Bool → Seat → Option X → Option ConfTable → Type 0
SeatBegins state limits true DownSeat s t = IsSome s × IsSome t
SeatBegins state limits true (LiveSeat k) s t = ⊥
SeatBegins state limits true (RebuildingSeat b) s t = ⊥
SeatBegins state limits false (LiveSeat k) s t =
    (k ≡ begun limits.n) × StandsAt state limits s t (empty_array limits.n)
SeatBegins state limits false (RebuildingSeat b) s t = ⊥
SeatBegins state limits false DownSeat s t = ⊥

-- the line of a replica's beginning: one where its server failed
abbrev pub begin_line : Bool → ℕ → List Line
begin_line false r = []
begin_line true r = lines.Down r ∷ []

-- replica r began, behind those before it
pub record BeginsAt {X : Type 0} (state : X → Server) (limits : Limits) (r : ℕ) (servers servers' : List X)
    (tables tables' : List ConfTable) (seats seats' : List Seat) (met met' : List FaultPoint)
    (ls ls' : List Line) : Type 0 where
  pub fault : Bool
  pub seat : Seat
  pub seats_are : seats' ≡ seats ++ seat ∷ []
  pub met_are : met' ≡ met ++ points 0 (record { round = 0; replica = r }) fault
  pub lines_are : ls' ≡ ls ++ begin_line fault r
  pub begins : SeatBegins state limits fault seat (slice_get servers' r) (slice_get tables' r)
  pub servers_change : ChangesAt r servers servers'
  pub tables_change : ChangesAt r tables tables'
  pub struck : AreStruckBy state (begin_line fault r) servers servers'

-- the lines of the first n replicas, where servers fail so
abbrev pub begin_lines : Faults → ℕ → List Line
begin_lines faults n = flat_map (λ r. begin_line (faults 0 r) r) (below n)

-- the first n replicas began, each as these faults say
pub record Begun {X : Type 0} (state : X → Server) (limits : Limits) (n : ℕ) (servers servers' : List X)
    (tables' : List ConfTable) (seats : List Seat) (met : List FaultPoint) (ls : List Line)
    : Type 0 where
  pub faults_are : List Bool
  pub long : length faults_are ≡ n
  pub many : length seats ≡ n
  pub over : AreOver limits.n seats
  pub met_are : met ≡ points_of 0 (round_slots 0 n) faults_are
  pub tells : flat_map failed_of ls ≡ map (λ (d : FaultPoint). d.replica) met
  pub struck : AreStruckBy state ls servers servers'
  pub size : length servers' ≡ length servers
  pub begins : (faults : Faults) → FailAs faults (round_slots 0 n) faults_are → (r : ℕ) → r < n →
      SeatBegins state limits (faults 0 r) (slice_index_or seats r DownSeat) (slice_get servers' r)
      (slice_get tables' r)
  pub said : (faults : Faults) → FailAs faults (round_slots 0 n) faults_are → ls ≡ begin_lines faults n
