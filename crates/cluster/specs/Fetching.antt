-- What a Fetch does, stage by stage. Contracts inside the crate and their proofs use it.
use Rattle.std.specs.Prelude.{◌≡◌, ◌≢◌, ◌<◌, ◌≤◌, ◌⊎◌, ℕ, zero, suc, ◌==◌, not, Bool, false, true, List, [], ◌∷◌, ◌++◌, map, filter, length, Option, Some, None, IsSome, All, slice_get, slice_index_or}
use Rattle.std.specs.List.{flat_map}
use Rattle.nfs2_types.specs.declared.Limits.{Limits}
use Rattle.server_trait.specs.Tree.{Server}
use Rattle.server_trait.specs.declared.ConfTable.{ConfTable}
use Rattle.server_trait.specs.declared.FaultPoint.{FaultPoint}
use Rattle.log_format.specs.declared.Line.{Line}
use Rattle.cluster_model.specs.Service.{Service}
use Rattle.cluster_model.specs.Tree.{Item, below}
use Rattle.cluster_model.specs.State.{Fetching, Condition, Live, Down, Rebuilding}
use Rattle.cluster_model.specs.Moments.{Moment, Faults, replica}
use Rattle.cluster_model.specs.Turns.{Slot, moments, last}
use Rattle.cluster_model.specs.Step.{FetchEnd, stage_fault, if_rebuilding, gets, fetches, ends_fetch}
use Rattle.cluster_model.specs.Run.{failed_of}
use Rattle.cluster_model.specs.Fair.{IsItem}
use Rattle.cluster_model.specs.Loose.{given, gives, IsGiven}
use Rattle.service_laws.specs.Served.{service}
use Rattle.fetch_laws.specs.Made.{EndsSo, GivesNone}
use Rattle.seats.specs.declared.Seat.{Seat}
use Rattle.seats.specs.declared.Seat.TheVariants.{Live as LiveSeat, Rebuilding as RebuildingSeat, Down as DownSeat}
use Rattle.seats.specs.Seats.{next_of}
use Rattle.cluster.specs.OverBench.{Kept, IsState, IsAimedAt}
use Rattle.cluster.specs.Turned.{points_of, FailAs, AreStruckBy, TurnStays}

-- WHAT FUNCTIONS OF THE CLUSTER WORK ON

-- what the cluster keeps, its bench, the fault points met and the lines so far
pub record Scene (X : Type 0) : Type 0 where
  pub kept : Kept
  pub servers : List X
  pub tables : List ConfTable
  pub met : List FaultPoint
  pub lines : List Line

abbrev pub scene : {X : Type 0} → Kept → List X → List ConfTable → List FaultPoint → List Line → Scene X
scene kept servers tables met lines =
    record { kept = kept; servers = servers; tables = tables; met = met; lines = lines }

-- what stands at a position
abbrev pub seat_in : {X : Type 0} → Scene X → ℕ → Seat
seat_in a r = slice_index_or a.kept.seats r DownSeat

-- From each moment that a scene stood for, the model leads to one that the other stands for, and prints these lines,
-- where servers fail at these slots as they did. Only seats, servers and tables differ.
pub record Led {X : Type 0} (state : X → Server) (leads : Faults → Moment → Moment → Type 0) (ts : List Slot)
    (a b : Scene X) : Type 0 where
  pub faults_are : List Bool
  pub more : List Line
  pub long : length faults_are ≡ length ts
  pub met_are : b.met ≡ a.met ++ points_of (suc a.kept.events) ts faults_are
  pub lines_are : b.lines ≡ a.lines ++ more
  -- the `down` lines are those of the fault points
  pub tells : flat_map failed_of more
      ≡ map (λ (d : FaultPoint). d.replica) (points_of (suc a.kept.events) ts faults_are)
  pub size : length b.servers ≡ length a.servers
  pub struck : AreStruckBy state more a.servers b.servers
  pub fixed : b.kept ≡ record a.kept { seats = b.kept.seats }
  pub stays : TurnStays state a.kept b.kept b.servers b.tables
  pub aims : (j p : ℕ) → IsAimedAt p (seat_in a j) → IsAimedAt p (seat_in b j)
  pub moves : (faults : Faults) → FailAs faults ts faults_are → (m : Moment) →
      IsState state a.kept a.servers a.tables m.state →
      (n : Moment) × leads faults m n × IsState state b.kept b.servers b.tables n.state × (n.lines ≡ m.lines ++ more)

-- SLOTS OF A FETCH

-- the slot of a replica at a stage
abbrev pub slot_at : ℕ → ℕ → Slot
slot_at stage j = record { round = stage; replica = j }

-- the sources of r among the first n replicas, each at a stage, in order
abbrev pub source_slots : ℕ → ℕ → ℕ → List Slot
source_slots stage r n = map (slot_at stage) (filter (λ j. not (j == r)) (below n))

-- with r itself last
abbrev pub stage_slots : ℕ → ℕ → ℕ → List Slot
stage_slots stage r n = source_slots stage r n ++ slot_at stage r ∷ []

-- all slots of so many stages
abbrev pub slots_before : ℕ → ℕ → ℕ → List Slot
slots_before r n zero = []
slots_before r n (suc stages) = slots_before r n stages ++ stage_slots stages r n

-- a replica's chance to fail at its slot in a Fetch of r
abbrev pub chance : ℕ → Faults → Moment → Slot → Moment
chance r faults m t = stage_fault faults r t.round m t.replica

-- after these chances
abbrev pub chances : ℕ → Faults → Moment → List Slot → Moment
chances r faults m ts = last m (moments (chance r faults) m ts)

-- ONE SOURCE

-- a replica in this condition gives nothing for an item at place p
abbrev pub GivesNothing : Service → ℕ → Item → Condition → Type 0
GivesNothing S p i (Live l) = given S p l i ≡ None
GivesNothing S p i Down = Unit {0}
GivesNothing S p i (Rebuilding f) = Unit {0}

-- a replica in this condition gave this for an item at place p, where its server failed or not
abbrev pub GaveSo : Service → ℕ → Item → Bool → Condition → Option (List ℕ) → Type 0
GaveSo S p i fault c (Some text) = gives S p (i, text) c
GaveSo S p i fault c None = fault ≡ false → GivesNothing S p i c

-- source j was asked for an item at a stage, and gave this
abbrev pub Asks : Service → ℕ → ℕ → ℕ → Item → Option (List ℕ) → Faults → Moment → Moment → Type 0
Asks S r stage j i text faults m n = (n ≡ chance r faults m (slot_at stage j))
    × (IsItem S i → GaveSo S m.state.stable i (faults stage j) (replica m.state j).condition text)

-- no text of a replica in this condition is taken by what is being rebuilt in this seat
abbrev pub GivesNoneTo : Service → ℕ → Seat → Condition → Type 0
GivesNoneTo S p (RebuildingSeat b) c = GivesNone S p b.fetch c
GivesNoneTo S p (LiveSeat k) c = Unit {0}
GivesNoneTo S p DownSeat c = Unit {0}

-- r gets an item with its text, where it is being rebuilt
abbrev pub then_gets : ℕ → Item × List ℕ → Moment → Moment
then_gets r x m = if_rebuilding m (replica m.state r).condition (λ f. gets r x m f)

-- source j was asked at a stage for the item that is next in this seat, and a text was taken, or none
abbrev pub Offers : Service → ℕ → ℕ → ℕ → Item → Seat → Bool → Faults → Moment → Moment → Type 0
Offers S r stage j i seat true faults m n = (text : List ℕ)
    × (n ≡ then_gets r (i, text) (chance r faults m (slot_at stage j)))
    × (IsItem S i → gives S m.state.stable (i, text) (replica m.state j).condition)
Offers S r stage j i seat false faults m n = (n ≡ chance r faults m (slot_at stage j))
    × (IsItem S i → faults stage j ≡ false → GivesNoneTo S m.state.stable seat (replica m.state j).condition)

-- the same, and where none was taken the seat of r stays
pub record Offered {X : Type 0} (state : X → Server) (r stage j : ℕ) (i : Item) (a b : Scene X) (taken : Bool)
    : Type 0 where
  pub led : Led state (Offers (service a.kept.limits) r stage j i (seat_in a r) taken) (slot_at stage j ∷ []) a b
  pub same : taken ≡ false → slice_get b.kept.seats r ≡ slice_get a.kept.seats r

-- ONE STAGE

-- one of n replicas gave a text that was taken, and the server of r did not fail
abbrev pub GetsOne : Service → ℕ → ℕ → ℕ → Item → Faults → Moment → Moment → Type 0
GetsOne S r stage n i faults m k = (text : List ℕ)
    × (k ≡ then_gets r (i, text) (chances r faults m (stage_slots stage r n)))
    × (IsItem S i → IsGiven S m.state r (i, text))
    × (faults stage r ≡ false)

-- none of the first n replicas gave one
abbrev pub GetsNone : Service → ℕ → ℕ → ℕ → Item → Seat → Faults → Moment → Moment → Type 0
GetsNone S r stage n i seat faults m k = (k ≡ chances r faults m (source_slots stage r n))
    × (IsItem S i → (j : ℕ) → j < n → j ≢ r → faults stage j ≡ false →
    GivesNoneTo S m.state.stable seat (replica m.state j).condition)

-- the first n sources of r were asked in vain, and the seat of r stays
pub record Refused {X : Type 0} (state : X → Server) (r stage n : ℕ) (i : Item) (a b : Scene X) : Type 0 where
  pub led : Led state (GetsNone (service a.kept.limits) r stage n i (seat_in a r)) (source_slots stage r n) a b
  pub same : slice_get b.kept.seats r ≡ slice_get a.kept.seats r

-- a stage: an item was got, or all sources were asked in vain
abbrev pub Staged : {X : Type 0} → (X → Server) → ℕ → ℕ → Item → Scene X → Scene X → Bool → Type 0
Staged state r stage i a b true =
    Led state (GetsOne (service a.kept.limits) r stage (length a.kept.seats) i)
    (stage_slots stage r (length a.kept.seats)) a b
Staged state r stage i a b false = Refused state r stage (length a.kept.seats) i a b

-- ALL STAGES

-- in a Fetch of r from m on these items are got, one at each stage, and it goes on from n
pub record Reaches (S : Service) (r : ℕ) (faults : Faults) (m n : Moment) (items : List (Item × List ℕ))
    : Type 0 where
  pub goes_on : (end : FetchEnd) (rest : List (Item × List ℕ)) →
      last m (fetches S faults r end 0 (items ++ rest) m) ≡ last n (fetches S faults r end (length items) rest n)
  pub stable : n.state.stable ≡ m.state.stable
  pub root : n.state.root ≡ m.state.root
  pub size : length n.state.replicas ≡ length m.state.replicas
  pub fetching : (f : Fetching) → (replica m.state r).condition ≡ Rebuilding f →
      (replica n.state r).condition ≡ Rebuilding (record f { got = f.got ++ items })
  pub others : (j : ℕ) → j ≢ r → ((replica n.state j).condition ≡ (replica m.state j).condition)
      ⊎ ((replica n.state j).condition ≡ Down)
  pub sound : (j : ℕ) → j ≢ r → ((stage : ℕ) → stage < length items → faults stage j ≡ false) →
      (replica n.state j).condition ≡ (replica m.state j).condition
  pub given : All (IsGiven S m.state r) items

-- so many items were got
abbrev pub Gathers : Service → ℕ → ℕ → Faults → Moment → Moment → Type 0
Gathers S r stages faults m n = (items : List (Item × List ℕ)) × (length items ≡ stages)
    × Reaches S r faults m n items

-- so many stages went by, in each of which an item was got
abbrev pub Gathered : {X : Type 0} → (X → Server) → ℕ → ℕ → Scene X → Scene X → Type 0
Gathered state r stages a b =
    Led state (Gathers (service a.kept.limits) r stages) (slots_before r (length a.kept.seats) stages) a b

-- So many items were got, of at most n; where fewer were got and something is missing in the seat of r, all sources
-- were asked in vain at the last stage.
abbrev pub Collects : Service → ℕ → ℕ → ℕ → ℕ → Seat → Faults → Moment → Moment → Type 0
Collects S r n sources stages seat faults m k = (items : List (Item × List ℕ)) × (mid : Moment)
    × (length items ≡ stages) × Reaches S r faults m mid items
    × (k ≡ chances r faults mid (source_slots stages r sources))
    × (stages ≢ n → IsSome (next_of seat) → (j : ℕ) → j < sources → j ≢ r →
    ((stage : ℕ) → stage ≤ stages → faults stage j ≡ false) →
    GivesNoneTo S m.state.stable seat (replica m.state j).condition)

-- with r's own chance to fail at the last stage still to come
pub record Collected {X : Type 0} (state : X → Server) (r n stages : ℕ) (a b : Scene X) : Type 0 where
  pub few : stages ≤ n
  pub led : Led state (Collects (service a.kept.limits) r n (length a.kept.seats) stages (seat_in b r))
      (slots_before r (length a.kept.seats) stages ++ source_slots stages r (length a.kept.seats)) a b

-- THE END

-- how a Fetch ends of what is being rebuilt in this seat
abbrev pub EndsFor : Limits → Seat → Condition → FetchEnd → Type 0
EndsFor limits (RebuildingSeat b) (Rebuilding f) end = EndsSo limits f.array b end
EndsFor limits (RebuildingSeat b) (Live l) end = Unit {0}
EndsFor limits (RebuildingSeat b) Down end = Unit {0}
EndsFor limits (LiveSeat k) c end = Unit {0}
EndsFor limits DownSeat c end = Unit {0}

-- the end of a Fetch of r at a stage, where r itself may fail
abbrev pub Ends : Limits → ℕ → ℕ → Seat → Faults → Moment → Moment → Type 0
Ends limits r stage seat faults m n = (end : FetchEnd)
    × (n ≡ (let then = chance r faults m (slot_at stage r) in
    if_rebuilding then (replica then.state r).condition (λ f. ends_fetch (service limits) r end then f)))
    × EndsFor limits seat (replica m.state r).condition end

abbrev pub Ended : {X : Type 0} → (X → Server) → ℕ → ℕ → Scene X → Scene X → Type 0
Ended state r stage a b = Led state (Ends a.kept.limits r stage (seat_in a r)) (slot_at stage r ∷ []) a b
