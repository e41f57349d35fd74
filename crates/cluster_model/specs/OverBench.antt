-- How a cluster and its bench stand for a state, and the clause of one step.
-- The cluster keeps no array: each array is what a server and its table stand for. Where the state has a
-- list of pairs, the cluster has a map, and only look-ups are compared.
use Rattle.std.specs.Prelude.{◌≡◌, ℕ, ◌+◌, ◌<◌, Bool, List, ◌++◌, length, All, slice_get, slice_index_or, Option, Some, None, cond, nat_lt}
use Rattle.std.specs.List.{AllZip}
use Rattle.abs_model.specs.declared.Entry.{Entry}
use Rattle.cluster_model.specs.declared.request.Request.{Request}
use Rattle.nfs2_types.specs.declared.Word.{Word}
use Rattle.log_format.specs.declared.Line.{Line}
use Rattle.log_format.specs.declared.Event.{Event}
use Rattle.server_trait.specs.declared.FaultPoint.{FaultPoint}
use Rattle.cluster_model.specs.Service.{Service}
use Rattle.cluster_model.specs.Tree.{Item, digests}
use Rattle.cluster_model.specs.State.{Checkpoint, Running, Fetching, Condition, Live, Down, Rebuilding, State, lookup, lookup_item, has}
use Rattle.cluster_model.specs.Moments.{Moment, Faults, replica}
use Rattle.cluster_model.specs.Turns.{last}
use Rattle.cluster_model.specs.Step.{step}
use Rattle.cluster_model.specs.Fair.{IsFair, IsApartNow}
use Rattle.cluster_model.specs.Right.{IsRight}
use Rattle.cluster_model.specs.Loose.{LooseStep}
use Rattle.cluster_model.specs.Run.{Upto, SameUpto, faults_in, fresh, start, AreMet}
use Rattle.cluster_model.specs.Struck.{AreStruck}
use Rattle.cluster_model.specs.Steady.{IsSteady}

-- What the code keeps of a Live replica: all of it but the array.
pub record KeptCheckpoint : Type 0 where
  pub place : ℕ
  pub digests : List (List ℕ)
  pub saved : ℕ → Option (List ℕ)

-- of a live replica: all of it but the array
pub record KeptLive : Type 0 where
  pub believed : List (List ℕ)
  pub place : ℕ
  pub told : List ℕ
  pub holds : List KeptCheckpoint
  pub word_lies : ℕ → Option Word
  pub root_lies : ℕ → Option (List ℕ)
  pub item_lies : Item → Option (List ℕ)
  pub harmed : Bool

-- Of a Rebuilding one: its own digests, the target, and what was got, in order.
pub record KeptFetch : Type 0 where
  pub own : List (List ℕ)
  pub target : Option ℕ
  pub got : List (Item × List ℕ)

-- a replica as it is kept
pub data Kept : Type 0 where
  KeptLiveOf : KeptLive → Kept
  KeptDown : Kept
  KeptFetchOf : KeptFetch → Kept

-- a cluster as it is kept: the order of servers, the replicas, votes by voter and place, decisions, the
-- stable place and its root, and how many events it took
pub record ClusterView : Type 0 where
  pub requests : List Request
  pub order : List ℕ
  pub replicas : List Kept
  -- by voter and place
  pub reply_votes : ℕ → ℕ → Option Word
  pub root_votes : ℕ → ℕ → Option (List ℕ)
  pub decisions : ℕ → Option Word
  pub stable : ℕ
  pub root : List ℕ
  pub events : ℕ

-- the checkpoint c is kept as k
pub record IsKeptCheckpoint (c : Checkpoint) (k : KeptCheckpoint) : Type 0 where
  pub place : c.place ≡ k.place
  pub listed : c.digests ≡ k.digests
  pub saved : (i : ℕ) → lookup i c.saved ≡ k.saved i

-- l, its array aside, is kept as k
pub record IsKeptLive (l : Running) (k : KeptLive) : Type 0 where
  pub believed : l.believed ≡ k.believed
  pub place : l.place ≡ k.place
  pub told : l.told ≡ k.told
  pub holds : AllZip IsKeptCheckpoint l.holds k.holds
  pub word_lies : (p : ℕ) → lookup p l.lies.words ≡ k.word_lies p
  pub root_lies : (p : ℕ) → lookup p l.lies.roots ≡ k.root_lies p
  pub item_lies : (i : Item) → lookup_item i l.lies.items ≡ k.item_lies i
  pub harmed : l.harmed ≡ k.harmed

-- what a replica that is being rebuilt has got is kept as k
pub record IsKeptFetch (S : Service) (b : Fetching) (k : KeptFetch) : Type 0 where
  pub own : k.own ≡ digests S b.array
  pub target : b.target ≡ k.target
  pub got : b.got ≡ k.got

-- count and limits: what a server tells of its failures, and of itself
module _ (S : Service) (Server Table Limits : Type 0) (count : Server → ℕ) (limits : Server → Limits)
    (Stands : Server → Table → List Entry → Type 0) where
  -- what stands at a position of the bench
  abbrev pub StandsAt : Option Server → Option Table → List Entry → Type 0
  StandsAt (Some server) (Some table) a = Stands server table a
  StandsAt None t a = ⊥
  StandsAt (Some server) None a = ⊥

  -- what is kept, with the server and the table at its position, stands for this condition
  abbrev pub IsCondition : Kept → Option Server → Option Table → Condition → Type 0
  IsCondition (KeptLiveOf k) server table (Live l) = StandsAt server table l.array × IsKeptLive l k
  IsCondition KeptDown server table Down = Unit {0}
  IsCondition (KeptFetchOf k) server table (Rebuilding b) = StandsAt server table b.array
      × IsKeptFetch S b k
  IsCondition _ server table _ = ⊥

  -- the cluster and the bench stand for this state
  pub record IsState (c : ClusterView) (servers : List Server) (tables : List Table)
      (s : State) : Type 0 where
    pub requests : s.requests ≡ c.requests
    pub order : s.bench ≡ c.order
    pub servers_there : length servers ≡ length s.bench
    pub decisions : (p : ℕ) → lookup p s.decisions ≡ c.decisions p
    pub stable : s.stable ≡ c.stable
    pub root : s.root ≡ c.root
    pub size : length s.replicas ≡ length c.replicas
    pub conditions : (r : ℕ) → r < length s.replicas →
        IsCondition (slice_index_or c.replicas r KeptDown) (slice_get servers r) (slice_get tables r)
        (replica s r).condition
    -- a word for a decided place, and a root word for a place that is not above the stable one, does not
    -- count, kept or not
    pub words : (r p : ℕ) → r < length s.replicas →
        lookup p (replica s r).words ≡ cond (has (c.decisions p)) None (c.reply_votes r p)
    pub root_words : (r p : ℕ) → r < length s.replicas →
        lookup p (replica s r).roots ≡ cond (nat_lt c.stable p) (c.root_votes r p) None

  -- where the state before is right, and Fair and Apart hold there: the moments are Step's as long as they
  -- are fair, and right
  abbrev pub IsRightStep : Faults → Event → Moment → List Moment → Type 0
  IsRightStep faults event m ms = IsRight S m.state → IsFair S m → IsApartNow S m.state →
      SameUpto (IsFair S) ms (step S faults event m) × Upto (IsFair S) (λ n. IsRight S n.state) ms

  -- The clause of the start: the fault points are those that it met; its last moment's state stands; the
  -- lines are its lines; the servers were struck so.
  abbrev pub Starts : List Server → ClusterView → List Server → List Table → List FaultPoint → List Line →
      Type 0
  Starts servers new servers' tables' downs' lines =
      All (λ (d : FaultPoint). d.event ≡ 0) downs' × AreMet downs' lines × (new.events ≡ 0)
      × (let m = fresh S (length servers) in let ms = start S (length servers) downs' in
      IsState new servers' tables' (last m ms).state × IsSteady S (last m ms).state
      × ((last m ms).lines ≡ lines)
      × AreStruck Server Limits count limits m ms servers servers')

  -- The clause of a step, for an answer other than NoMemory: from whatever steady state the cluster and the
  -- bench stand for, with whatever lines before, there are moments that a loose step may give; at the last of
  -- them cluster and bench stand for its state, which is steady; the lines are those printed since; each server
  -- failed as often as it was struck, at least, and not where it was not; the step is right; and the fault
  -- points that the call appends to the bench's list are those that it met, in order.
  abbrev pub Steps : ClusterView → List Server → List Table → List FaultPoint → Event → ClusterView →
      List Server → List Table → List FaultPoint → List Line → Type 0
  Steps old servers tables downs event new servers' tables' downs' lines =
      (met : List FaultPoint) × (downs' ≡ downs ++ met)
      × All (λ (d : FaultPoint). d.event ≡ old.events + 1) met × AreMet met lines
      × (new.events ≡ old.events + 1)
      × ((m : Moment) → IsState old servers tables m.state → IsSteady S m.state →
      (ms : List Moment) × LooseStep S (faults_in met (old.events + 1)) event m ms
      × IsState new servers' tables' (last m ms).state × IsSteady S (last m ms).state
      × ((last m ms).lines ≡ m.lines ++ lines)
      × AreStruck Server Limits count limits m ms servers servers'
      × IsRightStep (faults_in met (old.events + 1)) event m ms)
