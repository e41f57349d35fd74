-- How a cluster and its bench stand for a state of the model. The cluster keeps no array: the array of a replica is
-- what its server and table stand for, whichever it is. Where the state has a list of pairs, the cluster has a map,
-- and only look-ups are compared.
use Rattle.std.specs.Prelude.{◌≡◌, ℕ, ◌<◌, ◌≤◌, List, length, slice_get, slice_index_or, Option, Some, None, option_map, cond, Bool, ◌==◌, ◌||◌}
use Rattle.nfs2_types.specs.declared.Limits.{Limits}
use Rattle.nfs2_types.specs.declared.Word.{Word}
use Rattle.nfs2_types.specs.declared.Word.TheVariants.{Reply}
use Rattle.server_trait.specs.Tree.{Server}
use Rattle.server_trait.specs.declared.ConfTable.{ConfTable}
use Rattle.cluster_model.specs.declared.Request.{Request}
use Rattle.cluster_model.specs.Tree.{below}
use Rattle.cluster_model.specs.State.{Running, Fetching, Condition, Live, Rebuilding, Down, State, lookup, has}
use Rattle.cluster_model.specs.Moments.{replica}
use Rattle.replica.specs.declared.Replica.{Replica}
use Rattle.replica.specs.Replicas.{IsOver}
use Rattle.recovery.specs.Rebuilt.{Rebuilt, HasFetched}
use Rattle.seats.specs.declared.Seat.{Seat}
use Rattle.seats.specs.declared.Seat.TheVariants.{Live as LiveSeat, Rebuilding as RebuildingSeat, Down as DownSeat}
use Rattle.reply_vote.specs.Ballots.{Ballot, word_at}
use Rattle.seats.specs.Positions.{StandsAt, HasRoomAt}
use Rattle.seats.specs.Seats.{HasArray}

-- what a cluster keeps: its limits, the requests, its replicas by number, the words that they cast, the decided word of
-- each place, the root words that they cast, each as the reply of its bytes, the stable place and its root, and how
-- many events it stepped
pub record Kept : Type 0 where
  pub limits : Limits
  pub requests : List Request
  pub seats : List Seat
  pub ballots : List Ballot
  pub decisions : ℕ → Option Word
  pub roots : List Ballot
  pub stable : ℕ
  pub root : List ℕ
  pub events : ℕ

-- what a replica keeps is what a running one has: its place, the digests that it believes, the objects told since its
-- newest checkpoint, the checkpoints that it holds, its lies, and whether it was harmed
pub record IsKeptBy (k : Replica) (l : Running) : Type 0 where
  pub place : l.place ≡ k.place
  pub believed : l.believed ≡ k.tree
  pub told : l.told ≡ k.store.told
  pub holds : l.holds ≡ k.store.holds
  pub lies : l.lies ≡ k.lies
  pub harmed : l.harmed ≡ k.harmed

-- a replica is live with what it keeps, and its position stands for its array
pub record IsLive {X : Type 0} (state : X → Server) (limits : Limits) (k : Replica) (s : Option X)
    (t : Option ConfTable) (c : Condition) : Type 0 where
  pub live : Running
  pub is_live : c ≡ Live live
  pub stands : StandsAt state limits s t live.array
  pub keeps : IsKeptBy k live

-- a replica is being rebuilt: its position stands for its array, and it got these items towards its target
pub record IsFetching {X : Type 0} (state : X → Server) (limits : Limits) (b : Rebuilt) (s : Option X)
    (t : Option ConfTable) (c : Condition) : Type 0 where
  pub fetching : Fetching
  pub is_rebuilding : c ≡ Rebuilding fetching
  pub stands : StandsAt state limits s t fetching.array
  pub target : fetching.target ≡ b.target
  pub fetched : HasFetched fetching.array fetching.got b

-- what stands at a position is in this condition: live, being rebuilt, or down
abbrev pub IsSeat : {X : Type 0} → (X → Server) → Limits → Seat → Option X → Option ConfTable → Condition → Type 0
IsSeat state limits (LiveSeat k) s t c = IsLive state limits k s t c
IsSeat state limits (RebuildingSeat b) s t c = IsFetching state limits b s t c
IsSeat state limits DownSeat s t c = c ≡ Down

-- what is being rebuilt is fetched towards no place above the stable one, and towards that one with its root
pub record IsAimed (stable : ℕ) (root : List ℕ) (b : Rebuilt) : Type 0 where
  pub low : (p : ℕ) → b.target ≡ Some p → p ≤ stable
  pub root_is : b.target ≡ Some stable → b.root ≡ root

-- what is being rebuilt there is fetched towards this place
abbrev pub IsAimedAt : ℕ → Seat → Type 0
IsAimedAt p (RebuildingSeat b) = b.target ≡ Some p
IsAimedAt p (LiveSeat k) = Unit {0}
IsAimedAt p DownSeat = Unit {0}

-- the cluster and the bench stand for this state
pub record IsState {X : Type 0} (state : X → Server) (c : Kept) (servers : List X) (tables : List ConfTable)
    (s : State) : Type 0 where
  pub requests : s.requests ≡ c.requests
  -- each server stands where it stood at the start
  pub order : s.bench ≡ below (length servers)
  pub stable : s.stable ≡ c.stable
  pub root : s.root ≡ c.root
  pub decisions : (p : ℕ) → lookup p s.decisions ≡ c.decisions p
  pub size : length s.replicas ≡ length c.seats
  pub voters : length c.ballots ≡ length c.seats
  pub root_voters : length c.roots ≡ length c.seats
  pub conditions : (r : ℕ) → r < length c.seats →
      IsSeat state c.limits (slice_index_or c.seats r DownSeat) (slice_get servers r) (slice_get tables r)
      (replica s r).condition
  pub aimed : (r : ℕ) (b : Rebuilt) → slice_get c.seats r ≡ Some (RebuildingSeat b) → IsAimed c.stable c.root b
  -- a word for a decided place does not count, kept or not
  pub words : (r p : ℕ) → r < length c.seats →
      lookup p (replica s r).words ≡ cond (has (c.decisions p)) None (word_at c.ballots r p)
  -- a root word is kept as the reply of its bytes
  pub roots : (r p : ℕ) → r < length c.seats →
      option_map Reply (lookup p (replica s r).roots) ≡ word_at c.roots r p

-- each live replica is one of a service with n entries
abbrev pub AreOver : ℕ → List Seat → Type 0
AreOver n seats = (r : ℕ) (k : Replica) → slice_get seats r ≡ Some (LiveSeat k) → IsOver n k

-- a size that a log's header may ask for
abbrev pub is_size : ℕ → Bool
is_size n = (n == 16) || (n == 256) || (n == 4096)

-- each replica has server and table, and those of one that is not down stand for some valid array
abbrev pub HaveArrays : {X : Type 0} → (X → Server) → Kept → List X → List ConfTable → Type 0
HaveArrays {X} state c servers tables = (r : ℕ) (seat : Seat) → slice_get c.seats r ≡ Some seat →
    HasArray state c.limits seat (slice_get servers r) (slice_get tables r)

-- each server can hold every array within the limits
abbrev pub HaveRoom : {X : Type 0} → (X → Server) → Limits → List X → Type 0
HaveRoom {X} state limits servers = (r : ℕ) → HasRoomAt state limits (slice_get servers r)
