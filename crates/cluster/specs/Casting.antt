-- What the cast of a word, and of a root word, does to what a cluster keeps. Contracts inside the crate and their
-- proofs use it.
use Rattle.std.specs.Prelude.{◌≡◌, ◌≢◌, ◌<◌, ◌≤◌, ◌*◌, ℕ, List, [], ◌∷◌, ◌++◌, length, slice_get, Option, Some, None, option_map}
use Rattle.nfs2_types.specs.declared.Word.{Word}
use Rattle.nfs2_types.specs.declared.Word.TheVariants as words
use Rattle.log_format.specs.declared.Line.{Line}
use Rattle.log_format.specs.declared.Line.TheVariants as lines
use Rattle.cluster_model.specs.Moments.{decision_line}
use Rattle.reply_vote.specs.Ballots.{Ballot, votes_for, Casts, Forgets, Drops}
use Rattle.cow_checkpoint.specs.Store.{drops}
use Rattle.replica.specs.declared.Replica.{Replica}
use Rattle.replica.specs.declared.Cast.{Cast}
use Rattle.seats.specs.declared.Seat.{Seat}
use Rattle.seats.specs.declared.Seat.TheVariants.{Live as LiveSeat, Rebuilding as RebuildingSeat, Down as DownSeat}
use Rattle.cluster.specs.OverBench.{Kept}

-- REPLY WORDS

-- this place is decided with w, and all else is as before
pub record Decides (p : ℕ) (w : Word) (old new : ℕ → Option Word) : Type 0 where
  pub here : new p ≡ Some w
  pub others : (q : ℕ) → q ≢ p → new q ≡ old q

-- what stands beside reply words and decisions
pub record SameButWords (old new : Kept) : Type 0 where
  pub limits : new.limits ≡ old.limits
  pub requests : new.requests ≡ old.requests
  pub seats : new.seats ≡ old.seats
  pub roots : new.roots ≡ old.roots
  pub stable : new.stable ≡ old.stable
  pub root : new.root ≡ old.root
  pub events : new.events ≡ old.events

-- A word is cast: for a place that is decided nothing changes; else it stands, and where f others are equal, it
-- decides the place, its line is printed, and the words for the place are forgotten.
pub data CastCases (r p : ℕ) (w : Word) (old new : Kept) (ls ls' : List Line) : Type 0 where
  Late : (v : Word) → old.decisions p ≡ Some v → new.ballots ≡ old.ballots → new.decisions ≡ old.decisions → ls' ≡ ls →
      CastCases r p w old new ls ls'
  Stood : old.decisions p ≡ None → Casts r p w old.ballots new.ballots → new.decisions ≡ old.decisions → ls' ≡ ls →
      votes_for new.ballots p w ≤ old.limits.f → CastCases r p w old new ls ls'
  Decided : old.decisions p ≡ None → (mid : List Ballot) → Casts r p w old.ballots mid → Forgets p mid new.ballots →
      Decides p w old.decisions new.decisions → ls' ≡ ls ++ decision_line p w ∷ [] →
      old.limits.f < votes_for mid p w → CastCases r p w old new ls ls'

-- with what stays
pub record Counted (r p : ℕ) (w : Word) (old new : Kept) (ls ls' : List Line) : Type 0 where
  pub same : SameButWords old new
  pub cases : CastCases r p w old new ls ls'

-- ROOT WORDS

-- a live replica has forgotten the checkpoints of places below p
abbrev pub sees : ℕ → Replica → Replica
sees p k = record k { store = drops p k.store }

-- the same of what stands at a position
abbrev pub seat_sees : ℕ → Seat → Seat
seat_sees p (LiveSeat k) = LiveSeat (sees p k)
seat_sees p (RebuildingSeat b) = RebuildingSeat b
seat_sees p DownSeat = DownSeat

-- each live replica has forgotten them
pub record SeatsSee (p : ℕ) (old new : List Seat) : Type 0 where
  pub size : length new ≡ length old
  pub each : (r : ℕ) → slice_get new r ≡ option_map (seat_sees p) (slice_get old r)

-- what stands beside root words, the stable place and what replicas hold
pub record SameButRoots (old new : Kept) : Type 0 where
  pub limits : new.limits ≡ old.limits
  pub requests : new.requests ≡ old.requests
  pub ballots : new.ballots ≡ old.ballots
  pub decisions : new.decisions ≡ old.decisions
  pub events : new.events ≡ old.events

-- A root word is cast: for a place that is not above the stable one nothing changes; else it stands, and where 2f
-- others are equal, it makes the place stable, its line is printed, each live replica forgets its checkpoints of lower
-- places, and root words for places up to it are forgotten.
pub data RootCases (r p : ℕ) (d : List ℕ) (old new : Kept) (ls ls' : List Line) : Type 0 where
  Low : p ≤ old.stable → new.roots ≡ old.roots → new.stable ≡ old.stable → new.root ≡ old.root →
      new.seats ≡ old.seats → ls' ≡ ls → RootCases r p d old new ls ls'
  Waits : old.stable < p → Casts r p (words.Reply d) old.roots new.roots → new.stable ≡ old.stable →
      new.root ≡ old.root → new.seats ≡ old.seats → ls' ≡ ls →
      votes_for new.roots p (words.Reply d) ≤ 2 * old.limits.f → RootCases r p d old new ls ls'
  IsStable : old.stable < p → (mid : List Ballot) → Casts r p (words.Reply d) old.roots mid → Drops p mid new.roots →
      new.stable ≡ p → new.root ≡ d → SeatsSee p old.seats new.seats → ls' ≡ ls ++ lines.Stable p d ∷ [] →
      2 * old.limits.f < votes_for mid p (words.Reply d) → RootCases r p d old new ls ls'

-- with what stays
pub record Rooted (r p : ℕ) (d : List ℕ) (old new : Kept) (ls ls' : List Line) : Type 0 where
  pub same : SameButRoots old new
  pub cases : RootCases r p d old new ls ls'

-- where there is a root word
abbrev pub RootedIf : ℕ → ℕ → Option (List ℕ) → Kept → Kept → List Line → List Line → Type 0
RootedIf r p None old new ls ls' = (new ≡ old) × (ls' ≡ ls)
RootedIf r p (Some d) old new ls ls' = Rooted r p d old new ls ls'

-- the reply word is cast, and then the root word
pub record Voted (r : ℕ) (cast : Cast) (old new : Kept) (ls ls' : List Line) : Type 0 where
  pub mid : Kept
  pub between : List Line
  pub replied : Counted r cast.place cast.word old mid ls between
  pub rooted : RootedIf r cast.place cast.root mid new between ls'
