-- What a replay does to a bench.
use Rattle.std.specs.Prelude.{◌≡◌, ◌≢◌, ◌⊎◌, ℕ, ◌+◌, ◌*◌, ◌≤◌, false, List, [], length, slice_get, Option, Some, None}
use Rattle.server_trait.specs.Tree.{Server}
use Rattle.server_trait.specs.declared.ServerLimits.{ServerLimits}
use Rattle.log_format.specs.declared.Header.{Header}
use Rattle.log_format.specs.Records.{header_at}
use Rattle.seats.specs.Positions.{AreLater}
use Rattle.basefs.specs.declared.status.Status.{Status}
use Rattle.basefs.specs.declared.status.Status.TheVariants as status
use Rattle.basefs.specs.Log.{Log, Stop, too_few, too_small, stops, is_small, limits_of, by_bench, log_of}
use Rattle.basefs.specs.Setting.{Setting, SameBench}
use Rattle.basefs.specs.Run.{Stopped, Ran, status_of}

-- it comes of the bench
abbrev pub IsBench : Stop → Type 0
IsBench (too_few have need) = Unit {0}
IsBench (too_small server) = Unit {0}
IsBench s = ⊥

-- what stops a log with this header before its records, if anything does
abbrev pub Refuses : {X : Type 0} → (X → ServerLimits) → Header → List X → Option Status → Type 0
Refuses {X} most h servers None = (3 * h.f + 1 ≤ length servers) ×
    ((r : ℕ) (x : X) → slice_get servers r ≡ Some x → is_small h (most x) ≡ false) ×
    ((log : Log) → by_bench most h servers log ≡ log)
Refuses {X} most h servers (Some s) = (stop : Stop) × (s ≡ status_of stop) × IsBench stop ×
    ((log : Log) → by_bench most h servers log ≡ stops stop)

-- how many servers a log that begins so has replicas for: none where no header stands there
abbrev pub replicas_of : List ℕ → ℕ
replicas_of taken = elim (header_at taken) [ None ↦ 0 | Some h ↦ 3 * h.0.f + 1 ]

-- No replica was started: nothing was written, and unless memory wanted, the bench is as it was. The fault points are
-- as they were, or none, and no server was touched that no replica is for.
pub record Early {X : Type 0} (state : X → Server) (old new : Setting X) (ended : Status) : Type 0 where
  pub stopped : Stopped old.left new.left (log_of (λ s. (state s).limits) old.servers) ended
  pub held_stays : new.held ≡ old.held
  pub bench_stays : ended ≢ status.NoMemory → SameBench old new
  pub downs_known : (new.downs ≡ []) ⊎ (new.downs ≡ old.downs)
  pub later : AreLater state (replicas_of stopped.ends.taken) old.servers new.servers

-- The replicas of the first servers were started, and ran.
pub record Started {X : Type 0} (state : X → Server) (old new : Setting X) (ended : Status) : Type 0 where
  pub header : Header
  pub ran : Ran state (limits_of header) (log_of (λ s. (state s).limits) old.servers) old new ended
  pub behind : List ℕ
  pub is_header : header_at ran.ends.taken ≡ Some (header, behind)

-- one or the other
abbrev pub Replayed : {X : Type 0} → (X → Server) → Setting X → Setting X → Status → Type 0
Replayed state old new ended = Early state old new ended ⊎ Started state old new ended
