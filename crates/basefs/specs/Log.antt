-- The log: a header and records, up to the first that stops a run.
use Rattle.std.specs.Prelude.{ℕ, zero, suc, ◌+◌, ◌-◌, ◌*◌, ◌||◌, nat_lt, nat_le, Bool, false, List, [], ◌∷◌, length, Option, Some, None, slice_get, option_map, ◌++◌, if◌then◌else◌}
use Rattle.std.specs.List.{position_from}
use Rattle.std.specs.Option.{option_map_or}
use Rattle.nfs2_types.specs.declared.Limits.{Limits}
use Rattle.nfs2_types.specs.declared.Time.{Time}
use Rattle.nfs2_types.specs.Times.{is_before}
use Rattle.server_trait.specs.declared.ServerLimits.{ServerLimits}
use Rattle.log_format.specs.declared.Event.{Event}
use Rattle.log_format.specs.declared.Event.TheVariants as records
use Rattle.log_format.specs.declared.Header.{Header}
use Rattle.log_format.specs.Records.{header_at, record_at}
use Rattle.cluster_model.specs.declared.Request.{Request}
use Rattle.cluster.specs.Steps.{is_built, asked_by}
use Rattle.basefs.specs.declared.verdict.Verdict.{Verdict}
use Rattle.basefs.specs.declared.verdict.Verdict.TheVariants.{Wrong, Waits, Goes, Ends}

-- RECORDS

-- the time of the last request, if there is one
abbrev pub last_time : List Request → Option Time
last_time requests = option_map (λ r. r.time) (slice_get requests (length requests - 1))

-- a time before that of the last request
abbrev pub falls : Time → Option Time → Bool
falls time last = option_map_or (is_before time) last false

-- a request is wrong where its time falls or there are too many
abbrev pub judge_request : ℕ → Option Time → Time → Verdict
judge_request asked last time = if falls time last || nat_le 1000000 asked then Wrong else Goes

-- what comes of a record behind these requests
abbrev pub judge : List Request → Event → Verdict
judge requests (records.Request client time bytes) = judge_request (length requests) (last_time requests) time
judge requests records.End = Ends
judge requests event = if is_built event then Goes else Waits

-- Why a log goes no further: it is whole; the header or record at this byte is wrong, or not built yet; or the bench
-- has too few servers, or one that is too small.
pub data Stop : Type 0 where
  whole : Stop
  bad : ℕ → Stop
  not_built : ℕ → Stop
  too_few : (have need : ℕ) → Stop
  too_small : (server : ℕ) → Stop

-- the records that are stepped, and what stops them
pub record Log : Type 0 where
  pub events : List Event
  pub stop : Stop

abbrev pub stops : Stop → Log
stops stop = record { events = []; stop = stop }

-- a record before others
abbrev pub goes_on : Event → Log → Log
goes_on e log = record { events = e ∷ log.events; stop = log.stop }

-- nothing follows the last record
abbrev pub behind_last : ℕ → List ℕ → Stop
behind_last place [] = whole
behind_last place (b ∷ bytes) = bad place

-- At most n records, the first at this byte, behind these requests; f replicas may fail, and there are so many servers.
unfoldable pub records_from : ℕ → (f servers : ℕ) → List Request → ℕ → List ℕ → Log
records_from zero f servers requests place bytes = stops (bad place)
records_from (suc n) f servers requests place bytes =
    elim (record_at f servers bytes) [
      | None ↦ stops (bad place)
      | Some x ↦ elim (judge requests x.0) [
        | Wrong ↦ stops (bad place)
        | Waits ↦ stops (not_built place)
        | Goes ↦ goes_on x.0
            (records_from n f servers (requests ++ asked_by x.0) (place + (length bytes - length x.1)) x.1)
        | Ends ↦ goes_on x.0 (stops (behind_last (place + (length bytes - length x.1)) x.1))
      ]
    ]

-- THE HEADER

-- the limits of the service that a header asks for
abbrev pub limits_of : Header → Limits
limits_of h = record { n = h.n; k = h.k; t = h.t; f = h.f }

-- a server that can't hold every array within the limits
abbrev pub is_small : Header → ServerLimits → Bool
is_small h most = nat_lt most.nodes (h.n + 3) || nat_lt most.bytes (h.t + 1048576)

-- The records, if the bench has enough servers and all are large enough. What a server holds at most is told by `most`.
abbrev pub by_bench : {X : Type 0} → (X → ServerLimits) → Header → List X → Log → Log
by_bench most h servers log =
    if nat_lt (length servers) (3 * h.f + 1) then stops (too_few (length servers) (3 * h.f + 1))
    else elim (position_from (λ s. is_small h (most s)) 0 servers) [ Some s ↦ stops (too_small s) | None ↦ log ]

-- the log that these bytes are, over these servers
unfoldable pub log_of : {X : Type 0} → (X → ServerLimits) → List X → List ℕ → Log
log_of most servers bytes =
    elim (header_at bytes) [
      | None ↦ stops (bad 0)
      | Some h ↦ by_bench most h.0 servers (records_from 16777216 h.0.f (length servers) [] 24 h.1)
    ]
