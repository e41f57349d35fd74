-- The header and the records of a log: a table of their fields, which are items of XDR (RFC 4506).
use Rattle.std.specs.Prelude.{ℕ, length, ◌+◌, ◌-◌, ◌*◌, ◌==◌, ◌&&◌, ◌||◌, nat_lt, nat_le, not, Bool, if◌then◌else◌, List, [], ◌∷◌, Option, Some, None}
use Rattle.nfs2_types.specs.declared.Time.{Time}
use Rattle.nfs2_types.specs.declared.Word.{Word}
use Rattle.nfs2_types.specs.declared.Word.TheVariants.{Silent, Reply}
use Rattle.xdr_core.specs.Items.{word}
use Rattle.xdr_core.specs.Grammar.{Grammar}
use Rattle.xdr_cut.specs.Cut.{Plan, item, plain, front_at}
use Rattle.xdr_cut.specs.Needs.{least_word}
use Rattle.xdr_cut.specs.Fields.{Field, number, blob, exactly, maybe, from, any, plan_of}
use Rattle.log_format.specs.declared.header.Header.{Header}
use Rattle.log_format.specs.declared.event.Event.{Event}
use Rattle.log_format.specs.declared.event.Event.TheVariants.{Request, Run, RunAll, Reboot, Fetch, Rogue, Skip, Scratch, LieReply, LieRoot, LieItem, Wipe, Swap, End}

-- ---- the header

-- a header of these numbers
abbrev pub header_of : ℕ → ℕ → ℕ → ℕ → Header
header_of f n k t = record { f = f; n = n; k = k; t = t }

-- the numbers of a header are within their limits
abbrev pub is_within : Header → Bool
is_within h =
    nat_le h.f 2 && (h.n == 16 || (h.n == 256 || h.n == 4096)) &&
    (nat_le 1 h.k && nat_le h.k 1024) && (nat_le 512 h.t && nat_le h.t 16777216)

-- the letters BASELOG1 as two words, f, N, K and T
unfoldable pub header_plan : Plan Header
header_plan =
    plan_of (from 1111577413 1111577413 ∷ from 1280263985 1280263985
    ∷ from 0 2 ∷ number ((16, 16) ∷ (256, 256) ∷ (4096, 4096) ∷ []) ∷ from 1 1024 ∷ from 512 16777216 ∷ [])
    (λ base log f n k t. header_of f n k t)

-- the format of a header
abbrev pub header_form : Grammar Header
header_form = plain header_plan

-- ---- the records

-- the microseconds of a time
abbrev pub micros : Field
micros = from 0 999999

-- the number of a replica
abbrev pub replica : ℕ → Field
replica f = from 0 (3 * f)

-- the bytes of a call, of a reply or of an item
abbrev pub payload : Field
payload = blob 65536

-- a time of these numbers
abbrev pub time_of : ℕ → ℕ → Time
time_of secs micros = record { secs = secs; micros = micros }

-- what a replica casts: a reply, or none
abbrev pub word_of : Option (List ℕ) → Word
word_of (Some x) = Reply x
word_of None = Silent

-- the fields of each kind, and the record that they make
unfoldable pub fields_of : ℕ → ℕ → ℕ → Plan Event
fields_of f servers kind =
    if kind == 1 then plan_of (any ∷ any ∷ micros ∷ payload ∷ [])
    (λ client secs micros b. Request client (time_of secs micros) b) else
    if kind == 2 then plan_of (replica f ∷ []) (λ r. Run r) else
    if kind == 3 then plan_of [] RunAll else
    if kind == 4 then plan_of (replica f ∷ []) (λ r. Reboot r) else
    if kind == 5 then plan_of (replica f ∷ from 1 4294967295 ∷ []) (λ r n. Fetch r n) else
    if kind == 6 then plan_of (replica f ∷ any ∷ micros ∷ payload ∷ [])
    (λ r secs micros b. Rogue r (time_of secs micros) b) else
    if kind == 7 then plan_of (replica f ∷ []) (λ r. Skip r) else
    if kind == 8 then plan_of (replica f ∷ any ∷ any ∷ payload ∷ [])
    (λ r index offset b. Scratch r index offset b) else
    if kind == 9 then plan_of (replica f ∷ any ∷ maybe 65536 ∷ [])
    (λ r place w. LieReply r place (word_of w)) else
    if kind == 10 then plan_of (replica f ∷ any ∷ exactly 32 ∷ []) (λ r place root. LieRoot r place root) else
    if kind == 11 then plan_of (replica f ∷ any ∷ any ∷ payload ∷ []) (λ r level n b. LieItem r level n b) else
    if kind == 12 then plan_of (replica f ∷ []) (λ r. Wipe r) else
    if kind == 13 then plan_of (replica f ∷ from (3 * f + 1) (servers - 1) ∷ []) (λ r spare. Swap r spare) else
    plan_of [] End

-- there are fourteen kinds, and a Swap only where there is a spare server
abbrev pub is_kind : ℕ → ℕ → ℕ → Bool
is_kind f servers kind =
    (nat_le 1 kind && nat_le kind 14) && (not (kind == 13) || nat_lt (3 * f + 1) servers)

-- the shortest record that begins so has four bytes: a cut kind is all zeros
abbrev pub kind_need : List ℕ → Option ℕ
kind_need front =
    if nat_lt (length front) 4 then (if least_word front == 0 then Some 4 else None) else None

-- a record: its kind and its fields
unfoldable pub event_plan : ℕ → ℕ → Plan Event
event_plan f servers = item (word (is_kind f servers)) kind_need λ kind. fields_of f servers kind

-- the format of a record, where f replicas may fail and there are so many servers
abbrev pub event_form : ℕ → ℕ → Grammar Event
event_form f servers = plain (event_plan f servers)

-- ---- what stands at the front of a log

-- the header at the front, and the bytes behind it
abbrev pub header_at : List ℕ → Option (Header × List ℕ)
header_at log = front_at header_form log

-- the record at the front, and the bytes behind it
abbrev pub record_at : ℕ → ℕ → List ℕ → Option (Event × List ℕ)
record_at f servers log = front_at (event_form f servers) log
