-- The records of a log: the first of them, and the others.
use Rattle.std.proofs.Common.{◌≡◌, ℕ, suc, ◌+◌, ◌-◌, ◌<◌, Bool, true, false, cond, leb, List, [], ◌++◌, length, Option, Some, None, refl, subst, length-append, arith}
use Rattle.std.specs.Prelude.{◌||◌, ◌^◌}
use Rattle.nfs2_types.specs.declared.Limits.{Limits}
use Rattle.nfs2_types.specs.declared.Time.{Time}
use Rattle.std.proofs.lemmas.Bool.{leb-false}
use Rattle.log_format.specs.declared.Event.{Event}
use Rattle.log_format.specs.declared.Event.TheVariants as records
use Rattle.log_format.specs.Records.{record_at}
use Rattle.log_format.specs.Spelling.{record_len}
use Rattle.log_stream.specs.Reading.{Spells}
use Rattle.log_stream.proofs.Lengths.{length_spelled}
use Rattle.cluster_model.specs.declared.Request.{Request}
use Rattle.cluster.specs.Steps.{is_built, asked_by, CanStep}
use Rattle.basefs.specs.declared.verdict.Verdict.TheVariants as verdict
use Rattle.service_laws.proofs.Fits.{record_numbers}
use Rattle.basefs.specs.Log.{bad, not_built, stops, goes_on, behind_last, judge, judge_request, last_time, falls, records_from}

pub records_zero : (f servers : ℕ) (q : List Request) (place : ℕ) (bytes : List ℕ) → records_from 0 f servers q place bytes ≡ stops (bad place)
unfolding records_from
records_zero f servers q place bytes = refl

pub records_none : (n f servers : ℕ) (q : List Request) (place : ℕ) (bytes : List ℕ) → record_at f servers bytes ≡ None → records_from (suc n) f servers q place bytes ≡ stops (bad place)
unfolding records_from
records_none n f servers q place bytes h = rw (h, records_from) refl

pub records_wrong : (n f servers : ℕ) (q : List Request) (place : ℕ) (bytes rest : List ℕ) (e : Event) → record_at f servers bytes ≡ Some (e, rest) → judge q e ≡ verdict.Wrong → records_from (suc n) f servers q place bytes ≡ stops (bad place)
unfolding records_from
records_wrong n f servers q place bytes rest e h j = rw (h, j, records_from) refl

pub records_wait : (n f servers : ℕ) (q : List Request) (place : ℕ) (bytes rest : List ℕ) (e : Event) → record_at f servers bytes ≡ Some (e, rest) → judge q e ≡ verdict.Waits → records_from (suc n) f servers q place bytes ≡ stops (not_built place)
unfolding records_from
records_wait n f servers q place bytes rest e h j = rw (h, j, records_from) refl

records_go : (n f servers : ℕ) (q : List Request) (place : ℕ) (bytes rest : List ℕ) (e : Event) → record_at f servers bytes ≡ Some (e, rest) → judge q e ≡ verdict.Goes
    → records_from (suc n) f servers q place bytes ≡ goes_on e (records_from n f servers (q ++ asked_by e) (place + (length bytes - length rest)) rest)
unfolding records_from
records_go n f servers q place bytes rest e h j = rw (h, j, records_from) refl

records_end : (n f servers : ℕ) (q : List Request) (place : ℕ) (bytes rest : List ℕ) (e : Event) → record_at f servers bytes ≡ Some (e, rest) → judge q e ≡ verdict.Ends
    → records_from (suc n) f servers q place bytes ≡ goes_on e (stops (behind_last (place + (length bytes - length rest)) rest))
unfolding records_from
records_end n f servers q place bytes rest e h j = rw (h, j, records_from) refl

pub spelled_goes : (n f servers : ℕ) (q : List Request) (place : ℕ) (taken : List ℕ) (e : Event) → Spells (record_at f servers) taken e → judge q e ≡ verdict.Goes
    → (more : List ℕ) → records_from (suc n) f servers q place (taken ++ more) ≡ goes_on e (records_from n f servers (q ++ asked_by e) (place + record_len e) more)
spelled_goes n f servers q place taken e h j more =
    let len : length (taken ++ more) - length more ≡ record_len e = omega (arith, length-append taken more, length_spelled f servers taken e h) in
    subst (λ (m : ℕ). records_from (suc n) f servers q place (taken ++ more) ≡ goes_on e (records_from n f servers (q ++ asked_by e) (place + m) more)) len (records_go n f servers q place (taken ++ more) more e (h more) j)

pub spelled_ends : (n f servers : ℕ) (q : List Request) (place : ℕ) (taken : List ℕ) (e : Event) → Spells (record_at f servers) taken e → judge q e ≡ verdict.Ends
    → (more : List ℕ) → records_from (suc n) f servers q place (taken ++ more) ≡ goes_on e (stops (behind_last (place + record_len e) more))
spelled_ends n f servers q place taken e h j more =
    let len : length (taken ++ more) - length more ≡ record_len e = omega (arith, length-append taken more, length_spelled f servers taken e h) in
    subst (λ (m : ℕ). records_from (suc n) f servers q place (taken ++ more) ≡ goes_on e (stops (behind_last (place + m) more))) len (records_end n f servers q place (taken ++ more) more e (h more) j)

-- ROOM

pub or_false : (a b : Bool) → (a || b) ≡ false → (a ≡ false) × (b ≡ false)
or_false true b e = absurd cc
or_false false b e = (refl, e)

-- behind the requests of a log that goes on there is room for one more
request_can : (asked : ℕ) (last : Option Time) (time : Time) → judge_request asked last time ≡ verdict.Goes →
    asked + 1 < 2 ^ 32
request_can asked last time e = by (falls time last || leb 1000000 asked) refl e
  where
    by : (a : Bool) → (falls time last || leb 1000000 asked) ≡ a →
        cond a verdict.Wrong verdict.Goes ≡ verdict.Goes → asked + 1 < 2 ^ 32
    by true is e = absurd (let g : verdict.Wrong ≡ verdict.Goes = e in cc)
    by false is e =
        let low : asked < 1000000 = leb-false 1000000 asked (or_false (falls time last) (leb 1000000 asked) is).1 in
        omega arith

-- a record that goes is built
goes_built : (b : Bool) → cond b verdict.Goes verdict.Waits ≡ verdict.Goes → b ≡ true
goes_built true e = refl
goes_built false e = absurd (let g : verdict.Waits ≡ verdict.Goes = e in cc)

ends_last : (e : Event) (b : Bool) → cond b verdict.Goes verdict.Waits ≡ verdict.Ends → ⊥
ends_last e true h = let g : verdict.Goes ≡ verdict.Ends = h in cc
ends_last e false h = let g : verdict.Waits ≡ verdict.Ends = h in cc

pub can_step : (limits : Limits) (servers : ℕ) (q : List Request) (taken : List ℕ) (e : Event) →
    Spells (record_at limits.f servers) taken e → judge q e ≡ verdict.Goes → CanStep limits q e
can_step limits servers q taken (records.Request client time bytes) h j = (
  request_can (length q) (last_time q) time j,
  (record_numbers limits.f servers (taken ++ []) [] (records.Request client time bytes) (h [])).moment,
)
can_step limits servers q taken (records.Run r) h j = record_numbers limits.f servers (taken ++ []) [] (records.Run r) (h [])
can_step limits servers q taken (records.Rogue r time bytes) h j = (
    let n = record_numbers limits.f servers (taken ++ []) [] (records.Rogue r time bytes) (h []) in
    (n.0, n.1.moment))
can_step limits servers q taken (records.Reboot r) h j =
    record_numbers limits.f servers (taken ++ []) [] (records.Reboot r) (h [])
can_step limits servers q taken (records.Fetch r n) h j =
    record_numbers limits.f servers (taken ++ []) [] (records.Fetch r n) (h [])
can_step limits servers q taken (records.Skip r) h j =
    record_numbers limits.f servers (taken ++ []) [] (records.Skip r) (h [])
can_step limits servers q taken (records.LieReply r place w) h j =
    record_numbers limits.f servers (taken ++ []) [] (records.LieReply r place w) (h [])
can_step limits servers q taken (records.LieRoot r place root) h j =
    record_numbers limits.f servers (taken ++ []) [] (records.LieRoot r place root) (h [])
can_step limits servers q taken (records.LieItem r level number text) h j =
    record_numbers limits.f servers (taken ++ []) [] (records.LieItem r level number text) (h [])
can_step limits servers q taken (records.Wipe r) h j =
    record_numbers limits.f servers (taken ++ []) [] (records.Wipe r) (h [])
can_step limits servers q taken records.RunAll h j = refl
can_step limits servers q taken records.End h j = refl
can_step limits servers q taken e h j = goes_built (is_built e) j

-- the record that ends a log is End
pub ends_is : (q : List Request) (e : Event) → judge q e ≡ verdict.Ends → e ≡ records.End
ends_is q (records.Request client time bytes) j =
    absurd (request_ends (falls time (last_time q) || leb 1000000 (length q)) j)
  where
    request_ends : (a : Bool) → cond a verdict.Wrong verdict.Goes ≡ verdict.Ends → ⊥
    request_ends true h = let g : verdict.Wrong ≡ verdict.Ends = h in cc
    request_ends false h = let g : verdict.Goes ≡ verdict.Ends = h in cc
ends_is q records.End j = refl
ends_is q e j = absurd (ends_last e (is_built e) j)
