-- What is taken from a source and stepped, one thing after the other.
use Rattle.std.proofs.Common.{◌≡◌, ℕ, suc, ◌+◌, List, [], ◌∷◌, ◌++◌, Option, Some, None, Ok, Err, refl, sym, ap, subst, ◌∙◌, append_assoc, arith}
use Rattle.std.specs.Prelude.{IfSome}
use Rattle.std.proofs.lemmas.List.{append-nil}
use Rattle.log_format.specs.declared.Event.{Event}
use Rattle.log_format.specs.Records.{record_at}
use Rattle.log_format.specs.Spelling.{record_len}
use Rattle.log_stream.specs.declared.ReadErr.{ReadErr}
use Rattle.log_stream.specs.declared.ReadErr.TheVariants as read
use Rattle.log_stream.specs.Reading.{Refuses, Reads}
use Rattle.log_stream.proofs.Taken.{Consumes-none, Consumes-then}
use Rattle.cluster_model.specs.declared.Request.{Request}
use Rattle.cluster.specs.Steps.{asked_by}
use Rattle.basefs.specs.declared.status.Status.{Status}
use Rattle.basefs.specs.declared.status.Status.TheVariants as status
use Rattle.basefs.specs.declared.verdict.Verdict.TheVariants as verdict
use Rattle.basefs.specs.Log.{Log, bad, not_built, too_few, too_small, stops, behind_last, judge, records_from}
use Rattle.basefs.specs.Run.{IsPrefix, HoldsOf, Says, Ends}
use Rattle.basefs.specs.Going.{behind, Goes, read_status, FinishSays, Finishes}
use Rattle.basefs.proofs.Records.{records_zero, records_none, records_wrong, records_wait, spelled_goes, spelled_ends}

behind_behind : (a b : List Event) (log : Log) → behind a (behind b log) ≡ behind (a ++ b) log
behind_behind a b log = ap (λ (t : List Event). record { events = t; stop = log.stop }) (sym (append_assoc a b log.events))

pub IfSome-then : (left : Option (List ℕ)) (P Q : List ℕ → Type 0) → ((more : List ℕ) → P more → Q more) → IfSome left P → IfSome left Q
IfSome-then None P Q f h = tt
IfSome-then (Some xs) P Q f h = f xs h

IfSome-always : (left : Option (List ℕ)) (P : List ℕ → Type 0) → ((more : List ℕ) → P more) → IfSome left P
IfSome-always None P h = tt
IfSome-always (Some xs) P h = h xs

HoldsOf-then : (log rest : List ℕ → Log) (a b : List ℕ) (events : List Event) (left : Option (List ℕ)) (P Q : Log → Type 0) → ((more : List ℕ) → log (a ++ more) ≡ behind events (rest more)) → ((l : Log) → P l → Q (behind events l)) → HoldsOf rest b left P → HoldsOf log (a ++ b) left Q
HoldsOf-then log rest a b events left P Q goes f h = (
  subst Q (sym (goes b)) (f (rest b) h.0),
  IfSome-then left (λ more. P (rest (b ++ more))) (λ more. Q (log ((a ++ b) ++ more))) (λ more p. subst Q (sym (goes (b ++ more)) ∙ ap log (sym (append_assoc a b more))) (f (rest (b ++ more)) p)) h.1,
)

pub HoldsOf-always : (log : List ℕ → Log) (taken : List ℕ) (left : Option (List ℕ)) (P : Log → Type 0) → ((more : List ℕ) → P (log (taken ++ more))) → HoldsOf log taken left P
HoldsOf-always log taken left P h = (subst (λ (t : List ℕ). P (log t)) (append-nil taken) (h []), IfSome-always left (λ more. P (log (taken ++ more))) h)

prefix_then : (a part list : List Event) → IsPrefix part list → IsPrefix (a ++ part) (a ++ list)
prefix_then a part list h = (h.0, ap (λ (t : List Event). a ++ t) h.1 ∙ sym (append_assoc a part h.0))

pub prefix_none : (list : List Event) → IsPrefix [] list
prefix_none list = (list, refl)

pub Says-then : (s : Status) (log rest : List ℕ → Log) (a b : List ℕ) (front events : List Event) (left : Option (List ℕ)) → ((more : List ℕ) → log (a ++ more) ≡ behind front (rest more)) → Says s rest b left events → Says s log (a ++ b) left (front ++ events)
Says-then status.Done log rest a b front events left goes h = (goes b ∙ ap (behind front) h.0, h.1)
Says-then (status.BadLog at) log rest a b front events left goes h = HoldsOf-then log rest a b front left (λ l. l ≡ record { events = events; stop = bad at }) (λ l. l ≡ record { events = front ++ events; stop = bad at }) goes (λ l e. ap (behind front) e) h
Says-then (status.NotBuilt at) log rest a b front events left goes h = HoldsOf-then log rest a b front left (λ l. l ≡ record { events = events; stop = not_built at }) (λ l. l ≡ record { events = front ++ events; stop = not_built at }) goes (λ l e. ap (behind front) e) h
Says-then (status.TooFewServers have need) log rest a b front events left goes h = HoldsOf-then log rest a b front left (λ l. l ≡ record { events = events; stop = too_few have need }) (λ l. l ≡ record { events = front ++ events; stop = too_few have need }) goes (λ l e. ap (behind front) e) h
Says-then (status.ServerTooSmall server) log rest a b front events left goes h = HoldsOf-then log rest a b front left (λ l. l ≡ record { events = events; stop = too_small server }) (λ l. l ≡ record { events = front ++ events; stop = too_small server }) goes (λ l e. ap (behind front) e) h
Says-then status.ReadFault log rest a b front events left goes h = ap (λ (l : Log). l.events) (goes b) ∙ ap (λ (t : List Event). front ++ t) h
Says-then status.WriteFault log rest a b front events left goes h = HoldsOf-then log rest a b front left (λ l. IsPrefix events l.events) (λ l. IsPrefix (front ++ events) l.events) goes (λ l p. prefix_then front events l.events p) h
Says-then status.NoMemory log rest a b front events left goes h = HoldsOf-then log rest a b front left (λ l. IsPrefix events l.events) (λ l. IsPrefix (front ++ events) l.events) goes (λ l p. prefix_then front events l.events p) h
Says-then status.Usage log rest a b front events left goes h = absurd h
Says-then status.LinkFault log rest a b front events left goes h = absurd h

pub Goes-none : (left : Option (List ℕ)) (log : List ℕ → Log) → Goes left left log log []
Goes-none left log = record { taken = []; consumed = Consumes-none left; goes = λ more. refl }

pub Goes-then : {old mid left : Option (List ℕ)} {log rest others : List ℕ → Log} {a b : List Event} → Goes old mid log rest a → Goes mid left rest others b → Goes old left log others (a ++ b)
Goes-then {old = old} {mid = mid} {left = left} {log = log} {rest = rest} {others = others} {a = a} {b = b} p q = record {
  taken = p.taken ++ q.taken;
  consumed = Consumes-then old mid left p.taken q.taken p.consumed q.consumed;
  goes = λ more. ap log (append_assoc p.taken q.taken more) ∙ p.goes (q.taken ++ more) ∙ ap (behind a) (q.goes more) ∙ behind_behind a b (others more);
}

unfoldable pub Ends-then : {old mid left : Option (List ℕ)} {log rest : List ℕ → Log} {s : Status} {a b : List Event} → Goes old mid log rest a → Ends mid left rest s b → Ends old left log s (a ++ b)
Ends-then {old = old} {mid = mid} {left = left} {log = log} {rest = rest} {s = s} {a = a} {b = b} p q = record {
  taken = p.taken ++ q.taken;
  consumed = Consumes-then old mid left p.taken q.taken p.consumed q.consumed;
  says = Says-then s log rest p.taken q.taken a b left p.goes q.says;
}

-- ONE RECORD

refused : (n f servers : ℕ) (q : List Request) (place : ℕ) (taken : List ℕ) (left : Option (List ℕ)) (e : ReadErr) → Refuses (record_at f servers) taken left e → Says (read_status e place) (records_from (suc n) f servers q place) taken left []
refused n f servers q place taken left read.Failed h = ap (λ (l : Log). l.events) (records_none n f servers q place taken h)
refused n f servers q place taken left read.NoMemory h = HoldsOf-always (records_from (suc n) f servers q place) taken left (λ l. IsPrefix [] l.events) (λ more. prefix_none (records_from (suc n) f servers q place (taken ++ more)).events)
refused n f servers q place taken left read.Wrong h = (
  records_none n f servers q place taken h.0,
  IfSome-then left (λ more. record_at f servers (taken ++ more) ≡ None) (λ more. records_from (suc n) f servers q place (taken ++ more) ≡ record { events = []; stop = bad place }) (λ more g. records_none n f servers q place (taken ++ more) g) h.1,
)

-- no record was read
pub over_read : {old left : Option (List ℕ)} {e : ReadErr} (n f servers : ℕ) (q : List Request) (place : ℕ) → Reads (record_at f servers) (λ (x : Event). x) old left (Err e) → Ends old left (records_from (suc n) f servers q place) (read_status e place) []
over_read {left = left} {e = e} n f servers q place r = record { taken = r.taken; consumed = r.consumed; says = refused n f servers q place r.taken left e r.outcome }

-- a record was read, and is wrong
pub over_wrong : {old left : Option (List ℕ)} {e : Event} (n f servers : ℕ) (q : List Request) (place : ℕ) → Reads (record_at f servers) (λ (x : Event). x) old left (Ok e) → judge q e ≡ verdict.Wrong → Ends old left (records_from (suc n) f servers q place) (status.BadLog place) []
over_wrong {left = left} {e = e} n f servers q place r j = record {
  taken = r.taken;
  consumed = r.consumed;
  says = HoldsOf-always (records_from (suc n) f servers q place) r.taken left (λ l. l ≡ record { events = []; stop = bad place }) (λ more. records_wrong n f servers q place (r.taken ++ more) more e (r.outcome more) j);
}

-- a record was read, and is not built
pub over_waits : {old left : Option (List ℕ)} {e : Event} (n f servers : ℕ) (q : List Request) (place : ℕ) → Reads (record_at f servers) (λ (x : Event). x) old left (Ok e) → judge q e ≡ verdict.Waits → Ends old left (records_from (suc n) f servers q place) (status.NotBuilt place) []
over_waits {left = left} {e = e} n f servers q place r j = record {
  taken = r.taken;
  consumed = r.consumed;
  says = HoldsOf-always (records_from (suc n) f servers q place) r.taken left (λ l. l ≡ record { events = []; stop = not_built place }) (λ more. records_wait n f servers q place (r.taken ++ more) more e (r.outcome more) j);
}

-- memory wanted before a record was stepped
pub over_memory : {old left : Option (List ℕ)} {e : Event} (f servers : ℕ) (log : List ℕ → Log) → Reads (record_at f servers) (λ (x : Event). x) old left (Ok e) → Ends old left log status.NoMemory []
over_memory {left = left} f servers log r = record { taken = r.taken; consumed = r.consumed; says = HoldsOf-always log r.taken left (λ l. IsPrefix [] l.events) (λ more. prefix_none (log (r.taken ++ more)).events) }

-- a record was read and stepped
pub one_goes : {old left : Option (List ℕ)} {e : Event} (n f servers : ℕ) (q : List Request) (place : ℕ) → Reads (record_at f servers) (λ (x : Event). x) old left (Ok e) → judge q e ≡ verdict.Goes
    → Goes old left (records_from (suc n) f servers q place) (records_from n f servers (q ++ asked_by e) (place + record_len e)) (e ∷ [])
one_goes {e = e} n f servers q place r j = record { taken = r.taken; consumed = r.consumed; goes = λ more. spelled_goes n f servers q place r.taken e r.outcome j more }

-- the last record was read and stepped
pub last_goes : {old left : Option (List ℕ)} {e : Event} (n f servers : ℕ) (q : List Request) (place : ℕ) → Reads (record_at f servers) (λ (x : Event). x) old left (Ok e) → judge q e ≡ verdict.Ends
    → Goes old left (records_from (suc n) f servers q place) (λ more. stops (behind_last (place + record_len e) more)) (e ∷ [])
last_goes {e = e} n f servers q place r j = record { taken = r.taken; consumed = r.consumed; goes = λ more. spelled_ends n f servers q place r.taken e r.outcome j more }

finish_says : (f : Status) (b : List ℕ) (place : ℕ) (left : Option (List ℕ)) → FinishSays f place b left → Says f (λ more. stops (behind_last place more)) b left []
finish_says status.Done b place left f = (ap (λ (t : List ℕ). stops (behind_last place t)) f.0, f.1)
finish_says (status.BadLog other) [] place left f = absurd (omega (arith, f.1))
finish_says (status.BadLog other) (b ∷ bytes) place left f = rw f.0 (HoldsOf-always (λ more. stops (behind_last place more)) (b ∷ bytes) left (λ l. l ≡ record { events = []; stop = bad place }) (λ more. refl))
finish_says status.ReadFault b place left f = refl
finish_says (status.NotBuilt other) b place left f = absurd f
finish_says status.WriteFault b place left f = absurd f
finish_says status.NoMemory b place left f = absurd f
finish_says status.Usage b place left f = absurd f
finish_says status.LinkFault b place left f = absurd f
finish_says (status.TooFewServers have need) b place left f = absurd f
finish_says (status.ServerTooSmall server) b place left f = absurd f

-- what stands behind the last record was looked at
pub over_finish : {old left : Option (List ℕ)} {f : Status} (place : ℕ) → Finishes old left place f → Ends old left (λ more. stops (behind_last place more)) f []
over_finish {left = left} {f = f} place q = record { taken = q.taken; consumed = q.consumed; says = finish_says f q.taken place left q.says }

-- no more records are read
pub over_most : (left : Option (List ℕ)) (f servers : ℕ) (q : List Request) (place : ℕ) → Ends left left (records_from 0 f servers q place) (status.BadLog place) []
over_most left f servers q place = record {
  taken = [];
  consumed = Consumes-none left;
  says = HoldsOf-always (records_from 0 f servers q place) [] left (λ l. l ≡ record { events = []; stop = bad place }) (λ more. records_zero f servers q place more);
}
