-- A run that goes on by one record, and one that stops.
use Rattle.std.proofs.Common.{◌≡◌, ℕ, suc, ◌+◌, ◌*◌, List, [], ◌∷◌, ◌++◌, length, map, Option, Ok, Err, inl, inr, refl, sym, ap, subst, ◌∙◌, length-append, append_assoc, arith}
use Rattle.std.specs.List.{All, flat_map}
use Rattle.std.specs.Io.KnownBytes.{Appends}
use Rattle.std.proofs.lemmas.List.{map-append, append-nil}
use Rattle.std.proofs.lemmas.List.Concat.{flat_map-append}
use Rattle.std.proofs.lemmas.List.Elements.{All-push}
use Rattle.nfs2_types.specs.declared.Limits.{Limits}
use Rattle.server_trait.specs.Tree.{Server}
use Rattle.server_trait.specs.declared.ConfTable.{ConfTable}
use Rattle.server_trait.specs.declared.FaultPoint.{FaultPoint}
use Rattle.server_trait.specs.declared.ServerLimits.{ServerLimits}
use Rattle.log_format.specs.declared.Event.{Event}
use Rattle.log_format.specs.declared.Line.{Line}
use Rattle.log_format.specs.Lines.{line_text, text_of}
use Rattle.log_stream.specs.Writing.{Writes}
use Rattle.log_stream.proofs.WriteSteps.{Appends-then}
use Rattle.outside.specs.declared.SinkErr.TheVariants as sink
use Rattle.cluster_model.specs.Tree.{below}
use Rattle.cluster_model.specs.Moments.{Moment}
use Rattle.cluster_model.specs.Turns.{last}
use Rattle.cluster_model.specs.Good.{FitsEvent, AllGood}
use Rattle.cluster_model.specs.Steady.{IsSteady}
use Rattle.cluster_model.specs.Loose.{LooseStep}
use Rattle.cluster_model.specs.Walk.{WalkedStep}
use Rattle.cluster_model.specs.Run.{faults_in, fresh, LooseRun, AreMet, failed_of}
use Rattle.cluster_model.proofs.Growing.{run_snoc, last-append}
use Rattle.cluster_model.proofs.Struck.{IsAmong, struck_then}
use Rattle.cluster_model.proofs.Steady.{code_step}
use Rattle.service_laws.specs.Served.{service}
use Rattle.service_laws.proofs.Served.{service_lawful}
use Rattle.seats.specs.Positions.{AreLater}
use Rattle.cluster.specs.OverBench.{Kept, IsState}
use Rattle.cluster.specs.Steps.{Follows, Steps, asked_by}
use Rattle.basefs.specs.declared.run_err.RunErr.{RunErr}
use Rattle.basefs.specs.declared.run_err.RunErr.TheVariants as run
use Rattle.basefs.specs.declared.status.Status.{Status}
use Rattle.basefs.specs.declared.status.Status.TheVariants as status
use Rattle.basefs.specs.Log.{Log}
use Rattle.basefs.specs.Setting.{Setting}
use Rattle.basefs.specs.Servers.{ArePoints}
use Rattle.basefs.specs.Run.{IsPrefix, Ends, Wrote, Printed, IsCutAtLast, Ran, end_of, requests_of}
use Rattle.basefs.specs.Going.{Here, run_status}
use Rattle.basefs.proofs.Points.{IsOf, points_then}
use Rattle.cluster.proofs.Struck.{length-below, later_none, later_then}
use Rattle.basefs.proofs.Places.{live_stand, worn_later}
use Rattle.basefs.proofs.Running.{run_more, run_told, run_exact, run_promised, run_served}

-- ONE RECORD MORE

pub all_as : {X : Type 0} (P Q : X → Type 0) (xs : List X) → ((x : X) → P x → Q x) → All P xs → All Q xs
all_as P Q xs f h = λ k d within. f _ (h k d within)

module _ {X : Type 0} {state : X → Server} {limits : Limits} {before servers servers' : List X}
    {tables tables' : List ConfTable} {downs downs' : List FaultPoint} {kept kept' : Kept} {events : List Event}
    {e : Event} {lines : List Line} (h : Here state limits before servers tables downs kept events)
    (s : Steps state kept kept' servers servers' tables tables' downs downs' e lines)
    (fits : FitsEvent (service limits) e) (later : AreLater state (3 * limits.f + 1) servers servers') where
  abbrev first : Moment
  first = fresh (service limits) (length before)

  abbrev pub m : Moment
  m = end_of limits (length before) h.ms

  follows : Follows state kept kept' servers servers' tables' s.met e lines m
  follows =
      s.moves m (subst (λ (x : Limits). AllGood (service x) m.state) (sym h.limits_are) h.steady.good) h.is_state

  walked : WalkedStep (service limits) (faults_in s.met (suc (length events))) e m follows.ms
  walked =
      subst (λ (n : ℕ). WalkedStep (service limits) (faults_in s.met (suc n)) e m follows.ms) h.counted
      (subst (λ (x : Limits). WalkedStep (service x) (faults_in s.met (suc kept.events)) e m follows.ms) h.limits_are
      follows.is_step)

  -- from a steady moment a walked step is a loose one, and leads to a steady one
  lifted : LooseStep (service limits) (faults_in s.met (suc (length events))) e m follows.ms
      × IsSteady (service limits) (last m follows.ms).state
  lifted =
      let step = code_step (service limits) (service_lawful limits h.sized) (faults_in s.met (suc (length events))) e
      fits m follows.ms h.steady walked in
      (step.0, step.1)

  points_here : All (IsOf limits (suc (length events))) s.met
  points_here =
      subst (λ (n : ℕ). All (IsOf limits (suc n)) s.met) h.counted
      (subst (λ (x : Limits). All (IsOf x (suc kept.events)) s.met) h.limits_are s.numbered)

  numbered : All (λ (d : FaultPoint). d.event ≡ suc (length events)) s.met
  numbered = all_as (IsOf limits (suc (length events))) (λ (d : FaultPoint). d.event ≡ suc (length events)) s.met
      (λ d p. p.0) points_here

  ms' : List Moment
  ms' = h.ms ++ follows.ms

  end_is : end_of limits (length before) (h.ms ++ follows.ms) ≡ last m follows.ms
  end_is = last-append first h.ms follows.ms

  lines_more : (end_of limits (length before) (h.ms ++ follows.ms)).lines ≡ m.lines ++ lines
  lines_more = ap (λ (n : Moment). n.lines) end_is ∙ follows.adds

  run_then : LooseRun (service limits) (length before) downs' (events ++ e ∷ []) (h.ms ++ follows.ms)
  run_then =
      subst (λ (d : List FaultPoint). LooseRun (service limits) (length before) d (events ++ e ∷ [])
      (h.ms ++ follows.ms)) (sym s.downs_are)
      (run_snoc (service limits) (length before) downs s.met events e h.ms follows.ms numbered h.points.events h.is_run
      lifted.0)

  one_more : length (events ++ e ∷ []) ≡ suc (length events)
  one_more = omega (arith, length-append events (e ∷ []))

  points_more : ArePoints limits (length (events ++ e ∷ [])) (downs ++ s.met)
  points_more = subst (λ (n : ℕ). ArePoints limits n (downs ++ s.met)) (sym one_more)
      (points_then limits (length events) downs s.met h.points points_here)

  met_more : AreMet (downs ++ s.met) (m.lines ++ lines)
  met_more = map-append (λ (d : FaultPoint). d.replica) downs s.met
      ∙ ap (λ t. t ++ map (λ (d : FaultPoint). d.replica) s.met) h.met
      ∙ ap (λ t. flat_map failed_of m.lines ++ t) s.lines_are ∙ sym (flat_map-append failed_of m.lines lines)

  bench_is : m.state.bench ≡ below (length before)
  bench_is = h.is_state.order ∙ ap below h.later.size

  bench_size : length servers ≡ length m.state.bench
  bench_size = h.later.size ∙ sym (ap length bench_is ∙ length-below (length before))

  pub here_more : Here state limits before servers' tables' downs' kept' (events ++ e ∷ [])
  here_more = record {
    ms = h.ms ++ follows.ms;
    is_run = run_then;
    sized = h.sized;
    fits = All-push (FitsEvent (service limits)) events e h.fits fits;
    is_state = subst (λ (n : Moment). IsState state kept' servers' tables' n.state) (sym end_is) follows.stands;
    steady = subst (λ (n : Moment). IsSteady (service limits) n.state) (sym end_is) lifted.1;
    requests = s.requests ∙ ap (λ q. q ++ asked_by e) h.requests
        ∙ sym (flat_map-append asked_by events (e ∷ [])
        ∙ ap (λ q. requests_of events ++ q) (append-nil (asked_by e)));
    counted = s.events ∙ ap suc h.counted ∙ sym one_more;
    limits_are = s.limits ∙ h.limits_are;
    points = subst (ArePoints limits (length (events ++ e ∷ []))) (sym s.downs_are) points_more;
    met = subst (λ (d : List FaultPoint). AreMet d (end_of limits (length before) (h.ms ++ follows.ms)).lines)
        (sym s.downs_are) (subst (AreMet (downs ++ s.met)) (sym lines_more) met_more);
    struck = struck_then X ServerLimits (λ x. (state x).faults) (λ x. (state x).limits) first h.ms follows.ms
        before servers servers' (λ k g. subst (IsAmong k) (sym bench_is) g) bench_size h.struck follows.struck;
    later = later_then state (3 * limits.f + 1) before servers servers' h.later later;
  }

  pub text_more : text_of (end_of limits (length before) here_more.ms).lines ≡ text_of m.lines ++ text_of lines
  unfolding here_more
  text_more = ap text_of lines_more ∙ flat_map-append line_text m.lines lines

  -- the lines of this record were written in part
  pub cut_here : (part : List ℕ) →
      IsCutAtLast limits (length before) downs' (events ++ e ∷ []) here_more.ms (text_of m.lines ++ part)
  unfolding here_more
  cut_here part = record {
    before = events;
    final = e ∷ [];
    parts = refl;
    one = omega arith;
    earlier = h.ms;
    later = follows.ms;
    moments = refl;
    is_run = subst (λ (d : List FaultPoint). LooseRun (service limits) (length before) d events h.ms)
        (sym s.downs_are) (run_more (service limits) (length before) downs s.met events h.ms numbered h.is_run);
    written = inr (part, refl);
  }

-- all lines were written
pub cut_whole : {X : Type 0} {state : X → Server} {limits : Limits} {before servers : List X} {tables : List ConfTable}
    {downs : List FaultPoint} {kept : Kept} {events : List Event}
    (h : Here state limits before servers tables downs kept events) →
    IsCutAtLast limits (length before) downs events h.ms (text_of (end_of limits (length before) h.ms).lines)
cut_whole {limits = limits} {before = before} {events = events} h = record {
  before = events;
  final = [];
  parts = sym (append-nil events);
  one = omega arith;
  earlier = h.ms;
  later = [];
  moments = sym (append-nil h.ms);
  is_run = h.is_run;
  written = inr ([], sym (append-nil (text_of (end_of limits (length before) h.ms).lines)));
}

-- the lines of the start were written in part
pub cut_start : {X : Type 0} {state : X → Server} {limits : Limits} {before servers : List X} {tables : List ConfTable}
    {downs : List FaultPoint} {kept : Kept} (h : Here state limits before servers tables downs kept [])
    (part : List ℕ) → IsCutAtLast limits (length before) downs [] h.ms part
cut_start h part = record {
  before = [];
  final = [];
  parts = refl;
  one = omega arith;
  earlier = h.ms;
  later = [];
  moments = sym (append-nil h.ms);
  is_run = h.is_run;
  written = inl refl;
}

-- WHERE A RUN STOPS

module _ {X : Type 0} {state : X → Server} {limits : Limits} {old now : Setting X} {kept : Kept} {events : List Event}
    {log : List ℕ → Log} {s : Status} where
  -- where it stands
  pub ran_here : (h : Here state limits old.servers now.servers now.tables now.downs kept events)
      (ends : Ends old.left now.left log s events) → (s ≡ status.WriteFault → (log ends.taken).events ≡ events) →
      (printed : Printed old.held now.held s (text_of (end_of limits (length old.servers) h.ms).lines)) →
      IsCutAtLast limits (length old.servers) now.downs events h.ms printed.part → Ran state limits log old now s
  ran_here h ends unread printed cut = record {
    events = events;
    ends = ends;
    ms = h.ms;
    is_run = h.is_run;
    printed = printed;
    cut = cut;
    unread = unread;
    exact = run_exact limits (length old.servers) now.downs events h.ms h.is_run h.sized h.fits;
    promised = run_promised limits (length old.servers) now.downs events h.ms h.is_run h.sized h.fits;
    calm = run_served limits (length old.servers) now.downs events h.ms h.is_run;
    told = run_told limits (length old.servers) now.downs events h.ms h.is_run;
    requests = h.is_state.requests ∙ h.requests;
    stands = λ no. live_stand state limits h.limits_are h.is_state;
    points = h.points;
    met = h.met;
    struck = λ no. h.struck;
    worn = worn_later state (3 * limits.f + 1) (length old.servers) (fresh (service limits) (length old.servers))
        h.ms old.servers now.servers now.servers refl (h.is_state.order ∙ ap below h.later.size) h.later
        (later_none state (3 * limits.f + 1) now.servers) h.struck;
    size = h.later.size;
    spares = h.later.beyond;
  }

-- memory wanted while the next record was stepped
pub ran_short : {X : Type 0} {state : X → Server} {limits : Limits} {old now : Setting X} {kept : Kept}
    {events : List Event} {log : List ℕ → Log} {servers : List X} {tables : List ConfTable}
    (h : Here state limits old.servers servers tables now.downs kept events) →
    AreLater state (3 * limits.f + 1) servers now.servers → Ends old.left now.left log status.NoMemory events →
    (printed : Printed old.held now.held status.NoMemory (text_of (end_of limits (length old.servers) h.ms).lines)) →
    IsCutAtLast limits (length old.servers) now.downs events h.ms printed.part →
    Ran state limits log old now status.NoMemory
ran_short {state = state} {limits = limits} {old = old} {now = now} {events = events} {servers = servers} h later
    ends printed cut = record {
      events = events;
      ends = ends;
      ms = h.ms;
      is_run = h.is_run;
      printed = printed;
      cut = cut;
      unread = λ e. absurd (let other : status.NoMemory ≡ status.WriteFault = e in cc);
      exact = run_exact limits (length old.servers) now.downs events h.ms h.is_run h.sized h.fits;
      promised = run_promised limits (length old.servers) now.downs events h.ms h.is_run h.sized h.fits;
      calm = run_served limits (length old.servers) now.downs events h.ms h.is_run;
      told = run_told limits (length old.servers) now.downs events h.ms h.is_run;
      requests = h.is_state.requests ∙ h.requests;
      stands = λ no. absurd (no refl);
      points = h.points;
      met = h.met;
      struck = λ no. absurd (no refl);
      worn = worn_later state (3 * limits.f + 1) (length old.servers) (fresh (service limits) (length old.servers))
          h.ms old.servers servers now.servers refl (h.is_state.order ∙ ap below h.later.size) h.later later h.struck;
      size = later.size ∙ h.later.size;
      spares = (later_then state (3 * limits.f + 1) old.servers servers now.servers h.later later).beyond;
    }

-- WHAT WAS WRITTEN

-- all of a text
pub wrote_all : (s : Status) (text : List ℕ) → Wrote s text text
wrote_all status.WriteFault text = ([], sym (append-nil text))
wrote_all status.NoMemory text = ([], sym (append-nil text))
wrote_all status.Done text = refl
wrote_all status.Usage text = refl
wrote_all (status.BadLog at) text = refl
wrote_all status.ReadFault text = refl
wrote_all status.LinkFault text = refl
wrote_all (status.TooFewServers have need) text = refl
wrote_all (status.ServerTooSmall server) text = refl
wrote_all (status.NotBuilt at) text = refl

abbrev pub printed_all : {old now : Option (List ℕ)} {text : List ℕ} (s : Status) → Appends old now text → Printed old now s text
printed_all {text = text} s a = record { part = text; appended = a; wrote = wrote_all s text }

pub wrote_part : (w : RunErr) (part text : List ℕ) → IsPrefix part text → Wrote (run_status w) part text
wrote_part (run.Sink sink.Failed) part text h = h
wrote_part (run.Sink sink.NoMemory) part text h = h
wrote_part run.NoMemory part text h = h

-- the same part, whatever the error
pub writes_err : {T R E F : Type 0} {old now : Option (List ℕ)} {text : List ℕ} {e : E} (f : F) → Writes {T = T} old now text (Err e) → Writes {T = R} old now text (Err f)
writes_err f w = record { part = w.part; appended = w.appended; wrote = w.wrote }

-- all of it, whatever an error would be
pub writes_ok : {T E F : Type 0} {old now : Option (List ℕ)} {text : List ℕ} {x : T} → Writes {E = E} old now text (Ok x) → Writes {E = F} old now text (Ok x)
writes_ok w = record { part = w.part; appended = w.appended; wrote = w.wrote }

-- a text, and a part of what follows it
abbrev pub printed_part : {T : Type 0} {old mid now : Option (List ℕ)} {text whole : List ℕ} {w : RunErr} (front : List ℕ) → Appends old mid front → Writes {T = T} mid now text (Err w) → whole ≡ front ++ text → Printed old now (run_status w) whole
printed_part {old = old} {mid = mid} {now = now} {text = text} {whole = whole} {w = w} front a p is = record {
  part = front ++ p.part;
  appended = Appends-then old mid now front p.part a p.appended;
  wrote = wrote_part w (front ++ p.part) whole (p.wrote.0, is ∙ ap (λ t. front ++ t) p.wrote.1 ∙ sym (append_assoc front p.part p.wrote.0));
}

-- a text, and all of what follows it
pub appended_all : {T E : Type 0} {mid now : Option (List ℕ)} {text whole : List ℕ} {x : T} (old : Option (List ℕ)) (front : List ℕ) → Appends old mid front → Writes {E = E} mid now text (Ok x) → whole ≡ front ++ text → Appends old now whole
appended_all {mid = mid} {now = now} {text = text} old front a p is =
    rw is (subst (λ t. Appends old now (front ++ t)) p.wrote (Appends-then old mid now front p.part a p.appended))
