-- The start of a run, and its turns.
use Rattle.std.proofs.Common.{◌≡◌, ℕ, suc, ◌+◌, ◌-◌, ◌*◌, ◌<◌, ◌≤◌, List, [], ◌++◌, length, Option, Ok, Err, inl, inr, refl, sym, ap, subst, arith}
use Rattle.std.proofs.lemmas.List.{append-nil}
use Rattle.std.proofs.lemmas.List.Elements.{All-nil}
use Rattle.nfs2_types.specs.declared.Limits.{Limits}
use Rattle.server_trait.specs.Tree.{Server}
use Rattle.server_trait.specs.declared.ConfTable.{ConfTable}
use Rattle.server_trait.specs.declared.FaultPoint.{FaultPoint}
use Rattle.log_format.specs.declared.Line.{Line}
use Rattle.log_format.specs.Lines.{text_of}
use Rattle.log_stream.specs.Writing.{Writes}
use Rattle.log_stream.proofs.WriteSteps.{Appends-none}
use Rattle.cluster_model.specs.Good.{FitsEvent}
use Rattle.cluster_model.specs.Steady.{IsSteady}
use Rattle.cluster_model.specs.Moments.{Moment}
use Rattle.cluster_model.specs.Run.{fresh, start, AreMet}
use Rattle.cluster_model.proofs.Steady.{start_steady}
use Rattle.cluster_model.proofs.Voted.{Always-last}
use Rattle.service_laws.specs.Served.{IsSized, service}
use Rattle.service_laws.proofs.Served.{service_lawful}
use Rattle.cluster_model.specs.declared.Request.{Request}
use Rattle.seats.specs.Positions.{AreLater}
use Rattle.cluster.specs.OverBench.{Kept}
use Rattle.cluster.specs.Steps.{Starts}
use Rattle.basefs.specs.declared.run_err.RunErr.{RunErr}
use Rattle.basefs.specs.declared.status.Status.{Status}
use Rattle.basefs.specs.declared.status.Status.TheVariants as status
use Rattle.basefs.specs.declared.turn.Turn.TheVariants as turns
use Rattle.basefs.specs.Log.{Log, records_from}
use Rattle.basefs.specs.Setting.{Setting, setting}
use Rattle.basefs.specs.Run.{Ran, end_of}
use Rattle.basefs.specs.Going.{Goes, Here, Going, Turns, run_status}
use Rattle.basefs.specs.Beginning.{all_records, Begun, RunsAll}
use Rattle.basefs.proofs.Taking.{Goes-none}
use Rattle.basefs.proofs.Points.{points_of}
use Rattle.basefs.proofs.Stepped.{ran_here, cut_start, printed_part, appended_all}
use Rattle.basefs.proofs.Turning.{stops_most, ends_at_write, unread_at_write, nothing_more}

module _ {X : Type 0} (state : X → Server) (limits : Limits) (kept : Kept) (servers servers' : List X)
    (tables tables' : List ConfTable) (downs downs' : List FaultPoint) (lines : List Line)
    (s : Starts state limits kept servers servers' tables' downs' lines)
    (later : AreLater state (3 * limits.f + 1) servers servers') (sized : IsSized limits) where
  -- the last moment of the start is steady
  steady : IsSteady (service limits)
      (end_of limits (length servers) (start (service limits) (length servers) downs')).state
  steady =
      let all = start_steady (service limits) (service_lawful limits sized).spelled (length servers) downs' in
      Always-last (λ (m : Moment). IsSteady (service limits) m.state) (fresh (service limits) (length servers))
      (start (service limits) (length servers) downs') all.0 all

  here : Here state limits servers servers' tables' downs' kept []
  here = record {
    ms = start (service limits) (length servers) downs';
    is_run = ([], sym (append-nil (start (service limits) (length servers) downs')), refl);
    sized = sized;
    fits = All-nil (FitsEvent (service limits));
    is_state = s.stands;
    steady = steady;
    requests = s.requests;
    counted = s.events;
    limits_are = s.limits_are;
    points = points_of limits 0 downs' s.numbered;
    met = subst (λ ls. AreMet downs' ls) (sym s.lines_said) s.lines_are;
    struck = s.struck;
    later = later;
  }

  text_is : text_of (end_of limits (length servers) here.ms).lines ≡ [] ++ text_of lines
  unfolding here
  text_is = ap text_of s.lines_said

  abbrev log : List ℕ → Log
  log = all_records limits (length servers)

  -- the replicas were started, and their lines were written
  pub begun : (left held held' : Option (List ℕ)) (x : Unit {0}) →
      Writes {E = RunErr} held held' (text_of lines) (Ok x) →
      Going state limits log (setting left held servers tables downs) (setting left held' servers' tables' downs') kept
      16777216 24 × (kept.events ≡ 0)
  begun left held held' x w = (
    record {
      events = [];
      goes = subst (λ (q : List Request). Goes left left log
          (records_from 16777216 limits.f (length servers) q 24) []) (sym s.requests) (Goes-none left log);
      here = here;
      printed = appended_all held [] (Appends-none held) w text_is;
    },
    s.events,
  )

  -- a write failed
  pub begun_failed : (left held held' : Option (List ℕ)) (f : RunErr) →
      Writes {T = Unit} held held' (text_of lines) (Err f) →
      Ran state limits log (setting left held servers tables downs) (setting left held' servers' tables' downs')
      (run_status f)
  begun_failed left held held' f w =
      let none = Goes-none left log in
      ran_here here (ends_at_write f none)
      (λ e. unread_at_write none (nothing_more 16777216 limits.f (length servers) [] 24))
      (printed_part [] (Appends-none held) w text_is) (cut_start here _)

-- the start did not go through
pub begun_over : {X : Type 0} (state : X → Server) (limits : Limits) (old new : Setting X) (e : RunErr) →
    Begun state limits old new (Err e) → RunsAll state limits old new (run_status e)
begun_over state limits old new e (inl h) = inl h
begun_over state limits old new e (inr h) = inr (ap run_status h.0, h.1)

-- THE TURNS OF A RUN

less : (most i : ℕ) → i < most → most - i ≡ suc (most - (i + 1))
less most i lt = omega arith

module _ {X : Type 0} {state : X → Server} {limits : Limits} {log : List ℕ → Log} {old : Setting X} {kept : Kept}
    {place : ℕ} (most i : ℕ) where
  -- one turn more
  pub turned : {mid new : Setting X} {kept' : Kept} {next : ℕ} → i < most →
      Going state limits log old mid kept (most - i) place → Turns state mid new kept kept' place (turns.Goes next) →
      Going state limits log old new kept' (most - (i + 1)) next
  turned {mid = mid} lt g t = t limits log old (most - (i + 1))
      (subst (λ (n : ℕ). Going state limits log old mid kept n place) (less most i lt) g)

  -- the last turn
  pub turned_over : {mid new : Setting X} {s : Status} (kept' : Kept) → i < most →
      Going state limits log old mid kept (most - i) place → Turns state mid new kept kept' place (turns.Over s) →
      Ran state limits log old new s
  turned_over {mid = mid} kept' lt g t = t limits log old (most - (i + 1))
      (subst (λ (n : ℕ). Going state limits log old mid kept n place) (less most i lt) g)

  -- no more turns are taken
  pub turned_most : {left held : Option (List ℕ)} {servers : List X} {tables : List ConfTable}
      {downs : List FaultPoint} → most ≤ i →
      Going state limits log old (setting left held servers tables downs) kept (most - i) place →
      Ran state limits log old (setting left held servers tables downs) (status.BadLog place)
  turned_most {left = left} {held = held} {servers = servers} {tables = tables} {downs = downs} le g =
      let none : most - i ≡ 0 = omega arith in
      stops_most (subst (λ (n : ℕ). Going state limits log old (setting left held servers tables downs) kept n place)
      none g)
