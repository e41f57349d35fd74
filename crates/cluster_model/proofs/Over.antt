-- The loop of a program: the start begins a run, and each step goes on with it.
use Rattle.std.proofs.Common.{◌≡◌, ℕ, zero, suc, ◌+◌, ◌*◌, ◌≤◌, Bool, true, false, cond, List, [], ◌∷◌, ◌++◌, map, length, refl, sym, ◌∙◌, ap, subst, arith}
use Rattle.std.specs.List.{All, flat_map}
use Rattle.std.proofs.lemmas.List.{length-append, append-nil, append_assoc}
use Rattle.std.proofs.lemmas.List.Elements.{All-head, All-tail, All-append, All-weaker}
use Rattle.abs_model.specs.declared.Entry.{Entry}
use Rattle.log_format.specs.declared.Line.{Line}
use Rattle.log_format.specs.declared.Event.{Event}
use Rattle.server_trait.specs.declared.FaultPoint.{FaultPoint}
use Rattle.cluster_model.specs.Service.{Service}
use Rattle.cluster_model.specs.Tree.{below}
use Rattle.cluster_model.specs.Moments.{Moment, fails}
use Rattle.cluster_model.specs.Turns.{last}
use Rattle.cluster_model.specs.Loose.{LooseStep}
use Rattle.cluster_model.specs.Run.{Always, faults_in, fresh, start, start_fault, LooseRun, AreMet, IsRising, failed_of}
use Rattle.cluster_model.specs.Struck.{IsInBench}
use Rattle.cluster_model.specs.Steady.{IsSteady}
use Rattle.cluster_model.specs.OverBench.{ClusterView, IsState, Starts, Steps}
use Rattle.cluster_model.specs.Over.{RanOver}
use Rattle.cluster_model.proofs.Growing.{run_snoc, last-append}
use Rattle.cluster_model.proofs.Voted.{Always-moments, Always-last}
use Rattle.cluster_model.proofs.Struck.{IsAmong, step_among, struck_then}
use Rattle.cluster_model.proofs.Walking.{map-++}

flat_map-append : {X Y : Type 0} (f : X → List Y) (xs ys : List X) →
    flat_map f (xs ++ ys) ≡ flat_map f xs ++ flat_map f ys
flat_map-append f [] ys = refl
flat_map-append f (x ∷ xs) ys = ap (λ zs. f x ++ zs) (flat_map-append f xs ys)
    ∙ sym (append_assoc (f x) (flat_map f xs) (flat_map f ys))

met_more : (downs met : List FaultPoint) (old new : List Line) → AreMet downs old → AreMet met new →
    AreMet (downs ++ met) (old ++ new)
met_more downs met old new h g =
    map-++ (λ (d : FaultPoint). d.replica) downs met ∙ ap (λ xs. xs ++ map (λ (d : FaultPoint). d.replica) met) h
    ∙ ap (λ ys. flat_map failed_of old ++ ys) g
    ∙ sym (flat_map-append failed_of old new)

rising_same : (n : ℕ) (ds : List FaultPoint) → All (λ (d : FaultPoint). d.event ≡ n) ds → IsRising ds
rising_same n [] h = tt
rising_same n (d ∷ ds) h =
    let P : FaultPoint → Type 0 = λ d. d.event ≡ n in
    let here : d.event ≡ n = All-head P d ds h in (
      All-weaker P (λ (e : FaultPoint). d.event ≤ e.event) (λ e g. omega arith) ds (All-tail P d ds h),
      rising_same n ds (All-tail P d ds h),
    )

rising_more : (n : ℕ) (ds es : List FaultPoint) → IsRising ds → All (λ (d : FaultPoint). d.event ≤ n) ds →
    All (λ (d : FaultPoint). d.event ≡ suc n) es → IsRising (ds ++ es)
rising_more n [] es h low new = rising_same (suc n) es new
rising_more n (d ∷ ds) es h low new =
    let P : FaultPoint → Type 0 = λ d. d.event ≤ n in
    let here : d.event ≤ n = All-head P d ds low in (
      All-append (λ (e : FaultPoint). d.event ≤ e.event) ds es h.0
          (All-weaker (λ (e : FaultPoint). e.event ≡ suc n) (λ (e : FaultPoint). d.event ≤ e.event)
          (λ e g. omega arith) es new),
      rising_more n ds es h.1 (All-tail P d ds low) new,
    )

module _ (S : Service) (Server Table Limits : Type 0) (count : Server → ℕ) (limits : Server → Limits)
    (Stands : Server → Table → List Entry → Type 0) where
  abbrev Over : List Event → List Server → List FaultPoint → ClusterView → List Server → List Table → List Line → Type 0
  Over = RanOver S Server Table Limits count limits Stands

  -- each server of the start stands somewhere
  abbrev pub StandsSomewhere : List Server → Moment → Type 0
  StandsSomewhere servers n = (length n.state.bench ≡ length servers)
      × ((s : ℕ) → IsAmong s (below (length servers)) → IsAmong s n.state.bench)

  pub start_over : (servers : List Server) (new : ClusterView) (servers' : List Server) (tables' : List Table)
      (downs : List FaultPoint) (lines : List Line) →
      Starts S Server Table Limits count limits Stands servers new servers' tables' downs lines →
      Over [] servers downs new servers' tables' lines
  start_over servers new servers' tables' downs lines h = record {
    ms = start S (length servers) downs;
    is_run = ([], sym (append-nil (start S (length servers) downs)), refl);
    told = h.3.2;
    numbered = h.2;
    stands = h.3.0;
    steady = h.3.1;
    points = All-weaker (λ (d : FaultPoint). d.event ≡ 0) (λ (d : FaultPoint). d.event ≤ 0)
        (λ d e. omega arith) downs h.0;
    rising = rising_same 0 downs h.0;
    met = h.1;
    struck = h.3.3;
  }

  pub step_over : (events : List Event) (event : Event) (servers : List Server) (old new : ClusterView)
      (xs ys : List Server) (ts us : List Table) (downs more : List FaultPoint) (before lines : List Line)
      (h : Over events servers downs old xs ts before) →
      StandsSomewhere servers (last (fresh S (length servers)) h.ms) → IsInBench (length servers) event →
      Steps S Server Table Limits count limits Stands old xs ts downs event new ys us more lines →
      Over (events ++ event ∷ []) servers more new ys us (before ++ lines)
  step_over events event servers old new xs ys ts us downs more before lines h somewhere inside step =
      let first = fresh S (length servers) in
      let m = last first h.ms in
      let met = step.0 in
      let go = step.5 m h.stands h.steady in
      let ms = go.0 in
      let at : old.events + 1 ≡ suc (length events) =
      (let e : old.events ≡ length events = h.numbered in omega arith) in
      let loose : LooseStep S (faults_in met (suc (length events))) event m ms = subst
      (λ k. LooseStep S (faults_in met k) event m ms) at go.1 in
      let points : All (λ (d : FaultPoint). d.event ≡ suc (length events)) met = subst
      (λ k. All (λ (d : FaultPoint). d.event ≡ k) met) at step.2 in
      let run : LooseRun S (length servers) (downs ++ met) (events ++ event ∷ []) (h.ms ++ ms) = run_snoc S
      (length servers) downs met events event h.ms ms points h.points h.is_run loose in
      let end : last first (h.ms ++ ms) ≡ last m ms = last-append first h.ms ms in
      let long : length (events ++ event ∷ []) ≡ length events + 1 = length-append events (event ∷ []) in
      let size : length xs ≡ length m.state.bench = h.stands.servers_there in
      record {
        ms = h.ms ++ ms;
        is_run = subst (λ ds. LooseRun S (length servers) ds (events ++ event ∷ []) (h.ms ++ ms)) (sym step.1) run;
        told = ap (λ (k : Moment). k.lines) end ∙ go.4 ∙ ap (λ zs. zs ++ lines) h.told;
        numbered = step.4 ∙ at ∙ (omega arith);
        stands = subst (λ (k : Moment). IsState S Server Table Limits count limits Stands new ys us k.state)
            (sym end) go.2;
        steady = subst (λ (k : Moment). IsSteady S k.state) (sym end) go.3;
        points = subst (All (λ (d : FaultPoint). d.event ≤ length (events ++ event ∷ []))) (sym step.1)
            (All-append (λ (d : FaultPoint). d.event ≤ length (events ++ event ∷ [])) downs met
            (All-weaker (λ (d : FaultPoint). d.event ≤ length events)
            (λ (d : FaultPoint). d.event ≤ length (events ++ event ∷ [])) (λ d e. omega arith) downs h.points)
            (All-weaker (λ (d : FaultPoint). d.event ≡ suc (length events))
            (λ (d : FaultPoint). d.event ≤ length (events ++ event ∷ [])) (λ d e. omega arith) met points));
        rising = subst IsRising (sym step.1) (rising_more (length events) downs met h.rising h.points points);
        met = subst (λ ds. AreMet ds (before ++ lines)) (sym step.1) (met_more downs met before lines h.met step.3);
        struck = struck_then Server Limits count limits first h.ms ms servers xs ys somewhere.1 size h.struck go.5;
      }

  -- and each server goes on to stand somewhere
  pub step_somewhere : (servers : List Server) (downs : List FaultPoint) (e : ℕ) (event : Event) (m : Moment)
      (ms : List Moment) → IsInBench (length servers) event →
      LooseStep S (faults_in downs e) event m ms → StandsSomewhere servers m → StandsSomewhere servers (last m ms)
  step_somewhere servers downs e event m ms inside loose h =
      let g = step_among S (faults_in downs e) event m ms (subst (λ n. IsInBench n event) (sym h.0) inside) loose in
      (g.0 ∙ h.0, λ s k. g.1 s (h.1 s k))

  bench_start : (servers : ℕ) (downs : List FaultPoint) →
      Always (λ (n : Moment). n.state.bench ≡ below servers) (start S servers downs)
  bench_start servers downs = (
    refl,
    Always-moments (λ (n : Moment). n.state.bench ≡ below servers) (start_fault (faults_in downs 0))
        (λ m r h. by m r h (faults_in downs 0 0 r)) (fresh S servers) (below (3 * S.f + 1)) refl,
  )
    where
      by : (m : Moment) (r : ℕ) → m.state.bench ≡ below servers → (b : Bool) →
          (cond b (fails r m) m).state.bench ≡ below servers
      by m r h true = h
      by m r h false = h

  length_below : (n : ℕ) → length (below n) ≡ n
  length_below zero = refl
  length_below (suc n) =
      (let e : length (below n ++ n ∷ []) ≡ length (below n) + 1 = length-append (below n) (n ∷ []) in
      let rest : length (below n) ≡ n = length_below n in omega arith)

  pub start_somewhere : (servers : List Server) (downs : List FaultPoint) →
      StandsSomewhere servers (last (fresh S (length servers)) (start S (length servers) downs))
  start_somewhere servers downs =
      let n = length servers in
      let e : (last (fresh S n) (start S n downs)).state.bench ≡ below n = Always-last
      (λ (k : Moment). k.state.bench ≡ below n) (fresh S n) (start S n downs) refl (bench_start n downs) in
      (ap length e ∙ length_below n, λ s h. subst (IsAmong s) (sym e) h)
