-- The step of each kind of record, from what the code did.
use Rattle.std.proofs.Common.{◌≡◌, ℕ, suc, ◌+◌, ◌*◌, ◌<◌, ◌≤◌, Bool, List, [], ◌∷◌, ◌++◌, map, length, Option, Some, None, inl, inr, refl, sym, ◌∙◌, ap, subst, arith}
use Rattle.std.specs.Prelude.{Result, Ok, Err, OnOk}
use Rattle.std.specs.List.{All, flat_map}
use Rattle.std.proofs.lemmas.List.{append-nil}
use Rattle.std.proofs.lemmas.List.Elements.{All-nil}
use Rattle.nfs2_types.specs.declared.NoMemory.{NoMemory}
use Rattle.server_trait.specs.Tree.{Server}
use Rattle.server_trait.specs.declared.ConfTable.{ConfTable}
use Rattle.server_trait.specs.declared.FaultPoint.{FaultPoint}
use Rattle.server_trait.proofs.TreeLaws.{one_or_not}
use Rattle.log_format.specs.declared.Event.{Event}
use Rattle.log_format.specs.declared.Event.TheVariants.{Run, RunAll, Swap}
use Rattle.log_format.specs.declared.Line.{Line}
use Rattle.log_format.specs.declared.Line.TheVariants as lines
use Rattle.log_format.specs.declared.IdleCause.{IdleCause}
use Rattle.cluster_model.specs.Service.{Service}
use Rattle.cluster_model.specs.Tree.{below}
use Rattle.cluster_model.specs.State.{State}
use Rattle.cluster_model.specs.Moments.{Moment, Faults, print}
use Rattle.cluster_model.specs.Turns.{Slot, Turn, Next, Not, turn, run_turn, quiet_turn, slot_turn, slots, moments, last}
use Rattle.cluster_model.specs.Step.{step}
use Rattle.cluster_model.specs.Run.{Always, failed_of, faults_in}
use Rattle.cluster_model.specs.Loose.{LooseStep}
use Rattle.cluster_model.specs.Walk.{WalkedStep}
use Rattle.cluster_model.proofs.Growing.{last-append}
use Rattle.cluster_model.proofs.Keeping.{IsClosed, any_keeps}
use Rattle.cluster_model.proofs.Lines.{loose_chain}
use Rattle.cluster_model.proofs.Quiet.{IsQuiet, run_all_early}
use Rattle.cluster_model.proofs.Struck.{word_bench, root_bench}
use Rattle.cluster_model.proofs.Voted.{Always-last}
use Rattle.service_laws.specs.Served.{service}
use Rattle.cluster.specs.OverBench.{Kept, IsState}
use Rattle.cluster.specs.Steps.{ArePointsOf, Follows, Steps, asked_by}
use Rattle.cluster.specs.Turned.{points, points_of, first_slot, FailAs, AreStruckBy, TurnedBy, Turned, Stays, IsIdle, RanRounds}
use Rattle.cluster.specs.Went.{Went}
use Rattle.cluster.proofs.Faults.{fails_as, slots_differ, points_low, slots_within, point_here, point_low}
use Rattle.cluster.proofs.Struck.{struck_none}
use Rattle.cluster.proofs.StruckMoments.{struck_moments}

-- THE BENCH STAYS

stays_closed : (S : Service) (b : List ℕ) → IsClosed S (λ (s : State). s.bench ≡ b)
stays_closed S b = record {
  live = λ r l s h. h;
  down = λ r s h. h;
  reboot = λ r c s h. h;
  withdraw = λ r s h. h;
  word = λ r p w m h. word_bench S r p w m ∙ h;
  root_word = λ r p d m h. root_bench S r p d m ∙ h;
  ask = λ q s h. h;
}

-- where the record is no Swap, no server changes its position
pub bench_stays : (S : Service) (faults : Faults) (e : Event) (m : Moment) (b : List ℕ) → m.state.bench ≡ b →
    ((r spare : ℕ) → e ≡ Swap r spare → ⊥) → (ms : List Moment) → LooseStep S faults e m ms →
    Always (λ (n : Moment). n.state.bench ≡ b) ms
bench_stays S faults e m b h none ms loose = any_keeps S (λ (s : State). s.bench ≡ b) (stays_closed S b)
    (λ r c s g. g) faults m h e (λ r spare is. absurd (none r spare is)) ms loose

-- FROM THE LAST MOMENT OF A STEP TO THE WHOLE OF IT

-- where the record is no Fetch, the loose step and the walked one are the model's
abbrev pub IsExactStep : Service → Faults → Event → Moment → Type 0
IsExactStep S faults e m = LooseStep S faults e m (step S faults e m) × WalkedStep S faults e m (step S faults e m)

module _ {X : Type 0} (state : X → Server) where
  pub moments_follow : (old new : Kept) (servers servers' : List X) (tables tables' : List ConfTable)
      (met : List FaultPoint) (e : Event) (ls : List Line) (m : Moment) → IsState state old servers tables m.state →
      ((r spare : ℕ) → e ≡ Swap r spare → ⊥) → (ms : List Moment) →
      LooseStep (service old.limits) (faults_in met (suc old.events)) e m ms →
      WalkedStep (service old.limits) (faults_in met (suc old.events)) e m ms →
      IsState state new servers' tables' (last m ms).state × ((last m ms).lines ≡ m.lines ++ ls) →
      AreStruckBy state ls servers servers' →
      Follows state old new servers servers' tables' met e ls m
  moments_follow old new servers servers' tables tables' met e ls m h none ms loose walked out struck =
      let S = service old.limits in
      let faults = faults_in met (suc old.events) in
      let b = below (length servers) in
      let same : Always (λ (n : Moment). n.state.bench ≡ b) ms = bench_stays S faults e m b h.order none ms loose in
      record {
        ms = ms;
        is_step = walked;
        stands = out.0;
        adds = out.1;
        struck = struck_moments state m ms ls servers servers' (loose_chain S faults e m ms loose) h.order same
            (Always-last (λ (n : Moment). n.state.bench ≡ b) m ms h.order same) out.1 struck;
      }

  pub step_follows : (old new : Kept) (servers servers' : List X) (tables tables' : List ConfTable)
      (met : List FaultPoint) (e : Event) (ls : List Line) (m : Moment) → IsState state old servers tables m.state →
      ((r spare : ℕ) → e ≡ Swap r spare → ⊥) →
      IsExactStep (service old.limits) (faults_in met (suc old.events)) e m →
      (let n = last m (step (service old.limits) (faults_in met (suc old.events)) e m) in
      IsState state new servers' tables' n.state × (n.lines ≡ m.lines ++ ls)) →
      AreStruckBy state ls servers servers' →
      Follows state old new servers servers' tables' met e ls m
  step_follows old new servers servers' tables tables' met e ls m h none exact out struck =
      moments_follow old new servers servers' tables tables' met e ls m h none
      (step (service old.limits) (faults_in met (suc old.events)) e m) exact.0 exact.1 out struck

  -- RUNALL

  -- wherever servers fail as they did, the model's RunAll ends in a state that cluster and bench stand for
  run_all_ends : (a b : Kept) (sa sb : List X) (ta tb : List ConfTable) (ma mb : List FaultPoint) (la lb : List Line) →
      (h : RanRounds state a b sa sb ta tb ma mb la lb) → (faults : Faults) →
      FailAs faults (slots h.rounds (length a.seats)) h.going.turned.faults_are → (m : Moment) →
      IsState state a sa ta m.state →
      let n = last m (step (service a.limits) faults RunAll m) in
      IsState state b sb tb n.state × (n.lines ≡ m.lines ++ h.going.turned.more)
  run_all_ends a b sa sb ta tb ma mb la lb h faults f m s =
      let S = service a.limits in
      let n = length a.seats in
      let xs = slots h.rounds n in
      let k = last m (moments (slot_turn S faults) m xs) in
      let out = h.going.turned.moves faults f m s in
      let size : length m.state.replicas ≡ n = s.size in
      let few : h.rounds ≤ length m.state.requests =
      (let e = ap length s.requests in let z = h.few in omega arith) in
      let is : last m (step S faults RunAll m) ≡ k = elim (one_or_not h.rounds (length a.requests)) as
      (λ _. last m (step S faults RunAll m) ≡ k) [
        | inl whole ↦
            let ms = moments (slot_turn S faults) m (slots (length m.state.requests) (length m.state.replicas)) in
            last-append m ms (last m ms ∷ [])
            ∙ ap (λ j. last m (moments (slot_turn S faults) m (slots j (length m.state.replicas))))
            (ap length s.requests ∙ sym whole)
            ∙ ap (λ j. last m (moments (slot_turn S faults) m (slots h.rounds j))) size
        | inr early ↦
            let same : last m (moments (slot_turn S faults) m (slots h.rounds (length m.state.replicas))) ≡ k =
            ap (λ j. last m (moments (slot_turn S faults) m (slots h.rounds j))) size in
            let quiet : IsQuiet S k.state = λ r lt. (
            let q = h.ended early k out.0 r (let e = out.0.size in omega arith) in
            (q.0, ap (λ l. turn (service l) k.state r) (sym h.going.stays.same.limits) ∙ q.1)
            ) in
            run_all_early S faults m h.rounds few (subst (λ (x : Moment). IsQuiet S x.state) (sym same) quiet) ∙ same
      ] in
      subst (λ (x : Moment). IsState state b sb tb x.state × (x.lines ≡ m.lines ++ h.going.turned.more)) (sym is) out

  pub went_run_all : (a b : Kept) (sa sb : List X) (ta tb : List ConfTable) (ma mb : List FaultPoint)
      (la lb : List Line) → ma ≡ [] → la ≡ [] → length a.seats ≡ 3 * a.limits.f + 1 →
      RanRounds state a b sa sb ta tb ma mb la lb → Went state RunAll a b sa sb ta tb mb lb
  went_run_all a b sa sb ta tb ma mb la lb no_met no_lines sized h =
      let t = h.going.turned in
      let n = length a.seats in
      let ts = slots h.rounds n in
      let e = suc a.events in
      let met_is : mb ≡ points_of e ts t.faults_are = t.met_are ∙ ap (λ ps. ps ++ points_of e ts t.faults_are) no_met in
      let lines_is : lb ≡ t.more = t.lines_are ∙ ap (λ ls. ls ++ t.more) no_lines in
      let fails : FailAs (faults_in mb e) ts t.faults_are = subst (λ ps. FailAs (faults_in ps e) ts t.faults_are)
      (sym met_is) (fails_as e ts t.faults_are t.long (slots_differ h.rounds n)) in
      record {
        numbered = subst (ArePointsOf a.limits e) (sym met_is) (points_low a.limits e ts t.faults_are
            (subst (λ k. All (λ (u : Slot). u.replica < k) ts) sized (slots_within h.rounds n)));
        lines_are = ap (map (λ (d : FaultPoint). d.replica)) met_is ∙ sym t.tells
            ∙ ap (flat_map failed_of) (sym lines_is);
        limits = h.going.stays.same.limits;
        requests = h.going.stays.same.requests ∙ sym (append-nil a.requests);
        events = h.going.stays.same.events;
        moves = λ m good s. step_follows a b sa sb ta tb mb RunAll lb m s (λ r spare is. absurd (cc)) (refl, refl)
            (subst (λ ls. IsState state b sb tb (last m (step (service a.limits) (faults_in mb e) RunAll m)).state
            × ((last m (step (service a.limits) (faults_in mb e) RunAll m)).lines ≡ m.lines ++ ls)) (sym lines_is)
            (run_all_ends a b sa sb ta tb ma mb la lb h (faults_in mb e) fails m s))
            (subst (λ ls. AreStruckBy state ls sa sb) (sym lines_is) t.struck);
      }

  pub run_all_went : (result : Result (Unit {0}) NoMemory) (a b : Kept) (sa sb : List X) (ta tb : List ConfTable)
      (ma mb : List FaultPoint) (la lb : List Line) → ma ≡ [] → la ≡ [] → length a.seats ≡ 3 * a.limits.f + 1 →
      OnOk result (RanRounds state a b sa sb ta tb ma mb la lb) → OnOk result (Went state RunAll a b sa sb ta tb mb lb)
  run_all_went (Ok u) a b sa sb ta tb ma mb la lb no_met no_lines sized h =
      went_run_all a b sa sb ta tb ma mb la lb no_met no_lines sized h
  run_all_went (Err e) a b sa sb ta tb ma mb la lb no_met no_lines sized h = tt

  -- RUN

  -- a turn of a Run, by a turn of a round
  run_or_idle : (S : Service) (fault : Bool) (r : ℕ) (t : Turn) (m n : Moment) → ((c : IdleCause) → t ≡ Not c → ⊥) →
      quiet_turn S fault r t m ≡ n → run_turn S fault r t m ≡ n
  run_or_idle S fault r (Next l q) m n busy e = e
  run_or_idle S fault r (Not c) m n busy e = absurd (busy c refl)

  module _ (r : ℕ) (a b : Kept) (sa sb : List X) (ta tb : List ConfTable) (ma mb : List FaultPoint)
      (la lb : List Line) (no_met : ma ≡ []) (no_lines : la ≡ []) (small : r < 3 * a.limits.f + 1)
      (h : Turned state (record { round = 0; replica = r }) a b sa sb ta tb ma mb la lb) (same : Stays a b) where
    one : Slot
    one = record { round = 0; replica = r }

    met_is : mb ≡ points (suc a.events) (record { round = 0; replica = r }) h.fault
    met_is = h.met_are ∙ ap (λ ps. ps ++ points (suc a.events) (record { round = 0; replica = r }) h.fault) no_met

    lines_is : lb ≡ h.more
    lines_is = h.lines_are ∙ ap (λ ls. ls ++ h.more) no_lines

    failed : faults_in mb (suc a.events) 0 r ≡ h.fault
    failed = ap (λ ps. faults_in ps (suc a.events) 0 r) met_is
        ∙ point_here (suc a.events) (record { round = 0; replica = r }) h.fault

    numbered : ArePointsOf a.limits (suc a.events) mb
    numbered = subst (ArePointsOf a.limits (suc a.events)) (sym met_is)
        (point_low a.limits (suc a.events) (record { round = 0; replica = r }) h.fault small)

    -- the replica had a turn
    pub went_run : (o : Option IdleCause) → o ≡ None → IsIdle state a b sa sb ta tb ma mb la lb r o →
        Went state (Run r) a b sa sb ta tb mb lb
    went_run o is_none is_idle = record {
      numbered = numbered;
      lines_are = ap (map (λ (d : FaultPoint). d.replica)) met_is ∙ sym h.tells ∙ ap (flat_map failed_of) (sym lines_is);
      limits = same.limits;
      requests = same.requests ∙ sym (append-nil a.requests);
      events = same.events;
      moves = λ m good s. (
          let S = service a.limits in
          let faults = faults_in mb (suc a.events) in
          let out = h.moves faults failed m s in
          let n = run_turn S (faults 0 r) r (turn S m.state r) m in
          let is : n ≡ slot_turn S faults m (record { round = 0; replica = r }) =
          run_or_idle S (faults 0 r) r (turn S m.state r) m (slot_turn S faults m (record { round = 0; replica = r }))
          (subst (λ x. IsIdle state a b sa sb ta tb ma mb la lb r x) is_none is_idle m s) refl in
          step_follows a b sa sb ta tb mb (Run r) lb m s (λ j spare e. absurd (cc)) (refl, refl)
          (subst (λ (k : Moment). IsState state b sb tb k.state × (k.lines ≡ m.lines ++ lb)) (sym is)
          (out.0, out.1 ∙ ap (λ ls. m.lines ++ ls) (sym lines_is)))
          (subst (λ ls. AreStruckBy state ls sa sb) (sym lines_is) h.struck));
    }

  -- A RECORD OF ONE REPLICA, ITS SERVER FAILING OR NOT

  module _ (e : Event) (does : Faults → Moment → Moment) (a b : Kept) (sa sb : List X) (ta tb : List ConfTable)
      (mb : List FaultPoint) (lb : List Line) (asks : asked_by e ≡ [])
      (no_swap : (r spare : ℕ) → e ≡ Swap r spare → ⊥)
      (exact : (faults : Faults) (m : Moment) → IsExactStep (service a.limits) faults e m)
      (does_it : (faults : Faults) (m : Moment) → step (service a.limits) faults e m ≡ does faults m ∷ []) where
    -- what does it leads to a state that cluster and bench stand for
    follows_by : (m : Moment) → IsState state a sa ta m.state →
        (let n = does (faults_in mb (suc a.events)) m in
        IsState state b sb tb n.state × (n.lines ≡ m.lines ++ lb)) → AreStruckBy state lb sa sb →
        Follows state a b sa sb tb mb e lb m
    follows_by m s out struck =
        let S = service a.limits in
        let faults = faults_in mb (suc a.events) in
        let is : last m (step S faults e m) ≡ does faults m = ap (last m) (does_it faults m) in
        step_follows a b sa sb ta tb mb e lb m s no_swap (exact faults m)
        (subst (λ (k : Moment). IsState state b sb tb k.state × (k.lines ≡ m.lines ++ lb)) (sym is) out) struck

    pub went_by : (r : ℕ) (ma : List FaultPoint) (la : List Line) → ma ≡ [] → la ≡ [] → r < 3 * a.limits.f + 1 →
        TurnedBy state does (first_slot r) a b sa sb ta tb ma mb la lb → Stays a b → Went state e a b sa sb ta tb mb lb
    went_by r ma la no_met no_lines small h same =
        let t = first_slot r in
        let met_is : mb ≡ points (suc a.events) t h.fault =
        h.met_are ∙ ap (λ ps. ps ++ points (suc a.events) t h.fault) no_met in
        let lines_is : lb ≡ h.more = h.lines_are ∙ ap (λ ls. ls ++ h.more) no_lines in
        let failed : faults_in mb (suc a.events) 0 r ≡ h.fault = ap (λ ps. faults_in ps (suc a.events) 0 r) met_is
        ∙ point_here (suc a.events) t h.fault in
        record {
          numbered = subst (ArePointsOf a.limits (suc a.events)) (sym met_is)
              (point_low a.limits (suc a.events) t h.fault small);
          lines_are = ap (map (λ (d : FaultPoint). d.replica)) met_is ∙ sym h.tells
              ∙ ap (flat_map failed_of) (sym lines_is);
          limits = same.limits;
          requests = same.requests ∙ sym (append-nil a.requests) ∙ ap (λ q. a.requests ++ q) (sym asks);
          events = same.events;
          moves = λ m good s. (
              let out = h.moves (faults_in mb (suc a.events)) failed m s in
              follows_by m s (out.0, out.1 ∙ ap (λ ls. m.lines ++ ls) (sym lines_is))
              (subst (λ ls. AreStruckBy state ls sa sb) (sym lines_is) h.struck));
        }

    -- no server was asked
    pub went_still : mb ≡ [] → flat_map failed_of lb ≡ [] → sb ≡ sa → Stays a b →
        ((faults : Faults) (m : Moment) → IsState state a sa ta m.state →
        IsState state b sb tb (does faults m).state × ((does faults m).lines ≡ m.lines ++ lb)) →
        Went state e a b sa sb ta tb mb lb
    went_still no_points quiet bench same moves = record {
      numbered = subst (ArePointsOf a.limits (suc a.events)) (sym no_points)
          (All-nil (λ (d : FaultPoint). (d.event ≡ suc a.events) × (d.replica < 3 * a.limits.f + 1)));
      lines_are = ap (map (λ (d : FaultPoint). d.replica)) no_points ∙ sym quiet;
      limits = same.limits;
      requests = same.requests ∙ sym (append-nil a.requests) ∙ ap (λ q. a.requests ++ q) (sym asks);
      events = same.events;
      moves = λ m good s. follows_by m s (moves (faults_in mb (suc a.events)) m s)
          (subst (λ l. AreStruckBy state lb sa l) (sym bench) (struck_none state lb sa quiet));
    }

-- the replica had no turn: a line says why
module _ {X : Type 0} (state : X → Server) where
  pub went_idle : (r : ℕ) (a b : Kept) (sa sb : List X) (ta tb : List ConfTable) (ma mb : List FaultPoint)
      (la lb lc : List Line) (o : Option IdleCause) (c : IdleCause) → o ≡ Some c → ma ≡ [] → la ≡ [] →
      IsIdle state a b sa sb ta tb ma mb la lb r o → lc ≡ lb ++ lines.Idle r c ∷ [] →
      Went state (Run r) a b sa sb ta tb mb lc
  went_idle r a b sa sb ta tb ma mb la lb lc o c is_some no_met no_lines is_idle line =
      let idle : IsIdle state a b sa sb ta tb ma mb la lb r (Some c) =
      subst (λ x. IsIdle state a b sa sb ta tb ma mb la lb r x) is_some is_idle in
      let same_lines = idle.4 in
      let no_points : mb ≡ [] = idle.3 ∙ no_met in
      let one_line : lc ≡ lines.Idle r c ∷ [] = line
      ∙ ap (λ ls. ls ++ lines.Idle r c ∷ []) (same_lines ∙ no_lines) in
      record {
        numbered = subst (ArePointsOf a.limits (suc a.events)) (sym no_points)
            (All-nil (λ (d : FaultPoint). (d.event ≡ suc a.events) × (d.replica < 3 * a.limits.f + 1)));
        lines_are = ap (map (λ (d : FaultPoint). d.replica)) no_points ∙ ap (flat_map failed_of) (sym one_line);
        limits = ap (λ (k : Kept). k.limits) idle.0;
        requests = ap (λ (k : Kept). k.requests) idle.0 ∙ sym (append-nil a.requests);
        events = ap (λ (k : Kept). k.events) idle.0;
        moves = λ m good s. (
            let S = service a.limits in
            let faults = faults_in mb (suc a.events) in
            let is : run_turn S (faults 0 r) r (turn S m.state r) m ≡ print (lines.Idle r c) m =
            ap (λ t. run_turn S (faults 0 r) r t m) (idle.5 m s) in
            let s' : IsState state b sb tb m.state = subst (λ (k : Kept). IsState state k sb tb m.state) (sym idle.0)
            (subst (λ l. IsState state a l tb m.state) (sym idle.1)
            (subst (λ l. IsState state a sa l m.state) (sym idle.2) s)) in
            step_follows state a b sa sb ta tb mb (Run r) lc m s (λ j spare e. absurd (cc)) (refl, refl)
            (subst (λ (k : Moment). IsState state b sb tb k.state × (k.lines ≡ m.lines ++ lc)) (sym is)
            (s', ap (λ ls. m.lines ++ ls) (sym one_line)))
            (subst (λ l. AreStruckBy state lc sa l) (sym idle.1)
            (struck_none state lc sa (ap (flat_map failed_of) one_line))));
      }

  -- the same of an event that is said in another way
  pub went_of : (result : Result (Unit {0}) NoMemory) (e f : Event) → e ≡ f → (a b : Kept) (sa sb : List X)
      (ta tb : List ConfTable) (met : List FaultPoint) (ls : List Line) →
      OnOk result (Went state e a b sa sb ta tb met ls) → OnOk result (Went state f a b sa sb ta tb met ls)
  went_of result e f same a b sa sb ta tb met ls h =
      subst (λ x. OnOk result (Went state x a b sa sb ta tb met ls)) same h

  -- THE COUNT OF THE RECORD, AND ITS FAULT POINTS
  state_counted : (c : Kept) (n : ℕ) (servers : List X) (tables : List ConfTable) (s : State) →
      IsState state c servers tables s → IsState state (record c { events = n }) servers tables s
  state_counted c n servers tables s h = record {
    requests = h.requests;
    order = h.order;
    stable = h.stable;
    root = h.root;
    decisions = h.decisions;
    size = h.size;
    voters = h.voters;
    root_voters = h.root_voters;
    conditions = h.conditions;
    aimed = h.aimed;
    words = h.words;
    roots = h.roots;
  }

  pub steps_went : (a b c : Kept) (sa sb : List X) (ta tb : List ConfTable) (met downs downs' : List FaultPoint)
      (e : Event) (ls : List Line) → Went state e a b sa sb ta tb met ls → c ≡ record b { events = b.events + 1 } →
      downs' ≡ downs ++ met → Steps state a c sa sb ta tb downs downs' e ls
  steps_went a b c sa sb ta tb met downs downs' e ls h c_is downs_are = record {
    met = met;
    downs_are = downs_are;
    numbered = h.numbered;
    lines_are = h.lines_are;
    limits = ap (λ (k : Kept). k.limits) c_is ∙ h.limits;
    requests = ap (λ (k : Kept). k.requests) c_is ∙ h.requests;
    events = ap (λ (k : Kept). k.events) c_is ∙ (let z = h.events in omega arith);
    moves = λ m good s. (
        let go = h.moves m good s in
        record {
          ms = go.ms;
          is_step = go.is_step;
          stands = subst (λ (k : Kept). IsState state k sb tb (last m go.ms).state) (sym c_is)
              (state_counted b (b.events + 1) sb tb (last m go.ms).state go.stands);
          adds = go.adds;
          struck = go.struck;
        });
  }
