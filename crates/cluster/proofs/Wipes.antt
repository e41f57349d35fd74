-- The step of a record that wipes the server of a replica.
use Rattle.std.proofs.Common.{◌≡◌, ℕ, ◌+◌, ◌*◌, ◌<◌, Bool, true, false, List, [], ◌∷◌, ◌++◌, length, slice_get, Some, None, refl, sym, ◌∙◌, ap, subst}
use Rattle.std.specs.Prelude.{slice_set, Result, Ok, Err, ⊤}
use Rattle.std.specs.List.{flat_map}
use Rattle.std.proofs.lemmas.List.{append-nil}
use Rattle.abs_model.specs.Array.{empty_array}
use Rattle.server_trait.specs.Tree.{Server}
use Rattle.server_trait.specs.declared.ConfTable.{ConfTable}
use Rattle.server_trait.specs.declared.FaultPoint.{FaultPoint}
use Rattle.server_trait.specs.declared.WrapErr.{WrapErr}
use Rattle.server_trait.specs.declared.WrapErr.TheVariants as errors
use Rattle.conf_map.proofs.InStep.{slice_get-set_same}
use Rattle.log_format.specs.declared.Event.TheVariants.{Wipe}
use Rattle.log_format.specs.declared.Line.{Line}
use Rattle.log_format.specs.declared.Line.TheVariants as lines
use Rattle.log_format.specs.declared.IdleCause.TheVariants.{NotLive}
use Rattle.cluster_model.specs.State.{Live, Down}
use Rattle.cluster_model.specs.Moments.{Moment, Faults, replica, becomes, print}
use Rattle.cluster_model.specs.Turns as turns
use Rattle.cluster_model.specs.Step.{if_live, wiped}
use Rattle.cluster_model.specs.Run.{failed_of}
use Rattle.service_laws.specs.Served.{service}
use Rattle.replica.specs.declared.Replica.{Replica as Runner}
use Rattle.replica.specs.Replicas.{harm}
use Rattle.seats.specs.declared.Seat.{Seat}
use Rattle.seats.specs.declared.Seat.TheVariants.{Live as LiveSeat, Down as DownSeat}
use Rattle.seats.specs.Seats.{live_in}
use Rattle.seats.specs.Positions.{StandsAt, ChangesAt, WatchedAt}
use Rattle.cluster.specs.OverBench.{Kept, IsLive, IsState}
use Rattle.cluster.specs.Turned.{Stays, first_slot}
use Rattle.cluster.specs.Went.{Went}
use Rattle.cluster.proofs.Beginning.{service_begins}
use Rattle.cluster.proofs.Checkpoints.{keeps_wiped}
use Rattle.seats.proofs.Positions.{changes_set}
use Rattle.cluster.proofs.States.{state_put}
use Rattle.cluster.proofs.TurnClauses.{turned_ok, turned_down}
use Rattle.cluster.proofs.StepClauses.{went_still, went_by}
use Rattle.cluster.proofs.Harms.{unlive_is, seat_is, stays_same}

-- what the model does
abbrev wipe_by : Kept → ℕ → Faults → Moment → Moment
wipe_by c r faults m = if_live (print (lines.Idle r NotLive) m) (replica m.state r).condition
    (λ l. turns.fails_or (faults 0 r) r (becomes r (Live (turns.harm (wiped (service c.limits) l)))) m)

module _ {X : Type 0} (state : X → Server) (c : Kept) (servers : List X) (tables : List ConfTable) (r : ℕ)
    (within : r < length c.seats) (met : List FaultPoint) (no_met : met ≡ []) (ls : List Line) (no_lines : ls ≡ []) where
  -- it is not live
  pub went_unwiped : (o : Seat) → slice_get c.seats r ≡ Some o → live_in o ≡ None → (new : Kept) → new ≡ c →
      (ls' : List Line) → ls' ≡ ls ++ lines.Idle r NotLive ∷ [] → Went state (Wipe r) c new servers servers tables tables met ls'
  went_unwiped o at unlive new new_is ls' said =
      let line : ls' ≡ lines.Idle r NotLive ∷ [] = said ∙ ap (λ xs. xs ++ lines.Idle r NotLive ∷ []) no_lines in
      subst (λ (x : Kept). Went state (Wipe r) c x servers servers tables tables met ls') (sym new_is)
      (went_still state (Wipe r) (wipe_by c r) c c servers servers tables tables met ls' refl
      (λ k spare e. absurd (cc)) (λ faults m. (refl, refl)) (λ faults m. refl) no_met (ap (flat_map failed_of) line) refl
      (stays_same c)
      (λ faults m h. (
      let is : wipe_by c r faults m ≡ print (lines.Idle r NotLive) m =
      unlive_is state c.limits o (slice_get servers r) (slice_get tables r) (replica m.state r).condition unlive
      (seat_is state c servers tables r within o at m h) (print (lines.Idle r NotLive) m)
      (λ l. turns.fails_or (faults 0 r) r (becomes r (Live (turns.harm (wiped (service c.limits) l)))) m) in
      subst (λ (n : Moment). IsState state c servers tables n.state × (n.lines ≡ m.lines ++ ls')) (sym is)
      (h, ap (λ xs. m.lines ++ xs) (sym line)))))

  -- it is live
  module _ (k : Runner) (at : slice_get c.seats r ≡ Some (LiveSeat k)) (servers' : List X) (tables' : List ConfTable)
      (sv : ChangesAt r servers servers') (tb : ChangesAt r tables tables') (small : r < 3 * c.limits.f + 1)
      (result : Result ⊤ WrapErr)
      (watched : WatchedAt state (slice_get servers r) (slice_get servers' r) result) where
    wipes_live : (m : Moment) (h : IsState state c servers tables m.state) (faults : Faults) (b : Bool) →
        faults 0 r ≡ b → wipe_by c r faults m ≡ turns.fails_or b r (becomes r (Live (turns.harm (wiped (service c.limits)
        (seat_is state c servers tables r within (LiveSeat k) at m h).live)))) m
    wipes_live m h faults b fault =
        let live = seat_is state c servers tables r within (LiveSeat k) at m h in
        ap (λ o. if_live (print (lines.Idle r NotLive) m) o (λ l. turns.fails_or (faults 0 r) r
        (becomes r (Live (turns.harm (wiped (service c.limits) l)))) m)) live.is_live
        ∙ ap (λ b. turns.fails_or b r (becomes r (Live (turns.harm (wiped (service c.limits) live.live)))) m) fault

    pub went_wiped : (x : ⊤) → result ≡ Ok x →
        StandsAt state c.limits (slice_get servers' r) (slice_get tables' r) (empty_array c.limits.n) →
        (new : Kept) → new ≡ record c { seats = slice_set c.seats r (LiveSeat (harm k)) } → Stays c new →
        Went state (Wipe r) c new servers servers' tables tables' met ls
    went_wiped x ok stood new new_is same =
        let S = service c.limits in
        let seats = slice_set c.seats r (LiveSeat (harm k)) in
        went_by state (Wipe r) (wipe_by c r) c new servers servers' tables tables' met ls refl
        (λ j spare e. absurd (cc)) (λ faults m. (refl, refl)) (λ faults m. refl) r met ls no_met no_lines small
        (turned_ok state (wipe_by c r) c new servers servers' tables tables' r met ls ls [] (first_slot r) result x ok
        watched sv (sym (append-nil ls)) refl
        (λ faults sound m h. (
        let live = seat_is state c servers tables r within (LiveSeat k) at m h in
        let l' = turns.harm (wiped S live.live) in
        let here : IsLive state c.limits (harm k) (slice_get servers' r) (slice_get tables' r) (Live l') = record {
          live = l';
          is_live = refl;
          stands = subst (StandsAt state c.limits (slice_get servers' r) (slice_get tables' r))
              (sym (service_begins c.limits).1) stood;
          keeps = keeps_wiped S live.live k live.keeps;
        } in
        subst (λ (n : Moment). IsState state new servers' tables' n.state × (n.lines ≡ m.lines ++ []))
        (sym (wipes_live m h faults false sound)) (
          subst (λ (v : Kept). IsState state v servers' tables' (becomes r (Live l') m).state) (sym new_is)
              (state_put state c seats servers servers' tables tables' m.state r (LiveSeat (harm k)) (Live l') h within
              (changes_set c.seats r (LiveSeat (harm k))) (slice_get-set_same c.seats r (LiveSeat (harm k)) (LiveSeat k) at)
              sv tb here (λ b e. absurd (cc))),
          sym (append-nil m.lines),
        ))))
        same

    pub wipe_down : result ≡ Err errors.Down → (new : Kept) → new ≡ record c { seats = slice_set c.seats r DownSeat } →
        (ls' : List Line) → ls' ≡ ls ++ lines.Down r ∷ [] → (met' : List FaultPoint) →
        met' ≡ met ++ record { event = c.events + 1; stage = 0; replica = r } ∷ [] → Stays c new →
        Went state (Wipe r) c new servers servers' tables tables' met' ls'
    wipe_down down new new_is ls' said met' met_is same =
        went_by state (Wipe r) (wipe_by c r) c new servers servers' tables tables' met' ls' refl
        (λ j spare e. absurd (cc)) (λ faults m. (refl, refl)) (λ faults m. refl) r met ls no_met no_lines small
        (turned_down state (wipe_by c r) c new servers servers' tables tables' r met met' ls ls' (first_slot r) result
        down watched sv new_is said met_is refl
        (λ faults struck m h. subst (λ (n : Moment). IsState state (record c { seats = slice_set c.seats r DownSeat }) servers'
        tables' n.state × (n.lines ≡ m.lines ++ lines.Down r ∷ [])) (sym (wipes_live m h faults true struck)) (
          state_put state c (slice_set c.seats r DownSeat) servers servers' tables tables' m.state r DownSeat Down h within
              (changes_set c.seats r DownSeat) (slice_get-set_same c.seats r DownSeat (LiveSeat k) at) sv tb refl
              (λ b e. absurd (cc)),
          refl,
        )))
        same
