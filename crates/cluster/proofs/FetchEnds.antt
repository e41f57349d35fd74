-- How a fetch ends: the stage at which nothing is missing any more, or something is.
use Rattle.std.proofs.Common.{◌≡◌, ℕ, ◌+◌, ◌<◌, false, List, [], ◌∷◌, ◌++◌, length, slice_get, Some, None, Result, Ok, Err, refl, sym, ◌∙◌, ap, subst, arith}
use Rattle.std.specs.Prelude.{slice_set, IsSome}
use Rattle.std.specs.List.{flat_map}
use Rattle.std.proofs.lemmas.List.{append-nil}
use Rattle.abs_model.specs.declared.Entry.{Entry}
use Rattle.abs_model.specs.Array.{changed}
use Rattle.abs_model.specs.Valid.{Valid}
use Rattle.server_trait.specs.Tree.{Server}
use Rattle.server_trait.specs.declared.ConfTable.{ConfTable}
use Rattle.server_trait.specs.declared.FaultPoint.{FaultPoint}
use Rattle.conf_map.proofs.InStep.{slice_get-set_same}
use Rattle.log_format.specs.declared.Line.{Line}
use Rattle.log_format.specs.declared.Line.TheVariants as lines
use Rattle.cluster_model.specs.State.{Fetching, Condition, Live, Down, Rebuilding}
use Rattle.cluster_model.specs.Moments.{Moment, Faults, replica, becomes, print, fails}
use Rattle.cluster_model.specs.Turns.{begins}
use Rattle.cluster_model.specs.Step.{FetchEnd, Missing, Forgets, Whole, nodes_of, objects_of, ends_fetch}
use Rattle.cluster_model.specs.Run.{failed_of}
use Rattle.service_laws.specs.Served.{service}
use Rattle.state_transfer.specs.Stand.{next_in}
use Rattle.replica.specs.declared.Replica.{Replica as Runner}
use Rattle.replica.specs.Replicas.{begun_at, digests_of}
use Rattle.recovery.specs.declared.FinishErr.{FinishErr}
use Rattle.recovery.specs.declared.FinishErr.TheVariants as endings
use Rattle.recovery.specs.Ends.{IfInvalid}
use Rattle.recovery.specs.Rebuilt.{Rebuilt, HasFetched, retargeted}
use Rattle.fetch_laws.specs.Made.{EndsSo}
use Rattle.seats.specs.declared.Seat.{Seat}
use Rattle.seats.specs.declared.Seat.TheVariants.{Live as LiveSeat, Rebuilding as RebuildingSeat, Down as DownSeat}
use Rattle.seats.specs.Seats.{rebuilding_in, HasArray}
use Rattle.seats.specs.Positions.{StandsAt, ChangesAt, WatchedAt, FinishWatchedAt, AreLater}
use Rattle.seats.proofs.Positions.{changes_set}
use Rattle.seats.proofs.Seats.{down_after}
use Rattle.cluster.specs.OverBench.{Kept, IsKeptBy, IsAimed, IsLive, IsFetching, IsSeat, IsState, IsAimedAt, HaveArrays, HaveRoom}
use Rattle.cluster.specs.Turned.{TurnStays}
use Rattle.cluster.specs.Fetching.{Scene, scene, Led, slot_at, EndsFor, Ends, Ended}
use Rattle.cluster.proofs.ListFacts.{read_is}
use Rattle.cluster.proofs.States.{state_put}
use Rattle.cluster.proofs.Checkpoints.{keeps_begun_at}
use Rattle.cluster.proofs.Struck.{struck_none}
use Rattle.cluster.proofs.TurnClauses.{stays_set, stays_none}
use Rattle.cluster.proofs.Harms.{seat_is}
use Rattle.cluster.proofs.Leading.{aims_set, led_ok, led_fell}
use Rattle.cluster.proofs.EndFacts.{unbuilding_is, unbuilding_ends, nodes_are, objects_are, items_are, fetched_anew, some_end, after_end, ends_sound, ends_fallen, as_wrap, watched_as, if_invalid, later_finished}

-- what leads from a scene so, at the last chance of r
abbrev LeadsTo : {X : Type 0} → (X → Server) → ℕ → ℕ → Seat → Scene X → Kept → List X → List ConfTable → List Line →
    Faults → Moment → Type 0
LeadsTo state r stage o a new servers' tables' more faults m =
    (n : Moment) × Ends a.kept.limits r stage o faults m n × IsState state new servers' tables' n.state
    × (n.lines ≡ m.lines ++ more)

module _ {X : Type 0} (state : X → Server) (a : Scene X) (r stage : ℕ) (within : r < length a.kept.seats)
    (have : HaveArrays state a.kept a.servers a.tables) (room : HaveRoom state a.kept.limits a.servers) where
  -- the same said of what stands in the seat
  of_seat : (o : Seat) → slice_get a.kept.seats r ≡ Some o → (b : Scene X) →
      Led state (Ends a.kept.limits r stage o) (slot_at stage r ∷ []) a b → Ended state r stage a b
  of_seat o at b h = subst (λ s. Led state (Ends a.kept.limits r stage s) (slot_at stage r ∷ []) a b)
      (sym (read_is a.kept.seats r o DownSeat at)) h

  -- no server was called
  led_said : (o : Seat) → slice_get a.kept.seats r ≡ Some o → (new : Kept) → new ≡ a.kept → (ls' more : List Line) →
      ls' ≡ a.lines ++ more → flat_map failed_of more ≡ [] →
      ((faults : Faults) → faults stage r ≡ false → (m : Moment) → IsState state a.kept a.servers a.tables m.state →
      LeadsTo state r stage o a a.kept a.servers a.tables more faults m) →
      Ended state r stage a (scene new a.servers a.tables a.met ls')
  led_said o at new new_is ls' more said quiet moves =
      subst (λ (v : Kept). Ended state r stage a (scene v a.servers a.tables a.met ls')) (sym new_is)
      (of_seat o at (scene a.kept a.servers a.tables a.met ls') (record {
        faults_are = false ∷ [];
        more = more;
        long = refl;
        met_are = sym (append-nil a.met);
        lines_are = said;
        tells = quiet;
        size = refl;
        struck = struck_none state more a.servers quiet;
        fixed = refl;
        stays = stays_none state a.kept a.servers a.tables have room;
        aims = λ j p h. h;
        moves = λ faults f m h. moves faults f.0 m h;
      }))

  -- nothing is being rebuilt
  pub ended_idle : (o : Seat) → slice_get a.kept.seats r ≡ Some o → rebuilding_in o ≡ None → (new : Kept) →
      new ≡ a.kept → Ended state r stage a (scene new a.servers a.tables a.met a.lines)
  ended_idle o at idle new new_is =
      led_said o at new new_is a.lines [] (sym (append-nil a.lines)) refl (λ faults sound m h. (
      let c = (replica m.state r).condition in
      let is : after_end r stage faults m a.kept.limits Missing ≡ m =
      ends_sound r stage faults m a.kept.limits Missing sound c refl
      ∙ unbuilding_is state a.kept.limits o (slice_get a.servers r) (slice_get a.tables r) c idle
      (seat_is state a.kept a.servers a.tables r within o at m h) m
      (λ f. ends_fetch (service a.kept.limits) r Missing m f) in
      (m, (Missing, sym is, unbuilding_ends a.kept.limits o c Missing idle), h, sym (append-nil m.lines))))

  module _ (b : Rebuilt) (at : slice_get a.kept.seats r ≡ Some (RebuildingSeat b)) where
    now_fetching : (m : Moment) → IsState state a.kept a.servers a.tables m.state →
        IsFetching state a.kept.limits b (slice_get a.servers r) (slice_get a.tables r) (replica m.state r).condition
    now_fetching m h = seat_is state a.kept a.servers a.tables r within (RebuildingSeat b) at m h

    -- how it ends, by what the model's replica has
    ends_for : (m : Moment) (h : IsState state a.kept a.servers a.tables m.state) (end : FetchEnd) →
        EndsSo a.kept.limits (now_fetching m h).fetching.array b end →
        EndsFor a.kept.limits (RebuildingSeat b) (replica m.state r).condition end
    ends_for m h end so = subst (λ c. EndsFor a.kept.limits (RebuildingSeat b) c end)
        (sym (now_fetching m h).is_rebuilding) so

    -- something is missing
    pub ended_missing : IsSome (next_in b.fetch.stand) → (got : ℕ) → got ≡ b.fetch.nodes + length b.fetch.changes →
        (new : Kept) → new ≡ a.kept → (ls' : List Line) → ls' ≡ a.lines ++ lines.Fetching r a.kept.stable got ∷ [] →
        Ended state r stage a (scene new a.servers a.tables a.met ls')
    ended_missing missing got count new new_is ls' said =
        led_said (RebuildingSeat b) at new new_is ls' (lines.Fetching r a.kept.stable got ∷ []) said refl
        (λ faults sound m h. (
        let now = now_fetching m h in
        let f = now.fetching in
        let many : length f.got ≡ got = items_are f.array f.got b now.fetched ∙ sym count in (
          print (lines.Fetching r m.state.stable (length f.got)) m,
          (
            Missing,
            sym (ends_sound r stage faults m a.kept.limits Missing sound (Rebuilding f) now.is_rebuilding),
            ends_for m h Missing missing,
          ),
          h,
          λ i. m.lines ++ lines.Fetching r (h.stable i) (many i) ∷ [],
        )))

    -- the rebuilding was to end
    module _ (aimed : b.target ≡ Some a.kept.stable) (none : next_in b.fetch.stand ≡ None) (servers' : List X)
        (tables' : List ConfTable) (sv : ChangesAt r a.servers servers') (tb : ChangesAt r a.tables tables')
        (result : Result Runner FinishErr)
        (watched : FinishWatchedAt state (slice_get a.servers r) (slice_get servers' r) result) where
      abbrev Old : List Entry → Type 0
      Old A = StandsAt state a.kept.limits (slice_get a.servers r) (slice_get a.tables r) A

      abbrev New : List Entry → Type 0
      New A = StandsAt state a.kept.limits (slice_get servers' r) (slice_get tables' r) A

      old_array : (A : List Entry) × Old A
      old_array = have r (RebuildingSeat b) at

      wrapped : WatchedAt state (slice_get a.servers r) (slice_get servers' r) (as_wrap result)
      wrapped = watched_as state (slice_get a.servers r) (slice_get servers' r) result watched

      later : AreLater state (length a.kept.seats) a.servers servers'
      later = later_finished state a.servers servers' r (length a.kept.seats) result sv watched within

      -- another seat in its place
      abbrev with_seat : Seat → Kept
      with_seat now = record a.kept { seats = slice_set a.kept.seats r now }

      stays_with : (now : Seat) → HasArray state a.kept.limits now (slice_get servers' r) (slice_get tables' r) →
          TurnStays state a.kept (with_seat now) servers' tables'
      stays_with now here = stays_set state a.kept (with_seat now) a.servers servers' a.tables tables' r now have room
          (length a.kept.seats) later sv tb refl refl refl refl here

      -- the state with it, where its position is in this condition
      state_with : (now : Seat) (c : Condition) (m : Moment) → IsState state a.kept a.servers a.tables m.state →
          IsSeat state a.kept.limits now (slice_get servers' r) (slice_get tables' r) c →
          ((d : Rebuilt) → now ≡ RebuildingSeat d → IsAimed a.kept.stable a.kept.root d) →
          IsState state (with_seat now) servers' tables' (becomes r c m).state
      state_with now c m h here aims = state_put state a.kept (slice_set a.kept.seats r now) a.servers servers' a.tables
          tables' m.state r now c h within (changes_set a.kept.seats r now)
          (slice_get-set_same a.kept.seats r now (RebuildingSeat b) at) sv tb here aims

      -- its server did not fail
      led_well : as_wrap result ≡ Ok tt → (now : Seat) → ((p : ℕ) → IsAimedAt p (RebuildingSeat b) → IsAimedAt p now) →
          HasArray state a.kept.limits now (slice_get servers' r) (slice_get tables' r) → (new : Kept) →
          new ≡ with_seat now → (ls' : List Line) (line : Line) → ls' ≡ a.lines ++ line ∷ [] → failed_of line ≡ [] →
          ((faults : Faults) → faults stage r ≡ false → (m : Moment) →
          IsState state a.kept a.servers a.tables m.state →
          LeadsTo state r stage (RebuildingSeat b) a (with_seat now) servers' tables' (line ∷ []) faults m) →
          Ended state r stage a (scene new servers' tables' a.met ls')
      led_well ok now aims here new new_is ls' line said quiet moves =
          subst (λ (v : Kept). Ended state r stage a (scene v servers' tables' a.met ls')) (sym new_is)
          (of_seat (RebuildingSeat b) at (scene (with_seat now) servers' tables' a.met ls')
          (led_ok state (Ends a.kept.limits r stage (RebuildingSeat b)) a
          (scene (with_seat now) servers' tables' a.met ls') r (slot_at stage r) (line ∷ []) (as_wrap result) tt ok
          wrapped sv refl said (ap (λ fs. fs ++ []) quiet) refl (stays_with now here)
          (aims_set a.kept.seats (slice_set a.kept.seats r now) r (RebuildingSeat b) now at refl aims) moves))

      -- what was got is put
      pub ended_whole : (k : Runner) → result ≡ Ok k → ((A : List Entry) → Old A → New (changed b.fetch.changes A)) →
          ((A : List Entry) (place : ℕ) → Old A → b.target ≡ Some place →
          k ≡ begun_at place (digests_of (changed b.fetch.changes A))) →
          (nodes objects : ℕ) → nodes ≡ b.fetch.nodes → objects ≡ length b.fetch.changes →
          (new : Kept) → new ≡ with_seat (LiveSeat k) → (ls' : List Line) →
          ls' ≡ a.lines ++ lines.Rebuilt r a.kept.stable nodes objects ∷ [] →
          Ended state r stage a (scene new servers' tables' a.met ls')
      ended_whole k ok stands live nodes objects nodes_is objects_is new new_is ls' said =
          led_well (ap as_wrap ok) (LiveSeat k) (λ p h. tt)
          (changed b.fetch.changes old_array.0, stands old_array.0 old_array.1) new new_is ls'
          (lines.Rebuilt r a.kept.stable nodes objects) said refl
          (λ faults sound m h. (
          let S = service a.kept.limits in
          let fetching = now_fetching m h in
          let f = fetching.fetching in
          let whole = changed b.fetch.changes f.array in
          let stood = stands f.array fetching.stands in
          let l = begins S m.state.stable whole in
          let got = fetching.fetched in
          let as_nodes : nodes_of f.got ≡ nodes = sym (nodes_is ∙ nodes_are f.array f.got b got) in
          let as_objects : objects_of f.got ≡ objects = sym (objects_is ∙ objects_are f.array f.got b got) in
          let keeps : IsKeptBy k l = subst (λ p. IsKeptBy k (begins S p whole)) (sym h.stable)
          (subst (λ j. IsKeptBy j (begins S a.kept.stable whole))
          (sym (live f.array a.kept.stable fetching.stands aimed))
          (keeps_begun_at a.kept.limits a.kept.stable whole)) in
          let here : IsLive state a.kept.limits k (slice_get servers' r) (slice_get tables' r) (Live l) =
          record { live = l; is_live = refl; stands = stood; keeps = keeps } in (
            print (lines.Rebuilt r m.state.stable (nodes_of f.got) (objects_of f.got)) (becomes r (Live l) m),
            (
              Whole whole,
              sym (ends_sound r stage faults m a.kept.limits (Whole whole) sound (Rebuilding f) fetching.is_rebuilding),
              ends_for m h (Whole whole) (none, refl, stood.stands.valid),
            ),
            state_with (LiveSeat k) (Live l) m h here (λ d e. absurd (cc)),
            λ i. m.lines ++ lines.Rebuilt r (h.stable i) (as_nodes i) (as_objects i) ∷ [],
          )))

      -- it makes no valid array, and is forgotten
      pub ended_forgotten : (d : Rebuilt) → result ≡ Err (endings.Invalid d) →
          IfInvalid result (λ _. (A : List Entry) → Old A → Valid a.kept.limits (changed b.fetch.changes A) → ⊥) →
          IfInvalid result (λ x. (place : ℕ) → b.target ≡ Some place → x ≡ retargeted place b.root b) →
          IfInvalid result (λ _. (A : List Entry) → Old A → New A) →
          (new : Kept) → new ≡ with_seat (RebuildingSeat d) → (ls' : List Line) →
          ls' ≡ a.lines ++ lines.Fetching r a.kept.stable 0 ∷ [] →
          Ended state r stage a (scene new servers' tables' a.met ls')
      ended_forgotten d invalid if_bad if_back if_stands new new_is ls' said =
          let bad : (A : List Entry) → Old A → Valid a.kept.limits (changed b.fetch.changes A) → ⊥ =
          if_invalid result (λ _. (A : List Entry) → Old A → Valid a.kept.limits (changed b.fetch.changes A) → ⊥) d
          invalid if_bad in
          let back : (place : ℕ) → b.target ≡ Some place → d ≡ retargeted place b.root b =
          if_invalid result (λ x. (place : ℕ) → b.target ≡ Some place → x ≡ retargeted place b.root b) d invalid
          if_back in
          let stands : (A : List Entry) → Old A → New A =
          if_invalid result (λ _. (A : List Entry) → Old A → New A) d invalid if_stands in
          let anew : d ≡ retargeted a.kept.stable b.root b = back a.kept.stable aimed in
          let target : d.target ≡ b.target = ap (λ (x : Rebuilt). x.target) anew ∙ sym aimed in
          let root : d.root ≡ b.root = ap (λ (x : Rebuilt). x.root) anew in
          led_well (ap as_wrap invalid) (RebuildingSeat d) (λ p h. target ∙ h)
          (old_array.0, stands old_array.0 old_array.1) new new_is ls' (lines.Fetching r a.kept.stable 0) said refl
          (λ faults sound m h. (
          let fetching = now_fetching m h in
          let f = fetching.fetching in
          let none_got : Fetching = record f { got = [] } in
          let here : IsFetching state a.kept.limits d (slice_get servers' r) (slice_get tables' r)
          (Rebuilding none_got) = record {
            fetching = none_got;
            is_rebuilding = refl;
            stands = stands f.array fetching.stands;
            target = fetching.target ∙ sym target;
            fetched = subst (HasFetched f.array []) (sym anew)
                (fetched_anew f.array f.got a.kept.stable b.root b fetching.fetched);
          } in
          let was = h.aimed r b at in
          let aim : IsAimed a.kept.stable a.kept.root d = record {
            low = λ p e. was.low p (sym target ∙ e);
            root_is = λ e. root ∙ was.root_is (sym target ∙ e);
          } in (
            print (lines.Fetching r m.state.stable 0) (becomes r (Rebuilding none_got) m),
            (
              Forgets,
              sym (ends_sound r stage faults m a.kept.limits Forgets sound (Rebuilding f) fetching.is_rebuilding),
              ends_for m h Forgets (none, bad f.array fetching.stands),
            ),
            state_with (RebuildingSeat d) (Rebuilding none_got) m h here
                (λ e is. subst (IsAimed a.kept.stable a.kept.root) (let same : d ≡ e = cc in same) aim),
            λ i. m.lines ++ lines.Fetching r (h.stable i) 0 ∷ [],
          )))

      -- its server failed
      pub ended_down : result ≡ Err endings.Down → (new : Kept) → new ≡ with_seat DownSeat → (ls' : List Line) →
          ls' ≡ a.lines ++ lines.Down r ∷ [] → (met' : List FaultPoint) →
          met' ≡ a.met ++ record { event = a.kept.events + 1; stage = stage; replica = r } ∷ [] →
          Ended state r stage a (scene new servers' tables' met' ls')
      ended_down down new new_is ls' said met' met_is =
          subst (λ (v : Kept). Ended state r stage a (scene v servers' tables' met' ls')) (sym new_is)
          (of_seat (RebuildingSeat b) at (scene (with_seat DownSeat) servers' tables' met' ls')
          (led_fell state (Ends a.kept.limits r stage (RebuildingSeat b)) a
          (scene (with_seat DownSeat) servers' tables' met' ls') r (slot_at stage r) (as_wrap result) (ap as_wrap down)
          refl wrapped sv met_is said refl
          (stays_with DownSeat (down_after state a.kept.limits a.servers servers' a.tables tables' r (as_wrap result)
          wrapped tb (RebuildingSeat b) old_array))
          (aims_set a.kept.seats (slice_set a.kept.seats r DownSeat) r (RebuildingSeat b) DownSeat at refl (λ p h. tt))
          (λ faults struck m h. (
          let end = some_end a.kept.limits (now_fetching m h).fetching.array b none in
          let low : r < length m.state.replicas = (let e = h.size in omega arith) in (
            fails r m,
            (end.0, sym (ends_fallen r stage faults m a.kept.limits end.0 struck low), ends_for m h end.0 end.1),
            state_with DownSeat Down m h refl (λ d e. absurd (cc)),
            refl,
          )))))
