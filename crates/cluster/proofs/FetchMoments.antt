-- What the code collected and how it ended, as a Fetch of the model.
use Rattle.std.proofs.Common.{◌≡◌, ◌≢◌, ℕ, suc, ◌<◌, ◌≤◌, false, List, [], ◌∷◌, ◌++◌, length, slice_get, Option, Some, refl, sym, ◌∙◌, ap, subst, arith}
use Rattle.std.specs.Prelude.{slice_set, IsSome}
use Rattle.std.proofs.lemmas.List.{append_assoc, length-set, get_or-set_same, get_or-set_other}
use Rattle.std.proofs.lemmas.List.Elements.{All-weaker}
use Rattle.std.proofs.lemmas.Option.{slice_get-get_or}
use Rattle.nfs2_types.specs.declared.Limits.{Limits}
use Rattle.server_trait.specs.Tree.{Server}
use Rattle.server_trait.specs.declared.ConfTable.{ConfTable}
use Rattle.server_trait.specs.declared.FaultPoint.{FaultPoint}
use Rattle.conf_map.proofs.InStep.{slice_get-set_same}
use Rattle.log_format.specs.declared.Line.{Line}
use Rattle.cluster_model.specs.Service.{Service}
use Rattle.cluster_model.specs.Tree.{Item}
use Rattle.cluster_model.specs.State.{Fetching, Condition, Live, Down, Rebuilding, Replica}
use Rattle.cluster_model.specs.Moments.{Moment, Faults, gone, replica}
use Rattle.cluster_model.specs.Turns.{last}
use Rattle.cluster_model.specs.Step as model
use Rattle.cluster_model.specs.Step.{FetchEnd, fetches, aims}
use Rattle.cluster_model.specs.Loose.{IsGiven, gives}
use Rattle.cluster_model.proofs.Premise.{rebuilding_within}
use Rattle.cluster_model.proofs.Walked.{aimed_array}
use Rattle.service_laws.specs.Served.{service}
use Rattle.state_transfer.specs.Stand.{next_in}
use Rattle.recovery.specs.Rebuilt.{Rebuilt, HasFetched, aimed}
use Rattle.fetch_laws.specs.Made.{EndsSo, GivesNone, FetchMade}
use Rattle.seats.specs.declared.Seat.{Seat}
use Rattle.seats.specs.declared.Seat.TheVariants.{Live as LiveSeat, Rebuilding as RebuildingSeat, Down as DownSeat}
use Rattle.seats.specs.Seats.{next_of}
use Rattle.cluster.specs.OverBench.{Kept, IsAimedAt, IsSeat, IsState}
use Rattle.cluster.specs.Fetching.{Scene, scene, Led, seat_in, slot_at, source_slots, slots_before, chance, GivesNoneTo, Reaches, Collects, Collected, EndsFor, Ends, Ended}
use Rattle.cluster.proofs.ListFacts.{read_is}
use Rattle.cluster.proofs.Stages.{sources_leave, fetches_last, reaches_end}
use Rattle.cluster.proofs.Leading.{led_then, led_weaker}
use Rattle.cluster.proofs.Aims.{fetching_of, aimed_at}

-- STAGES AND THE END

-- what was collected, what cluster and bench stand for then, and how it ends
pub record Whole {X : Type 0} (state : X → Server) (limits : Limits) (r n sources stages : ℕ) (b : Scene X)
    (faults : Faults) (m x : Moment) : Type 0 where
  pub between : Moment
  pub collects : Collects (service limits) r n sources stages (seat_in b r) faults m between
  pub stands : IsState state b.kept b.servers b.tables between.state
  pub ends : Ends limits r stages (seat_in b r) faults between x

module _ {X : Type 0} (state : X → Server) (r n stages : ℕ) (a b d : Scene X) (got : Collected state r n stages a b)
    (ended : Ended state r stages b d) where
  abbrev sources : ℕ
  sources = length a.kept.seats

  same_limits : b.kept.limits ≡ a.kept.limits
  same_limits = got.led.stays.same.limits

  tail : Led state (λ faults k x. IsState state b.kept b.servers b.tables k.state
      × Ends a.kept.limits r stages (seat_in b r) faults k x) (slot_at stages r ∷ []) b d
  tail = led_weaker state (Ends b.kept.limits r stages (seat_in b r)) (λ faults k x.
      IsState state b.kept b.servers b.tables k.state × Ends a.kept.limits r stages (seat_in b r) faults k x)
      (slot_at stages r ∷ []) b d ended
      (λ faults k x f s e. (s, subst (λ (l : Limits). Ends l r stages (seat_in b r) faults k x) same_limits e))

  pub whole : Led state (Whole state a.kept.limits r n (length a.kept.seats) stages b)
      (slots_before r (length a.kept.seats) (suc stages)) a d
  whole =
      let before = slots_before r sources stages in
      let asked = source_slots stages r sources in
      subst (λ ts. Led state (Whole state a.kept.limits r n sources stages b) ts a d)
      (append_assoc before asked (slot_at stages r ∷ []))
      (led_weaker state (λ faults m x. (k : Moment)
      × Collects (service a.kept.limits) r n sources stages (seat_in b r) faults m k
      × (IsState state b.kept b.servers b.tables k.state × Ends a.kept.limits r stages (seat_in b r) faults k x))
      (Whole state a.kept.limits r n sources stages b) ((before ++ asked) ++ slot_at stages r ∷ []) a d
      (led_then state (Collects (service a.kept.limits) r n sources stages (seat_in b r))
      (λ faults k x. IsState state b.kept b.servers b.tables k.state
      × Ends a.kept.limits r stages (seat_in b r) faults k x) (before ++ asked) (slot_at stages r ∷ []) a b d got.led
      tail)
      (λ faults m x f s g. record { between = g.0; collects = g.1; stands = g.2.0; ends = g.2.1 }))

-- a seat is being rebuilt where its replica is
rebuilding_seat : {X : Type 0} (state : X → Server) (limits : Limits) (o : Seat) (s : Option X) (t : Option ConfTable)
    (c : Condition) (f : Fetching) → IsSeat state limits o s t c → c ≡ Rebuilding f →
    (b : Rebuilt) × (o ≡ RebuildingSeat b) × HasFetched f.array f.got b
rebuilding_seat state limits (LiveSeat k) s t c f h e = absurd (let bad : Rebuilding f ≡ Live h.live = sym e ∙ h.is_live in cc)
rebuilding_seat state limits (RebuildingSeat b) s t c f h e =
    let both : Rebuilding h.fetching ≡ Rebuilding f = sym h.is_rebuilding ∙ e in
    let same : h.fetching ≡ f = cc in
    (b, refl, subst (λ (g : Fetching). HasFetched g.array g.got b) same h.fetched)
rebuilding_seat state limits DownSeat s t c f h e = absurd (let bad : Rebuilding f ≡ Down = sym e ∙ h in cc)

-- FROM A MOMENT OF THE MODEL

module _ {X : Type 0} (state : X → Server) (c : Kept) (servers : List X) (tables : List ConfTable) (r n : ℕ)
    (within : r < length c.seats) (rb : Rebuilt) (at : slice_get c.seats r ≡ Some (RebuildingSeat rb))
    (stages : ℕ) (met : List FaultPoint) (ls : List Line) (b : Scene X)
    (got : Collected state r n stages
    (scene (record c { seats = slice_set c.seats r (RebuildingSeat (aimed c.stable c.root rb)) }) servers tables met ls) b)
  where
    abbrev S : Service
    S = service c.limits

    abbrev begun : Scene X
    begun = scene (record c { seats = slice_set c.seats r (RebuildingSeat (aimed c.stable c.root rb)) }) servers tables met ls

    size : length (slice_set c.seats r (RebuildingSeat (aimed c.stable c.root rb))) ≡ length c.seats
    size = length-set c.seats r (RebuildingSeat (aimed c.stable c.root rb))

    size_b : length b.kept.seats ≡ length c.seats
    size_b = got.led.stays.same.seats ∙ size

    stable_b : b.kept.stable ≡ c.stable
    stable_b = ap (λ (k : Kept). k.stable) got.led.fixed

    root_b : b.kept.root ≡ c.root
    root_b = ap (λ (k : Kept). k.root) got.led.fixed

    -- what is being rebuilt is aimed at the stable place
    pub aimed_b : IsAimedAt c.stable (seat_in b r)
    aimed_b = got.led.aims r c.stable (subst (IsAimedAt c.stable)
        (sym (read_is (slice_set c.seats r (RebuildingSeat (aimed c.stable c.root rb))) r
        (RebuildingSeat (aimed c.stable c.root rb)) DownSeat
        (slice_get-set_same c.seats r (RebuildingSeat (aimed c.stable c.root rb)) (RebuildingSeat rb) at)))
        (aimed_at c.stable c.root (RebuildingSeat rb)))

    module _ (m : Moment) (s : IsState state c servers tables m.state) (faults : Faults) (x : Moment) where
      abbrev fetching : Fetching
      fetching = (fetching_of state c servers tables r within rb at m s).fetching

      abbrev start : Moment
      start = aims r m (fetching_of state c servers tables r within rb at m s).fetching

      abbrev aim : Fetching
      aim = model.aimed m.state.stable (fetching_of state c servers tables r within rb at m s).fetching

      live : (replica m.state r).condition ≡ Rebuilding fetching
      live = (fetching_of state c servers tables r within rb at m s).is_rebuilding

      abbrev being : Replica
      being = record (replica m.state r) {
        condition = Rebuilding
            (model.aimed m.state.stable (fetching_of state c servers tables r within rb at m s).fetching);
      }

      live_start : (replica start.state r).condition ≡ Rebuilding aim
      live_start = ap (λ (y : Replica). y.condition) (get_or-set_same m.state.replicas r being gone
          (rebuilding_within m.state r fetching live))

      other_start : (j : ℕ) → j ≢ r → replica start.state j ≡ replica m.state j
      other_start j ne = get_or-set_other m.state.replicas r j being gone ne

      size_start : length start.state.replicas ≡ length m.state.replicas
      size_start = length-set m.state.replicas r being

      given_start : (y : Item × List ℕ) → IsGiven S start.state r y → IsGiven S m.state r y
      given_start y g = (
        g.0,
        (let low = g.1 in let e = size_start in omega arith),
        g.2,
        subst (λ (z : Replica). gives S m.state.stable y z.condition) (other_start g.0 g.2) g.3,
      )

      module _ (w : Whole state c.limits r n (length begun.kept.seats) stages b faults
          (aims r m (fetching_of state c servers tables r within rb at m s).fetching) x) where
        abbrev items : List (Item × List ℕ)
        items = w.collects.0

        abbrev mid : Moment
        mid = w.collects.1

        abbrev end : FetchEnd
        end = w.ends.0

        abbrev all : Fetching
        all = record (model.aimed m.state.stable (fetching_of state c servers tables r within rb at m s).fetching) {
          got = (model.aimed m.state.stable (fetching_of state c servers tables r within rb at m s).fetching).got
              ++ w.collects.0;
        }

        reached : Reaches S r faults start mid items
        reached = w.collects.3

        live_end : (replica w.between.state r).condition ≡ Rebuilding all
        live_end = ap (λ (y : Moment). (replica y.state r).condition) w.collects.4
            ∙ sources_leave r faults stages (length begun.kept.seats) mid ∙ reached.fetching aim live_start

        -- what the code has then
        pub had : (last : Rebuilt) × (seat_in b r ≡ RebuildingSeat last) × HasFetched all.array all.got last
        had = rebuilding_seat state b.kept.limits (seat_in b r) (slice_get b.servers r) (slice_get b.tables r)
            (replica w.between.state r).condition all
            (w.stands.conditions r (let e = size_b in omega (arith, e, within))) live_end

        same_array : aim.array ≡ fetching.array
        same_array = aimed_array m.state.stable fetching

        root_is : had.0.root ≡ m.state.root
        root_is =
            let here : slice_get b.kept.seats r ≡ Some (RebuildingSeat had.0) =
            slice_get-get_or b.kept.seats r DownSeat (let e = size_b in omega (arith, e, within)) ∙ ap Some had.1 in
            let target : had.0.target ≡ Some c.stable = subst (IsAimedAt c.stable) had.1 aimed_b in
            (w.stands.aimed r had.0 here).root_is (target ∙ ap Some (sym stable_b)) ∙ root_b ∙ sym s.root

        ended_so : EndsSo c.limits fetching.array had.0 end
        ended_so = subst (λ A. EndsSo c.limits A had.0 end) same_array
            (subst (λ (o : Seat). EndsFor c.limits o (Rebuilding all) end) had.1
            (subst (λ (k : Condition). EndsFor c.limits (seat_in b r) k end) live_end w.ends.2))

        asked_all : length items ≢ n → IsSome (next_in had.0.fetch.stand) → (j : ℕ) → j < length m.state.replicas →
            j ≢ r → ((stage : ℕ) → stage ≤ length items → faults stage j ≡ false) →
            GivesNone S m.state.stable had.0.fetch (replica m.state j).condition
        asked_all fewer some j low ne quiet =
            let long : length items ≡ stages = w.collects.2 in
            let seen : GivesNoneTo S m.state.stable (seat_in b r) (replica start.state j).condition =
            w.collects.5 (λ e. fewer (long ∙ e)) (subst (λ (o : Seat). IsSome (next_of o)) (sym had.1) some) j
            (let e = s.size in let z = size in omega (arith, low, e, z)) ne
            (λ stage early. quiet stage (omega (arith, early, long))) in
            subst (λ (y : Replica). GivesNone S m.state.stable had.0.fetch y.condition) (other_start j ne)
            (subst (λ (o : Seat). GivesNoneTo S m.state.stable o (replica start.state j).condition) had.1 seen)

        pub made : FetchMade c.limits faults r n m fetching items end
        made = record {
          last = had.0;
          few = (let long = w.collects.2 in let few = got.few in omega (arith, long, few));
          root = root_is;
          fetched = subst (λ A. HasFetched A all.got had.0) same_array had.2;
          given = All-weaker (IsGiven S start.state r) (IsGiven S m.state r) given_start items reached.given;
          ended = ended_so;
          asked = asked_all;
        }

        -- the last moment of the model's Fetch
        pub last_is : (a : Moment) → last a (fetches S faults r end 0 items start) ≡ x
        last_is a = fetches_last S r faults end 0 items start a start
            ∙ reaches_end S r faults start mid items reached stages (length begun.kept.seats) (sym w.collects.2)
            (let e = reached.size in let f = size_start in let g = s.size in let z = size in omega arith) end
            ∙ ap (λ (k : Moment). let then = chance r faults k (slot_at stages r) in
            model.if_rebuilding then (replica then.state r).condition (λ f. model.ends_fetch S r end then f))
            (sym w.collects.4) ∙ sym w.ends.1
