-- The step of a record that fetches what a replica lacks.
use Rattle.std.proofs.Common.{◌≡◌, ℕ, suc, ◌+◌, ◌*◌, ◌<◌, ◌≤◌, List, [], ◌∷◌, ◌++◌, map, length, slice_get, Option, Some, refl, sym, ◌∙◌, ap, subst, arith}
use Rattle.std.specs.Prelude.{Result, Ok, Err, OnOk, slice_set}
use Rattle.std.specs.List.{All, flat_map}
use Rattle.std.proofs.lemmas.List.{append-nil, length-set}
use Rattle.std.proofs.lemmas.List.Elements.{All-nil}
use Rattle.nfs2_types.specs.declared.Limits.{Limits}
use Rattle.nfs2_types.specs.declared.NoMemory.{NoMemory}
use Rattle.server_trait.specs.Tree.{Server}
use Rattle.server_trait.specs.declared.ConfTable.{ConfTable}
use Rattle.server_trait.specs.declared.FaultPoint.{FaultPoint}
use Rattle.server_trait.proofs.TreeLaws.{some_same}
use Rattle.log_format.specs.declared.Event.TheVariants.{Fetch}
use Rattle.log_format.specs.declared.Line.{Line}
use Rattle.log_format.specs.declared.Line.TheVariants as lines
use Rattle.log_format.specs.declared.IdleCause.TheVariants.{NotRebuilding}
use Rattle.cluster_model.specs.Service.{Service}
use Rattle.cluster_model.specs.State.{Condition}
use Rattle.cluster_model.specs.Moments.{Moment, Faults, replica, print}
use Rattle.cluster_model.specs.Turns.{Slot, last}
use Rattle.cluster_model.specs.Step.{fetches, aims}
use Rattle.cluster_model.specs.Loose.{LooseFetch}
use Rattle.cluster_model.specs.Walk.{WalkedFetch, IsWalkedFetch}
use Rattle.cluster_model.specs.Run.{failed_of, faults_in}
use Rattle.cluster_model.proofs.Walked.{walked_loose}
use Rattle.service_laws.specs.Served.{IsSized, service}
use Rattle.service_laws.proofs.Served.{service_lawful}
use Rattle.recovery.specs.Rebuilt.{Rebuilt, aimed}
use Rattle.fetch_laws.proofs.Made.{made_walked}
use Rattle.seats.specs.declared.Seat.{Seat}
use Rattle.seats.specs.Seats.{aimed_in}
use Rattle.seats.specs.declared.Seat.TheVariants.{Live as LiveSeat, Rebuilding as RebuildingSeat, Down as DownSeat}
use Rattle.cluster.specs.OverBench.{Kept, IsAimedAt, IsSeat, IsState}
use Rattle.cluster.specs.Steps.{ArePointsOf}
use Rattle.cluster.specs.Turned.{points_of, FailAs, AreStruckBy, TurnStays}
use Rattle.cluster.specs.Went.{Went}
use Rattle.cluster.specs.Fetching.{Scene, scene, seat_in, Led, slots_before, Collected, Ended}
use Rattle.cluster.proofs.Struck.{struck_none}
use Rattle.cluster.proofs.Faults.{fails_as, points_low}
use Rattle.cluster.proofs.StepClauses.{moments_follow}
use Rattle.cluster.proofs.Harms.{seat_is}
use Rattle.cluster.proofs.FetchSlots.{before_differ, before_within}
use Rattle.cluster.proofs.FetchMoments.{Whole, whole, made, last_is, aimed_b}
use Rattle.cluster.proofs.Aims.{fetching_of, state_aims}

-- A REPLICA THAT IS NOT BEING REBUILT

-- what its Fetch does, loose and walked
idle_fetch : {X : Type 0} (state : X → Server) (limits : Limits) (o : Seat) (s : Option X) (t : Option ConfTable)
    (c : Condition) → ((b : Rebuilt) → o ≡ RebuildingSeat b → ⊥) → IsSeat state limits o s t c → (S : Service)
    (faults : Faults) (r n : ℕ) (m : Moment) →
    LooseFetch S faults r n m c (print (lines.Idle r NotRebuilding) m ∷ [])
    × WalkedFetch S faults r n m c (print (lines.Idle r NotRebuilding) m ∷ [])
idle_fetch state limits (LiveSeat k) s t c none h S faults r n m =
    let ms = print (lines.Idle r NotRebuilding) m ∷ [] in
    subst (λ d. LooseFetch S faults r n m d ms × WalkedFetch S faults r n m d ms) (sym h.is_live) (refl, refl)
idle_fetch state limits (RebuildingSeat b) s t c none h S faults r n m = absurd (none b refl)
idle_fetch state limits DownSeat s t c none h S faults r n m =
    let ms = print (lines.Idle r NotRebuilding) m ∷ [] in
    subst (λ d. LooseFetch S faults r n m d ms × WalkedFetch S faults r n m d ms) (sym h) (refl, refl)

pub went_unfetched : {X : Type 0} (state : X → Server) (c : Kept) (servers : List X) (tables : List ConfTable) (r n : ℕ) →
    r < length c.seats → (o : Seat) → slice_get c.seats r ≡ Some o → ((b : Rebuilt) → o ≡ RebuildingSeat b → ⊥) →
    (met : List FaultPoint) → met ≡ [] → (ls ls' : List Line) → ls ≡ [] →
    ls' ≡ ls ++ lines.Idle r NotRebuilding ∷ [] → Went state (Fetch r n) c c servers servers tables tables met ls'
went_unfetched state c servers tables r n within o at none met no_met ls ls' no_lines said =
    let line : ls' ≡ lines.Idle r NotRebuilding ∷ [] = said ∙ ap (λ xs. xs ++ lines.Idle r NotRebuilding ∷ []) no_lines in
    let quiet : flat_map failed_of ls' ≡ [] = ap (flat_map failed_of) line in
    record {
      numbered = subst (ArePointsOf c.limits (suc c.events)) (sym no_met)
          (All-nil (λ (d : FaultPoint). (d.event ≡ suc c.events) × (d.replica < 3 * c.limits.f + 1)));
      lines_are = ap (map (λ (d : FaultPoint). d.replica)) no_met ∙ sym quiet;
      limits = refl;
      requests = sym (append-nil c.requests);
      events = refl;
      moves = λ m good s. (
          let out = idle_fetch state c.limits o (slice_get servers r) (slice_get tables r) (replica m.state r).condition
          none (seat_is state c servers tables r within o at m s) (service c.limits) (faults_in met (suc c.events)) r n m in
          moments_follow state c c servers servers tables tables met (Fetch r n) ls' m s (λ j spare e. absurd (cc))
          (print (lines.Idle r NotRebuilding) m ∷ []) out.0 out.1 (s, ap (λ xs. m.lines ++ xs) (sym line))
          (struck_none state ls' servers quiet));
    }

-- THE STEP

module _ {X : Type 0} (state : X → Server) (c : Kept) (servers : List X) (tables : List ConfTable) (r n : ℕ)
    (within : r < length c.seats) (rb : Rebuilt) (at : slice_get c.seats r ≡ Some (RebuildingSeat rb))
    (stages : ℕ) (met : List FaultPoint) (no_met : met ≡ []) (ls : List Line) (no_lines : ls ≡ [])
    (b d : Scene X)
    (got : Collected state r n stages
    (scene (record c { seats = slice_set c.seats r (RebuildingSeat (aimed c.stable c.root rb)) }) servers tables met ls) b)
    (ended : Ended state r stages b d) (sized : IsSized c.limits) (t_small : c.limits.t ≤ 16777216)
    (replicas : length c.seats ≡ 3 * c.limits.f + 1) where
  abbrev count : ℕ
  count = length (slice_set c.seats r (RebuildingSeat (aimed c.stable c.root rb)))

  abbrev slots : List Slot
  slots = slots_before r (length (slice_set c.seats r (RebuildingSeat (aimed c.stable c.root rb)))) (suc stages)

  all_led : Led state (Whole state c.limits r n (length (slice_set c.seats r (RebuildingSeat (aimed c.stable c.root rb))))
      stages b) slots
      (scene (record c { seats = slice_set c.seats r (RebuildingSeat (aimed c.stable c.root rb)) }) servers tables met ls) d
  all_led = whole state r n stages
      (scene (record c { seats = slice_set c.seats r (RebuildingSeat (aimed c.stable c.root rb)) }) servers tables met ls)
      b d got ended

  as_many : count ≡ length c.seats
  as_many = length-set c.seats r (RebuildingSeat (aimed c.stable c.root rb))

  within_set : r < count
  within_set = (let e = as_many in omega (arith, e, within))

  met_is : d.met ≡ points_of (suc c.events) slots all_led.faults_are
  met_is = all_led.met_are ∙ ap (λ ps. ps ++ points_of (suc c.events) slots all_led.faults_are) no_met

  lines_is : d.lines ≡ all_led.more
  lines_is = all_led.lines_are ∙ ap (λ xs. xs ++ all_led.more) no_lines

  fails : FailAs (faults_in d.met (suc c.events)) slots all_led.faults_are
  fails = subst (λ ps. FailAs (faults_in ps (suc c.events)) slots all_led.faults_are) (sym met_is)
      (fails_as (suc c.events) slots all_led.faults_are all_led.long (before_differ r count (suc stages) within_set))

  low : All (λ (t : Slot). t.replica < 3 * c.limits.f + 1) slots
  low = subst (λ k. All (λ (t : Slot). t.replica < k) slots) (as_many ∙ replicas)
      (before_within r count (suc stages) within_set)

  went_fetched : Went state (Fetch r n) c d.kept servers d.servers tables d.tables d.met d.lines
  went_fetched = record {
    numbered = subst (ArePointsOf c.limits (suc c.events)) (sym met_is)
        (points_low c.limits (suc c.events) slots all_led.faults_are low);
    lines_are = ap (map (λ (e : FaultPoint). e.replica)) met_is ∙ sym all_led.tells
        ∙ ap (flat_map failed_of) (sym lines_is);
    limits = all_led.stays.same.limits;
    requests = all_led.stays.same.requests ∙ sym (append-nil c.requests);
    events = all_led.stays.same.events;
    moves = λ m good s. (
        let faults = faults_in d.met (suc c.events) in
        let f = fetching_of state c servers tables r within rb at m s in
        let start = aims r m f.fetching in
        let out = all_led.moves faults fails start (state_aims state c servers tables r within rb at m s) in
        let x = out.0 in
        let w = out.1 in
        let items = w.collects.0 in
        let end = w.ends.0 in
        let is = made state c servers tables r n within rb at stages met ls b got m s faults x w in
        let walked : IsWalkedFetch (service c.limits) faults r n m f.fetching items end =
        made_walked c.limits sized t_small faults r n m f.fetching items end good f.is_rebuilding is in
        let loose = walked_loose (service c.limits) (service_lawful c.limits sized).spelled faults r n m f.fetching items end good
        f.is_rebuilding walked in
        let ms = fetches (service c.limits) faults r end 0 items start in
        let last_one : last m ms ≡ x = last_is state c servers tables r n within rb at stages met ls b got m s faults x w m in
        moments_follow state c d.kept servers d.servers tables d.tables d.met (Fetch r n) d.lines m s
        (λ j spare e. absurd (cc)) ms
        (subst (λ (k : Condition). LooseFetch (service c.limits) faults r n m k ms) (sym f.is_rebuilding) (items, end, loose, refl))
        (subst (λ (k : Condition). WalkedFetch (service c.limits) faults r n m k ms) (sym f.is_rebuilding) (items, end, walked, refl))
        (subst (λ (k : Moment). IsState state d.kept d.servers d.tables k.state × (k.lines ≡ m.lines ++ d.lines))
        (sym last_one) (out.2, out.3 ∙ ap (λ xs. m.lines ++ xs) (sym lines_is)))
        (subst (λ xs. AreStruckBy state xs servers d.servers) (sym lines_is) all_led.struck));
  }

  fetched_stays : TurnStays state c d.kept d.servers d.tables
  fetched_stays = record {
    same = record {
      limits = all_led.stays.same.limits;
      requests = all_led.stays.same.requests;
      seats = all_led.stays.same.seats ∙ as_many;
      events = all_led.stays.same.events;
    };
    arrays = all_led.stays.arrays;
    room = all_led.stays.room;
  }

-- THE CALLS OF A FETCH

-- the seat that was aimed
pub aim_set : (c : Kept) (r : ℕ) (new o : Seat) (b : Rebuilt) → slice_get c.seats r ≡ Some o →
    slice_get c.seats r ≡ Some (RebuildingSeat b) → new ≡ aimed_in c.stable c.root o →
    (let x : Kept = record c { seats = slice_set c.seats r new } in x)
    ≡ record c { seats = slice_set c.seats r (RebuildingSeat (aimed c.stable c.root b)) }
aim_set c r new o b read at is =
    ap (λ s. let x : Kept = record c { seats = slice_set c.seats r s } in x)
    (is ∙ ap (aimed_in c.stable c.root) (some_same read at))

module _ {X : Type 0} (state : X → Server) (c : Kept) (servers : List X) (tables : List ConfTable) (r n : ℕ)
    (within : r < length c.seats) (rb : Rebuilt) (at : slice_get c.seats r ≡ Some (RebuildingSeat rb))
    (stages : ℕ) (met : List FaultPoint) (ls : List Line) (first : Kept)
    (first_is : first ≡ record c { seats = slice_set c.seats r (RebuildingSeat (aimed c.stable c.root rb)) })
    (b : Scene X) (got : Collected state r n stages (scene first servers tables met ls) b) where
  got_so : Collected state r n stages
      (scene (record c { seats = slice_set c.seats r (RebuildingSeat (aimed c.stable c.root rb)) }) servers tables met ls) b
  got_so = subst (λ (k : Kept). Collected state r n stages (scene k servers tables met ls) b) first_is got

  pub aimed_collected : IsAimedAt b.kept.stable (seat_in b r)
  aimed_collected = subst (λ p. IsAimedAt p (seat_in b r)) (sym (ap (λ (k : Kept). k.stable) got_so.led.fixed))
      (aimed_b state c servers tables r n within rb at stages met ls b got_so)

  module _ (no_met : met ≡ []) (no_lines : ls ≡ []) (d : Scene X) (sized : IsSized c.limits)
      (t_small : c.limits.t ≤ 16777216) (replicas : length c.seats ≡ 3 * c.limits.f + 1) where
    pub went_if : (result : Result (Unit {0}) NoMemory) → OnOk result (Ended state r stages b d) →
        OnOk result (Went state (Fetch r n) c d.kept servers d.servers tables d.tables d.met d.lines)
    went_if (Ok u) h = went_fetched state c servers tables r n within rb at stages met no_met ls no_lines b d got_so h sized
        t_small replicas
    went_if (Err e) h = tt

    pub stays_if : (result : Result (Unit {0}) NoMemory) → OnOk result (Ended state r stages b d) →
        OnOk result (TurnStays state c d.kept d.servers d.tables)
    stays_if (Ok u) h = fetched_stays state c servers tables r n within rb at stages met no_met ls no_lines b d got_so h
        sized t_small replicas
    stays_if (Err e) h = tt
