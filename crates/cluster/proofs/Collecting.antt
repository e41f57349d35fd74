-- The stages of a Fetch in the code: each is one of the model, and those that follow one another are gathered.
use Rattle.std.proofs.Common.{◌≡◌, ◌≢◌, ◌⊎◌, ℕ, suc, ◌+◌, ◌<◌, ◌≤◌, Bool, true, false, List, [], ◌∷◌, ◌++◌, length, slice_get, get_or, Option, Some, None, inl, refl, sym, ◌∙◌, ap, subst, ⊎_elim, arith}
use Rattle.std.specs.Prelude.{slice_index_or, IsSome, is_some}
use Rattle.std.specs.List.{All}
use Rattle.std.proofs.lemmas.List.{length-append}
use Rattle.std.proofs.lemmas.List.Elements.{All-nil, All-cons}
use Rattle.nfs2_types.specs.declared.Limits.{Limits}
use Rattle.server_trait.specs.Tree.{Server}
use Rattle.server_trait.specs.declared.ConfTable.{ConfTable}
use Rattle.cluster_model.specs.Service.{Service}
use Rattle.cluster_model.specs.Tree.{Item, item}
use Rattle.cluster_model.specs.State.{Fetching, Condition, Rebuilding}
use Rattle.cluster_model.specs.Moments.{Moment, Faults, replica}
use Rattle.cluster_model.specs.Turns.{Slot}
use Rattle.cluster_model.specs.Fair.{IsItem}
use Rattle.cluster_model.specs.Loose.{IsGiven}
use Rattle.service_laws.specs.Served.{IsSized, service}
use Rattle.state_transfer.specs.declared.Item.{Item as NextItem}
use Rattle.state_transfer.specs.Stand.{Stand, next_in}
use Rattle.recovery.specs.Rebuilt.{Rebuilt}
use Rattle.fetch_laws.proofs.Serving.{fetched_levels, next_is_item}
use Rattle.seats.specs.declared.Seat.{Seat}
use Rattle.seats.specs.declared.Seat.TheVariants.{Live as LiveSeat, Rebuilding as RebuildingSeat, Down as DownSeat}
use Rattle.seats.specs.Seats.{next_of}
use Rattle.cluster.specs.OverBench.{IsFetching, IsSeat, IsState, HaveArrays, HaveRoom}
use Rattle.cluster.specs.Turned.{FailAs}
use Rattle.cluster.specs.Fetching.{Scene, Led, seat_in, source_slots, stage_slots, slots_before, chances, then_gets, GivesNoneTo, GetsOne, GetsNone, Refused, Staged, Reaches, Gathers, Gathered, Collects, Collected}
use Rattle.cluster.proofs.ListFacts.{read_same, read_is}
use Rattle.cluster.proofs.TurnClauses.{at_index}
use Rattle.cluster.proofs.Leading.{unfailed, led_then, led_still, led_weaker}
use Rattle.cluster.proofs.Stages.{chances_still, reaches_none, reaches_more}

-- WHAT IS NEXT

-- a seat where something is next is being rebuilt
next_rebuilding : (o : Seat) (i : NextItem) → next_of o ≡ Some i →
    (b : Rebuilt) × (o ≡ RebuildingSeat b) × (next_in b.fetch.stand ≡ Some i)
next_rebuilding (LiveSeat k) i e = absurd (cc)
next_rebuilding (RebuildingSeat b) i e = (b, refl, e)
next_rebuilding DownSeat i e = absurd (cc)

-- what is next is the first that is wanted
first_wanted : (s : Stand) (i : NextItem) → next_in s ≡ Some i → (x : ℕ × List ℕ) × (xs : List (ℕ × List ℕ))
    × (s.rest ≡ x ∷ xs) × (item s.level x.0 ≡ item i.level i.number)
first_wanted s i next = by s.rest refl
  where
    by : (rest : List (ℕ × List ℕ)) → s.rest ≡ rest → (x : ℕ × List ℕ) × (xs : List (ℕ × List ℕ))
        × (s.rest ≡ x ∷ xs) × (item s.level x.0 ≡ item i.level i.number)
    by [] e = absurd (
        let none : None ≡ Some i = sym (ap (λ (r : List (ℕ × List ℕ)). elim r [
          | [] ↦ None
          | x ∷ xs ↦ Some (record { level = s.level; number = x.0 })
        ]) e) ∙ next in cc)
    by (x ∷ xs) e = (
        let one : Some (record { level = s.level; number = x.0 }) ≡ Some i = sym (ap (λ (r : List (ℕ × List ℕ)). elim r [
          | [] ↦ None
          | x ∷ xs ↦ Some (record { level = s.level; number = x.0 })
        ]) e) ∙ next in
        let same : record { level = s.level; number = x.0 } ≡ i = cc in
        (x, xs, e, ap (λ (j : NextItem). item j.level j.number) same))

-- what was read of a seat is next there
pub next_read : (seats : List Seat) (r : ℕ) (o : Seat) (x : Option NextItem) → r < length seats →
    o ≡ get_or seats r o → x ≡ next_of o → next_of (slice_index_or seats r DownSeat) ≡ x
next_read seats r o x within is next =
    ap next_of (read_is seats r o DownSeat (at_index seats r o o within is refl)) ∙ sym next

module _ {X : Type 0} (state : X → Server) (limits : Limits) (sized : IsSized limits) (o : Seat) (i : NextItem)
    (next : next_of o ≡ Some i) (s : Option X) (t : Option ConfTable) (c : Condition)
    (h : IsSeat state limits o s t c) where
  abbrev is_rebuilt : (b : Rebuilt) × (o ≡ RebuildingSeat b) × (next_in b.fetch.stand ≡ Some i)
  is_rebuilt = next_rebuilding o i next

  fetching : IsFetching state limits (next_rebuilding o i next).0 s t c
  fetching = subst (λ (x : Seat). IsSeat state limits x s t c) is_rebuilt.1 h

  -- it lies in the tree
  next_inside : IsItem (service limits) (item i.level i.number)
  next_inside =
      let b = is_rebuilt.0 in
      let f = fetching.fetching in
      let x = first_wanted b.fetch.stand i is_rebuilt.2 in
      subst (IsItem (service limits)) x.3 (next_is_item limits sized f.array f.got b fetching.fetched
      (fetched_levels limits sized f.array f.got b fetching.fetched fetching.stands.stands.valid.size) x.0 x.1 x.2)

  pub now_fetching : (f : Fetching) × (c ≡ Rebuilding f)
  now_fetching = (fetching.fetching, fetching.is_rebuilding)

-- ONE STAGE

-- an item was got, and all that a stage of the model wants is known
record IsGot (S : Service) (r stage n : ℕ) (i : Item) (faults : Faults) (m k : Moment) : Type 0 where
  text : List ℕ
  now : Fetching
  size : length m.state.replicas ≡ n
  live : (replica m.state r).condition ≡ Rebuilding now
  is : k ≡ then_gets r (i, text) (chances r faults m (stage_slots stage r n))
  given : IsGiven S m.state r (i, text)
  sound : faults stage r ≡ false

-- none was got
record IsNotGot (S : Service) (r stage n : ℕ) (seat : Seat) (faults : Faults) (m k : Moment) : Type 0 where
  size : length m.state.replicas ≡ n
  is : k ≡ chances r faults m (source_slots stage r n)
  none : (j : ℕ) → j < n → j ≢ r → faults stage j ≡ false →
      GivesNoneTo S m.state.stable seat (replica m.state j).condition

module _ {X : Type 0} (state : X → Server) (r stage : ℕ) (i : NextItem) (a b : Scene X)
    (sized : IsSized a.kept.limits) (within : r < length a.kept.seats) (next : next_of (seat_in a r) ≡ Some i) where
  abbrev S : Service
  S = service a.kept.limits

  abbrev n : ℕ
  n = length a.kept.seats

  abbrev wanted : Item
  wanted = item i.level i.number

  abbrev At : Moment → Type 0
  At m = IsState state a.kept a.servers a.tables m.state

  inside : (m : Moment) → At m → IsItem S (item i.level i.number)
  inside m s = next_inside state a.kept.limits sized (seat_in a r) i next (slice_get a.servers r) (slice_get a.tables r)
      (replica m.state r).condition (s.conditions r within)

  being : (m : Moment) → At m → (f : Fetching) × ((replica m.state r).condition ≡ Rebuilding f)
  being m s = now_fetching state a.kept.limits sized (seat_in a r) i next (slice_get a.servers r) (slice_get a.tables r)
      (replica m.state r).condition (s.conditions r within)

  got_one : Staged state r stage (item i.level i.number) a b true →
      Led state (IsGot S r stage n wanted) (stage_slots stage r n) a b
  got_one h = led_weaker state (GetsOne S r stage n wanted) (IsGot S r stage n wanted) (stage_slots stage r n) a b h
      (λ faults m k f s g. (let now = being m s in record {
        text = g.0;
        now = now.0;
        size = s.size;
        live = now.1;
        is = g.1;
        given = g.2 (inside m s);
        sound = g.3;
      }))

  got_none : (h : Refused state r stage n wanted a b) →
      Led state (IsNotGot S r stage n (seat_in a r)) (source_slots stage r n) a b
  got_none h = led_weaker state (GetsNone S r stage n wanted (seat_in a r)) (IsNotGot S r stage n (seat_in a r))
      (source_slots stage r n) a b h.led
      (λ faults m k f s g. record { size = s.size; is = g.0; none = g.1 (inside m s) })

-- STAGES ONE AFTER THE OTHER

module _ {X : Type 0} (state : X → Server) (r : ℕ) (a : Scene X) where
  abbrev S0 : Service
  S0 = service a.kept.limits

  abbrev count : ℕ
  count = length a.kept.seats

  -- none as yet
  pub gathered_none : HaveArrays state a.kept a.servers a.tables → HaveRoom state a.kept.limits a.servers →
      Gathered state r 0 a a
  gathered_none have room = led_weaker state (λ faults m k. (k ≡ m) × FailAs faults [] (unfailed []))
      (Gathers S0 r 0) [] a a (led_still state [] a have room)
      (λ faults m k f s g. (
        [],
        refl,
        subst (λ (x : Moment). Reaches S0 r faults m x []) (sym g.0)
            (reaches_none S0 r faults m),
      ))

  module _ (stage : ℕ) (b : Scene X) (h : Gathered state r stage a b) where
    same_limits : b.kept.limits ≡ a.kept.limits
    same_limits = h.stays.same.limits

    pub gathered_room : HaveRoom state b.kept.limits b.servers
    gathered_room = subst (λ (l : Limits). HaveRoom state l b.servers) (sym same_limits) h.stays.room

    same_count : length b.kept.seats ≡ count
    same_count = h.stays.same.seats

    -- one more
    module _ (i : NextItem) (c : Scene X) (sized : IsSized a.kept.limits) (within : r < length a.kept.seats)
        (next : next_of (seat_in b r) ≡ Some i) where
      sized_b : IsSized b.kept.limits
      sized_b = subst IsSized (sym same_limits) sized

      within_b : r < length b.kept.seats
      within_b = (let e = same_count in omega arith)

      one : Staged state r stage (item i.level i.number) b c true →
          Led state (IsGot S0 r stage count (item i.level i.number)) (stage_slots stage r count) b c
      one g = subst (λ (l : Limits). Led state (IsGot (service l) r stage count (item i.level i.number))
          (stage_slots stage r count) b c) same_limits
          (subst (λ k. Led state (IsGot (service b.kept.limits) r stage k (item i.level i.number)) (stage_slots stage r k)
          b c) same_count (got_one state r stage i b c sized_b within_b next g))

      none : Refused state r stage (length b.kept.seats) (item i.level i.number) b c →
          Led state (IsNotGot S0 r stage count (seat_in b r)) (source_slots stage r count) b c
      none g = subst (λ (l : Limits). Led state (IsNotGot (service l) r stage count (seat_in b r))
          (source_slots stage r count) b c) same_limits
          (subst (λ k. Led state (IsNotGot (service b.kept.limits) r stage k (seat_in b r)) (source_slots stage r k)
          b c) same_count (got_none state r stage i b c sized_b within_b next g))

      then_one : (faults : Faults) (m k : Moment) →
          (x : Moment) × Gathers S0 r stage faults m x × IsGot S0 r stage count (item i.level i.number) faults x k →
          Gathers S0 r (suc stage) faults m k
      then_one faults m k g =
          let items = g.1.0 in
          let got = g.2 in
          let y : Item × List ℕ = (item i.level i.number, got.text) in (
            items ++ y ∷ [],
            (let e = length-append items (y ∷ []) in let long = g.1.1 in omega arith),
            reaches_more S0 r faults m g.0 k items g.1.2 stage count y (sym g.1.1) got.size got.now got.live got.is
                got.given got.sound,
          )

      pub gathered_more : (taken : Bool) → taken ≡ true → Staged state r stage (item i.level i.number) b c taken →
          Gathered state r (stage + 1) a c
      gathered_more taken is staged =
          let g : Staged state r stage (item i.level i.number) b c true =
          subst (Staged state r stage (item i.level i.number) b c) is staged in
          let e : suc stage ≡ stage + 1 = omega arith in
          subst (λ k. Gathered state r k a c) e
          (led_weaker state (λ faults m k. (x : Moment) × Gathers S0 r stage faults m x
          × IsGot S0 r stage count (item i.level i.number) faults x k) (Gathers S0 r (suc stage))
          (slots_before r count stage ++ stage_slots stage r count) a c
          (led_then state (Gathers S0 r stage) (IsGot S0 r stage count (item i.level i.number))
          (slots_before r count stage) (stage_slots stage r count) a b c h (one g))
          (λ faults m k f s t. then_one faults m k t))

      -- no source had it
      pub collected_refused : (top : ℕ) → stage ≤ top → (taken : Bool) → taken ≡ false →
          Staged state r stage (item i.level i.number) b c taken → Collected state r top stage a c
      collected_refused top few taken is staged =
          let g : Refused state r stage (length b.kept.seats) (item i.level i.number) b c =
          subst (Staged state r stage (item i.level i.number) b c) is staged in
          let seat : seat_in b r ≡ seat_in c r = sym (read_same c.kept.seats b.kept.seats r DownSeat g.same) in
          record {
            few = few;
            led = subst (λ (o : Seat). Led state (Collects S0 r top count stage o)
                (slots_before r count stage ++ source_slots stage r count) a c) seat
                (led_weaker state (λ faults m k. (x : Moment) × Gathers S0 r stage faults m x
                × IsNotGot S0 r stage count (seat_in b r) faults x k) (Collects S0 r top count stage (seat_in b r))
                (slots_before r count stage ++ source_slots stage r count) a c
                (led_then state (Gathers S0 r stage) (IsNotGot S0 r stage count (seat_in b r)) (slots_before r count stage)
                (source_slots stage r count) a b c h (none g))
                (λ faults m k f s t. then_none faults m k top t));
          }
        where
          then_none : (faults : Faults) (m k : Moment) (top : ℕ) →
              (x : Moment) × Gathers S0 r stage faults m x × IsNotGot S0 r stage count (seat_in b r) faults x k →
              Collects S0 r top count stage (seat_in b r) faults m k
          then_none faults m k top t =
              let reached = t.1.2 in (
                t.1.0,
                t.0,
                t.1.1,
                reached,
                t.2.is,
                λ fewer some j low ne quiet.
                    let long = t.1.1 in
                    let there : GivesNoneTo S0 t.0.state.stable (seat_in b r) (replica t.0.state j).condition =
                    t.2.none j low ne (quiet stage (omega arith)) in
                    subst (λ (d : Condition). GivesNoneTo S0 m.state.stable (seat_in b r) d)
                    (reached.sound j ne (λ st early. quiet st (omega arith)))
                    (subst (λ p. GivesNoneTo S0 p (seat_in b r) (replica t.0.state j).condition) reached.stable there),
              )

    -- NOTHING IS MISSING, OR NO MORE ARE WANTED

    none_failed : (faults : Faults) (ts : List Slot) → FailAs faults ts (unfailed ts) →
        All (λ (t : Slot). faults t.round t.replica ≡ false) ts
    none_failed faults [] f = All-nil (λ (t : Slot). faults t.round t.replica ≡ false)
    none_failed faults (t ∷ ts) f = All-cons (λ (u : Slot). faults u.round u.replica ≡ false) t ts f.0
        (none_failed faults ts f.1)

    pub collected_all : (top : ℕ) → stage ≤ top → (stage ≡ top) ⊎ (next_of (seat_in b r) ≡ None) →
        Collected state r top stage a b
    collected_all top few last =
        let ts = source_slots stage r count in
        let Still : Faults → Moment → Moment → Type 0 = λ faults m k. (k ≡ m) × FailAs faults ts (unfailed ts) in
        record {
          few = few;
          led = led_weaker state (λ faults m k. (x : Moment) × Gathers S0 r stage faults m x × Still faults x k)
              (Collects S0 r top count stage (seat_in b r)) (slots_before r count stage ++ ts) a b
              (led_then state (Gathers S0 r stage) Still (slots_before r count stage) ts a b b h
              (led_still state ts b h.stays.arrays gathered_room))
              (λ faults m k f s t. (
                t.1.0,
                t.0,
                t.1.1,
                t.1.2,
                t.2.0 ∙ sym (chances_still r faults t.0 ts (none_failed faults ts t.2.1)),
                λ fewer some. absurd (⊎_elim (λ e. fewer e) (λ e. not_some (next_of (seat_in b r)) e some) last),
              ));
        }
      where
        not_some : (o : Option NextItem) → o ≡ None → IsSome o → ⊥
        not_some o none some =
            let bad : false ≡ true = sym (ap (λ (p : Option NextItem). is_some p) none) ∙ some in cc

    pub collected_top : (top : ℕ) → stage ≡ top → Collected state r top top a b
    collected_top top e = subst (λ k. Collected state r top k a b) e (collected_all top (omega arith) (inl e))
