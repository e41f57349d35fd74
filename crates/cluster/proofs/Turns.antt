-- One turn of a replica: what the code did is what the model does.
use Rattle.std.proofs.Common.{◌≡◌, ℕ, ◌+◌, ◌<◌, ◌≤◌, Bool, true, false, cond, List, [], ◌∷◌, ◌++◌, length, slice_get, get_or, Option, Some, None, Ok, Err, refl, sym, ◌∙◌, ap, subst, arith, append_assoc}
use Rattle.std.specs.Prelude.{slice_set, slice_index_or, nat_le, nat_lt, if◌then◌else◌}
use Rattle.std.proofs.lemmas.Bool.{leb-true}
use Rattle.std.proofs.lemmas.Bool.Decides.{nat_tests}
use Rattle.std.proofs.lemmas.List.{length-set}
use Rattle.std.proofs.lemmas.Option.{slice_get_past, slice_get-get_or}
use Rattle.nfs2_types.specs.declared.Limits.{Limits}
use Rattle.server_trait.specs.Tree.{Server}
use Rattle.server_trait.specs.declared.ConfTable.{ConfTable}
use Rattle.server_trait.proofs.TreeLaws.{some_same}
use Rattle.conf_map.proofs.InStep.{slice_get-set_same}
use Rattle.dispatch.specs.Answer.{answer}
use Rattle.log_format.specs.declared.Line.{Line}
use Rattle.log_format.specs.declared.Line.TheVariants as lines
use Rattle.log_format.specs.declared.IdleCause.{IdleCause}
use Rattle.log_format.specs.declared.IdleCause.TheVariants.{NotLive, AtEnd, Behind}
use Rattle.cluster_model.specs.declared.Request.{Request}
use Rattle.cluster_model.specs.Service.{Service}
use Rattle.cluster_model.specs.State.{Running, Lies, Live, Down, lookup, or_else}
use Rattle.cluster_model.specs.Moments.{Moment, Faults, replica, becomes, fails, casts_word}
use Rattle.cluster_model.specs.Turns.{Slot, Next, Not, ran, skipped, checked, casts_root_of, harm, runs, skips, turn, turn_in, turn_at, quiet_turn, rogue_turn, skip_turn, slot_turn, fails_or}
use Rattle.replica.specs.declared.Replica.{Replica as Runner}
use Rattle.replica.specs.declared.Cast.{Cast}
use Rattle.replica.specs.Replicas.{IsOver, IsRootWord}
use Rattle.replica.specs.Replicas.{harm as seat_harmed}
use Rattle.replica.proofs.Overs.{over_harmed}
use Rattle.seats.specs.declared.Seat.{Seat}
use Rattle.seats.specs.declared.Seat.TheVariants.{Live as LiveSeat, Rebuilding as RebuildingSeat, Down as DownSeat}
use Rattle.seats.specs.Positions.{StandsAt, PassedAt, SkippedAt, ChangesAt}
use Rattle.cluster.specs.OverBench.{Kept, IsKeptBy, IsLive, IsSeat, IsState}
use Rattle.cluster.specs.Casting.{RootedIf, Voted}
use Rattle.cluster.specs.Turned.{next_in}
use Rattle.cluster.proofs.ListFacts.{read_is}
use Rattle.seats.proofs.Positions.{changes_set}
use Rattle.cluster.proofs.States.{state_put}
use Rattle.cluster.proofs.Casts.{IsService, cast_lines, rooted_lines, vote_lines, checked_array, state_cast, state_rooted}
use Rattle.cluster.proofs.Checkpoints.{keeps_harmed}

-- A REPLICA PASSES A PLACE, OR ITS SERVER FAILS

module _ {X : Type 0} (state : X → Server) (S : Service) (c : Kept) (is_service : IsService S c.limits)
    (servers servers' : List X) (tables tables' : List ConfTable) (r : ℕ) (old : Seat)
    (within : r < length c.seats) (was : slice_get c.seats r ≡ Some old) (sv : ChangesAt r servers servers')
    (tb : ChangesAt r tables tables') (m : Moment) (h : IsState state c servers tables m.state) where
  -- live as l with what k keeps, it runs a request and casts its words
  pub state_runs : (k k' : Runner) (l : Running) (q : Request) (new : Kept) (cast : Cast) (ls ls' : List Line) →
      IsOver c.limits.n k → IsOver c.limits.n k' →
      PassedAt state c.limits q (slice_get servers r) (slice_get tables r) (slice_get servers' r)
      (slice_get tables' r) k k' cast →
      StandsAt state c.limits (slice_get servers r) (slice_get tables r) l.array → IsKeptBy k l →
      let mid : Kept = record c { seats = slice_set c.seats r (LiveSeat k') } in
      (v : Voted r cast mid new ls ls') →
      IsState state new servers' tables' (runs S r l q m).state
      × ((runs S r l q m).lines ≡ m.lines ++ vote_lines r cast mid new ls ls' v)
  state_runs k k' l q new cast ls ls' over over' ans stood kept v =
      let seats = slice_set c.seats r (LiveSeat k') in
      let mid : Kept = record c { seats = seats } in
      let l' = checked S (ran S q l) in
      let out = ans.step l.array stood in
      let array : l'.array ≡ (answer l.array c.limits q.time q.bytes).array =
      checked_array S (ran S q l) ∙ is_service.next l.array q in
      let stands' : StandsAt state c.limits (slice_get servers' r) (slice_get tables' r) l'.array =
      subst (λ a. StandsAt state c.limits (slice_get servers' r) (slice_get tables' r) a) (sym array) out.0 in
      let keeps : IsKeptBy k' l' = subst (λ (j : Runner). IsKeptBy j l') (sym out.1)
      (is_service.keeps l k q kept over stood.stands.valid) in
      let here : IsLive state c.limits k' (slice_get servers' r) (slice_get tables' r) (Live l') =
      record { live = l'; is_live = refl; stands = stands'; keeps = keeps } in
      let n = becomes r (Live l') m in
      let h' : IsState state mid servers' tables' n.state =
      state_put state c seats servers servers' tables tables' m.state r (LiveSeat k') (Live l') h within
      (changes_set c.seats r (LiveSeat k')) (slice_get-set_same c.seats r (LiveSeat k') old was) sv tb here
      (λ b e. absurd (cc)) in
      let place : l'.place ≡ cast.place = keeps.place ∙ sym out.2.place in
      let said : or_else (lookup l'.place l'.lies.words) (S.word l.array q) ≡ cast.word =
      ap (λ (y : Lies). or_else (lookup l'.place y.words) (S.word l.array q)) keeps.lies
      ∙ ap (λ p. or_else (lookup p k'.lies.words) (S.word l.array q)) keeps.place
      ∙ ap (or_else (lookup k'.place k'.lies.words)) (is_service.word l.array q) ∙ sym out.2.word in
      let is : runs S r l q m ≡ casts_root_of S r l' (casts_word S r cast.place cast.word n) =
      ap (λ w. casts_root_of S r l' (casts_word S r l'.place w n)) said
      ∙ ap (λ p. casts_root_of S r l' (casts_word S r p cast.word n)) place in
      let wide : r < length mid.seats = (let e = length-set c.seats r (LiveSeat k') in omega arith) in
      let one = state_cast state S mid v.mid servers' tables' r cast.place cast.word ls v.between is_service.f wide
      v.replied.same v.replied.cases n h' in
      let wide' : r < length v.mid.seats = (let e = ap length v.replied.same.seats in omega arith) in
      let is_service' : IsService S v.mid.limits = subst (IsService S) (sym v.replied.same.limits) is_service in
      let root' : IsRootWord v.mid.limits k' cast.root =
      subst (λ l. IsRootWord l k' cast.root) (sym v.replied.same.limits) out.2.root in
      let size : length k'.tree ≡ v.mid.limits.n =
      over'.digests ∙ ap (λ (l : Limits). l.n) (sym v.replied.same.limits) in
      let two = state_rooted state S v.mid new servers' tables' r cast.place cast.root v.between ls' l' k' is_service' wide'
      keeps size out.2.place root' v.rooted (casts_word S r cast.place cast.word n) one.0 in
      subst (λ (x : Moment). IsState state new servers' tables' x.state
      × (x.lines ≡ m.lines ++ vote_lines r cast mid new ls ls' v)) (sym is) (
        two.0,
        two.1 ∙ ap (λ xs. xs ++ rooted_lines r cast.place cast.root v.mid new v.between ls' v.rooted) one.1
            ∙ append_assoc m.lines (cast_lines v.replied.cases)
            (rooted_lines r cast.place cast.root v.mid new v.between ls' v.rooted),
      )

  -- live as l with what k keeps, it passes a place with no request, and casts its root word where it has one
  pub state_skips : (k k' : Runner) (l : Running) (new : Kept) (o : Option (List ℕ)) (ls ls' : List Line) →
      IsOver c.limits.n k → IsOver c.limits.n k' →
      SkippedAt state c.limits (slice_get servers r) (slice_get tables r) (slice_get servers' r) (slice_get tables' r)
      k k' o →
      StandsAt state c.limits (slice_get servers r) (slice_get tables r) l.array → IsKeptBy k l →
      let mid : Kept = record c { seats = slice_set c.seats r (LiveSeat k') } in
      (v : RootedIf r k'.place o mid new ls ls') →
      IsState state new servers' tables' (skips S r l m).state
      × ((skips S r l m).lines ≡ m.lines ++ rooted_lines r k'.place o mid new ls ls' v)
  state_skips k k' l new o ls ls' over over' ans stood kept v =
      let seats = slice_set c.seats r (LiveSeat k') in
      let mid : Kept = record c { seats = seats } in
      let l' = checked S (skipped l) in
      let out = ans.step l.array stood in
      let array : l'.array ≡ l.array = checked_array S (skipped l) in
      let stands' : StandsAt state c.limits (slice_get servers' r) (slice_get tables' r) l'.array =
      subst (λ a. StandsAt state c.limits (slice_get servers' r) (slice_get tables' r) a) (sym array) out.0 in
      let keeps : IsKeptBy k' l' = subst (λ (j : Runner). IsKeptBy j l') (sym out.1)
      (is_service.keeps_over l k kept over stood.stands.valid) in
      let here : IsLive state c.limits k' (slice_get servers' r) (slice_get tables' r) (Live l') =
      record { live = l'; is_live = refl; stands = stands'; keeps = keeps } in
      let n = becomes r (Live l') m in
      let h' : IsState state mid servers' tables' n.state =
      state_put state c seats servers servers' tables tables' m.state r (LiveSeat k') (Live l') h within
      (changes_set c.seats r (LiveSeat k')) (slice_get-set_same c.seats r (LiveSeat k') old was) sv tb here
      (λ b e. absurd (cc)) in
      let wide : r < length mid.seats = (let e = length-set c.seats r (LiveSeat k') in omega arith) in
      state_rooted state S mid new servers' tables' r k'.place o ls ls' l' k' is_service wide keeps over'.digests refl
      ans.root_word v n h'

  -- its server failed
  pub state_fails : IsState state (record c { seats = slice_set c.seats r DownSeat }) servers' tables' (fails r m).state
      × ((fails r m).lines ≡ m.lines ++ lines.Down r ∷ [])
  state_fails = (
    state_put state c (slice_set c.seats r DownSeat) servers servers' tables tables' m.state r DownSeat Down h within
        (changes_set c.seats r DownSeat) (slice_get-set_same c.seats r DownSeat old was) sv tb refl
        (λ b e. absurd (cc)),
    refl,
  )

-- THE TURN OF A REPLICA THAT HAS A REQUEST

module _ {X : Type 0} (state : X → Server) (S : Service) (c : Kept) (is_service : IsService S c.limits)
    (servers : List X) (tables : List ConfTable) (r : ℕ) (k : Runner) (q : Request) (within : r < length c.seats)
    (is_seat : slice_get c.seats r ≡ Some (LiveSeat k)) (is_request : slice_get c.requests k.place ≡ Some q)
    (near : nat_lt (k.place + c.limits.k) c.stable ≡ false) where
  pub seat_at : (m : Moment) → IsState state c servers tables m.state →
      IsLive state c.limits k (slice_get servers r) (slice_get tables r) (replica m.state r).condition
  seat_at m h = subst (λ o. IsSeat state c.limits o (slice_get servers r) (slice_get tables r)
      (replica m.state r).condition) (read_is c.seats r (LiveSeat k) DownSeat is_seat) (h.conditions r within)

  pub next_at : (m : Moment) (h : IsState state c servers tables m.state) →
      turn S m.state r ≡ Next (seat_at m h).live q
  next_at m h =
      let l = (seat_at m h).live in
      let s = m.state in
      let at : slice_get s.requests l.place ≡ Some q = ap (λ rs. slice_get rs l.place) h.requests
      ∙ ap (slice_get c.requests) (seat_at m h).keeps.place ∙ is_request in
      let here : nat_lt (l.place + S.k) s.stable ≡ false = ap (λ p. nat_lt (p + S.k) s.stable) (seat_at m h).keeps.place
      ∙ ap (λ n. nat_lt (k.place + n) s.stable) is_service.k ∙ ap (nat_lt (k.place + c.limits.k)) h.stable ∙ near in
      ap (turn_in S s) (seat_at m h).is_live ∙ ap (turn_at S s l) at ∙ ap (λ b. cond b (Not Behind) (Next l q)) here

  module _ (servers' : List X) (tables' : List ConfTable) (t : Slot) (t_is : t.replica ≡ r)
      (sv : ChangesAt r servers servers') (tb : ChangesAt r tables tables') (faults : Faults) (m : Moment)
      (h : IsState state c servers tables m.state) where
    slot_is : (b : Bool) → faults t.round t.replica ≡ b →
        slot_turn S faults m t ≡ fails_or b r (runs S r (seat_at m h).live q) m
    slot_is b fault = ap (λ j. quiet_turn S (faults t.round t.replica) j (turn S m.state j) m) t_is
        ∙ ap (λ x. quiet_turn S (faults t.round t.replica) r x m) (next_at m h)
        ∙ ap (λ b. fails_or b r (runs S r (seat_at m h).live q) m) fault

    -- it ran
    pub turn_runs : (new : Kept) (k' : Runner) (cast : Cast) (ls ls' : List Line) → IsOver c.limits.n k →
        IsOver c.limits.n k' →
        PassedAt state c.limits q (slice_get servers r) (slice_get tables r) (slice_get servers' r)
        (slice_get tables' r) k k' cast →
        let mid : Kept = record c { seats = slice_set c.seats r (LiveSeat k') } in
        (v : Voted r cast mid new ls ls') → faults t.round t.replica ≡ false →
        IsState state new servers' tables' (slot_turn S faults m t).state
        × ((slot_turn S faults m t).lines ≡ m.lines ++ vote_lines r cast mid new ls ls' v)
    turn_runs new k' cast ls ls' over over' ans v sound =
        let mid : Kept = record c { seats = slice_set c.seats r (LiveSeat k') } in
        let live = seat_at m h in
        subst (λ (x : Moment). IsState state new servers' tables' x.state
        × (x.lines ≡ m.lines ++ vote_lines r cast mid new ls ls' v)) (sym (slot_is false sound))
        (state_runs state S c is_service servers servers' tables tables' r (LiveSeat k) within is_seat sv tb m h k k'
        live.live q new cast ls ls' over over' ans live.stands live.keeps v)

    -- its server failed
    pub turn_fails : faults t.round t.replica ≡ true →
        IsState state (record c { seats = slice_set c.seats r DownSeat }) servers' tables' (slot_turn S faults m t).state
        × ((slot_turn S faults m t).lines ≡ m.lines ++ lines.Down r ∷ [])
    turn_fails struck =
        subst (λ (x : Moment). IsState state (record c { seats = slice_set c.seats r DownSeat }) servers' tables' x.state
        × (x.lines ≡ m.lines ++ lines.Down r ∷ [])) (sym (slot_is true struck))
        (state_fails state S c is_service servers servers' tables tables' r (LiveSeat k) within is_seat sv tb m h)

    -- another request in place of its own
    rogue_is : (rq : Request) (b : Bool) → faults t.round r ≡ b →
        rogue_turn S (faults t.round r) r rq (turn S m.state r) m
        ≡ fails_or b r (runs S r (harm (seat_at m h).live) rq) m
    rogue_is rq b fault = ap (λ x. rogue_turn S (faults t.round r) r rq x m) (next_at m h)
        ∙ ap (λ b. fails_or b r (runs S r (harm (seat_at m h).live) rq) m) fault

    pub rogue_runs : (rq : Request) (new : Kept) (k' : Runner) (cast : Cast) (ls ls' : List Line) → IsOver c.limits.n k →
        IsOver c.limits.n k' →
        PassedAt state c.limits rq (slice_get servers r) (slice_get tables r) (slice_get servers' r)
        (slice_get tables' r) (seat_harmed k) k' cast →
        let mid : Kept = record c { seats = slice_set c.seats r (LiveSeat k') } in
        (v : Voted r cast mid new ls ls') → faults t.round r ≡ false →
        let n = rogue_turn S (faults t.round r) r rq (turn S m.state r) m in
        IsState state new servers' tables' n.state × (n.lines ≡ m.lines ++ vote_lines r cast mid new ls ls' v)
    rogue_runs rq new k' cast ls ls' over over' ans v sound =
        let mid : Kept = record c { seats = slice_set c.seats r (LiveSeat k') } in
        let live = seat_at m h in
        subst (λ (x : Moment). IsState state new servers' tables' x.state
        × (x.lines ≡ m.lines ++ vote_lines r cast mid new ls ls' v)) (sym (rogue_is rq false sound))
        (state_runs state S c is_service servers servers' tables tables' r (LiveSeat k) within is_seat sv tb m h
        (seat_harmed k) k' (harm live.live) rq new cast ls ls' (over_harmed c.limits.n k over) over' ans live.stands
        (keeps_harmed live.live k live.keeps) v)

    pub rogue_fails : (rq : Request) → faults t.round r ≡ true →
        let n = rogue_turn S (faults t.round r) r rq (turn S m.state r) m in
        IsState state (record c { seats = slice_set c.seats r DownSeat }) servers' tables' n.state
        × (n.lines ≡ m.lines ++ lines.Down r ∷ [])
    rogue_fails rq struck =
        subst (λ (x : Moment). IsState state (record c { seats = slice_set c.seats r DownSeat }) servers' tables' x.state
        × (x.lines ≡ m.lines ++ lines.Down r ∷ [])) (sym (rogue_is rq true struck))
        (state_fails state S c is_service servers servers' tables tables' r (LiveSeat k) within is_seat sv tb m h)

    -- no request in its place
    skip_is : (b : Bool) → faults t.round r ≡ b →
        skip_turn S (faults t.round r) r (turn S m.state r) m ≡ fails_or b r (skips S r (seat_at m h).live) m
    skip_is b fault = ap (λ x. skip_turn S (faults t.round r) r x m) (next_at m h)
        ∙ ap (λ b. fails_or b r (skips S r (seat_at m h).live) m) fault

    pub skip_skips : (new : Kept) (k' : Runner) (o : Option (List ℕ)) (ls ls' : List Line) → IsOver c.limits.n k →
        IsOver c.limits.n k' →
        SkippedAt state c.limits (slice_get servers r) (slice_get tables r) (slice_get servers' r) (slice_get tables' r)
        k k' o →
        let mid : Kept = record c { seats = slice_set c.seats r (LiveSeat k') } in
        (v : RootedIf r k'.place o mid new ls ls') → faults t.round r ≡ false →
        let n = skip_turn S (faults t.round r) r (turn S m.state r) m in
        IsState state new servers' tables' n.state
        × (n.lines ≡ m.lines ++ rooted_lines r k'.place o mid new ls ls' v)
    skip_skips new k' o ls ls' over over' ans v sound =
        let mid : Kept = record c { seats = slice_set c.seats r (LiveSeat k') } in
        let live = seat_at m h in
        subst (λ (x : Moment). IsState state new servers' tables' x.state
        × (x.lines ≡ m.lines ++ rooted_lines r k'.place o mid new ls ls' v)) (sym (skip_is false sound))
        (state_skips state S c is_service servers servers' tables tables' r (LiveSeat k) within is_seat sv tb m h k k'
        live.live new o ls ls' over over' ans live.stands live.keeps v)

    pub skip_fails : faults t.round r ≡ true →
        let n = skip_turn S (faults t.round r) r (turn S m.state r) m in
        IsState state (record c { seats = slice_set c.seats r DownSeat }) servers' tables' n.state
        × (n.lines ≡ m.lines ++ lines.Down r ∷ [])
    skip_fails struck =
        subst (λ (x : Moment). IsState state (record c { seats = slice_set c.seats r DownSeat }) servers' tables' x.state
        × (x.lines ≡ m.lines ++ lines.Down r ∷ [])) (sym (skip_is true struck))
        (state_fails state S c is_service servers servers' tables tables' r (LiveSeat k) within is_seat sv tb m h)

module _ {X : Type 0} (state : X → Server) where
  -- why a replica has no turn
  pub idle_is : (S : Service) (c : Kept) → S.k ≡ c.limits.k → (servers : List X) (tables : List ConfTable) (r : ℕ)
      (d : IdleCause) → r < length c.seats → next_in c (slice_index_or c.seats r DownSeat) ≡ Err d → (m : Moment) →
      IsState state c servers tables m.state → turn S m.state r ≡ Not d
  idle_is S c same_k servers tables r d within is m h =
      by (slice_index_or c.seats r DownSeat) (h.conditions r within) is
    where
      late : (l : Running) (k : Runner) → IsKeptBy k l → (b : Bool) → nat_le (length c.requests) k.place ≡ b →
          (e : Bool) → nat_lt (k.place + c.limits.k) c.stable ≡ e →
          (if b then Err AtEnd else if e then Err Behind else Ok k.place) ≡ Err d →
          turn_at S m.state l (slice_get m.state.requests l.place) ≡ Not d
      late l k keeps true past e far g =
          let beyond : length c.requests ≤ k.place = leb-true (length c.requests) k.place past in
          let at : slice_get m.state.requests l.place ≡ None = ap (λ rs. slice_get rs l.place) h.requests
          ∙ ap (slice_get c.requests) keeps.place ∙ slice_get_past c.requests k.place beyond in
          let same : AtEnd ≡ d = cc in
          ap (turn_at S m.state l) at ∙ ap Not same
      late l k keeps false past true far g =
          let inside : k.place < length c.requests = grind (arith, nat_tests) in
          let q = get_or c.requests k.place (record { time = record { secs = 0; micros = 0 }; bytes = [] }) in
          let at : slice_get m.state.requests l.place ≡ Some q = ap (λ rs. slice_get rs l.place) h.requests
          ∙ ap (slice_get c.requests) keeps.place
          ∙ slice_get-get_or c.requests k.place (record { time = record { secs = 0; micros = 0 }; bytes = [] }) inside in
          let here : nat_lt (l.place + S.k) m.state.stable ≡ true =
          ap (λ p. nat_lt (p + S.k) m.state.stable) keeps.place
          ∙ ap (λ n. nat_lt (k.place + n) m.state.stable) same_k
          ∙ ap (nat_lt (k.place + c.limits.k)) h.stable ∙ far in
          let same : Behind ≡ d = cc in
          ap (turn_at S m.state l) at ∙ ap (λ b. cond b (Not Behind) (Next l q)) here ∙ ap Not same
      late l k keeps false past false far g = absurd (cc)

      by : (o : Seat) → IsSeat state c.limits o (slice_get servers r) (slice_get tables r)
          (replica m.state r).condition → next_in c o ≡ Err d → turn S m.state r ≡ Not d
      by DownSeat down g = (let same : NotLive ≡ d = cc in ap (turn_in S m.state) down ∙ ap Not same)
      by (RebuildingSeat b) f g = (let same : NotLive ≡ d = cc in ap (turn_in S m.state) f.is_rebuilding ∙ ap Not same)
      by (LiveSeat k) live g = ap (turn_in S m.state) live.is_live
          ∙ late live.live k live.keeps (nat_le (length c.requests) k.place) refl
          (nat_lt (k.place + c.limits.k) c.stable) refl g

-- a replica that has a turn
pub record HasNext (c : Kept) (r n : ℕ) : Type 0 where
  pub seat : Runner
  pub is_seat : slice_get c.seats r ≡ Some (LiveSeat seat)
  pub place : n ≡ seat.place
  pub request : n < length c.requests
  pub near : nat_lt (seat.place + c.limits.k) c.stable ≡ false

-- one replica stands there
pub live_same : (j k : Runner) → LiveSeat j ≡ LiveSeat k → j ≡ k
live_same j k e = cc

-- the seat that was read
pub next_seat : (c : Kept) (r n : ℕ) (h : HasNext c r n) (k : Runner) → slice_get c.seats r ≡ Some (LiveSeat k) → h.seat ≡ k
next_seat c r n h k at = (let one : LiveSeat h.seat ≡ LiveSeat k = some_same h.is_seat at in live_same h.seat k one)

-- the same of the seat that was read
pub record NextHere (c : Kept) (k : Runner) (n : ℕ) : Type 0 where
  pub place : n ≡ k.place
  pub request : n < length c.requests
  pub near : nat_lt (k.place + c.limits.k) c.stable ≡ false

pub next_here : (c : Kept) (r n : ℕ) → HasNext c r n → (k : Runner) → slice_get c.seats r ≡ Some (LiveSeat k) →
    NextHere c k n
next_here c r n h k at =
    let same : h.seat ≡ k = next_seat c r n h k at in
    record {
      place = h.place ∙ ap (λ (j : Runner). j.place) same;
      request = h.request;
      near = subst (λ (j : Runner). nat_lt (j.place + c.limits.k) c.stable ≡ false) same h.near;
    }

pub next_is : (c : Kept) (r n : ℕ) → r < length c.seats → next_in c (slice_index_or c.seats r DownSeat) ≡ Ok n →
    HasNext c r n
next_is c r n within is = by (slice_index_or c.seats r DownSeat) refl is
  where
    first : (k : Runner) → slice_get c.seats r ≡ Some (LiveSeat k) → (b : Bool) → nat_le (length c.requests) k.place ≡ b →
        (e : Bool) → nat_lt (k.place + c.limits.k) c.stable ≡ e →
        (if b then Err AtEnd else if e then Err Behind else Ok k.place) ≡ Ok n → HasNext c r n
    first k at true past e far g = absurd (cc)
    first k at false past true far g = absurd (cc)
    first k at false past false far g =
        let same : k.place ≡ n = cc in record {
          seat = k;
          is_seat = at;
          place = sym same;
          request = grind (arith, nat_tests);
          near = far;
        }

    by : (o : Seat) → slice_index_or c.seats r DownSeat ≡ o → next_in c o ≡ Ok n → HasNext c r n
    by DownSeat at g = absurd (cc)
    by (RebuildingSeat b) at g = absurd (cc)
    by (LiveSeat k) at g = first k (slice_get-get_or c.seats r DownSeat within ∙ ap Some at)
        (nat_le (length c.requests) k.place) refl (nat_lt (k.place + c.limits.k) c.stable) refl g

module _ {X : Type 0} (state : X → Server) where
  -- a replica that has a next request has a turn
  pub busy : (S : Service) (c : Kept) → IsService S c.limits → (servers : List X) (tables : List ConfTable) (r n : ℕ) →
      r < length c.seats → HasNext c r n → (m : Moment) → IsState state c servers tables m.state → (d : IdleCause) →
      turn S m.state r ≡ Not d → ⊥
  busy S c is servers tables r n within h m s d e =
      let q : Request = get_or c.requests n (record { time = record { secs = 0; micros = 0 }; bytes = [] }) in
      let at : slice_get c.requests h.seat.place ≡ Some q = ap (slice_get c.requests) (sym h.place)
      ∙ slice_get-get_or c.requests n (record { time = record { secs = 0; micros = 0 }; bytes = [] }) h.request in
      let next = next_at state S c is servers tables r h.seat q within h.is_seat at h.near m s in
      absurd (cc)

pub idle_same : (S : Service) (faults : Faults) (t : Slot) (m : Moment) (d : IdleCause) →
    turn S m.state t.replica ≡ Not d → slot_turn S faults m t ≡ m
idle_same S faults t m d e = ap (λ x. quiet_turn S (faults t.round t.replica) t.replica x m) e
