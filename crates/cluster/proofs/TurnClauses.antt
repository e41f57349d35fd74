-- The clauses of a turn, over plain values.
use Rattle.std.proofs.Common.{◌≡◌, ◌≢◌, ℕ, suc, ◌+◌, ◌<◌, true, false, List, [], ◌∷◌, ◌++◌, length, slice_get, get_or, Option, Some, None, Result, Ok, Err, inl, inr, refl, sym, ◌∙◌, ap, subst, arith}
use Rattle.std.specs.Prelude.{slice_set, nat_lt}
use Rattle.std.specs.List.{flat_map}
use Rattle.std.proofs.lemmas.List.{append-nil, length-set}
use Rattle.std.proofs.lemmas.Option.{slice_get_read, slice_get_within, slice_get-get_or}
use Rattle.nfs2_types.specs.Counts.{Rose}
use Rattle.nfs2_types.specs.declared.Word.{Word}
use Rattle.nfs2_types.specs.declared.Word.TheVariants as words
use Rattle.abs_model.specs.declared.Entry.{Entry}
use Rattle.server_trait.specs.Tree.{Server}
use Rattle.server_trait.specs.declared.ConfTable.{ConfTable}
use Rattle.server_trait.specs.declared.FaultPoint.{FaultPoint}
use Rattle.server_trait.specs.declared.WrapErr.{WrapErr}
use Rattle.server_trait.specs.declared.WrapErr.TheVariants as errors
use Rattle.server_trait.proofs.TreeLaws.{one_or_not, some_same}
use Rattle.conf_map.proofs.InStep.{slice_get-set_other, slice_get-set_same}
use Rattle.dispatch.specs.Answer.{answer}
use Rattle.log_format.specs.declared.Line.{Line}
use Rattle.log_format.specs.declared.Line.TheVariants as lines
use Rattle.log_format.specs.declared.IdleCause.{IdleCause}
use Rattle.cluster_model.specs.declared.Request.{Request}
use Rattle.cluster_model.specs.Moments.{Moment, Faults, decision_line}
use Rattle.cluster_model.specs.Turns.{Slot, Not, turn, slot_turn}
use Rattle.cluster_model.specs.Run.{failed_of}
use Rattle.service_laws.specs.Served.{IsSized, service}
use Rattle.replica.specs.declared.Replica.{Replica as Runner}
use Rattle.replica.specs.declared.Cast.{Cast}
use Rattle.replica.specs.Replicas.{IsOver, harm}
use Rattle.seats.specs.declared.Seat.{Seat}
use Rattle.seats.specs.declared.Seat.TheVariants.{Live as LiveSeat, Down as DownSeat}
use Rattle.seats.specs.Positions.{StandsAt, PassedAt, SkippedAt, ChangesAt, WatchedAt, AreLater}
use Rattle.seats.specs.Seats.{HasArray}
use Rattle.cluster.specs.OverBench.{Kept, IsState, HaveArrays, HaveRoom}
use Rattle.cluster.specs.Casting.{CastCases, Late, Stood, Decided, RootCases, Low, Waits, IsStable, RootedIf, Voted}
use Rattle.cluster.specs.Turned.{TurnedBy, Turned, TurnStays, rogue_by, skip_by, first_slot}
use Rattle.cluster.proofs.ListFacts.{flat_map-append}
use Rattle.cluster.proofs.Casts.{IsService, service_is, cast_lines, root_lines, rooted_lines, rooted_lines_are, vote_lines, vote_lines_are}
use Rattle.cluster.proofs.Turns.{turn_runs, turn_fails, rogue_runs, rogue_fails, skip_skips, skip_fails, idle_same}
use Rattle.cluster.proofs.Struck.{struck_none, struck_ok, struck_down, room_later}

pub at_index : {X : Type 0} (xs : List X) (r : ℕ) (x y : X) → r < length xs → x ≡ get_or xs r x → x ≡ y →
    slice_get xs r ≡ Some y
at_index xs r x y within is same = slice_get_read xs (length xs) r x refl within is ∙ ap Some same

decision_quiet : (p : ℕ) (w : Word) → failed_of (decision_line p w) ≡ []
decision_quiet p words.Silent = refl
decision_quiet p (words.Reply bytes) = refl

-- a cast tells of no failure
cast_quiet : {r p : ℕ} {w : Word} {old new : Kept} {ls ls' : List Line} (k : CastCases r p w old new ls ls') →
    flat_map failed_of (cast_lines k) ≡ []
cast_quiet (Late v e vs ds l) = refl
cast_quiet (Stood e cast ds l few) = refl
cast_quiet {p = p} {w = w} (Decided e mid cast drop ds l enough) = ap (λ xs. xs ++ []) (decision_quiet p w)

root_quiet : {r p : ℕ} {d : List ℕ} {old new : Kept} {ls ls' : List Line} (k : RootCases r p d old new ls ls') →
    flat_map failed_of (root_lines k) ≡ []
root_quiet (Low low roots stable root seats l) = refl
root_quiet (Waits high cast stable root seats l few) = refl
root_quiet (IsStable high mid cast drop stable root seen l enough) = refl

rooted_quiet : (r p : ℕ) (o : Option (List ℕ)) (old new : Kept) (ls ls' : List Line)
    (h : RootedIf r p o old new ls ls') → flat_map failed_of (rooted_lines r p o old new ls ls' h) ≡ []
rooted_quiet r p None old new ls ls' h = refl
rooted_quiet r p (Some d) old new ls ls' h = root_quiet h.cases

-- nor do the words of a place
vote_quiet : (r : ℕ) (cast : Cast) (old new : Kept) (ls ls' : List Line) (v : Voted r cast old new ls ls') →
    flat_map failed_of (vote_lines r cast old new ls ls' v) ≡ []
vote_quiet r cast old new ls ls' v =
    let more = rooted_lines r cast.place cast.root v.mid new v.between ls' v.rooted in
    flat_map-append failed_of (cast_lines v.replied.cases) more
    ∙ ap (λ xs. xs ++ flat_map failed_of more) (cast_quiet v.replied.cases)
    ∙ rooted_quiet r cast.place cast.root v.mid new v.between ls' v.rooted

-- the seats but one are as they were
pub seats_set : (seats : List Seat) (r k : ℕ) (seat : Seat) (o : Seat) → k ≢ r →
    slice_get (slice_set seats r seat) k ≡ Some o → slice_get seats k ≡ Some o
seats_set seats r k seat o ne e = sym (slice_get-set_other seats r k seat ne) ∙ e

module _ {X : Type 0} (state : X → Server) where
  pub turned_idle : (c : Kept) (servers : List X) (tables : List ConfTable) (met : List FaultPoint) (ls : List Line)
      (t : Slot) (d : IdleCause) →
      ((m : Moment) → IsState state c servers tables m.state → turn (service c.limits) m.state t.replica ≡ Not d) →
      Turned state t c c servers servers tables tables met met ls ls
  turned_idle c servers tables met ls t d idle = record {
    fault = false;
    more = [];
    met_are = sym (append-nil met);
    lines_are = sym (append-nil ls);
    tells = refl;
    size = refl;
    struck = struck_none state [] servers refl;
    moves = λ faults sound m h. (
        let same = idle_same (service c.limits) faults t m d (idle m h) in
        subst (λ (n : Moment). IsState state c servers tables n.state × (n.lines ≡ m.lines ++ [])) (sym same)
        (h, sym (append-nil m.lines)));
  }

  -- a turn in which no server failed
  pub turned_ok : {T : Type 0} (does : Faults → Moment → Moment) (c new : Kept) (servers servers' : List X)
      (tables tables' : List ConfTable) (r : ℕ) (met : List FaultPoint) (ls ls' more : List Line) (t : Slot)
      (result : Result T WrapErr) (x : T) → result ≡ Ok x →
      WatchedAt state (slice_get servers r) (slice_get servers' r) result → ChangesAt r servers servers' →
      ls' ≡ ls ++ more → flat_map failed_of more ≡ [] →
      ((faults : Faults) → faults t.round t.replica ≡ false → (m : Moment) → IsState state c servers tables m.state →
      IsState state new servers' tables' (does faults m).state × ((does faults m).lines ≡ m.lines ++ more)) →
      TurnedBy state does t c new servers servers' tables tables' met met ls ls'
  turned_ok does c new servers servers' tables tables' r met ls ls' more t result x ok watched sv lines_are quiet moves =
      let here : r < length servers = slice_get_within servers r watched.before watched.is_before in
      record {
        fault = false;
        more = more;
        met_are = sym (append-nil met);
        lines_are = lines_are;
        tells = quiet;
        size = sv.size;
        struck = struck_ok state servers servers' r here sv result watched more quiet watched.watched.limits
            (ok_count result x ok watched);
        moves = moves;
      }
    where
      ok_count : {T : Type 0} (result : Result T WrapErr) (x : T) → result ≡ Ok x →
          (h : WatchedAt state (slice_get servers r) (slice_get servers' r) result) →
          (state h.after).faults ≡ (state h.before).faults
      ok_count (Ok y) x ok h = h.watched.faults
      ok_count (Err y) x ok h = absurd (cc)

  -- a turn in which its server failed
  pub turned_fell : {T : Type 0} (does : Faults → Moment → Moment) (c new : Kept) (servers servers' : List X)
      (tables tables' : List ConfTable) (r : ℕ) (met met' : List FaultPoint) (ls ls' : List Line) (t : Slot)
      (result : Result T WrapErr) → result ≡ Err errors.Down →
      WatchedAt state (slice_get servers r) (slice_get servers' r) result → ChangesAt r servers servers' →
      ls' ≡ ls ++ lines.Down r ∷ [] →
      met' ≡ met ++ record { event = c.events + 1; stage = t.round; replica = t.replica } ∷ [] → t.replica ≡ r →
      ((faults : Faults) → faults t.round t.replica ≡ true → (m : Moment) → IsState state c servers tables m.state →
      IsState state new servers' tables' (does faults m).state
      × ((does faults m).lines ≡ m.lines ++ lines.Down r ∷ [])) →
      TurnedBy state does t c new servers servers' tables tables' met met' ls ls'
  turned_fell does c new servers servers' tables tables' r met met' ls ls' t result down watched sv said met_is
      t_is moves =
      let e : c.events + 1 ≡ suc c.events = omega arith in
      let here : r < length servers = slice_get_within servers r watched.before watched.is_before in
      record {
        fault = true;
        more = lines.Down r ∷ [];
        met_are = met_is
            ∙ ap (λ n. met ++ record { event = n; stage = t.round; replica = t.replica } ∷ []) e;
        lines_are = said;
        tells = ap (λ n. n ∷ []) (sym t_is);
        size = sv.size;
        struck = struck_down state servers servers' r here sv result watched watched.watched.limits
            (rose result down watched);
        moves = moves;
      }
    where
      rose : {T : Type 0} (result : Result T WrapErr) → result ≡ Err errors.Down →
          (h : WatchedAt state (slice_get servers r) (slice_get servers' r) result) →
          Rose (state h.before).faults (state h.after).faults
      rose (Ok x) down h = absurd (cc)
      rose (Err errors.Down) down h = h.watched.faults.1
      rose (Err errors.NoMemory) down h = absurd (cc)

  -- the same where only its seat changes
  pub turned_down : {T : Type 0} (does : Faults → Moment → Moment) (c new : Kept) (servers servers' : List X)
      (tables tables' : List ConfTable) (r : ℕ) (met met' : List FaultPoint) (ls ls' : List Line) (t : Slot)
      (result : Result T WrapErr) → result ≡ Err errors.Down →
      WatchedAt state (slice_get servers r) (slice_get servers' r) result → ChangesAt r servers servers' →
      new ≡ record c { seats = slice_set c.seats r DownSeat } → ls' ≡ ls ++ lines.Down r ∷ [] →
      met' ≡ met ++ record { event = c.events + 1; stage = t.round; replica = t.replica } ∷ [] → t.replica ≡ r →
      ((faults : Faults) → faults t.round t.replica ≡ true → (m : Moment) → IsState state c servers tables m.state →
      IsState state (record c { seats = slice_set c.seats r DownSeat }) servers' tables' (does faults m).state
      × ((does faults m).lines ≡ m.lines ++ lines.Down r ∷ [])) →
      TurnedBy state does t c new servers servers' tables tables' met met' ls ls'
  turned_down does c new servers servers' tables tables' r met met' ls ls' t result down watched sv new_is said met_is
      t_is moves =
      turned_fell does c new servers servers' tables tables' r met met' ls ls' t result down watched sv said met_is t_is
      (λ faults struck m h. subst (λ (v : Kept). IsState state v servers' tables' (does faults m).state
      × ((does faults m).lines ≡ m.lines ++ lines.Down r ∷ [])) (sym new_is) (moves faults struck m h))

  module _ (c : Kept) (servers servers' : List X) (tables tables' : List ConfTable) (r : ℕ) (k : Runner) (q : Request)
      (sized : IsSized c.limits) (within : r < length c.seats) (is_seat : slice_get c.seats r ≡ Some (LiveSeat k))
      (is_request : slice_get c.requests k.place ≡ Some q) (near : nat_lt (k.place + c.limits.k) c.stable ≡ false)
      (sv : ChangesAt r servers servers') (tb : ChangesAt r tables tables') where
    is_service : IsService (service c.limits) c.limits
    is_service = service_is c.limits sized

    pub turned_runs : (mid new : Kept) (k' : Runner) (met : List FaultPoint) (ls ls' : List Line) (t : Slot)
        (result : Result Cast WrapErr) (cast : Cast) → result ≡ Ok cast → IsOver c.limits.n k → IsOver c.limits.n k' →
        WatchedAt state (slice_get servers r) (slice_get servers' r) result →
        PassedAt state c.limits q (slice_get servers r) (slice_get tables r) (slice_get servers' r)
        (slice_get tables' r) k k' cast →
        mid ≡ record c { seats = slice_set c.seats r (LiveSeat k') } → Voted r cast mid new ls ls' → t.replica ≡ r →
        Turned state t c new servers servers' tables tables' met met ls ls'
    turned_runs mid new k' met ls ls' t result cast ok over over' watched ans mid_is voted t_is =
        let set : Kept = record c { seats = slice_set c.seats r (LiveSeat k') } in
        let v : Voted r cast set new ls ls' = subst (λ (m : Kept). Voted r cast m new ls ls') mid_is voted in
        turned_ok (λ faults m. slot_turn (service c.limits) faults m t) c new servers servers' tables tables' r met ls ls'
        (vote_lines r cast set new ls ls' v) t result cast ok watched sv (vote_lines_are r cast set new ls ls' v)
        (vote_quiet r cast set new ls ls' v)
        (λ faults sound m h. turn_runs state (service c.limits) c is_service servers tables r k q within is_seat
        is_request near servers' tables' t t_is sv tb faults m h new k' cast ls ls' over over' ans v sound)

    pub turned_fails : (new : Kept) (met met' : List FaultPoint) (ls ls' : List Line) (t : Slot)
        (result : Result Cast WrapErr) → result ≡ Err errors.Down →
        WatchedAt state (slice_get servers r) (slice_get servers' r) result →
        new ≡ record c { seats = slice_set c.seats r DownSeat } → ls' ≡ ls ++ lines.Down r ∷ [] →
        met' ≡ met ++ record { event = c.events + 1; stage = t.round; replica = t.replica } ∷ [] → t.replica ≡ r →
        Turned state t c new servers servers' tables tables' met met' ls ls'
    turned_fails new met met' ls ls' t result down watched new_is said met_is t_is =
        turned_down (λ faults m. slot_turn (service c.limits) faults m t) c new servers servers' tables tables' r met met'
        ls ls' t result down watched sv new_is said met_is t_is
        (λ faults struck m h. turn_fails state (service c.limits) c is_service servers tables r k q within is_seat
        is_request near servers' tables' t t_is sv tb faults m h struck)

    -- another request in place of its own
    pub turned_rogue : (rq : Request) (mid new : Kept) (k' : Runner) (met : List FaultPoint) (ls ls' : List Line)
        (result : Result Cast WrapErr) (cast : Cast) → result ≡ Ok cast → IsOver c.limits.n k → IsOver c.limits.n k' →
        WatchedAt state (slice_get servers r) (slice_get servers' r) result →
        PassedAt state c.limits rq (slice_get servers r) (slice_get tables r) (slice_get servers' r)
        (slice_get tables' r) (harm k) k' cast →
        mid ≡ record c { seats = slice_set c.seats r (LiveSeat k') } → Voted r cast mid new ls ls' →
        TurnedBy state (rogue_by c r rq) (first_slot r) c new servers servers' tables tables' met met ls ls'
    turned_rogue rq mid new k' met ls ls' result cast ok over over' watched ans mid_is voted =
        let set : Kept = record c { seats = slice_set c.seats r (LiveSeat k') } in
        let v : Voted r cast set new ls ls' = subst (λ (m : Kept). Voted r cast m new ls ls') mid_is voted in
        turned_ok (rogue_by c r rq) c new servers servers' tables tables' r met ls ls'
        (vote_lines r cast set new ls ls' v) (first_slot r) result cast ok watched sv
        (vote_lines_are r cast set new ls ls' v) (vote_quiet r cast set new ls ls' v)
        (λ faults sound m h. rogue_runs state (service c.limits) c is_service servers tables r k q within is_seat
        is_request near servers' tables' (first_slot r) refl sv tb faults m h rq new k' cast ls ls' over over' ans v sound)

    pub turned_rogue_fails : (rq : Request) (new : Kept) (met met' : List FaultPoint) (ls ls' : List Line)
        (result : Result Cast WrapErr) → result ≡ Err errors.Down →
        WatchedAt state (slice_get servers r) (slice_get servers' r) result →
        new ≡ record c { seats = slice_set c.seats r DownSeat } → ls' ≡ ls ++ lines.Down r ∷ [] →
        met' ≡ met ++ record { event = c.events + 1; stage = 0; replica = r } ∷ [] →
        TurnedBy state (rogue_by c r rq) (first_slot r) c new servers servers' tables tables' met met' ls ls'
    turned_rogue_fails rq new met met' ls ls' result down watched new_is said met_is =
        turned_down (rogue_by c r rq) c new servers servers' tables tables' r met met' ls ls' (first_slot r) result down
        watched sv new_is said met_is refl
        (λ faults struck m h. rogue_fails state (service c.limits) c is_service servers tables r k q within is_seat
        is_request near servers' tables' (first_slot r) refl sv tb faults m h rq struck)

    -- no request in its place
    pub turned_skip : (mid new : Kept) (k' : Runner) (met : List FaultPoint) (ls ls' : List Line)
        (result : Result (Option (List ℕ)) WrapErr) (o : Option (List ℕ)) → result ≡ Ok o → IsOver c.limits.n k →
        IsOver c.limits.n k' → WatchedAt state (slice_get servers r) (slice_get servers' r) result →
        SkippedAt state c.limits (slice_get servers r) (slice_get tables r) (slice_get servers' r) (slice_get tables' r)
        k k' o →
        mid ≡ record c { seats = slice_set c.seats r (LiveSeat k') } → RootedIf r k'.place o mid new ls ls' →
        TurnedBy state (skip_by c r) (first_slot r) c new servers servers' tables tables' met met ls ls'
    turned_skip mid new k' met ls ls' result o ok over over' watched ans mid_is rooted =
        let set : Kept = record c { seats = slice_set c.seats r (LiveSeat k') } in
        let v : RootedIf r k'.place o set new ls ls' =
        subst (λ (m : Kept). RootedIf r k'.place o m new ls ls') mid_is rooted in
        turned_ok (skip_by c r) c new servers servers' tables tables' r met ls ls'
        (rooted_lines r k'.place o set new ls ls' v) (first_slot r) result o ok watched sv
        (rooted_lines_are r k'.place o set new ls ls' v) (rooted_quiet r k'.place o set new ls ls' v)
        (λ faults sound m h. skip_skips state (service c.limits) c is_service servers tables r k q within is_seat
        is_request near servers' tables' (first_slot r) refl sv tb faults m h new k' o ls ls' over over' ans v sound)

    pub turned_skip_fails : (new : Kept) (met met' : List FaultPoint) (ls ls' : List Line)
        (result : Result (Option (List ℕ)) WrapErr) → result ≡ Err errors.Down →
        WatchedAt state (slice_get servers r) (slice_get servers' r) result →
        new ≡ record c { seats = slice_set c.seats r DownSeat } → ls' ≡ ls ++ lines.Down r ∷ [] →
        met' ≡ met ++ record { event = c.events + 1; stage = 0; replica = r } ∷ [] →
        TurnedBy state (skip_by c r) (first_slot r) c new servers servers' tables tables' met met' ls ls'
    turned_skip_fails new met met' ls ls' result down watched new_is said met_is =
        turned_down (skip_by c r) c new servers servers' tables tables' r met met' ls ls' (first_slot r) result down
        watched sv new_is said met_is refl
        (λ faults struck m h. skip_fails state (service c.limits) c is_service servers tables r k q within is_seat
        is_request near servers' tables' (first_slot r) refl sv tb faults m h struck)

  -- the arrays of replicas, where one position changed and has an array, unless its replica is down
  pub arrays_set : (c new : Kept) (servers servers' : List X) (tables tables' : List ConfTable) (r : ℕ)
      (seat : Seat) → HaveArrays state c servers tables → ChangesAt r servers servers' →
      ChangesAt r tables tables' → new.limits ≡ c.limits → new.seats ≡ slice_set c.seats r seat →
      HasArray state c.limits seat (slice_get servers' r) (slice_get tables' r) →
      HaveArrays state new servers' tables'
  arrays_set c new servers servers' tables tables' r seat have sv tb limits seats here j s e =
      subst (λ l. HasArray state l s (slice_get servers' j) (slice_get tables' j)) (sym limits)
      (elim (one_or_not j r) as (λ _. HasArray state c.limits s (slice_get servers' j) (slice_get tables' j)) [
        | inl same ↦
            subst (λ i. HasArray state c.limits s (slice_get servers' i) (slice_get tables' i)) (sym same)
            (subst (λ x. HasArray state c.limits x (slice_get servers' r) (slice_get tables' r)) (at_seat same) here)
        | inr ne ↦ rw (sv.others j ne, tb.others j ne)
            (have j s (seats_set c.seats r j seat s ne (ap (λ xs. slice_get xs j) (sym seats) ∙ e)))
      ])
    where
      -- where it is read, it is what was written
      at_seat : j ≡ r → seat ≡ s
      at_seat same =
          let now : slice_get (slice_set c.seats r seat) r ≡ Some s =
          ap (slice_get (slice_set c.seats r seat)) (sym same) ∙ ap (λ xs. slice_get xs j) (sym seats) ∙ e in
          let inside : r < length c.seats = (let w = slice_get_within (slice_set c.seats r seat) r s now in
          let l = length-set c.seats r seat in omega arith) in
          let wrote : slice_get (slice_set c.seats r seat) r ≡ Some seat =
          slice_get-set_same c.seats r seat (get_or c.seats r seat) (slice_get-get_or c.seats r seat inside) in
          some_same wrote now

  -- what stays over a turn
  pub stays_set : (c new : Kept) (servers servers' : List X) (tables tables' : List ConfTable) (r : ℕ)
      (seat : Seat) → HaveArrays state c servers tables → HaveRoom state c.limits servers →
      (n : ℕ) → AreLater state n servers servers' → ChangesAt r servers servers' →
      ChangesAt r tables tables' → new.limits ≡ c.limits → new.requests ≡ c.requests →
      new.seats ≡ slice_set c.seats r seat → new.events ≡ c.events →
      HasArray state c.limits seat (slice_get servers' r) (slice_get tables' r) →
      TurnStays state c new servers' tables'
  stays_set c new servers servers' tables tables' r seat have room n later sv tb limits requests seats events here = record {
    same = record {
      limits = limits;
      requests = requests;
      seats = ap length seats ∙ length-set c.seats r seat;
      events = events;
    };
    arrays = arrays_set c new servers servers' tables tables' r seat have sv tb limits seats here;
    room = room_later state c.limits n servers servers' later room;
  }

  pub stays_none : (c : Kept) (servers : List X) (tables : List ConfTable) → HaveArrays state c servers tables →
      HaveRoom state c.limits servers → TurnStays state c c servers tables
  stays_none c servers tables have room = record {
    same = record { limits = refl; requests = refl; seats = refl; events = refl };
    arrays = have;
    room = room;
  }

  -- the array after an answer
  pub array_after : (c : Kept) (q : Request) (servers servers' : List X) (tables tables' : List ConfTable) (r : ℕ)
      (k k' : Runner) (cast : Cast) →
      ((A : List Entry) × StandsAt state c.limits (slice_get servers r) (slice_get tables r) A) →
      PassedAt state c.limits q (slice_get servers r) (slice_get tables r) (slice_get servers' r)
      (slice_get tables' r) k k' cast →
      (A : List Entry) × StandsAt state c.limits (slice_get servers' r) (slice_get tables' r) A
  array_after c q servers servers' tables tables' r k k' cast has ans =
      ((answer has.0 c.limits q.time q.bytes).array, (ans.step has.0 has.1).0)
