-- A text that a source gave, offered to what is being rebuilt.
use Rattle.std.proofs.Common.{◌≡◌, ◌≢◌, ℕ, ◌<◌, Bool, true, false, List, [], ◌∷◌, ◌++◌, length, slice_get, Option, Some, None, Result, Ok, Err, refl, sym, ◌∙◌, ap, subst}
use Rattle.std.specs.Prelude.{slice_set, IfOk}
use Rattle.std.proofs.lemmas.Option.{slice_get_within}
use Rattle.nfs2_types.specs.declared.NoMemory.{NoMemory}
use Rattle.server_trait.specs.Tree.{Server}
use Rattle.server_trait.specs.declared.ConfTable.{ConfTable}
use Rattle.server_trait.proofs.TreeLaws.{some_same}
use Rattle.conf_map.proofs.InStep.{slice_get-set_same}
use Rattle.cluster_model.specs.Service.{Service}
use Rattle.cluster_model.specs.Tree.{Item, item}
use Rattle.cluster_model.specs.State.{Condition, Live, Down, Rebuilding, Fetching}
use Rattle.cluster_model.specs.Moments.{Moment, Faults, replica}
use Rattle.cluster_model.specs.Step.{if_rebuilding, gets}
use Rattle.cluster_model.specs.Loose.{given, gives}
use Rattle.service_laws.specs.Served.{service}
use Rattle.state_transfer.specs.declared.Item.{Item as Wanted}
use Rattle.state_transfer.specs.Stand.{Stand, next_in}
use Rattle.state_transfer.specs.Fetch.{Fits}
use Rattle.recovery.specs.Rebuilt.{Rebuilt, HasFetched, with_item}
use Rattle.seats.specs.declared.Seat.{Seat}
use Rattle.seats.specs.declared.Seat.TheVariants.{Live as LiveSeat, Rebuilding as RebuildingSeat, Down as DownSeat}
use Rattle.seats.specs.Seats.{next_of}
use Rattle.seats.specs.Positions.{ChangesAt}
use Rattle.seats.specs.Given.{Answered, HasTaken}
use Rattle.seats.proofs.Positions.{changes_set, changes_none}
use Rattle.cluster.specs.OverBench.{Kept, IsAimed, IsFetching, IsState, HaveRoom}
use Rattle.cluster.specs.Fetching.{Scene, scene, seat_in, slot_at, then_gets, Led, Asks, GivesNothing, GivesNoneTo, Offers, Offered}
use Rattle.cluster.proofs.ListFacts.{read_is, read_same}
use Rattle.cluster.proofs.States.{state_put}
use Rattle.cluster.proofs.Struck.{later_none}
use Rattle.cluster.proofs.TurnClauses.{stays_set}
use Rattle.cluster.proofs.Harms.{seat_is, set_read}
use Rattle.cluster.proofs.Leading.{aims_set, led_then, led_weaker, led_moved}

-- WHAT IS NO TEXT

abbrev Pair : Type 0
Pair = ℕ × List ℕ

next_here : (s : Stand) (x : Pair) (xs : List Pair) (w : Wanted) → s.rest ≡ x ∷ xs → next_in s ≡ Some w →
    item s.level x.0 ≡ item w.level w.number
next_here s x xs w rest next = by s.rest rest next
  where
    by : (ys : List Pair) → ys ≡ x ∷ xs →
        elim ys as (λ _. Option Wanted) [ [] ↦ None | z ∷ zs ↦ Some (record { level = s.level; number = z.0 }) ]
        ≡ Some w → item s.level x.0 ≡ item w.level w.number
    by [] e n = absurd (cc)
    by (y ∷ ys) e n = (
        let same : y ≡ x = cc in
        ap (λ (z : Pair). item s.level z.0) (sym same) ∙ ap (λ (v : Wanted). item v.level v.number) (some_same refl n)
        )

module _ (S : Service) (p : ℕ) (w : Wanted) where
  none_to : (seat : Seat) (c : Condition) → next_of seat ≡ Some w → GivesNothing S p (item w.level w.number) c →
      GivesNoneTo S p seat c
  none_to (LiveSeat k) c e h = tt
  none_to DownSeat c e h = tt
  none_to (RebuildingSeat b) Down e h = tt
  none_to (RebuildingSeat b) (Rebuilding f) e h = tt
  none_to (RebuildingSeat b) (Live l) e h = λ x xs text rest gave fits. (
      let same = next_here b.fetch.stand x xs w rest e in
      let none : given S p l (item b.fetch.stand.level x.0) ≡ None = ap (given S p l) same ∙ h in
      absurd (let bad : None ≡ Some text = sym none ∙ gave in cc))

  -- a text that was given, and was refused
  refused_to : (seat seat' : Seat) (c : Condition) (text : List ℕ) → next_of seat ≡ Some w →
      gives S p (item w.level w.number, text) c → Answered text seat seat' false → GivesNoneTo S p seat c
  refused_to (LiveSeat k) seat' c text e h refused = tt
  refused_to DownSeat seat' c text e h refused = tt
  refused_to (RebuildingSeat b) seat' Down text e h refused = tt
  refused_to (RebuildingSeat b) seat' (Rebuilding f) text e h refused = tt
  refused_to (RebuildingSeat b) seat' (Live l) text e h refused = λ x xs t rest gave fits. (
      let same = next_here b.fetch.stand x xs w rest e in
      let here : given S p l (item b.fetch.stand.level x.0) ≡ Some text = ap (given S p l) same ∙ h in
      refused.1 x xs rest (subst (Fits b.fetch.stand.level x) (some_same gave here) fits))

refused_same : (text : List ℕ) (seat seat' : Seat) → Answered text seat seat' false → seat' ≡ seat
refused_same text (LiveSeat k) seat' h = h.1
refused_same text (RebuildingSeat b) seat' h = h.0
refused_same text DownSeat seat' h = h.1

-- A TEXT THAT IS TAKEN

-- it is what is being rebuilt that takes a text
record Took (text : List ℕ) (w : Wanted) (seat seat' : Seat) : Type 0 where
  old : Rebuilt
  now : Rebuilt
  was : seat ≡ RebuildingSeat old
  is : seat' ≡ RebuildingSeat now
  next : next_in old.fetch.stand ≡ Some w
  taken : HasTaken text old now

took : (text : List ℕ) (w : Wanted) (seat seat' : Seat) → next_of seat ≡ Some w → Answered text seat seat' true →
    Took text w seat seat'
took text w (LiveSeat k) seat' e h = absurd (cc)
took text w (RebuildingSeat b) seat' e h = record {
  old = b;
  now = h.0;
  was = refl;
  is = h.1;
  next = e;
  taken = h.2;
}
took text w DownSeat seat' e h = absurd (cc)

module _ {X : Type 0} (state : X → Server) where
  module _ (c : Kept) (servers : List X) (tables : List ConfTable) (r : ℕ) (within : r < length c.seats)
      (q q' : Rebuilt) (at : slice_get c.seats r ≡ Some (RebuildingSeat q)) (w : Wanted)
      (next : next_in q.fetch.stand ≡ Some w) (text : List ℕ) (taken : HasTaken text q q') where
    abbrev after : Kept
    after = record c { seats = slice_set c.seats r (RebuildingSeat q') }

    -- the model's replica gets the item
    state_gets : (m : Moment) → IsState state c servers tables m.state →
        (let n = then_gets r (item w.level w.number, text) m in
        IsState state after servers tables n.state × (n.lines ≡ m.lines))
    state_gets m h =
        let x : Item × List ℕ = (item w.level w.number, text) in
        let was = seat_is state c servers tables r within (RebuildingSeat q) at m h in
        let f = was.fetching in
        let f' : Fetching = record f { got = f.got ++ x ∷ [] } in
        let aim = h.aimed r q at in
        let here : IsFetching state c.limits q' (slice_get servers r) (slice_get tables r) (Rebuilding f') = record {
          fetching = f';
          is_rebuilding = refl;
          stands = was.stands;
          target = was.target ∙ sym taken.target;
          fetched = subst (λ o. HasFetched f.array (with_item f.got o text) q') next
              (taken.got f.array f.got was.fetched);
        } in
        let is : then_gets r x m ≡ gets r x m f =
        ap (λ d. if_rebuilding m d (λ g. gets r x m g)) was.is_rebuilding in
        subst (λ (n : Moment). IsState state after servers tables n.state × (n.lines ≡ m.lines)) (sym is) (
          state_put state c (slice_set c.seats r (RebuildingSeat q')) servers servers tables tables m.state r
              (RebuildingSeat q') (Rebuilding f') h within (changes_set c.seats r (RebuildingSeat q'))
              (slice_get-set_same c.seats r (RebuildingSeat q') (RebuildingSeat q) at) (changes_none r servers)
              (changes_none r tables) here
              (λ b e. (
              let same : q' ≡ b = cc in
              subst (IsAimed c.stable c.root) same (record {
                low = λ p t. aim.low p (sym taken.target ∙ t);
                root_is = λ t. taken.root ∙ aim.root_is (sym taken.target ∙ t);
              }))),
          refl,
        )

  module _ (r stage j : ℕ) (a b : Scene X) (w : Wanted) (next : next_of (seat_in a r) ≡ Some w)
      (seats : ChangesAt j a.kept.seats b.kept.seats) (ne : j ≢ r) where
    abbrev S : Service
    S = service a.kept.limits

    abbrev i : Item
    i = item w.level w.number

    stays : slice_get b.kept.seats r ≡ slice_get a.kept.seats r
    stays = seats.others r (λ e. ne (sym e))

    same_seat : seat_in b r ≡ seat_in a r
    same_seat = read_same b.kept.seats a.kept.seats r DownSeat stays

    -- it gave nothing
    pub offered_nothing : (gave : Option (List ℕ)) → gave ≡ None →
        Led state (Asks S r stage j i gave) (slot_at stage j ∷ []) a b → Offered state r stage j i a b false
    offered_nothing gave is h = record {
      led = led_weaker state (Asks S r stage j i None) (Offers S r stage j i (seat_in a r) false)
          (slot_at stage j ∷ []) a b
          (subst (λ o. Led state (Asks S r stage j i o) (slot_at stage j ∷ []) a b) is h)
          (λ faults m n f s out. (
            out.0,
            λ inside sound. none_to S m.state.stable w (seat_in a r) (replica m.state j).condition next
                (out.1 inside sound),
          ));
      same = λ e. stays;
    }

    -- it gave a text
    module _ (gave : Option (List ℕ)) (text : List ℕ) (gave_is : gave ≡ Some text)
        (led : Led state (Asks S r stage j i gave) (slot_at stage j ∷ []) a b) (o seat : Seat)
        (at : slice_get b.kept.seats r ≡ Some o) where
      h : Led state (Asks S r stage j i (Some text)) (slot_at stage j ∷ []) a b
      h = subst (λ o. Led state (Asks S r stage j i o) (slot_at stage j ∷ []) a b) gave_is led

      abbrev last : Scene X
      last = scene (record b.kept { seats = slice_set b.kept.seats r seat }) b.servers b.tables b.met b.lines

      seat_was : o ≡ seat_in a r
      seat_was = sym (read_is b.kept.seats r o DownSeat at) ∙ same_seat

      offered_refused : Answered text (seat_in a r) seat false → Offered state r stage j i a last false
      offered_refused refused =
          let back : slice_set b.kept.seats r seat ≡ b.kept.seats =
          ap (slice_set b.kept.seats r) (refused_same text (seat_in a r) seat refused ∙ sym seat_was)
          ∙ set_read b.kept.seats r o at in
          subst (λ xs. Offered state r stage j i a
          (scene (record b.kept { seats = xs }) b.servers b.tables b.met b.lines) false) (sym back)
          (record {
            led = led_weaker state (Asks S r stage j i (Some text)) (Offers S r stage j i (seat_in a r) false)
                (slot_at stage j ∷ []) a b h
                (λ faults m n f s out. (
                  out.0,
                  λ inside sound. refused_to S m.state.stable w (seat_in a r) seat (replica m.state j).condition text
                      next (out.1 inside) refused,
                ));
            same = λ e. stays;
          })

      offered_taken : Answered text (seat_in a r) seat true → Offered state r stage j i a last true
      offered_taken accepted =
          let t = took text w (seat_in a r) seat next accepted in
          let at' : slice_get b.kept.seats r ≡ Some (RebuildingSeat t.old) = at ∙ ap Some (seat_was ∙ t.was) in
          let within : r < length b.kept.seats = slice_get_within b.kept.seats r o at in
          let room : HaveRoom state b.kept.limits b.servers =
          subst (λ l. HaveRoom state l b.servers) (sym h.stays.same.limits) h.stays.room in
          let new : Kept = record b.kept { seats = slice_set b.kept.seats r (RebuildingSeat t.now) } in
          let M : Faults → Moment → Moment → Type 0 = λ faults m n. n ≡ then_gets r (i, text) m in
          let moved : Led state M [] b (scene new b.servers b.tables b.met b.lines) =
          led_moved state M b new refl
          (stays_set state b.kept new b.servers b.servers b.tables b.tables r (RebuildingSeat t.now) h.stays.arrays room
          (length b.kept.seats) (later_none state (length b.kept.seats) b.servers) (changes_none r b.servers)
          (changes_none r b.tables) refl refl refl refl (h.stays.arrays r (RebuildingSeat t.old) at'))
          (aims_set b.kept.seats (slice_set b.kept.seats r (RebuildingSeat t.now)) r (RebuildingSeat t.old)
          (RebuildingSeat t.now) at' refl (λ p e. t.taken.target ∙ e))
          (λ faults m s. (
          let out = state_gets b.kept b.servers b.tables r within t.old t.now at' w t.next text t.taken m s in
          (then_gets r (i, text) m, refl, out.0, out.1))) in
          subst (λ x. Offered state r stage j i a (scene (record b.kept { seats = slice_set b.kept.seats r x })
          b.servers b.tables b.met b.lines) true) (sym t.is)
          (record {
            led = led_weaker state
                (λ faults m n. (k : Moment) × Asks S r stage j i (Some text) faults m k × M faults k n)
                (Offers S r stage j i (seat_in a r) true) (slot_at stage j ∷ []) a
                (scene new b.servers b.tables b.met b.lines)
                (led_then state (Asks S r stage j i (Some text)) M (slot_at stage j ∷ []) [] a b
                (scene new b.servers b.tables b.met b.lines) h moved)
                (λ faults m n f s out. (text, out.2 ∙ ap (then_gets r (i, text)) out.1.0, out.1.1));
            same = λ e. absurd (cc);
          })

      pub offered_text : (result : Result Bool NoMemory) → IfOk result (Answered text o seat) →
          IfOk result (Offered state r stage j i a last)
      offered_text (Ok true) h = offered_taken (subst (λ x. Answered text x seat true) seat_was h)
      offered_text (Ok false) h = offered_refused (subst (λ x. Answered text x seat false) seat_was h)
      offered_text (Err e) h = tt
