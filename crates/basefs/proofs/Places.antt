-- The servers of a bench, by their places.
use Rattle.std.proofs.Common.{◌≡◌, ℕ, ◌<◌, ◌≤◌, List, length, get_or, slice_get, Option, Some, sym, ◌∙◌, subst, arith}
use Rattle.std.specs.Prelude.{slice_index_or}
use Rattle.std.proofs.lemmas.Option.{slice_get_within, slice_get-get_or}
use Rattle.nfs2_types.specs.declared.Limits.{Limits}
use Rattle.server_trait.specs.Tree.{Server}
use Rattle.server_trait.specs.declared.ConfTable.{ConfTable}
use Rattle.cluster_model.specs.Tree.{below}
use Rattle.cluster_model.specs.State.{Running, Condition, Live, Rebuilding, Down, State}
use Rattle.cluster_model.specs.Moments.{Moment}
use Rattle.cluster_model.specs.Turns.{last}
use Rattle.cluster_model.proofs.Seats.{live_within}
use Rattle.seats.specs.declared.Seat.{Seat}
use Rattle.seats.specs.declared.Seat.TheVariants.{Live as LiveSeat, Rebuilding as RebuildingSeat, Down as DownSeat}
use Rattle.seats.specs.Positions.{StandsAt, AreLater}
use Rattle.cluster.specs.OverBench.{Kept, IsSeat, IsState}
use Rattle.cluster.specs.Steps.{ServersAreStruck}
use Rattle.cluster.proofs.Struck.{below_is}
use Rattle.basefs.specs.Servers.{LiveStand, ServersAreWorn}

-- POSITIONS

-- at this place there is a server
at_place : {X : Type 0} (xs ys : List X) (r : ℕ) (x : X) → length ys ≡ length xs → slice_get xs r ≡ Some x →
    (y : X) × (slice_get ys r ≡ Some y)
at_place xs ys r x same e =
    let within : r < length ys = (let w = slice_get_within xs r x e in omega arith) in
    (get_or ys r x, slice_get-get_or ys r x within)

-- WHAT LIVE REPLICAS STAND FOR

module _ {X : Type 0} (state : X → Server) where
  seat_stands : (limits : Limits) (o : Seat) (s : Option X) (t : Option ConfTable) (c : Condition) (l : Running) →
      c ≡ Live l → IsSeat state limits o s t c → StandsAt state limits s t l.array
  seat_stands limits DownSeat s t c l e h = absurd (let f : Down ≡ Live l = sym h ∙ e in cc)
  seat_stands limits (RebuildingSeat b) s t c l e h =
      absurd (let f : Rebuilding h.fetching ≡ Live l = sym h.is_rebuilding ∙ e in cc)
  seat_stands limits (LiveSeat k) s t c l e h =
      let same : h.live ≡ l = (let f : Live h.live ≡ Live l = sym h.is_live ∙ e in cc) in
      subst (λ (x : Running). StandsAt state limits s t x.array) same h.stands

  pub live_stand : {c : Kept} {servers : List X} {tables : List ConfTable} {s : State} (limits : Limits) →
      c.limits ≡ limits → IsState state c servers tables s → LiveStand state limits s servers tables
  live_stand {c = c} {servers = servers} {tables = tables} {s = s} limits is h r l e =
      let within : r < length c.seats = (let w = live_within s r l e in let z = h.size in omega arith) in
      subst (λ (x : Limits). StandsAt state x (slice_get servers r) (slice_get tables r) l.array) is
      (seat_stands c.limits (slice_index_or c.seats r DownSeat) _ _ _ l e (h.conditions r within))

  -- WHAT BECOMES OF THE SERVERS

  -- servers that failed as often as they were struck, and may have failed since
  pub worn_later : (k n : ℕ) (m : Moment) (ms : List Moment) (xs ys zs : List X) → m.state.bench ≡ below n →
      (last m ms).state.bench ≡ below n → AreLater state k xs ys → AreLater state k ys zs →
      ServersAreStruck state m ms xs ys → ServersAreWorn state m ms xs zs
  worn_later k n m ms xs ys zs first end h g struck s i j x z ei ej ex ez =
      let is : i ≡ s = below_is n i s (subst (λ (b : List ℕ). slice_get b i ≡ Some s) first ei) in
      let js : j ≡ s = below_is n j s (subst (λ (b : List ℕ). slice_get b j ≡ Some s) end ej) in
      let ex' : slice_get xs j ≡ Some x = subst (λ (k : ℕ). slice_get xs k ≡ Some x) (is ∙ sym js) ex in
      let y = at_place xs ys j x h.size ex' in
      let hit = struck s i j x y.0 ei ej ex y.1 in
      let up : (state x).faults ≤ (state y.0).faults = h.faults j x y.0 ex' y.1 in
      let more : (state y.0).faults ≤ (state z).faults = g.faults j y.0 z y.1 ez in
      record {
        limits = g.limits j y.0 z y.1 ez ∙ hit.same_limits;
        rose = omega (arith, hit.rose);
        later = omega arith;
      }
