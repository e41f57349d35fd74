-- A replica that is being rebuilt is aimed at the stable place, in the code and in the model.
use Rattle.std.proofs.Common.{◌≡◌, ℕ, ◌<◌, Bool, true, false, cond, List, [], length, slice_get, Option, Some, None, refl, sym, ◌∙◌, ap, subst, arith}
use Rattle.std.specs.Prelude.{slice_set}
use Rattle.std.proofs.lemmas.Bool.{eqb-true}
use Rattle.nfs2_types.specs.declared.Limits.{Limits}
use Rattle.server_trait.specs.Tree.{Server}
use Rattle.server_trait.specs.declared.ConfTable.{ConfTable}
use Rattle.conf_map.proofs.InStep.{slice_get-set_same}
use Rattle.cluster_model.specs.State.{Condition, Rebuilding}
use Rattle.cluster_model.specs.Moments.{Moment, replica}
use Rattle.cluster_model.specs.Step as model
use Rattle.cluster_model.specs.Step.{is_target, aims}
use Rattle.replica.specs.declared.Replica.{Replica as Runner}
use Rattle.recovery.specs.Rebuilt.{Rebuilt, aimed, retargeted}
use Rattle.seats.specs.declared.Seat.{Seat}
use Rattle.seats.specs.declared.Seat.TheVariants.{Live as LiveSeat, Rebuilding as RebuildingSeat, Down as DownSeat}
use Rattle.seats.specs.Seats.{aimed_in, HasArray}
use Rattle.seats.proofs.Positions.{changes_set, changes_none}
use Rattle.cluster.specs.OverBench.{Kept, IsAimed, IsAimedAt, IsFetching, IsState, AreOver, HaveArrays}
use Rattle.cluster.proofs.States.{state_put}
use Rattle.cluster.proofs.Seated.{over_set}
use Rattle.cluster.proofs.TurnClauses.{arrays_set}
use Rattle.cluster.proofs.Harms.{seat_is}

-- THE TARGET

target_is : (p : ℕ) (o : Option ℕ) → is_target p o ≡ true → o ≡ Some p
target_is p None e = absurd (cc)
target_is p (Some t) e = ap Some (eqb-true t p e)

now_target : (place : ℕ) (root : List ℕ) (b : Rebuilt) → (aimed place root b).target ≡ Some place
now_target place root b = by (is_target place b.target) refl
  where
    by : (t : Bool) → is_target place b.target ≡ t → (cond t b (retargeted place root b)).target ≡ Some place
    by true e = target_is place b.target e
    by false e = refl

pub aimed_at : (place : ℕ) (root : List ℕ) (o : Seat) → IsAimedAt place (aimed_in place root o)
aimed_at place root (LiveSeat k) = tt
aimed_at place root (RebuildingSeat b) = now_target place root b
aimed_at place root DownSeat = tt

aimed_is : (stable : ℕ) (root : List ℕ) (b : Rebuilt) → IsAimed stable root b → IsAimed stable root (aimed stable root b)
aimed_is stable root b h = by (is_target stable b.target)
  where
    by : (t : Bool) → IsAimed stable root (cond t b (retargeted stable root b))
    by true = h
    by false = record { low = λ p e. (let same : stable ≡ p = cc in omega (arith, same)); root_is = λ e. refl }

-- WHAT WAS GOT

-- towards the target it stays, and towards a new one nothing is got
aimed_fetching : {X : Type 0} (state : X → Server) (limits : Limits) (place : ℕ) (root : List ℕ) (b : Rebuilt)
    (s : Option X) (t : Option ConfTable) (c : Condition) (h : IsFetching state limits b s t c) →
    IsFetching state limits (aimed place root b) s t (Rebuilding (model.aimed place h.fetching))
aimed_fetching state limits place root b s t c h =
    by (is_target place h.fetching.target) (is_target place b.target) (ap (is_target place) h.target)
  where
    by : (x y : Bool) → x ≡ y → IsFetching state limits (cond y b (retargeted place root b)) s t
        (Rebuilding (cond x h.fetching (record { array = h.fetching.array; target = Some place; got = [] })))
    by true true e = record {
      fetching = h.fetching;
      is_rebuilding = refl;
      stands = h.stands;
      target = h.target;
      fetched = h.fetched;
    }
    by true false e = absurd (cc)
    by false true e = absurd (cc)
    by false false e = record {
      fetching = record { array = h.fetching.array; target = Some place; got = [] };
      is_rebuilding = refl;
      stands = h.stands;
      target = refl;
      fetched = record { own = h.fetched.own; size = h.fetched.size; leads = refl };
    }

-- THE STATE

module _ {X : Type 0} (state : X → Server) (c : Kept) (servers : List X) (tables : List ConfTable) (r : ℕ)
    (within : r < length c.seats) (b : Rebuilt) (at : slice_get c.seats r ≡ Some (RebuildingSeat b)) where
  -- what the model's replica has
  pub fetching_of : (m : Moment) → IsState state c servers tables m.state →
      IsFetching state c.limits b (slice_get servers r) (slice_get tables r) (replica m.state r).condition
  fetching_of m s = seat_is state c servers tables r within (RebuildingSeat b) at m s

  pub state_aims : (m : Moment) (s : IsState state c servers tables m.state) →
      IsState state (record c { seats = slice_set c.seats r (RebuildingSeat (aimed c.stable c.root b)) }) servers tables
      (aims r m (fetching_of m s).fetching).state
  state_aims m s =
      let h = fetching_of m s in
      let b' = aimed c.stable c.root b in
      let seat = RebuildingSeat b' in
      state_put state c (slice_set c.seats r seat) servers servers tables tables m.state r seat
      (Rebuilding (model.aimed m.state.stable h.fetching)) s within (changes_set c.seats r seat)
      (slice_get-set_same c.seats r seat (RebuildingSeat b) at) (changes_none r servers) (changes_none r tables)
      (subst (λ p. IsFetching state c.limits b' (slice_get servers r) (slice_get tables r)
      (Rebuilding (model.aimed p h.fetching))) (sym s.stable)
      (aimed_fetching state c.limits c.stable c.root b (slice_get servers r) (slice_get tables r)
      (replica m.state r).condition h))
      (λ a e. (let same : b' ≡ a = cc in subst (IsAimed c.stable c.root) same
      (aimed_is c.stable c.root b (s.aimed r b at))))

-- WHAT STAYS

aimed_has : {X : Type 0} (state : X → Server) (limits : Limits) (place : ℕ) (root : List ℕ) (o : Seat) (s : Option X)
    (t : Option ConfTable) → HasArray state limits o s t → HasArray state limits (aimed_in place root o) s t
aimed_has state limits place root (LiveSeat k) s t h = h
aimed_has state limits place root (RebuildingSeat b) s t h = h
aimed_has state limits place root DownSeat s t h = h

pub aims_have : {X : Type 0} (state : X → Server) (c : Kept) (servers : List X) (tables : List ConfTable) (r : ℕ)
    (o new : Seat) → slice_get c.seats r ≡ Some o → HaveArrays state c servers tables → (place : ℕ) (root : List ℕ) →
    new ≡ aimed_in place root o → HaveArrays state (record c { seats = slice_set c.seats r new }) servers tables
aims_have state c servers tables r o new at have place root is =
    arrays_set state c (record c { seats = slice_set c.seats r new }) servers servers tables tables r
    (aimed_in place root o) have (changes_none r servers) (changes_none r tables) refl (ap (slice_set c.seats r) is)
    (aimed_has state c.limits place root o (slice_get servers r) (slice_get tables r) (have r o at))

live_aimed : (place : ℕ) (root : List ℕ) (o : Seat) (k : Runner) → aimed_in place root o ≡ LiveSeat k → o ≡ LiveSeat k
live_aimed place root (LiveSeat j) k e = e
live_aimed place root (RebuildingSeat b) k e = absurd (cc)
live_aimed place root DownSeat k e = absurd (cc)

pub over_aimed : (n r : ℕ) (seats : List Seat) (o new : Seat) (place : ℕ) (root : List ℕ) →
    slice_get seats r ≡ Some o → new ≡ aimed_in place root o → AreOver n seats → AreOver n (slice_set seats r new)
over_aimed n r seats o new place root at is h = over_set n r seats new h
    (λ k e. h r k (at ∙ ap Some (live_aimed place root o k (sym is ∙ e))))
