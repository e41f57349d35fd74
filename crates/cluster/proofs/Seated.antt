-- What stays of the replicas over the words of a place.
use Rattle.std.proofs.Common.{◌≡◌, ℕ, ◌<◌, List, length, slice_get, get_or, Option, Some, None, refl, sym, ◌∙◌, ap, subst, arith, zero, suc, [], ◌∷◌, ◌++◌, inl, inr}
use Rattle.std.specs.Prelude.{option_map, slice_set}
use Rattle.std.proofs.lemmas.Option.{slice_get_within, slice_get-get_or}
use Rattle.nfs2_types.specs.declared.Limits.{Limits}
use Rattle.server_trait.specs.Tree.{Server}
use Rattle.server_trait.specs.declared.ConfTable.{ConfTable}
use Rattle.server_trait.proofs.TreeLaws.{one_or_not, some_same}
use Rattle.conf_map.proofs.InStep.{slice_get-set_other, slice_get-set_same}
use Rattle.std.proofs.lemmas.List.{length-set}
use Rattle.log_format.specs.declared.Line.{Line}
use Rattle.replica.specs.declared.Replica.{Replica as Runner}
use Rattle.replica.specs.declared.Cast.{Cast}
use Rattle.replica.specs.Replicas.{IsOver}
use Rattle.replica.proofs.Overs.{over_dropped}
use Rattle.seats.specs.declared.Seat.{Seat}
use Rattle.seats.specs.declared.Seat.TheVariants.{Live as LiveSeat, Rebuilding as RebuildingSeat, Down as DownSeat}
use Rattle.seats.specs.Seats.{HasArray}
use Rattle.cluster.specs.OverBench.{Kept, AreOver}
use Rattle.cluster.specs.Casting.{sees, seat_sees, SeatsSee, RootCases, Low, Waits, IsStable, RootedIf, Voted}
use Rattle.cluster.specs.Turned.{TurnStays}

-- a replica that has forgotten checkpoints is over as many entries
pub over_seen : (n p : ℕ) (old new : List Seat) → SeatsSee p old new → AreOver n old → AreOver n new
over_seen n p old new seen h r k at = by (slice_get old r) refl (sym (seen.each r) ∙ at)
  where
    by : (o : Option Seat) → slice_get old r ≡ o → option_map (seat_sees p) o ≡ Some (LiveSeat k) →
        IsOver n k
    by None is e = absurd (cc)
    by (Some DownSeat) is e = absurd (cc)
    by (Some (RebuildingSeat b)) is e = absurd (cc)
    by (Some (LiveSeat j)) is e =
        let same : sees p j ≡ k = cc in
        subst (IsOver n) same (over_dropped n p j (h r j is))

-- one seat is written
pub over_set : (n r : ℕ) (old : List Seat) (seat : Seat) → AreOver n old →
    ((k : Runner) → seat ≡ LiveSeat k → IsOver n k) → AreOver n (slice_set old r seat)
over_set n r old seat h here j k at = elim (one_or_not j r) as (λ _. IsOver n k) [
  | inl same ↦
      let within : j < length (slice_set old r seat) = slice_get_within (slice_set old r seat) j (LiveSeat k) at in
      let inside : r < length old = (let l = length-set old r seat in omega arith) in
      let wrote : slice_get (slice_set old r seat) r ≡ Some seat =
      slice_get-set_same old r seat (get_or old r seat) (slice_get-get_or old r seat inside) in
      here k (some_same wrote (sym (ap (slice_get (slice_set old r seat)) same) ∙ at))
  | inr ne ↦ h j k (sym (slice_get-set_other old r j seat ne) ∙ at)
]

-- one seat is pushed
pub over_pushed : (n : ℕ) (old new : List Seat) (seat : Seat) → new ≡ old ++ seat ∷ [] → AreOver n old →
    ((k : Runner) → seat ≡ LiveSeat k → IsOver n k) → AreOver n new
over_pushed n old new seat is h here j k at = by old h j (ap (λ xs. slice_get xs j) (sym is) ∙ at)
  where
    by : (xs : List Seat) → AreOver n xs → (i : ℕ) → slice_get (xs ++ seat ∷ []) i ≡ Some (LiveSeat k) → IsOver n k
    by [] g zero e = here k (some_same refl e)
    by [] g (suc i) e = absurd (cc)
    by (x ∷ xs) g zero e = g 0 k e
    by (x ∷ xs) g (suc i) e = by xs (λ l. g (suc l)) i e

-- a seat has the array that another had: both are live, or both are being rebuilt, or both are down
abbrev pub IsLike : Seat → Seat → Type 0
IsLike (LiveSeat j) (LiveSeat k) = Unit {0}
IsLike (LiveSeat j) (RebuildingSeat b) = ⊥
IsLike (LiveSeat j) DownSeat = ⊥
IsLike (RebuildingSeat a) (LiveSeat k) = ⊥
IsLike (RebuildingSeat a) (RebuildingSeat b) = Unit {0}
IsLike (RebuildingSeat a) DownSeat = ⊥
IsLike DownSeat (LiveSeat k) = ⊥
IsLike DownSeat (RebuildingSeat b) = ⊥
IsLike DownSeat DownSeat = Unit {0}

like_same : (s : Seat) → IsLike s s
like_same (LiveSeat k) = tt
like_same (RebuildingSeat b) = tt
like_same DownSeat = tt

like_seen : (p : ℕ) (s : Seat) → IsLike s (seat_sees p s)
like_seen p (LiveSeat k) = tt
like_seen p (RebuildingSeat b) = tt
like_seen p DownSeat = tt

like_array : {X : Type 0} (state : X → Server) (limits : Limits) (a b : Seat) (s : Option X) (t : Option ConfTable) →
    IsLike a b → HasArray state limits a s t → HasArray state limits b s t
like_array state limits (LiveSeat j) (LiveSeat k) s t l h = h
like_array state limits (LiveSeat j) (RebuildingSeat b) s t l h = absurd l
like_array state limits (LiveSeat j) DownSeat s t l h = absurd l
like_array state limits (RebuildingSeat a) (LiveSeat k) s t l h = absurd l
like_array state limits (RebuildingSeat a) (RebuildingSeat b) s t l h = h
like_array state limits (RebuildingSeat a) DownSeat s t l h = absurd l
like_array state limits DownSeat (LiveSeat k) s t l h = absurd l
like_array state limits DownSeat (RebuildingSeat b) s t l h = absurd l
like_array state limits DownSeat DownSeat s t l h = h

-- what stands at a position now was like it before
abbrev WasLike : List Seat → ℕ → Seat → Type 0
WasLike old r s = (before : Seat) × (slice_get old r ≡ Some before) × IsLike before s

-- each replica is live, or is being rebuilt, where it was so before, and all else but words is as it was
pub record SameSeats (old new : Kept) : Type 0 where
  pub limits : new.limits ≡ old.limits
  pub requests : new.requests ≡ old.requests
  pub events : new.events ≡ old.events
  pub size : length new.seats ≡ length old.seats
  pub seats : (r : ℕ) (s : Seat) → slice_get new.seats r ≡ Some s → WasLike old.seats r s

same_seats : (old new : List Seat) → new ≡ old → (r : ℕ) (s : Seat) → slice_get new r ≡ Some s → WasLike old r s
same_seats old new e r s at = (s, ap (λ xs. slice_get xs r) (sym e) ∙ at, like_same s)

seen_seats : (p : ℕ) (old new : List Seat) → SeatsSee p old new → (r : ℕ) (s : Seat) → slice_get new r ≡ Some s →
    WasLike old r s
seen_seats p old new seen r s at = by (slice_get old r) refl (sym (seen.each r) ∙ at)
  where
    by : (o : Option Seat) → slice_get old r ≡ o → option_map (seat_sees p) o ≡ Some s → WasLike old r s
    by None is e = absurd (cc)
    by (Some x) is e = (x, is, subst (IsLike x) (some_same refl e) (like_seen p x))

rooted_live : (r p : ℕ) (d : List ℕ) (old new : Kept) (ls ls' : List Line) → RootCases r p d old new ls ls' →
    (length new.seats ≡ length old.seats)
    × ((i : ℕ) (s : Seat) → slice_get new.seats i ≡ Some s → WasLike old.seats i s)
rooted_live r p d old new ls ls' (Low low roots stable root seats l) =
    (ap length seats, same_seats old.seats new.seats seats)
rooted_live r p d old new ls ls' (Waits high cast stable root seats l few) =
    (ap length seats, same_seats old.seats new.seats seats)
rooted_live r p d old new ls ls' (IsStable high mid cast drop stable root seen l enough) =
    (seen.size, seen_seats p old.seats new.seats seen)

pub rooted_if : (r p : ℕ) (o : Option (List ℕ)) (old new : Kept) (ls ls' : List Line) → RootedIf r p o old new ls ls' →
    SameSeats old new
rooted_if r p None old new ls ls' h = record {
  limits = ap (λ (c : Kept). c.limits) h.0;
  requests = ap (λ (c : Kept). c.requests) h.0;
  events = ap (λ (c : Kept). c.events) h.0;
  size = ap (λ (c : Kept). length c.seats) h.0;
  seats = same_seats old.seats new.seats (ap (λ (c : Kept). c.seats) h.0);
}
rooted_if r p (Some d) old new ls ls' h =
    let seats = rooted_live r p d old new ls ls' h.cases in
    record {
      limits = h.same.limits;
      requests = h.same.requests;
      events = h.same.events;
      size = seats.0;
      seats = seats.1;
    }

pub voted_live : (r : ℕ) (cast : Cast) (old new : Kept) (ls ls' : List Line) → Voted r cast old new ls ls' →
    SameSeats old new
voted_live r cast old new ls ls' v =
    let a = v.replied.same in
    let b = rooted_if r cast.place cast.root v.mid new v.between ls' v.rooted in
    record {
      limits = b.limits ∙ a.limits;
      requests = b.requests ∙ a.requests;
      events = b.events ∙ a.events;
      size = b.size ∙ ap length a.seats;
      seats = λ i s at. (
          let at' = b.seats i s at in
          (at'.0, ap (λ xs. slice_get xs i) (sym a.seats) ∙ at'.1, at'.2));
    }

module _ {X : Type 0} (state : X → Server) where
  -- what stays over a turn stays over its words
  pub stays_voted : (c old new : Kept) (servers : List X) (tables : List ConfTable) →
      TurnStays state c old servers tables → SameSeats old new → TurnStays state c new servers tables
  stays_voted c old new servers tables h s = record {
    same = record {
      limits = s.limits ∙ h.same.limits;
      requests = s.requests ∙ h.same.requests;
      seats = s.size ∙ h.same.seats;
      events = s.events ∙ h.same.events;
    };
    arrays = λ r seat at. (
        let at' = s.seats r seat at in
        subst (λ l. HasArray state l seat (slice_get servers r) (slice_get tables r)) (sym s.limits)
        (like_array state old.limits at'.0 seat (slice_get servers r) (slice_get tables r) at'.2
        (h.arrays r at'.0 at'.1)));
    room = h.room;
  }
