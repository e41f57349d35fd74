-- Fault points in their order, one record after the other.
use Rattle.std.proofs.Common.{◌≡◌, ◌⊎◌, inl, inr, ℕ, suc, ◌+◌, ◌-◌, ◌*◌, ◌<◌, ◌≤◌, List, ◌++◌, length, get_or, refl, sym, subst, length-append, arith}
use Rattle.std.specs.List.{All}
use Rattle.std.specs.List.Sorted.{IsNonDecreasingBy}
use Rattle.std.proofs.lemmas.Bool.{cases_lt}
use Rattle.std.proofs.lemmas.List.{get_or_append_left, get_or-append_right}
use Rattle.std.proofs.lemmas.List.Elements.{All-append}
use Rattle.nfs2_types.specs.declared.Limits.{Limits}
use Rattle.server_trait.specs.declared.FaultPoint.{FaultPoint}
use Rattle.basefs.specs.Servers.{ArePoints}

abbrev pub IsOf : Limits → ℕ → FaultPoint → Type 0
IsOf limits n d = (d.event ≡ n) × (d.replica < 3 * limits.f + 1)

abbrev event_of : FaultPoint → ℕ
event_of d = d.event

-- the fault points of one record, or of the start
pub points_of : (limits : Limits) (n : ℕ) (met : List FaultPoint) → All (IsOf limits n) met → ArePoints limits n met
points_of limits n met of = record {
  rising = λ i j d le within. (let a : (get_or met i d).event ≡ n = (of i d (omega (arith, le, within))).0 in let b : (get_or met j d).event ≡ n = (of j d within).0 in omega (arith, a, b));
  events = λ k d within. (let a : (get_or met k d).event ≡ n = (of k d within).0 in omega (arith, a));
  replicas = λ k d within. (of k d within).1;
}

module _ (limits : Limits) (downs met : List FaultPoint) (n : ℕ) (old : All (λ (d : FaultPoint). d.event ≤ n) downs) (sorted : IsNonDecreasingBy event_of downs) (new : All (IsOf limits (suc n)) met) where
  behind : (j : ℕ) (d : FaultPoint) → length downs ≤ j → j < length (downs ++ met) → (get_or (downs ++ met) j d).event ≡ suc n
  behind j d past within =
      subst (λ (x : FaultPoint). x.event ≡ suc n) (let e = get_or-append_right downs met (length downs) j d refl past in sym e)
      (new (j - length downs) d (omega (arith, past, within, length-append downs met))).0

  before : (i : ℕ) (d : FaultPoint) → i < length downs → get_or (downs ++ met) i d ≡ get_or downs i d
  before i d within = get_or_append_left downs met d i within

  rising_more : IsNonDecreasingBy event_of (downs ++ met)
  rising_more i j d le within = by (cases_lt i (length downs)) (cases_lt j (length downs))
    where
      by : (i < length downs) ⊎ (length downs ≤ i) → (j < length downs) ⊎ (length downs ≤ j) → (get_or (downs ++ met) i d).event ≤ (get_or (downs ++ met) j d).event
      by (inl a) (inl b) = rw (before i d a, before j d b) (sorted i j d le b)
      by (inl a) (inr b) = rw (before i d a) (let x = old i d a in let y = behind j d b within in omega (arith, x, y))
      by (inr a) (inl b) = absurd (omega (arith, a, b, le))
      by (inr a) (inr b) = let x = behind i d a (omega (arith, le, within)) in let y = behind j d b within in omega (arith, x, y)

-- the fault points of one record more
pub points_then : (limits : Limits) (n : ℕ) (downs met : List FaultPoint) → ArePoints limits n downs → All (IsOf limits (suc n)) met → ArePoints limits (suc n) (downs ++ met)
points_then limits n downs met p new =
    let q = points_of limits (suc n) met new in
    record {
      rising = rising_more limits downs met n p.events p.rising new;
      events = All-append (λ (d : FaultPoint). d.event ≤ suc n) downs met (λ k d within. (let a : (get_or downs k d).event ≤ n = p.events k d within in omega (arith, a))) q.events;
      replicas = All-append (λ (d : FaultPoint). d.replica < 3 * limits.f + 1) downs met p.replicas q.replicas;
    }
