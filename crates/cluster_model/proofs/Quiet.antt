-- A RunAll may stop after a round in which no replica may run: the rounds that the model goes on with change nothing.
use Rattle.std.proofs.Common.{◌≡◌, ℕ, zero, suc, ◌+◌, ◌-◌, ◌<◌, ◌≤◌, List, [], ◌∷◌, ◌++◌, map, length, refl, sym, ◌∙◌, ap, subst, ⊎_elim, arith}
use Rattle.std.specs.List.{All}
use Rattle.std.proofs.lemmas.Bool.{cases_lt}
use Rattle.std.proofs.lemmas.List.{append_assoc, append-nil, get_or_past}
use Rattle.std.proofs.lemmas.List.Elements.{All-cons, All-nil}
use Rattle.log_format.specs.declared.IdleCause.{IdleCause}
use Rattle.log_format.specs.declared.Event.TheVariants.{RunAll}
use Rattle.log_format.specs.declared.IdleCause.TheVariants.{NotLive}
use Rattle.cluster_model.specs.Service.{Service}
use Rattle.cluster_model.specs.Tree.{below}
use Rattle.cluster_model.specs.State.{Replica, State}
use Rattle.cluster_model.specs.Moments.{Moment, Faults, gone, replica}
use Rattle.cluster_model.specs.Turns.{Slot, Not, turn, turn_in, quiet_turn, slot_turn, slots, moments, last}
use Rattle.cluster_model.specs.Step.{step}
use Rattle.cluster_model.proofs.Growing.{last-append}

-- no replica may run
abbrev pub IsQuiet : Service → State → Type 0
IsQuiet S s = (r : ℕ) → r < length s.replicas → (c : IdleCause) × (turn S s r ≡ Not c)

-- one that is not of the bench never may
all_quiet : (S : Service) (s : State) → IsQuiet S s → (r : ℕ) → (c : IdleCause) × (turn S s r ≡ Not c)
all_quiet S s h r = ⊎_elim (h r)
    (λ past. (
      NotLive,
      (let e : replica s r ≡ gone = get_or_past s.replicas r gone past in
          ap (λ (x : Replica). turn_in S s x.condition) e),
    ))
    (cases_lt r (length s.replicas))

module _ (S : Service) (faults : Faults) where
  slot_same : (m : Moment) (t : Slot) → (c : IdleCause) → turn S m.state t.replica ≡ Not c → slot_turn S faults m t ≡ m
  slot_same m t c e = ap (λ x. quiet_turn S (faults t.round t.replica) t.replica x m) e

  pub quiet_rest : (m : Moment) → IsQuiet S m.state → (ts : List Slot) → last m (moments (slot_turn S faults) m ts) ≡ m
  quiet_rest m quiet [] = refl
  quiet_rest m quiet (t ∷ ts) =
      let f = all_quiet S m.state quiet t.replica in
      ap (λ k. last k (moments (slot_turn S faults) k ts)) (slot_same m t f.0 f.1) ∙ quiet_rest m quiet ts

  -- each of these turns, at its time, is idle
  abbrev pub AreIdle : Moment → List Slot → Type 0
  AreIdle m [] = Unit {0}
  AreIdle m (t ∷ ts) = ((c : IdleCause) × (turn S m.state t.replica ≡ Not c)) × AreIdle (slot_turn S faults m t) ts

  -- then nothing changed, and each of these replicas is idle still
  pub idle_round : (m : Moment) (ts : List Slot) → AreIdle m ts →
      (last m (moments (slot_turn S faults) m ts) ≡ m) × All
      (λ (t : Slot). (c : IdleCause) × (turn S m.state t.replica ≡ Not c)) ts
  idle_round m [] h = (refl, All-nil (λ (t : Slot). (c : IdleCause) × (turn S m.state t.replica ≡ Not c)))
  idle_round m (t ∷ ts) h =
      let same = slot_same m t h.0.0 h.0.1 in
      let rest = idle_round m ts (subst (λ k. AreIdle k ts) same h.1) in (
        ap (λ k. last k (moments (slot_turn S faults) k ts)) same
            ∙ rest.0,
        All-cons (λ (t : Slot). (c : IdleCause) × (turn S m.state t.replica ≡ Not c)) t ts h.0 rest.1,
      )

  moments-append : (m : Moment) (xs ys : List Slot) →
      moments (slot_turn S faults) m (xs ++ ys) ≡ moments (slot_turn S faults) m xs
      ++ moments (slot_turn S faults) (last m (moments (slot_turn S faults) m xs)) ys
  moments-append m [] ys = refl
  moments-append m (x ∷ xs) ys = ap (λ zs. slot_turn S faults m x ∷ zs) (moments-append (slot_turn S faults m x) xs ys)

  -- the first rounds of more
  more_slots : (n i k : ℕ) → (ts : List Slot) × (slots (i + k) n ≡ slots i n ++ ts)
  more_slots n i zero = ([], (let z : i + 0 ≡ i = omega arith in ap (λ j. slots j n) z ∙ sym (append-nil (slots i n))))
  more_slots n i (suc k) =
      let rest = more_slots n i k in
      let z : i + suc k ≡ suc (i + k) = omega arith in
      let round : List Slot = map (λ r. record { round = suc (i + k); replica = r }) (below n) in
      (rest.0 ++ round, ap (λ j. slots j n) z ∙ ap (λ xs. xs ++ round) rest.1 ∙ append_assoc (slots i n) rest.0 round)

  -- with all quiet after some rounds, the end of the RunAll is that of these rounds
  pub run_all_early : (m : Moment) (i : ℕ) → i ≤ length m.state.requests →
      IsQuiet S (last m (moments (slot_turn S faults) m (slots i (length m.state.replicas)))).state →
      last m (step S faults RunAll m) ≡ last m (moments (slot_turn S faults) m (slots i (length m.state.replicas)))
  run_all_early m i few quiet =
      let small = slot_turn S faults in
      let n = length m.state.replicas in
      let q = length m.state.requests in
      let xs = slots i n in
      let k = last m (moments small m xs) in
      let more = more_slots n i (q - i) in
      let z : i + (q - i) ≡ q = omega arith in
      let all : slots q n ≡ xs ++ more.0 = ap (λ j. slots j n) (sym z) ∙ more.1 in
      let ms = moments small m (slots q n) in
      let end : last m ms ≡ k = ap (λ ts. last m (moments small m ts)) all ∙ ap (last m) (moments-append m xs more.0)
      ∙ last-append m (moments small m xs) (moments small k more.0) ∙ quiet_rest k quiet more.0 in
      last-append m ms (last m ms ∷ []) ∙ end
