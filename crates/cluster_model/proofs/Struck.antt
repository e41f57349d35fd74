-- Servers are struck over whole runs as over their steps; each stays at some position of the bench.
use Rattle.std.proofs.Common.{◌≡◌, ◌≢◌, ℕ, zero, suc, ◌+◌, ◌*◌, ◌<◌, ◌⊎◌, Bool, true, false, cond, List, [], ◌∷◌, ◌++◌, length, get_or, set, refl, sym, ◌∙◌, ap, subst, inl, inr, ⊎_elim, arith}
use Rattle.std.specs.Prelude.{Some, slice_get, nat_le, nat_lt, swap}
use Rattle.std.proofs.lemmas.Bool.{cases_eq}
use Rattle.std.proofs.lemmas.Option.{slice_get_within, slice_get-get_or, get_or_from_slice_get}
use Rattle.std.proofs.lemmas.List.Edits.{swap_is, length-swap}
use Rattle.std.proofs.lemmas.List.{length-set}
use Rattle.nfs2_types.specs.declared.Word.{Word}
use Rattle.log_format.specs.declared.Event.{Event}
use Rattle.log_format.specs.declared.Event.TheVariants.{Swap}
use Rattle.cluster_model.specs.Service.{Service}
use Rattle.cluster_model.specs.State.{State}
use Rattle.cluster_model.specs.Moments.{Moment, Faults, is_decided, votes, root_votes, decides, adds_word, casts_word, becomes_stable, adds_root, casts_root}
use Rattle.cluster_model.specs.Turns.{last}
use Rattle.cluster_model.specs.Loose.{LooseStep}
use Rattle.cluster_model.specs.Run.{strikes}
use Rattle.cluster_model.specs.Struck.{IsInBench, IsLater, AreStruck}
use Rattle.cluster_model.proofs.Growing.{last-append}
use Rattle.cluster_model.proofs.Keeping.{IsClosed, any_keeps}
use Rattle.cluster_model.proofs.Voted.{Always-last}
use Rattle.cluster_model.specs.Run.{Always}

-- The bench

pub word_bench : (S : Service) (r p : ℕ) (w : Word) (m : Moment) → (casts_word S r p w m).state.bench ≡ m.state.bench
word_bench S r p w m = by (is_decided p m.state) (nat_le (S.f + 1) (votes p w (adds_word r p w m.state)))
  where
    by : (a b : Bool) → (cond a m
        (cond b (decides p w (record m { state = adds_word r p w m.state }))
        (record m { state = adds_word r p w m.state }))).state.bench ≡ m.state.bench
    by true b = refl
    by false true = refl
    by false false = refl

pub root_bench : (S : Service) (r p : ℕ) (d : List ℕ) (m : Moment) → (casts_root S r p d m).state.bench ≡ m.state.bench
root_bench S r p d m = by (nat_lt m.state.stable p) (nat_le (2 * S.f + 1) (root_votes p d (adds_root r p d m.state)))
  where
    by : (a b : Bool) → (cond a
        (cond b (becomes_stable p d (record m { state = adds_root r p d m.state }))
        (record m { state = adds_root r p d m.state })) m).state.bench ≡ m.state.bench
    by false b = refl
    by true true = refl
    by true false = refl

-- the bench is b, or b with a Swap's two positions exchanged
abbrev IsMoved : Event → List ℕ → State → Type 0
IsMoved e b s = (s.bench ≡ b) ⊎ ((r spare : ℕ) × (e ≡ Swap r spare) × (s.bench ≡ swap b r spare))

moved_closed : (S : Service) (e : Event) (b : List ℕ) → IsClosed S (IsMoved e b)
moved_closed S e b = record {
  live = λ r l s h. h;
  down = λ r s h. h;
  reboot = λ r c s h. h;
  withdraw = λ r s h. h;
  word = λ r p w m h. subst (λ c. (c ≡ b) ⊎ ((r spare : ℕ) × (e ≡ Swap r spare) × (c ≡ swap b r spare)))
      (sym (word_bench S r p w m)) h;
  root_word = λ r p d m h. subst (λ c. (c ≡ b) ⊎ ((r spare : ℕ) × (e ≡ Swap r spare) × (c ≡ swap b r spare)))
      (sym (root_bench S r p d m)) h;
  ask = λ q s h. h;
}

bench_moves : (S : Service) (faults : Faults) (e : Event) (m : Moment) (ms : List Moment) → LooseStep S faults e m ms →
    Always (λ n. IsMoved e m.state.bench n.state) ms
bench_moves S faults e m ms loose = any_keeps S (IsMoved e m.state.bench) (moved_closed S e m.state.bench)
    (λ r c s h. h) faults m (inl refl) e
    (λ r spare i. inr (r, spare, i, refl)) ms loose

get-set_same : {X : Type 0} (xs : List X) (i : ℕ) (v : X) → i < length xs → slice_get (set xs i v) i ≡ Some v
get-set_same [] i v h = absurd (omega arith)
get-set_same (x ∷ xs) zero v h = refl
get-set_same (x ∷ xs) (suc i) v h = get-set_same xs i v (omega arith)

get-set_other : {X : Type 0} (xs : List X) (i j : ℕ) (v : X) → j ≢ i → slice_get (set xs i v) j ≡ slice_get xs j
get-set_other [] i j v ne = refl
get-set_other (x ∷ xs) zero zero v ne = absurd (ne refl)
get-set_other (x ∷ xs) zero (suc j) v ne = refl
get-set_other (x ∷ xs) (suc i) zero v ne = refl
get-set_other (x ∷ xs) (suc i) (suc j) v ne = get-set_other xs i j v (λ e. ne (ap suc e))

-- s stands at some position
abbrev pub IsAmong : ℕ → List ℕ → Type 0
IsAmong s b = (k : ℕ) × (slice_get b k ≡ Some s)

swap_among : (b : List ℕ) (i j s : ℕ) → i < length b → j < length b → IsAmong s b → IsAmong s (swap b i j)
swap_among b i j s hi hj h =
    let k = h.0 in
    let value : get_or b k 0 ≡ s = get_or_from_slice_get b k s 0 h.1 in
    let one = set b i (get_or b j 0) in
    let two = set one j (get_or b i 0) in
    let same : two ≡ swap b i j = swap_is b i j 0 hi hj in
    let long : length one ≡ length b = length-set b i (get_or b j 0) in
    subst (IsAmong s) same
    (⊎_elim
    (λ ki. (j, get-set_same one j (get_or b i 0) (omega arith) ∙ ap Some (ap (λ n. get_or b n 0) (sym ki) ∙ value)))
    (λ other. ⊎_elim
    (λ kj.
    let apart : i ≢ j = λ e. other (kj ∙ sym e) in (
      i,
      get-set_other one j i (get_or b i 0) apart ∙ get-set_same b i (get_or b j 0) hi
          ∙ ap Some (ap (λ n. get_or b n 0) (sym kj) ∙ value),
    ))
    (λ apart. (k, get-set_other one j k (get_or b i 0) apart ∙ get-set_other b i k (get_or b j 0) other ∙ h.1))
    (cases_eq k j))
    (cases_eq k i))

moved_among : (e : Event) (b : List ℕ) (n : State) → IsInBench (length b) e → IsMoved e b n →
    (length n.bench ≡ length b) × ((s : ℕ) → IsAmong s b → IsAmong s n.bench)
moved_among e b n inside (inl same) = (ap length same, λ s h. subst (IsAmong s) (sym same) h)
moved_among e b n inside (inr (r, spare, is, same)) =
    let both : IsInBench (length b) (Swap r spare) = subst (IsInBench (length b)) is inside in (
      ap length same ∙ length-swap b r spare,
      λ s h. subst (IsAmong s) (sym same)
          (swap_among b r spare s both.0 both.1 h),
    )

-- after a step each server stands at some position, of as many
pub step_among : (S : Service) (faults : Faults) (e : Event) (m : Moment) (ms : List Moment) →
    IsInBench (length m.state.bench) e → LooseStep S faults e m ms →
    (length (last m ms).state.bench ≡ length m.state.bench)
    × ((s : ℕ) → IsAmong s m.state.bench → IsAmong s (last m ms).state.bench)
step_among S faults e m ms inside loose =
    let b = m.state.bench in
    moved_among e b (last m ms).state inside
    (Always-last (λ n. IsMoved e b n.state) m ms (inl refl) (bench_moves S faults e m ms loose))

-- Counts

pub strikes-append : (s : ℕ) (m : Moment) (ms ns : List Moment) →
    strikes s m (ms ++ ns) ≡ strikes s m ms + strikes s (last m ms) ns
strikes-append s m [] ns = omega arith
strikes-append s m (n ∷ ms) ns =
    let rest : strikes s n (ms ++ ns) ≡ strikes s n ms + strikes s (last n ms) ns = strikes-append s n ms ns in
    omega arith

module _ (Server Limits : Type 0) (count : Server → ℕ) (limits : Server → Limits) where
  later_then : (a b : ℕ) (x y z : Server) → IsLater Server Limits count limits a x y →
      IsLater Server Limits count limits b y z → IsLater Server Limits count limits (a + b) x z
  later_then a b x y z h g = record {
    same_limits = g.same_limits ∙ h.same_limits;
    rose = omega (arith, h.rose, g.rose);
    quiet = λ e. g.quiet (omega arith) ∙ h.quiet (omega arith);
  }

  -- over moments and those that follow them
  pub struck_then : (m : Moment) (ms ns : List Moment) (xs ys zs : List Server) →
      ((s : ℕ) → IsAmong s m.state.bench → IsAmong s (last m ms).state.bench) →
      length ys ≡ length (last m ms).state.bench →
      AreStruck Server Limits count limits m ms xs ys → AreStruck Server Limits count limits (last m ms) ns ys zs →
      AreStruck Server Limits count limits m (ms ++ ns) xs zs
  struck_then m ms ns xs ys zs among size h g s i j x z ei ej ex ez =
      let mid = among s (i, ei) in
      let within : mid.0 < length ys = subst (λ n. mid.0 < n) (sym size)
      (slice_get_within (last m ms).state.bench mid.0 s mid.1) in
      let y = get_or ys mid.0 x in
      let ey : slice_get ys mid.0 ≡ Some y = slice_get-get_or ys mid.0 x within in
      subst (λ n. IsLater Server Limits count limits n x z) (sym (strikes-append s m ms ns))
      (later_then (strikes s m ms) (strikes s (last m ms) ns) x y z (h s i mid.0 x y ei mid.1 ex ey)
      (g s mid.0 j y z mid.1
      (subst (λ (k : Moment). slice_get k.state.bench j ≡ Some s) (last-append m ms ns) ej) ey ez))
