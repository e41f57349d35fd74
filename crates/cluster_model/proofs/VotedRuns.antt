-- Places that enough replicas have run are decided.
use Rattle.std.proofs.Common.{◌≡◌, ◌≢◌, ◌⊎◌, ℕ, zero, suc, ◌+◌, ◌*◌, ◌≤◌, Bool, true, false, cond, ◌||◌, ◌&&◌, List, [], ◌∷◌, ◌++◌, length, get_or, take, add-one, replicate, refl, sym, ◌∙◌, ap, subst, inl, inr, ⊎_elim, arith}
use Rattle.std.specs.Prelude.{Option, Some, None, nat_le, nat_lt, ◌==◌, not}
use Rattle.std.specs.List.{count_by}
use Rattle.std.proofs.lemmas.Bool.{leb-true, ltb-true}
use Rattle.nfs2_types.specs.declared.Word.{Word}
use Rattle.nfs2_types.specs.declared.Word.TheVariants.{Silent}
use Rattle.nfs2_types.specs.declared.Word.TheVariants.{Reply}
use Rattle.log_format.specs.declared.Event.{Event}
use Rattle.server_trait.specs.declared.FaultPoint.{FaultPoint}
use Rattle.cluster_model.specs.Service.{Service, same_word, said_at}
use Rattle.cluster_model.specs.Tree.{below}
use Rattle.cluster_model.specs.State.{Live, Down, Running, Replica, lookup, has, says, is_word, is_unsound}
use Rattle.cluster_model.specs.Moments.{Moment, Faults, gone, replica, fails, votes, is_decided}
use Rattle.cluster_model.specs.Turns.{moments, last, begins, ran}
use Rattle.cluster_model.specs.Step.{step}
use Rattle.cluster_model.specs.Right.{IsRight, IsRightLive, IsRightWord}
use Rattle.cluster_model.specs.Run.{Always, since, has_run, place_in, HasEnough, HasEnoughOf, faults_in, fresh, start_fault, run, run_from}
use Rattle.cluster_model.proofs.Counting.{count_by-cons, count_by-weaker, bit}
use Rattle.cluster_model.proofs.Votes.{All-lookup}
use Rattle.std.proofs.lemmas.Slice.Eq.{bytes_eq-Decides}
use Rattle.std.proofs.lemmas.List.Sums.{sum_by_push}
use Rattle.std.proofs.lemmas.List.{take_more, take_all}
use Rattle.cluster_model.proofs.Seats.{IsSound, replica_right, sound_right}
use Rattle.cluster_model.proofs.Voted.{Always-append, Always-last, Always-moments, Voted, fails_voted, step_voted}

-- Places that enough replicas have run

-- counting by numbers
count_below : {X : Type 0} (P : X → Bool) (d : X) (xs : List X) (n : ℕ) → n ≤ length xs →
    count_by (λ r. P (get_or xs r d)) (below n) ≡ count_by P (take n xs)
count_below P d xs zero h = refl
count_below P d xs (suc n) h =
    let rest : count_by (λ r. P (get_or xs r d)) (below n) ≡ count_by P (take n xs) = count_below P d xs n
    (omega arith) in
    let more : take (n + 1) xs ≡ take n xs ++ get_or xs n d ∷ [] = take_more xs n d (omega arith) in
    let same : take (suc n) xs ≡ take n xs ++ get_or xs n d ∷ [] = rw add-one at more in
    let one : count_by (λ r. P (get_or xs r d)) (below n ++ n ∷ []) ≡ count_by (λ r. P (get_or xs r d)) (below n) + bit
    (P (get_or xs n d)) =
    sum_by_push (λ r. bit (P (get_or xs r d))) (below n) n in
    let two : count_by P (take n xs ++ get_or xs n d ∷ []) ≡ count_by P (take n xs) + bit (P (get_or xs n d)) =
    sum_by_push (λ x. bit (P x)) (take n xs) (get_or xs n d) in
    one ∙ ap (λ k. k + bit (P (get_or xs n d))) rest ∙ sym two ∙ ap (count_by P) (sym same)

pub count_all : {X : Type 0} (P : X → Bool) (d : X) (xs : List X) →
    count_by (λ r. P (get_or xs r d)) (below (length xs)) ≡ count_by P xs
count_all P d xs = count_below P d xs (length xs) (omega arith)
    ∙ ap (count_by P) (take_all (length xs) xs (omega arith))

same_word-refl : (w : Word) → same_word w w ≡ true
same_word-refl Silent = refl
same_word-refl (Reply b) = (bytes_eq-Decides b b).1 refl

pub and_true : (a b : Bool) → (a && b) ≡ true → (a ≡ true) × (b ≡ true)
and_true true b e = (refl, e)
and_true false b e = absurd (cc)

pub not_true : (a : Bool) → not a ≡ true → a ≡ false
not_true true e = absurd (cc)
not_true false e = refl

-- what is known of each sound replica is enough
module _ (S : Service) (m : Moment)
    (sound_of : (r : ℕ) → is_unsound (replica m.state r) ≡ false → IsSound S m.state.requests (replica m.state r))
    (voted : Voted S m) (p : ℕ) (open' : is_decided p m.state ≡ false) where
  abbrev word : Word
  word = said_at S m.state.requests p

  runner_says : (r : ℕ) → has_run p m r ≡ true → says p word (replica m.state r) ≡ true
  runner_says r e =
      let x = replica m.state r in
      let both = and_true (not (is_unsound x)) (nat_lt (since r m.lines) p && nat_le p (place_in x.condition)) e in
      let rest = and_true (nat_lt (since r m.lines) p) (nat_le p (place_in x.condition)) both.1 in
      let sound = sound_of r (not_true (is_unsound x) both.0) in
      let place : place_in x.condition ≡ sound.live.place = ap place_in sound.is_live in
      let high : p ≤ place_in x.condition = leb-true p (place_in x.condition) rest.1 in
      let w = voted.1 r sound.live sound.is_live sound.unharmed p (ltb-true (since r m.lines) p rest.0) (omega arith) in
      ⊎_elim (λ d. absurd (cc)) (λ g. by (lookup p x.words) refl g sound.live sound.right) w
    where
      by : (o : Option Word) → lookup p (replica m.state r).words ≡ o → has o ≡ true → (l : Running) →
          IsRightLive S m.state.requests l (replica m.state r).words (replica m.state r).roots →
          says p word (replica m.state r) ≡ true
      by None e g l h = absurd (cc)
      by (Some v) e g l h =
          let same : v ≡ word =
          (All-lookup (IsRightWord S m.state.requests l.place) p v (replica m.state r).words h.said e).2 in
          ap (is_word word) e ∙ subst (λ u. same_word word u ≡ true) (sym same) (same_word-refl word)

  not_enough : count_by (has_run p m) (below (length m.state.replicas)) ≤ S.f
  not_enough =
      let ns = below (length m.state.replicas) in
      let fewer : count_by (has_run p m) ns ≤ count_by (λ r. says p word (replica m.state r)) ns =
      count_by-weaker (has_run p m) (λ r. says p word (replica m.state r)) ns
      (λ k d within e. runner_says (get_or ns k d) e) in
      let all : count_by (λ r. says p word (replica m.state r)) ns ≡ votes p word m.state = count_all
      (says p word) gone m.state.replicas in
      let low : votes p word m.state ≤ S.f = voted.0 p word open' in
      omega arith

-- a place that f + 1 sound replicas have run since their last rebuild is decided
pub enough_by : (S : Service) (m : Moment) →
    ((r : ℕ) → is_unsound (replica m.state r) ≡ false → IsSound S m.state.requests (replica m.state r)) → Voted S m →
    HasEnough S m
enough_by S m sound_of voted p h = by (is_decided p m.state) refl
  where
    by : (b : Bool) → is_decided p m.state ≡ b → b ≡ true
    by true e = refl
    by false e = absurd (let low : count_by (has_run p m) (below (length m.state.replicas)) ≤ S.f =
        not_enough S m sound_of voted p e in omega arith)

pub enough : (S : Service) (m : Moment) → IsRight S m.state → Voted S m → HasEnough S m
enough S m right voted = enough_by S m
    (λ r u. sound_right S m.state.requests (replica m.state r) (replica_right S m.state r right) u) voted

count_or : {X : Type 0} (a b c : X → Bool) (xs : List X) → ((x : X) → a x ≡ true → (b x ≡ true) ⊎ (c x ≡ true)) →
    count_by a xs ≤ count_by b xs + count_by c xs
count_or a b c [] h = omega arith
count_or a b c (x ∷ xs) h =
    let rest : count_by a xs ≤ count_by b xs + count_by c xs = count_or a b c xs h in
    let one : bit (a x) ≤ bit (b x) + bit (c x) = by (a x) (b x) (c x) refl refl refl in
    rw (count_by-cons a x xs, count_by-cons b x xs, count_by-cons c x xs) (omega arith)
  where
    by : (u v w : Bool) → a x ≡ u → b x ≡ v → c x ≡ w → bit u ≤ bit v + bit w
    by false v w eu ev ew = omega arith
    by true true w eu ev ew = omega arith
    by true false true eu ev ew = omega arith
    by true false false eu ev ew = absurd
        (⊎_elim (λ g. (let k : true ≡ false = sym g ∙ ev in cc)) (λ g. (let k : true ≡ false = sym g ∙ ew in cc))
        (h x eu))

-- so is one that 2f + 1 replicas have run, at most f of them unsound
pub enough_of : (S : Service) (m : Moment) → HasEnough S m → count_by is_unsound m.state.replicas ≤ S.f →
    HasEnoughOf S m
enough_of S m some fair p ran sound many =
    let ns = below (length m.state.replicas) in
    let unsound : count_by (λ r. is_unsound (replica m.state r)) ns ≡ count_by is_unsound m.state.replicas =
    count_all is_unsound gone m.state.replicas in
    let split : count_by ran ns ≤ count_by (has_run p m) ns + count_by (λ r. is_unsound (replica m.state r)) ns =
    count_or ran (has_run p m) (λ r. is_unsound (replica m.state r)) ns
    (λ r e. by r e (is_unsound (replica m.state r)) refl) in
    some p (omega arith)
  where
    by : (r : ℕ) → ran r ≡ true → (b : Bool) → is_unsound (replica m.state r) ≡ b → (has_run p m r ≡ true) ⊎ (b ≡ true)
    by r e true u = inr refl
    by r e false u = inl (sound r e u)

-- at the start

fresh_voted : (S : Service) (servers : ℕ) → Voted S (fresh S servers)
fresh_voted S servers =
    let x : Replica = record { condition = Live (begins S 0 S.empty); words = []; roots = [] } in (
      (λ p w e. (let z : count_by (says p w) (replicate (3 * S.f + 1) x) ≡ 0 = none (says p w) (3 * S.f + 1) x refl in
          omega arith)),
      λ r l e u p low high. absurd (let place : l.place ≡ 0 = there (3 * S.f + 1) x r l e in omega arith),
    )
  where
    none : {X : Type 0} (q : X → Bool) (n : ℕ) (x : X) → q x ≡ false → count_by q (replicate n x) ≡ 0
    none q zero x h = refl
    none q (suc n) x h = count_by-cons q x (replicate n x)
        ∙ (let one : bit (q x) ≡ 0 = ap bit h in let rest : count_by q (replicate n x) ≡ 0 = none q n x h in
        omega arith)

    there : (n : ℕ) (x : Replica) (r : ℕ) (l : Running) →
        (get_or (replicate n (record {
          condition = Live (begins S 0 S.empty);
          words = [];
          roots = [];
        })) r gone).condition ≡ Live l → l.place ≡ 0
    there zero x r l e = absurd (let f : Down ≡ Live l = e in cc)
    there (suc n) x zero l e = sym (ap place_in e)
    there (suc n) x (suc r) l e = there n x r l e

start_voted : (S : Service) (faults : Faults) (m : Moment) (r : ℕ) → Voted S m → Voted S (start_fault faults m r)
start_voted S faults m r h = by (faults 0 r)
  where
    by : (b : Bool) → Voted S (cond b (fails r m) m)
    by true = fails_voted S r m h
    by false = h

run_from_voted : (S : Service) (downs : List FaultPoint) (e : ℕ) (events : List Event) (m : Moment) → Voted S m →
    Always (Voted S) (run_from S downs e events m)
run_from_voted S downs e [] m h = tt
run_from_voted S downs e (event ∷ events) m h =
    let ms = step S (faults_in downs e) event m in
    let hs = step_voted S (faults_in downs e) event m h in
    Always-append (Voted S) ms (run_from S downs (suc e) events (last m ms)) hs
    (run_from_voted S downs (suc e) events (last m ms) (Always-last (Voted S) m ms h hs))

pub run_voted_all : (S : Service) (servers : ℕ) (downs : List FaultPoint) (events : List Event) →
    Always (Voted S) (run S servers downs events)
run_voted_all S servers downs events =
    let m = fresh S servers in
    let ms = moments (start_fault (faults_in downs 0)) m (below (3 * S.f + 1)) in
    let h = fresh_voted S servers in
    let hs = Always-moments (Voted S) (start_fault (faults_in downs 0))
    (λ n r g. start_voted S (faults_in downs 0) n r g) m (below (3 * S.f + 1)) h in (
      h,
      Always-append (Voted S) ms (run_from S downs 1 events (last m ms)) hs
          (run_from_voted S downs 1 events (last m ms) (Always-last (Voted S) m ms h hs)),
    )
