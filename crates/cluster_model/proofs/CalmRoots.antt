-- Runs without harm: no checkpoint waits to be stable that 2f + 1 live replicas have taken.
use Rattle.std.proofs.Common.{◌≡◌, ℕ, zero, suc, ◌+◌, ◌*◌, ◌<◌, ◌≤◌, Bool, true, false, cond, List, [], ◌∷◌, ◌++◌, length, get_or, replicate, refl, sym, ◌∙◌, ap, subst, ⊎_elim, arith}
use Rattle.std.specs.Prelude.{Option, Some, None, nat_le, nat_lt, not, ◌&&◌, bytes_eq}
use Rattle.std.specs.List.{count_by, All}
use Rattle.std.proofs.lemmas.Bool.{leb-true, ltb-true, cases_lt}
use Rattle.std.proofs.lemmas.Slice.Eq.{bytes_eq-Decides}
use Rattle.std.proofs.lemmas.List.Elements.{All-head, All-tail}
use Rattle.log_format.specs.declared.Event.{Event}
use Rattle.log_format.specs.declared.Event.TheVariants.{Request as Ask, Run, RunAll, End, Reboot, Fetch, Rogue, Skip, Scratch, LieReply, LieRoot, LieItem, Wipe, Swap}
use Rattle.server_trait.specs.declared.FaultPoint.{FaultPoint}
use Rattle.cluster_model.specs.declared.request.Request.{Request}
use Rattle.cluster_model.specs.Service.{Service, array_at, request}
use Rattle.cluster_model.specs.Tree.{root, below}
use Rattle.cluster_model.specs.State.{Live, Down, Rebuilding, Running, Replica, State, Condition, lookup, has, is_digest, is_unsound, says_root}
use Rattle.cluster_model.specs.Moments.{Moment, Faults, gone, replica, fails, root_votes}
use Rattle.cluster_model.specs.Turns.{fails_or, is_checkpoint, takes_checkpoint, checked, runs, ran, turn, quiet_turn, run_turn, slot_turn, slots, moments, last, begins}
use Rattle.cluster_model.specs.Step.{step}
use Rattle.cluster_model.specs.Loose.{LooseStep}
use Rattle.cluster_model.specs.Calm.{IsPlaceRoot, IsCalm, IsHarmless}
use Rattle.cluster_model.specs.Settled.{IsRootSettled}
use Rattle.cluster_model.specs.Run.{Always, HasEnoughRoots, since, has_run, place_in, faults_in, fresh, start_fault, run, run_from}
use Rattle.cluster_model.proofs.Counting.{count_by-weaker}
use Rattle.cluster_model.proofs.Votes.{All-lookup}
use Rattle.cluster_model.proofs.Steps.{turn_cases, prints_state}
use Rattle.cluster_model.proofs.Voted.{Always-moments, Always-append, Always-last}
use Rattle.cluster_model.proofs.VotedRuns.{count_all, and_true, not_true}
use Rattle.cluster_model.proofs.Calm.{roots_right, replica_calm}
use Rattle.cluster_model.proofs.Keeping.{fails_keeps}
use Rattle.cluster_model.proofs.Settled.{root_settled_kept, root_settled_closed, fresh_settled}
use Rattle.cluster_model.proofs.RanRoots.{PassedRoots, down_passed_roots, passes_passed_roots}

abbrev pub AllPassed : Service → Moment → Type 0
AllPassed S m = (r : ℕ) → PassedRoots S m.state r

module _ (S : Service) where
  fails_passed : (r : ℕ) (m : Moment) → AllPassed S m → AllPassed S (fails r m)
  fails_passed r m h = down_passed_roots S r m h

  or_passed : (fault : Bool) (r : ℕ) (does : Moment → Moment) (m : Moment) → AllPassed S m → AllPassed S (does m) →
      AllPassed S (fails_or fault r does m)
  or_passed true r does m h g = fails_passed r m h
  or_passed false r does m h g = g

  checked_place : (l : Running) → (checked S l).place ≡ l.place
  checked_place l = by (is_checkpoint S l.place)
    where
      by : (b : Bool) → (cond b (takes_checkpoint S l) l).place ≡ l.place
      by true = refl
      by false = refl

  runs_passed : (j : ℕ) (l : Running) (q : Request) (m : Moment) → (replica m.state j).condition ≡ Live l →
      AllPassed S m → AllPassed S (runs S j l q m)
  runs_passed j l q m live h = passes_passed_roots S j l (checked S (ran S q l)) (S.word l.array q) m live
      (checked_place (ran S q l)) h

  quiet_passed : (fault : Bool) (r : ℕ) (m : Moment) → AllPassed S m →
      AllPassed S (quiet_turn S fault r (turn S m.state r) m)
  quiet_passed fault r m h = turn_cases S m.state r (λ t. AllPassed S (quiet_turn S fault r t m))
      (λ l q live next. or_passed fault r (runs S r l q) m h (runs_passed r l q m live h)) (λ c. h)

  run_passed : (fault : Bool) (r : ℕ) (m : Moment) → AllPassed S m →
      AllPassed S (run_turn S fault r (turn S m.state r) m)
  run_passed fault r m h = turn_cases S m.state r (λ t. AllPassed S (run_turn S fault r t m))
      (λ l q live next. or_passed fault r (runs S r l q) m h (runs_passed r l q m live h)) (λ c. h)

  step_passed : (faults : Faults) (e : Event) (m : Moment) → IsHarmless e → AllPassed S m →
      Always (AllPassed S) (step S faults e m)
  step_passed faults (Ask client time bytes) m harmless h = (h, tt)
  step_passed faults (Run r) m harmless h = (run_passed (faults 0 r) r m h, tt)
  step_passed faults RunAll m harmless h =
      let ts = slots (length m.state.requests) (length m.state.replicas) in
      let ms = moments (slot_turn S faults) m ts in
      let hs = Always-moments (AllPassed S) (slot_turn S faults)
      (λ n t g. quiet_passed (faults t.round t.replica) t.replica n g) m ts h in
      Always-append (AllPassed S) ms (last m ms ∷ []) hs (Always-last (AllPassed S) m ms h hs, tt)
  step_passed faults End m harmless h =
      (subst (λ s. (r : ℕ) → PassedRoots S s r) (sym (prints_state 0 m.state.replicas m)) h, tt)
  step_passed faults (Reboot r) m harmless h = absurd harmless
  step_passed faults (Fetch r n) m harmless h = absurd harmless
  step_passed faults (Rogue r time bytes) m harmless h = absurd harmless
  step_passed faults (Skip r) m harmless h = absurd harmless
  step_passed faults (Scratch r i o b) m harmless h = absurd harmless
  step_passed faults (LieReply r p w) m harmless h = absurd harmless
  step_passed faults (LieRoot r p d) m harmless h = absurd harmless
  step_passed faults (LieItem r level number t) m harmless h = absurd harmless
  step_passed faults (Wipe r) m harmless h = absurd harmless
  step_passed faults (Swap r spare) m harmless h = absurd harmless

  fresh_passed : (servers : ℕ) → AllPassed S (fresh S servers)
  fresh_passed servers r l e p low high check =
      absurd (let place : l.place ≡ 0 = there (3 * S.f + 1) r l e in omega arith)
    where
      there : (n : ℕ) (r : ℕ) (l : Running) →
          (get_or (replicate n (record {
            condition = Live (begins S 0 S.empty);
            words = [];
            roots = [];
          })) r gone).condition ≡ Live l → l.place ≡ 0
      there zero r l e = absurd (let f : Down ≡ Live l = e in cc)
      there (suc n) zero l e = sym (ap place_in e)
      there (suc n) (suc r) l e = there n r l e

  start_passed : (faults : Faults) (m : Moment) (r : ℕ) → AllPassed S m → AllPassed S (start_fault faults m r)
  start_passed faults m r h = by (faults 0 r)
    where
      by : (b : Bool) → AllPassed S (cond b (fails r m) m)
      by true = fails_passed r m h
      by false = h

  run_from_passed : (downs : List FaultPoint) (e : ℕ) (events : List Event) (m : Moment) → All IsHarmless events →
      AllPassed S m → Always (AllPassed S) (run_from S downs e events m)
  run_from_passed downs e [] m harmless h = tt
  run_from_passed downs e (event ∷ events) m harmless h =
      let ms = step S (faults_in downs e) event m in
      let hs = step_passed (faults_in downs e) event m (All-head IsHarmless event events harmless) h in
      Always-append (AllPassed S) ms (run_from S downs (suc e) events (last m ms)) hs
      (run_from_passed downs (suc e) events (last m ms) (All-tail IsHarmless event events harmless)
      (Always-last (AllPassed S) m ms h hs))

  pub run_passed_roots : (servers : ℕ) (downs : List FaultPoint) (events : List Event) → All IsHarmless events →
      Always (AllPassed S) (run S servers downs events)
  run_passed_roots servers downs events harmless =
      let m = fresh S servers in
      let ms = moments (start_fault (faults_in downs 0)) m (below (3 * S.f + 1)) in
      let h = fresh_passed servers in
      let hs = Always-moments (AllPassed S) (start_fault (faults_in downs 0))
      (λ n r g. start_passed (faults_in downs 0) n r g) m (below (3 * S.f + 1)) h in (
        h,
        Always-append (AllPassed S) ms (run_from S downs 1 events (last m ms)) hs
            (run_from_passed downs 1 events (last m ms) harmless (Always-last (AllPassed S) m ms h hs)),
      )

-- no root vote waits

module _ (S : Service) where
  abbrev RootSettledAt : Moment → Type 0
  RootSettledAt m = IsRootSettled S m.state

  -- without harm Step is a loose step
  harmless_loose : (faults : Faults) (e : Event) (m : Moment) → IsHarmless e →
      LooseStep S faults e m (step S faults e m)
  harmless_loose faults (Ask client time bytes) m harmless = refl
  harmless_loose faults (Run r) m harmless = refl
  harmless_loose faults RunAll m harmless = refl
  harmless_loose faults End m harmless = refl
  harmless_loose faults (Reboot r) m harmless = absurd harmless
  harmless_loose faults (Fetch r n) m harmless = absurd harmless
  harmless_loose faults (Rogue r time bytes) m harmless = absurd harmless
  harmless_loose faults (Skip r) m harmless = absurd harmless
  harmless_loose faults (Scratch r i o b) m harmless = absurd harmless
  harmless_loose faults (LieReply r p w) m harmless = absurd harmless
  harmless_loose faults (LieRoot r p d) m harmless = absurd harmless
  harmless_loose faults (LieItem r level number t) m harmless = absurd harmless
  harmless_loose faults (Wipe r) m harmless = absurd harmless
  harmless_loose faults (Swap r spare) m harmless = absurd harmless

  start_settled : (faults : Faults) (m : Moment) (r : ℕ) → RootSettledAt m → RootSettledAt (start_fault faults m r)
  start_settled faults m r h = by (faults 0 r)
    where
      by : (b : Bool) → RootSettledAt (cond b (fails r m) m)
      by true = fails_keeps S (IsRootSettled S) (root_settled_closed S) r m h
      by false = h

  run_from_settled : (downs : List FaultPoint) (e : ℕ) (events : List Event) (m : Moment) → All IsHarmless events →
      RootSettledAt m → Always RootSettledAt (run_from S downs e events m)
  run_from_settled downs e [] m harmless h = tt
  run_from_settled downs e (event ∷ events) m harmless h =
      let ms = step S (faults_in downs e) event m in
      let hs = root_settled_kept S (faults_in downs e) event m ms
      (harmless_loose (faults_in downs e) event m (All-head IsHarmless event events harmless)) h in
      Always-append RootSettledAt ms (run_from S downs (suc e) events (last m ms)) hs
      (run_from_settled downs (suc e) events (last m ms) (All-tail IsHarmless event events harmless)
      (Always-last RootSettledAt m ms h hs))

  pub run_root_settled : (servers : ℕ) (downs : List FaultPoint) (events : List Event) → All IsHarmless events →
      Always (λ m. IsRootSettled S m.state) (run S servers downs events)
  run_root_settled servers downs events harmless =
      let m = fresh S servers in
      let ms = moments (start_fault (faults_in downs 0)) m (below (3 * S.f + 1)) in
      let h = (fresh_settled S servers).1 in
      let hs = Always-moments RootSettledAt (start_fault (faults_in downs 0))
      (λ n r g. start_settled (faults_in downs 0) n r g) m (below (3 * S.f + 1)) h in (
        h,
        Always-append RootSettledAt ms (run_from S downs 1 events (last m ms)) hs
            (run_from_settled downs 1 events (last m ms) harmless (Always-last RootSettledAt m ms h hs)),
      )

-- what is known of each live replica is enough
module _ (S : Service) (m : Moment) (calm : IsCalm S m.state) (passed : AllPassed S m) (p : ℕ)
    (check : is_checkpoint S p ≡ true) (high : m.state.stable < p) where
  abbrev digest : List ℕ
  digest = root S (array_at S m.state.requests p)

  says_it : (d : List ℕ) → d ≡ digest → is_digest digest (Some d) ≡ true
  says_it d e = (bytes_eq-Decides digest d).1 (sym e)

  runner_says : (r : ℕ) → has_run p m r ≡ true → says_root p digest (replica m.state r) ≡ true
  runner_says r e =
      let x = replica m.state r in
      let both = and_true (not (is_unsound x)) (nat_lt (since r m.lines) p && nat_le p (place_in x.condition)) e in
      let rest = and_true (nat_lt (since r m.lines) p) (nat_le p (place_in x.condition)) both.1 in
      by x.condition refl (leb-true p (place_in x.condition) rest.1) (not_true (is_unsound x) both.0)
    where
      root_is : (o : Option (List ℕ)) → lookup p (replica m.state r).roots ≡ o → has o ≡ true →
          is_digest digest o ≡ true
      root_is None f g = absurd (cc)
      root_is (Some d) f g = says_it d
          (All-lookup (IsPlaceRoot S m.state.requests) p d (replica m.state r).roots
          (roots_right S m.state.requests (replica m.state r).words (replica m.state r).roots
          (replica m.state r).condition (replica_calm S m.state r calm)) f).1

      by : (c : Condition) → (replica m.state r).condition ≡ c → p ≤ place_in c → is_unsound (replica m.state r) ≡ false →
          says_root p digest (replica m.state r) ≡ true
      by (Live l) f up u = ⊎_elim (λ low. absurd (omega arith))
          (λ g. root_is (lookup p (replica m.state r).roots) refl g)
          (passed r l f p (omega arith) up check)
      by Down f up u = absurd (omega arith)
      by (Rebuilding b) f up u = absurd (omega arith)

  too_few : IsRootSettled S m.state → count_by (has_run p m) (below (length m.state.replicas)) ≤ 2 * S.f
  too_few settled =
      let ns = below (length m.state.replicas) in
      let fewer : count_by (has_run p m) ns ≤ count_by (λ r. says_root p digest (replica m.state r)) ns =
      count_by-weaker (has_run p m) (λ r. says_root p digest (replica m.state r)) ns
      (λ k d within e. runner_says (get_or ns k d) e) in
      let all : count_by (λ r. says_root p digest (replica m.state r)) ns ≡ root_votes p digest m.state = count_all
      (says_root p digest) gone m.state.replicas in
      let low : root_votes p digest m.state ≤ 2 * S.f = settled p digest high in
      omega arith

-- a checkpoint that 2f + 1 live replicas have taken is stable
pub enough_roots : (S : Service) (m : Moment) → IsCalm S m.state → AllPassed S m → IsRootSettled S m.state →
    HasEnoughRoots S m
enough_roots S m calm passed settled p check many = ⊎_elim
    (λ high. absurd (let low : count_by (has_run p m) (below (length m.state.replicas)) ≤ 2 * S.f =
    too_few S m calm passed p check high settled in omega arith))
    (λ low. low) (cases_lt m.state.stable p)
