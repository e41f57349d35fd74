-- Runs without harm: each record keeps every word right.
use Rattle.std.proofs.Common.{◌≡◌, ℕ, suc, ◌+◌, ◌*◌, ◌≤◌, Bool, true, false, cond, List, [], ◌∷◌, ◌++◌, length, refl, sym, ◌∙◌, ap, subst, arith}
use Rattle.std.specs.Prelude.{Some, ◌==◌, slice_get}
use Rattle.std.specs.List.{All}
use Rattle.std.proofs.lemmas.List.{length-append}
use Rattle.std.proofs.lemmas.List.Elements.{All-head, All-tail, All-nil, All-weaker, All-replicate}
use Rattle.cluster_model.specs.declared.request.Request.{Request}
use Rattle.nfs2_types.specs.declared.Word.{Word}
use Rattle.log_format.specs.declared.Event.{Event}
use Rattle.log_format.specs.declared.Event.TheVariants.{Request as Ask, Run, RunAll, End, Reboot, Fetch, Rogue, Skip, Scratch, LieReply, LieRoot, LieItem, Wipe, Swap}
use Rattle.server_trait.specs.declared.FaultPoint.{FaultPoint}
use Rattle.cluster_model.specs.Service.{Service, said_at, request}
use Rattle.cluster_model.specs.Tree.{root, root_of, below}
use Rattle.cluster_model.specs.State.{is_harmed, Condition, Live, Down, Rebuilding, Running, Replica, Lies, lookup, or_else}
use Rattle.cluster_model.specs.Moments.{Moment, Faults, replica, becomes, fails, casts_word, without, casts_root}
use Rattle.cluster_model.specs.Turns.{fails_or, is_checkpoint, passes, runs, ran, takes_checkpoint, turn, quiet_turn, run_turn, slot_turn, slots, moments, last, begins}
use Rattle.cluster_model.specs.Step.{asks, step}
use Rattle.cluster_model.specs.Right.{IsRightLive, IsRightWord, IsRightRoot, IsOrderly}
use Rattle.cluster_model.specs.Calm.{IsPlaceRoot, IsCalmIn, IsCalmReplica, IsCalm, IsHarmless}
use Rattle.cluster_model.specs.Run.{faults_in, fresh, start_fault, run, run_from}
use Rattle.cluster_model.proofs.Places.{array_at-append, said_at-next}
use Rattle.cluster_model.proofs.Seats.{IsSound, put_same, live_within}
use Rattle.cluster_model.proofs.Asking.{live_longer, word_longer}
use Rattle.cluster_model.proofs.Passing.{ran_right, ran_below, taken_right, taken_root, AllBelow}
use Rattle.cluster_model.proofs.Turns.{casts_condition, casts_requests}
use Rattle.cluster_model.proofs.Steps.{turn_cases, prints_state, begins_right}
use Rattle.cluster_model.proofs.Voted.{Voted, Always-moments, Always-append, Always-last}
use Rattle.cluster_model.proofs.VotedRuns.{enough_by, run_voted_all}
use Rattle.cluster_model.specs.Run.{Always, LooseFrom, LooseRun, start}
use Rattle.cluster_model.specs.Settled.{IsRootSettled}
use Rattle.cluster_model.specs.Served.{IsServed}
use Rattle.cluster_model.specs.Loose.{LooseStep}
use Rattle.cluster_model.proofs.Lines.{Chain}
use Rattle.cluster_model.proofs.Headline.{tail, tail_chain, Carried, carries, IsRightStable}
use Rattle.cluster_model.proofs.CalmRoots.{AllPassed, run_passed_roots, run_root_settled, enough_roots}
use Rattle.cluster_model.proofs.Calm.{casts_root_calm, casts_word_calm, fails_calm, put_calm, replica_calm}

-- a replica passes its next place

module _ (S : Service) (laws : IsOrderly S) (r : ℕ) (l : Running) (q : Request) (m : Moment) (h : IsCalm S m.state)
    (live : (replica m.state r).condition ≡ Live l)
    (next : slice_get m.state.requests l.place ≡ Some q) where
  abbrev Q : List Request
  Q = m.state.requests

  abbrev ws : List (ℕ × Word)
  ws = (replica m.state r).words

  abbrev ds : List (ℕ × List ℕ)
  ds = (replica m.state r).roots

  abbrev mid : Running
  mid = ran S q l

  known : IsCalmIn S Q ws ds (Live l)
  known = subst (IsCalmIn S Q ws ds) live (replica_calm S m.state r h)

  mid_right : IsRightLive S Q mid ws ds
  mid_right = ran_right S laws Q q l ws ds known.1 next

  mid_below : AllBelow mid.place mid.holds
  mid_below = ran_below S laws Q q l ws ds known.1 next

  word_right : S.word l.array q ≡ said_at S Q mid.place
  word_right = ap (λ a. S.word a q) known.1.array ∙ sym (said_at-next S Q l.place q next)

  -- with l' for what it becomes
  passes_calm : (l' : Running) → l'.harmed ≡ false → IsRightLive S Q l' ws ds → l'.place ≡ suc l.place →
      l'.lies ≡ l.lies →
      (is_checkpoint S l'.place ≡ true → IsRightRoot S Q l' (l'.place, root_of S l'.believed)) →
      IsCalm S (passes S r l' (S.word l.array q) m).state
  passes_calm l' unharmed right place lies root = by (is_checkpoint S l'.place) refl
    where
      n : Moment
      n = becomes r (Live l') m

      none : l'.lies ≡ record { words = []; roots = []; items = [] }
      none = right.lies

      entered : IsCalm S (becomes r (Live l') m).state
      entered = put_calm S m.state r (record (replica m.state r) { condition = Live l' }) h (unharmed, right)

      there : (replica (becomes r (Live l') m).state r).condition ≡ Live l'
      there = ap (λ (y : Replica). y.condition)
          (put_same m.state r (record (replica m.state r) { condition = Live l' }) (live_within m.state r l live))

      word : Word
      word = or_else (lookup l'.place l'.lies.words) (S.word l.array q)

      honest_word : or_else (lookup l'.place l'.lies.words) (S.word l.array q) ≡ said_at S Q l'.place
      honest_word = ap (λ (x : Lies). or_else (lookup l'.place x.words) (S.word l.array q)) right.lies ∙ word_right
          ∙ ap (said_at S Q) (sym place)

      cast : Moment
      cast = casts_word S r l'.place (or_else (lookup l'.place l'.lies.words) (S.word l.array q))
          (becomes r (Live l') m)

      said : IsCalm S (casts_word S r l'.place (or_else (lookup l'.place l'.lies.words) (S.word l.array q))
          (becomes r (Live l') m)).state
      said = casts_word_calm S r l'.place (or_else (lookup l'.place l'.lies.words) (S.word l.array q)) l'
          (becomes r (Live l') m) entered there
          (omega (arith, place), omega arith, honest_word)

      still : (replica (casts_word S r l'.place (or_else (lookup l'.place l'.lies.words) (S.word l.array q))
          (becomes r (Live l') m)).state r).condition ≡ Live l'
      still = casts_condition S r l'.place (or_else (lookup l'.place l'.lies.words) (S.word l.array q))
          (becomes r (Live l') m) r ∙ there

      d : List ℕ
      d = or_else (lookup l'.place l'.lies.roots) (root_of S l'.believed)

      honest_root : or_else (lookup l'.place l'.lies.roots) (root_of S l'.believed) ≡ root_of S l'.believed
      honest_root = ap (λ (x : Lies). or_else (lookup l'.place x.roots) (root_of S l'.believed)) right.lies

      by : (b : Bool) → is_checkpoint S l'.place ≡ b →
          IsCalm S (cond b (casts_root S r l'.place (or_else (lookup l'.place l'.lies.roots) (root_of S l'.believed))
          (casts_word S r l'.place (or_else (lookup l'.place l'.lies.words) (S.word l.array q))
          (becomes r (Live l') m)))
          (casts_word S r l'.place (or_else (lookup l'.place l'.lies.words) (S.word l.array q))
          (becomes r (Live l') m))).state
      by false e = said
      by true e = casts_root_calm S r l'.place (or_else (lookup l'.place l'.lies.roots) (root_of S l'.believed)) l'
          (casts_word S r l'.place (or_else (lookup l'.place l'.lies.words) (S.word l.array q))
          (becomes r (Live l') m)) said still
          (subst (λ k. IsRightRoot S k l' (l'.place, or_else (lookup l'.place l'.lies.roots) (root_of S l'.believed)))
          (sym (casts_requests S r l'.place (or_else (lookup l'.place l'.lies.words) (S.word l.array q))
          (becomes r (Live l') m)))
          (subst (λ t. IsRightRoot S Q l' (l'.place, t)) (sym honest_root) (root e)))

  runs_calm : IsCalm S (runs S r l q m).state
  runs_calm = by (is_checkpoint S mid.place) refl
    where
      by : (b : Bool) → is_checkpoint S mid.place ≡ b →
          IsCalm S (passes S r (cond b (takes_checkpoint S mid) mid) (S.word l.array q) m).state
      by true e = passes_calm (takes_checkpoint S mid) known.0 (taken_right S Q mid ws ds mid_right mid_below) refl refl
          (λ t. taken_root S Q mid ws ds mid_right mid_below (taken_right S Q mid ws ds mid_right mid_below)
          (omega arith))
      by false e = passes_calm mid known.0 mid_right refl refl (λ t. absurd (cc))

-- records

module _ (S : Service) (laws : IsOrderly S) where
  or_calm : (fault : Bool) (r : ℕ) (does : Moment → Moment) (m : Moment) → IsCalm S m.state → IsCalm S (does m).state →
      IsCalm S (fails_or fault r does m).state
  or_calm true r does m h g = fails_calm S r m h
  or_calm false r does m h g = g

  quiet_calm : (fault : Bool) (r : ℕ) (m : Moment) → IsCalm S m.state →
      IsCalm S (quiet_turn S fault r (turn S m.state r) m).state
  quiet_calm fault r m h = turn_cases S m.state r (λ t. IsCalm S (quiet_turn S fault r t m).state)
      (λ l q live next. or_calm fault r (runs S r l q) m h (runs_calm S laws r l q m h live next)) (λ c. h)

  run_calm : (fault : Bool) (r : ℕ) (m : Moment) → IsCalm S m.state →
      IsCalm S (run_turn S fault r (turn S m.state r) m).state
  run_calm fault r m h = turn_cases S m.state r (λ t. IsCalm S (run_turn S fault r t m).state)
      (λ l q live next. or_calm fault r (runs S r l q) m h (runs_calm S laws r l q m h live next)) (λ c. h)

  longer_in : (q : List Request) (a : Request) (vs : List (ℕ × Word)) (es : List (ℕ × List ℕ)) (c : Condition) →
      IsCalmIn S q vs es c → IsCalmIn S (q ++ a ∷ []) vs es c
  longer_in q a vs es (Live l) h = (h.0, live_longer S q a l vs es h.1)
  longer_in q a vs es Down h =
      let e : length (q ++ a ∷ []) ≡ length q + 1 = length-append q (a ∷ []) in (
        All-weaker (IsRightWord S q (length q)) (IsRightWord S (q ++ a ∷ []) (length (q ++ a ∷ [])))
            (λ w g. let f = word_longer S q a (length q) (omega arith) w g in (f.0, omega (arith, f.1), f.2)) vs h.0,
        All-weaker (IsPlaceRoot S q) (IsPlaceRoot S (q ++ a ∷ []))
            (λ d g. (omega (arith, g.0), g.1 ∙ ap (root S) (sym (array_at-append S q a d.0 g.0)))) es h.1,
      )
  longer_in q a vs es (Rebuilding b) h = absurd h

  asks_calm : (a : Request) (m : Moment) → IsCalm S m.state → IsCalm S (asks a m).state
  asks_calm a m h =
      let s = m.state in
      let q = s.requests in
      let e : length (q ++ a ∷ []) ≡ length q + 1 = length-append q (a ∷ []) in
      let low : s.stable ≤ length q = h.stable in
      record {
        stable = omega arith;
        stable_root = h.stable_root ∙ ap (root S) (sym (array_at-append S q a s.stable low));
        decided = All-weaker (IsRightWord S q (length q)) (IsRightWord S (q ++ a ∷ []) (length (q ++ a ∷ [])))
            (λ w g. let f = word_longer S q a (length q) (omega arith) w g in
            (f.0, omega (arith, f.1), f.2)) s.decisions h.decided;
        replicas = All-weaker (IsCalmReplica S q) (IsCalmReplica S (q ++ a ∷ []))
            (λ x g. longer_in q a x.words x.roots x.condition g) s.replicas h.replicas;
      }

  abbrev CalmAt : Moment → Type 0
  CalmAt m = IsCalm S m.state

  step_calm : (faults : Faults) (e : Event) (m : Moment) → IsHarmless e → CalmAt m → Always CalmAt (step S faults e m)
  step_calm faults (Ask client time bytes) m harmless h = (asks_calm (request time bytes) m h, tt)
  step_calm faults (Run r) m harmless h = (run_calm (faults 0 r) r m h, tt)
  step_calm faults RunAll m harmless h =
      let ts = slots (length m.state.requests) (length m.state.replicas) in
      let ms = moments (slot_turn S faults) m ts in
      let hs = Always-moments CalmAt (slot_turn S faults)
      (λ n t g. quiet_calm (faults t.round t.replica) t.replica n g) m ts h in
      Always-append CalmAt ms (last m ms ∷ []) hs (Always-last CalmAt m ms h hs, tt)
  step_calm faults End m harmless h = (subst (IsCalm S) (sym (prints_state 0 m.state.replicas m)) h, tt)
  step_calm faults (Reboot r) m harmless h = absurd harmless
  step_calm faults (Fetch r n) m harmless h = absurd harmless
  step_calm faults (Rogue r time bytes) m harmless h = absurd harmless
  step_calm faults (Skip r) m harmless h = absurd harmless
  step_calm faults (Scratch r i o b) m harmless h = absurd harmless
  step_calm faults (LieReply r p w) m harmless h = absurd harmless
  step_calm faults (LieRoot r p d) m harmless h = absurd harmless
  step_calm faults (LieItem r level number t) m harmless h = absurd harmless
  step_calm faults (Wipe r) m harmless h = absurd harmless
  step_calm faults (Swap r spare) m harmless h = absurd harmless

  fresh_calm : (servers : ℕ) → CalmAt (fresh S servers)
  fresh_calm servers =
      let x : Replica = record { condition = Live (begins S 0 S.empty); words = []; roots = [] } in
      record {
        stable = omega arith;
        stable_root = refl;
        decided = All-nil (IsRightWord S [] 0);
        replicas = All-replicate (IsCalmReplica S []) (3 * S.f + 1) x (refl, begins_right S [] 0 (omega arith));
      }

  start_calm : (faults : Faults) (m : Moment) (r : ℕ) → CalmAt m → CalmAt (start_fault faults m r)
  start_calm faults m r h = by (faults 0 r)
    where
      by : (b : Bool) → IsCalm S (cond b (fails r m) m).state
      by true = fails_calm S r m h
      by false = h

  run_from_calm : (downs : List FaultPoint) (e : ℕ) (events : List Event) (m : Moment) → All IsHarmless events →
      CalmAt m → Always CalmAt (run_from S downs e events m)
  run_from_calm downs e [] m harmless h = tt
  run_from_calm downs e (event ∷ events) m harmless h =
      let ms = step S (faults_in downs e) event m in
      let hs = step_calm (faults_in downs e) event m (All-head IsHarmless event events harmless) h in
      Always-append CalmAt ms (run_from S downs (suc e) events (last m ms)) hs
      (run_from_calm downs (suc e) events (last m ms) (All-tail IsHarmless event events harmless)
      (Always-last CalmAt m ms h hs))

  -- every decision is right and every Live replica has the array of its place, however many servers fail
  pub run_all_calm : (servers : ℕ) (downs : List FaultPoint) (events : List Event) → All IsHarmless events →
      Always CalmAt (run S servers downs events)
  run_all_calm servers downs events harmless =
      let m = fresh S servers in
      let ms = moments (start_fault (faults_in downs 0)) m (below (3 * S.f + 1)) in
      let h = fresh_calm servers in
      let hs = Always-moments CalmAt (start_fault (faults_in downs 0)) (λ n r g. start_calm (faults_in downs 0) n r g) m
      (below (3 * S.f + 1)) h in (
        h,
        Always-append CalmAt ms (run_from S downs 1 events (last m ms)) hs
            (run_from_calm downs 1 events (last m ms) harmless (Always-last CalmAt m ms h hs)),
      )

  sound_calm : (q : List Request) (x : Replica) (c : Condition) → x.condition ≡ c → IsCalmIn S q x.words x.roots c →
      is_harmed c ≡ false → IsSound S q x
  sound_calm q x (Live l) e h u = record { live = l; is_live = e; unharmed = h.0; right = h.1 }
  sound_calm q x Down e h u = absurd (cc)
  sound_calm q x (Rebuilding b) e h u = absurd h

  abbrev CarriedAt : Moment → Type 0
  CarriedAt m = Carried S m

  calm_carried : (m : Moment) (ms : List Moment) → Chain m ms → Carried S m → Always CalmAt ms → Always CarriedAt ms
  calm_carried m [] chain h g = tt
  calm_carried m (n ∷ ms) chain h g =
      let calm : IsCalm S n.state = g.0 in
      let k = carries S m n chain.0 (calm.stable, calm.stable_root) h in (k, calm_carried n ms chain.1 k g.1)

  calm_served : (ms : List Moment) → Always CalmAt ms → Always (Voted S) ms → Always CarriedAt ms →
      Always (AllPassed S) ms → Always (λ n. IsRootSettled S n.state) ms → Always (IsServed S) ms
  calm_served [] h g c a d = tt
  calm_served (m ∷ ms) h g c a d = (
    record {
      calm = h.0;
      enough = enough_by S m (λ r u. sound_calm m.state.requests (replica m.state r) (replica m.state r).condition refl
          (replica_calm S m.state r h.0) u) g.0;
      rooted = c.0.1;
      enough_roots = enough_roots S m h.0 a.0 d.0;
    },
    calm_served ms h.1 g.1 c.1 a.1 d.1,
  )

  -- without a Fetch a loose run is Step's
  same_calm : (faults : Faults) (e : Event) (m : Moment) (ms : List Moment) → IsHarmless e → LooseStep S faults e m ms →
      ms ≡ step S faults e m
  same_calm faults (Ask client time bytes) m ms harmless loose = loose
  same_calm faults (Run r) m ms harmless loose = loose
  same_calm faults RunAll m ms harmless loose = loose
  same_calm faults End m ms harmless loose = loose
  same_calm faults (Reboot r) m ms harmless loose = absurd harmless
  same_calm faults (Fetch r n) m ms harmless loose = absurd harmless
  same_calm faults (Rogue r time bytes) m ms harmless loose = absurd harmless
  same_calm faults (Skip r) m ms harmless loose = absurd harmless
  same_calm faults (Scratch r i o b) m ms harmless loose = absurd harmless
  same_calm faults (LieReply r p w) m ms harmless loose = absurd harmless
  same_calm faults (LieRoot r p d) m ms harmless loose = absurd harmless
  same_calm faults (LieItem r level number t) m ms harmless loose = absurd harmless
  same_calm faults (Wipe r) m ms harmless loose = absurd harmless
  same_calm faults (Swap r spare) m ms harmless loose = absurd harmless

  same_from : (downs : List FaultPoint) (e : ℕ) (events : List Event) (m : Moment) (ms : List Moment) →
      All IsHarmless events → LooseFrom S downs e events m ms → ms ≡ run_from S downs e events m
  same_from downs e [] m ms harmless loose = loose
  same_from downs e (event ∷ events) m ms harmless loose =
      let now = loose.0 in
      let same : now ≡ step S (faults_in downs e) event m = same_calm (faults_in downs e) event m now
      (All-head IsHarmless event events harmless) loose.3 in
      let rest : loose.1 ≡ run_from S downs (suc e) events (last m now) = same_from downs (suc e) events
      (last m now) loose.1 (All-tail IsHarmless event events harmless) loose.4 in
      loose.2 ∙ ap (λ xs. now ++ xs) rest ∙ ap (λ ns. ns ++ run_from S downs (suc e) events (last m ns)) same

  -- of the code's runs
  pub loose_run_calm : (servers : ℕ) (downs : List FaultPoint) (events : List Event) → All IsHarmless events →
      (ms : List Moment) → LooseRun S servers downs events ms → Always (IsServed S) ms
  loose_run_calm servers downs events harmless ms loose =
      let ss = start S servers downs in
      let same : ms ≡ run S servers downs events = loose.1
      ∙ ap (λ xs. ss ++ xs) (same_from downs 1 events (last (fresh S servers) ss) loose.0 harmless loose.2) in
      let all = run_all_calm servers downs events harmless in
      let first : Carried S (fresh S servers) = (refl, All-nil (IsRightStable S [])) in
      subst (Always (IsServed S)) (sym same)
      (calm_served (run S servers downs events) all
      (run_voted_all S servers downs events)
      (first, calm_carried (fresh S servers) (tail S servers downs events) (tail_chain S servers downs events) first all.1)
      (run_passed_roots S servers downs events harmless)
      (run_root_settled S servers downs events harmless))
