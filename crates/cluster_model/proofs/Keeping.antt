-- What the small changes of a state keep, each event keeps at each of its moments.
use Rattle.std.proofs.Common.{◌≡◌, ℕ, suc, Bool, true, false, cond, List, [], ◌∷◌, ◌++◌, length, refl, sym, subst}
use Rattle.std.specs.Prelude.{Option, Some, None}
use Rattle.abs_model.specs.declared.Entry.{Entry}
use Rattle.cluster_model.specs.declared.request.Request.{Request}
use Rattle.nfs2_types.specs.declared.Word.{Word}
use Rattle.log_format.specs.declared.Event.{Event}
use Rattle.log_format.specs.declared.Event.TheVariants.{Request as Ask, Run, RunAll, Reboot, Fetch, Rogue, Skip, Scratch, LieReply, LieRoot, LieItem, Wipe, Swap, End}
use Rattle.log_format.specs.declared.Line.TheVariants as lines
use Rattle.log_format.specs.declared.IdleCause.TheVariants.{NotLive}
use Rattle.cluster_model.specs.Service.{Service, request}
use Rattle.cluster_model.specs.Tree.{Item, root_of, item}
use Rattle.cluster_model.specs.State.{Condition, Live, Down, Rebuilding, Running, Fetching, State, lookup, or_else}
use Rattle.cluster_model.specs.Moments.{Moment, Faults, replica, put, print, becomes, fails, casts_word, casts_root}
use Rattle.cluster_model.specs.Turns.{fails_or, harm, turn, run_turn, rogue_turn, skip_turn, quiet_turn, slot_turn, slots, moments, last, begins, passes, runs, skips, skipped, ran, checked, is_checkpoint, casts_root_of}
use Rattle.cluster_model.specs.Step.{FetchEnd, Missing, Forgets, Whole, harms, wiped, scratches, exchanged, swaps, withdraws, rebooted, if_rebuilding, stage_fault, stage_moments, stage_order, is_live, gets, ends_fetch, fetches, aims, aimed, lies_word, lies_root, lies_item}
use Rattle.cluster_model.specs.Loose.{LooseStep, LooseFetch}
use Rattle.std.specs.Prelude.{◌&&◌, ◌||◌, ◌==◌}
use Rattle.cluster_model.proofs.Steps.{turn_cases, if_live_cases, if_rebuilding_cases, prints_state}
use Rattle.cluster_model.proofs.Voted.{Always-moments, Always-append, Always-last}
use Rattle.cluster_model.specs.Run.{Always}

pub record IsClosed (S : Service) (P : State → Type 0) : Type 0 where
  pub live : (r : ℕ) (l : Running) (s : State) → P s → P (put r (record (replica s r) { condition = Live l }) s)
  pub down : (r : ℕ) (s : State) → P s → P (put r (record (replica s r) { condition = Down }) s)
  pub reboot : (r : ℕ) (c : Condition) (s : State) → P s →
      P (put r (record (replica s r) { condition = rebooted S c }) s)
  pub withdraw : (r : ℕ) (s : State) → P s → P (put r (record (replica s r) { words = []; roots = [] }) s)
  pub word : (r p : ℕ) (w : Word) (m : Moment) → P m.state → P (casts_word S r p w m).state
  pub root_word : (r p : ℕ) (d : List ℕ) (m : Moment) → P m.state → P (casts_root S r p d m).state
  pub ask : (q : Request) (s : State) → P s → P (record s { requests = s.requests ++ q ∷ [] })

module _ (S : Service) (P : State → Type 0) (closed : IsClosed S P) where
  abbrev pub Kept : Moment → Type 0
  Kept m = P m.state

  pub fails_keeps : (r : ℕ) (m : Moment) → Kept m → Kept (fails r m)
  fails_keeps r m h = closed.down r m.state h

  or_keeps : (fault : Bool) (r : ℕ) (does : Moment → Moment) (m : Moment) → Kept m → Kept (does m) →
      Kept (fails_or fault r does m)
  or_keeps true r does m h g = fails_keeps r m h
  or_keeps false r does m h g = g

  lives_keeps : (r : ℕ) (l : Running) (m : Moment) → Kept m → Kept (becomes r (Live l) m)
  lives_keeps r l m h = closed.live r l m.state h

  root_of_keeps : (r : ℕ) (l : Running) (m : Moment) → Kept m → Kept (casts_root_of S r l m)
  root_of_keeps r l m h = by (is_checkpoint S l.place)
    where
      by : (b : Bool) → Kept
          (cond b (casts_root S r l.place (or_else (lookup l.place l.lies.roots) (root_of S l.believed)) m) m)
      by true = closed.root_word r l.place (or_else (lookup l.place l.lies.roots) (root_of S l.believed)) m h
      by false = h

  passes_keeps : (r : ℕ) (l : Running) (w : Word) (m : Moment) → Kept m → Kept (passes S r l w m)
  passes_keeps r l w m h =
      let n = becomes r (Live l) m in
      let v = or_else (lookup l.place l.lies.words) w in
      root_of_keeps r l (casts_word S r l.place v n) (closed.word r l.place v n (lives_keeps r l m h))

  skips_keeps : (r : ℕ) (l : Running) (m : Moment) → Kept m → Kept (skips S r l m)
  skips_keeps r l m h = root_of_keeps r (checked S (skipped l)) (becomes r (Live (checked S (skipped l))) m)
      (lives_keeps r (checked S (skipped l)) m h)

  quiet_keeps : (fault : Bool) (r : ℕ) (m : Moment) → Kept m → Kept (quiet_turn S fault r (turn S m.state r) m)
  quiet_keeps fault r m h = turn_cases S m.state r (λ t. Kept (quiet_turn S fault r t m))
      (λ l q live next. or_keeps fault r (runs S r l q) m h
      (passes_keeps r (checked S (ran S q l)) (S.word l.array q) m h)) (λ c. h)

  run_keeps : (fault : Bool) (r : ℕ) (m : Moment) → Kept m → Kept (run_turn S fault r (turn S m.state r) m)
  run_keeps fault r m h = turn_cases S m.state r (λ t. Kept (run_turn S fault r t m))
      (λ l q live next. or_keeps fault r (runs S r l q) m h
      (passes_keeps r (checked S (ran S q l)) (S.word l.array q) m h)) (λ c. h)

  rogue_keeps : (fault : Bool) (r : ℕ) (q : Request) (m : Moment) → Kept m →
      Kept (rogue_turn S fault r q (turn S m.state r) m)
  rogue_keeps fault r q m h = turn_cases S m.state r (λ t. Kept (rogue_turn S fault r q t m))
      (λ l _ live next. or_keeps fault r (runs S r (harm l) q) m h
      (passes_keeps r (checked S (ran S q (harm l))) (S.word l.array q) m h)) (λ c. h)

  skip_keeps : (fault : Bool) (r : ℕ) (m : Moment) → Kept m → Kept (skip_turn S fault r (turn S m.state r) m)
  skip_keeps fault r m h = turn_cases S m.state r (λ t. Kept (skip_turn S fault r t m))
      (λ l _ live next. or_keeps fault r (skips S r l) m h (skips_keeps r l m h)) (λ c. h)

  harms_keeps : (r : ℕ) (how : Running → Running) (m : Moment) → Kept m → Kept (harms r how m)
  harms_keeps r how m h = if_live_cases Kept (print (lines.Idle r NotLive) m) (replica m.state r).condition
      (λ l. becomes r (Live (harm (how l))) m)
      h (λ l. lives_keeps r (harm (how l)) m h)

  scratches_keeps : (r : ℕ) (l : Running) (o : Option (List Entry)) (m : Moment) → Kept m → Kept (scratches r l o m)
  scratches_keeps r l None m h = h
  scratches_keeps r l (Some a) m h = lives_keeps r (harm (record l { array = a })) m h

  swaps_keeps : (fault : Bool) (r spare : ℕ) (c : Condition) (m : Moment) → Kept m → Kept (exchanged r spare m) →
      Kept (swaps S fault r spare c m)
  swaps_keeps fault r spare (Live l) m h k =
      let n = exchanged r spare m in
      or_keeps fault r (becomes r (Live (harm (wiped S l)))) n k (lives_keeps r (harm (wiped S l)) n k)
  swaps_keeps fault r spare Down m h k = k
  swaps_keeps fault r spare (Rebuilding b) m h k = h

  reboot_keeps : (fault : Bool) (r : ℕ) (m : Moment) → Kept m →
      Kept (fails_or fault r (λ n. becomes r (rebooted S (replica m.state r).condition) n) (withdraws r m))
  reboot_keeps fault r m h =
      let k : Kept (withdraws r m) = closed.withdraw r m.state h in
      or_keeps fault r (λ n. becomes r (rebooted S (replica m.state r).condition) n) (withdraws r m) k
      (closed.reboot r (replica m.state r).condition (withdraws r m).state k)

  pub slot_keeps : (faults : Faults) (m : Moment) → Kept m →
      Always Kept (moments (slot_turn S faults) m (slots (length m.state.requests) (length m.state.replicas)))
  slot_keeps faults m h = Always-moments Kept (slot_turn S faults)
      (λ n t g. quiet_keeps (faults t.round t.replica) t.replica n g) m
      (slots (length m.state.requests) (length m.state.replicas)) h

  one_keeps : (n : Moment) (ms : List Moment) → ms ≡ n ∷ [] → Kept n → Always Kept ms
  one_keeps n ms e h = subst (Always Kept) (sym e) (h, tt)

  -- each event, a Fetch and the exchange of a Swap being shown by themselves
  pub loose_keeps : (faults : Faults) (m : Moment) → Kept m → (e : Event) →
      ((r n : ℕ) → e ≡ Fetch r n → (ms : List Moment) → LooseFetch S faults r n m (replica m.state r).condition ms →
      Always Kept ms) →
      ((r spare : ℕ) → e ≡ Swap r spare → Kept (exchanged r spare m)) → (ms : List Moment) → LooseStep S faults e m ms →
      Always Kept ms
  loose_keeps faults m h (Fetch r n) fetch exchange ms loose = fetch r n refl ms loose
  loose_keeps faults m h (Ask client time bytes) fetch exchange ms loose = one_keeps _ ms loose
      (closed.ask (request time bytes) m.state h)
  loose_keeps faults m h (Run r) fetch exchange ms loose = one_keeps _ ms loose (run_keeps (faults 0 r) r m h)
  loose_keeps faults m h RunAll fetch exchange ms loose =
      let ts = slots (length m.state.requests) (length m.state.replicas) in
      let ns = moments (slot_turn S faults) m ts in
      let hs = slot_keeps faults m h in
      subst (Always Kept) (sym loose) (Always-append Kept ns (last m ns ∷ []) hs (Always-last Kept m ns h hs, tt))
  loose_keeps faults m h (Reboot r) fetch exchange ms loose = one_keeps _ ms loose (reboot_keeps (faults 0 r) r m h)
  loose_keeps faults m h (Rogue r time bytes) fetch exchange ms loose = one_keeps _ ms loose
      (rogue_keeps (faults 0 r) r (request time bytes) m h)
  loose_keeps faults m h (Skip r) fetch exchange ms loose = one_keeps _ ms loose (skip_keeps (faults 0 r) r m h)
  loose_keeps faults m h (Scratch r i offset bytes) fetch exchange ms loose = one_keeps _ ms loose
      (if_live_cases Kept (print (lines.Idle r NotLive) m) (replica m.state r).condition
      (λ l. fails_or (faults 0 r) r (scratches r l (S.scratched l.array i offset bytes)) m)
      h (λ l. or_keeps (faults 0 r) r (scratches r l (S.scratched l.array i offset bytes)) m h
      (scratches_keeps r l (S.scratched l.array i offset bytes) m h)))
  loose_keeps faults m h (LieReply r p w) fetch exchange ms loose = one_keeps _ ms loose
      (harms_keeps r (lies_word p w) m h)
  loose_keeps faults m h (LieRoot r p d) fetch exchange ms loose = one_keeps _ ms loose
      (harms_keeps r (lies_root p d) m h)
  loose_keeps faults m h (LieItem r level number t) fetch exchange ms loose = one_keeps _ ms loose
      (harms_keeps r (lies_item (item level number) t) m h)
  loose_keeps faults m h (Wipe r) fetch exchange ms loose = one_keeps _ ms loose
      (if_live_cases Kept (print (lines.Idle r NotLive) m) (replica m.state r).condition
      (λ l. fails_or (faults 0 r) r (becomes r (Live (harm (wiped S l)))) m)
      h (λ l. or_keeps (faults 0 r) r (becomes r (Live (harm (wiped S l)))) m h (lives_keeps r (harm (wiped S l)) m h)))
  loose_keeps faults m h (Swap r spare) fetch exchange ms loose = one_keeps _ ms loose
      (swaps_keeps (faults 0 r) r spare (replica m.state r).condition m h (exchange r spare refl))
  loose_keeps faults m h End fetch exchange ms loose = one_keeps _ ms loose
      (subst P (sym (prints_state 0 m.state.replicas m)) h)

  -- a Fetch, where any condition may come
  module _ (any : (r : ℕ) (c : Condition) (s : State) → P s →
      P (put r (record (replica s r) { condition = c }) s)) where
    pub stage_keeps : (faults : Faults) (r stage : ℕ) (m : Moment) (j : ℕ) → Kept m →
        Kept (stage_fault faults r stage m j)
    stage_keeps faults r stage m j h = by (faults stage j && ((j == r) || is_live (replica m.state j).condition))
      where
        by : (b : Bool) → Kept (cond b (fails j m) m)
        by true = fails_keeps j m h
        by false = h

    ends_keeps : (r : ℕ) (end : FetchEnd) (m : Moment) → Kept m →
        Kept (if_rebuilding m (replica m.state r).condition (λ b. ends_fetch S r end m b))
    ends_keeps r end m h = if_rebuilding_cases S (λ s j. false) r m.state.requests m.state.stable Kept m
        (replica m.state r).condition (λ b. ends_fetch S r end m b) h (λ b live. by end b)
      where
        by : (end : FetchEnd) (b : Fetching) → Kept (ends_fetch S r end m b)
        by Missing b = h
        by Forgets b = any r (Rebuilding (record b { got = [] })) m.state h
        by (Whole a) b = closed.live r (begins S m.state.stable a) m.state h

    fetches_keep : (faults : Faults) (r : ℕ) (end : FetchEnd) (stage : ℕ) (items : List (Item × List ℕ)) (m : Moment) →
        Kept m → Always Kept (fetches S faults r end stage items m)
    fetches_keep faults r end stage [] m h =
        let ms = stage_moments faults r stage m in
        let hs = Always-moments Kept (stage_fault faults r stage) (λ n j g. stage_keeps faults r stage n j g) m
        (stage_order (length m.state.replicas) r) h in
        let k = last m ms in
        Always-append Kept ms (if_rebuilding k (replica k.state r).condition (λ b. ends_fetch S r end k b) ∷ []) hs
        (ends_keeps r end k (Always-last Kept m ms h hs), tt)
    fetches_keep faults r end stage (x ∷ xs) m h =
        let ms = stage_moments faults r stage m in
        let hs = Always-moments Kept (stage_fault faults r stage) (λ n j g. stage_keeps faults r stage n j g) m
        (stage_order (length m.state.replicas) r) h in
        let k = last m ms in
        let g = Always-last Kept m ms h hs in
        Always-append Kept ms
        (if_rebuilding (k ∷ []) (replica k.state r).condition
        (λ b. fetches S faults r end (suc stage) xs (gets r x k b))) hs
        (if_rebuilding_cases S faults r k.state.requests k.state.stable (Always Kept) (k ∷ [])
        (replica k.state r).condition
        (λ b. fetches S faults r end (suc stage) xs (gets r x k b)) (g, tt)
        (λ b live. fetches_keep faults r end (suc stage) xs (gets r x k b)
        (any r (Rebuilding (record b { got = b.got ++ x ∷ [] })) k.state g)))

    fetch_keeps : (faults : Faults) (m : Moment) → Kept m → (r n : ℕ) (c : Condition) (ms : List Moment) →
        LooseFetch S faults r n m c ms → Always Kept ms
    fetch_keeps faults m h r n (Live l) ms loose = one_keeps _ ms loose h
    fetch_keeps faults m h r n Down ms loose = one_keeps _ ms loose h
    fetch_keeps faults m h r n (Rebuilding b) ms loose = subst (Always Kept) (sym loose.3)
        (fetches_keep faults r loose.1 0 loose.0 (aims r m b) (any r (Rebuilding (aimed m.state.stable b)) m.state h))

    pub any_keeps : (faults : Faults) (m : Moment) → Kept m → (e : Event) →
        ((r spare : ℕ) → e ≡ Swap r spare → Kept (exchanged r spare m)) → (ms : List Moment) →
        LooseStep S faults e m ms → Always Kept ms
    any_keeps faults m h e exchange ms loose = loose_keeps faults m h e
        (λ r n is ks l. fetch_keeps faults m h r n (replica m.state r).condition ks l) exchange ms loose
