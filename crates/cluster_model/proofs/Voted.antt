-- At every moment of a run of Step each place for which f + 1 equal words stand is decided, and each replica has its
-- words.
use Rattle.std.proofs.Common.{◌≡◌, ◌≢◌, ◌⊎◌, ℕ, suc, ◌+◌, ◌*◌, ◌≤◌, Bool, true, false, cond, ◌||◌, ◌&&◌, List, [], ◌∷◌, ◌++◌, length, refl, sym, ◌∙◌, ap, subst, inl, inr, ⊎_elim, arith}
use Rattle.std.specs.Prelude.{Option, Some, None, ◌==◌, not}
use Rattle.std.proofs.lemmas.Bool.{eqb-true, eq-eqb, cases_eq}
use Rattle.std.proofs.lemmas.List.{get_or-set_other}
use Rattle.abs_model.specs.declared.Entry.{Entry}
use Rattle.cluster_model.proofs.Tells.{since-at}
use Rattle.cluster_model.specs.declared.request.Request.{Request}
use Rattle.nfs2_types.specs.declared.Word.{Word}
use Rattle.log_format.specs.declared.IdleCause.{IdleCause}
use Rattle.log_format.specs.declared.Event.{Event}
use Rattle.log_format.specs.declared.Line.{Line}
use Rattle.log_format.specs.declared.Event.TheVariants.{Request as Ask, Run, RunAll, Reboot, Fetch, Rogue, Skip, Scratch, LieReply, LieRoot, LieItem, Wipe, Swap, End}
use Rattle.log_format.specs.declared.Line.TheVariants as lines
use Rattle.log_format.specs.declared.IdleCause.TheVariants.{NotLive, NotRebuilding, NoBytes}
use Rattle.cluster_model.specs.Service.{Service, array_at, request}
use Rattle.cluster_model.specs.Tree.{Item, root_of, item}
use Rattle.cluster_model.specs.State.{Condition, Live, Down, Rebuilding, Running, Fetching, Replica, lookup, has, or_else, is_harmed}
use Rattle.cluster_model.specs.Moments.{Moment, Faults, gone, replica, print, becomes, fails, casts_word, casts_root}
use Rattle.cluster_model.specs.Turns.{fails_or, harm, turn, run_turn, rogue_turn, skip_turn, quiet_turn, slot_turn, slots, moments, last, begins, passes, runs, skips, skipped, ran, checked, takes_checkpoint, is_checkpoint, casts_root_of}
use Rattle.cluster_model.specs.Step.{FetchEnd, Missing, Forgets, Whole, at_line, nodes_of, objects_of, harms, wiped, scratches, exchanged, swaps, withdraws, rebooted, if_rebuilding, stage_fault, stage_moments, stage_order, is_live, gets, ends_fetch, fetches, fetch_towards, end_towards, items_towards, aims, aimed, prints_ends, step, lies_word, lies_root, lies_item}
use Rattle.cluster_model.specs.Settled.{IsSettled}
use Rattle.cluster_model.specs.Run.{Always, since, since_step, place_in}
use Rattle.cluster_model.proofs.Steps.{turn_cases, if_live_cases, if_rebuilding_cases}
use Rattle.cluster_model.proofs.Enough.{put_settled, casts_word_settled, casts_root_settled}
use Rattle.cluster_model.proofs.Ran.{since-print, Passed, Keeps, keeps_passed, keeps_print, keeps_then, becomes_passed, becomes_other, becomes_own, passes_passed, casts_root_of_keeps}

abbrev pub Voted : Service → Moment → Type 0
Voted S m = IsSettled S m.state × ((r : ℕ) → Passed r m)

module _ (S : Service) where
  print_voted : (x : Line) (m : Moment) → ((r p : ℕ) → since_step r p x ≡ p) → Voted S m → Voted S (print x m)
  print_voted x m plain h = (h.0, λ r. keeps_passed r m (print x m) (keeps_print r x m (plain r)) (h.1 r))

  becomes_settled : (j : ℕ) (c : Condition) (m : Moment) → IsSettled S m.state → IsSettled S (becomes j c m).state
  becomes_settled j c m h = put_settled S m.state j (record (replica m.state j) { condition = c }) (λ p w t. t) h

  becomes_voted : (j : ℕ) (c : Condition) (m : Moment) → ((l : Running) → c ≡ Live l → l.harmed ≡ false → ⊥) →
      Voted S m → Voted S (becomes j c m)
  becomes_voted j c m dead h = (becomes_settled j c m h.0, λ r. becomes_passed j c m dead r (h.1 r))

  pub fails_voted : (j : ℕ) (m : Moment) → Voted S m → Voted S (fails j m)
  fails_voted j m h = print_voted (lines.Down j) (becomes j Down m) (λ r p. refl)
      (becomes_voted j Down m (λ l e u. absurd (cc)) h)

  harmed_voted : (j : ℕ) (l : Running) (m : Moment) → l.harmed ≡ true → Voted S m → Voted S (becomes j (Live l) m)
  harmed_voted j l m harmed h = becomes_voted j (Live l) m
      (λ o e u. (let f : true ≡ is_harmed (Live o) = sym harmed ∙ ap is_harmed e in absurd (cc))) h

  rebuilding_voted : (j : ℕ) (b : Fetching) (m : Moment) → Voted S m → Voted S (becomes j (Rebuilding b) m)
  rebuilding_voted j b m h = becomes_voted j (Rebuilding b) m (λ l e u. absurd (cc)) h

  root_of_settled : (j : ℕ) (l : Running) (m : Moment) → IsSettled S m.state → IsSettled S (casts_root_of S j l m).state
  root_of_settled j l m h = by (is_checkpoint S l.place)
    where
      d : List ℕ
      d = or_else (lookup l.place l.lies.roots) (root_of S l.believed)

      by : (b : Bool) → IsSettled S (cond b (casts_root S j l.place d m) m).state
      by true = casts_root_settled S j l.place d m h
      by false = h

  passes_voted : (j : ℕ) (l l' : Running) (w : Word) (m : Moment) → (replica m.state j).condition ≡ Live l →
      l'.place ≡ suc l.place → (l'.harmed ≡ false → l.harmed ≡ false) →
      Voted S m → Voted S (passes S j l' w m)
  passes_voted j l l' w m live next unharmed h =
      let n = becomes j (Live l') m in
      let v = or_else (lookup l'.place l'.lies.words) w in (
        root_of_settled j l' (casts_word S j l'.place v n)
            (casts_word_settled S j l'.place v n (becomes_settled j (Live l') m h.0)),
        passes_passed S j l l' w m live next unharmed h.1,
      )

  checked_place : (l : Running) → (checked S l).place ≡ l.place
  checked_place l = by (is_checkpoint S l.place)
    where
      by : (b : Bool) → (cond b (takes_checkpoint S l) l).place ≡ l.place
      by true = refl
      by false = refl

  checked_harmed : (l : Running) → (checked S l).harmed ≡ l.harmed
  checked_harmed l = by (is_checkpoint S l.place)
    where
      by : (b : Bool) → (cond b (takes_checkpoint S l) l).harmed ≡ l.harmed
      by true = refl
      by false = refl

  runs_voted : (j : ℕ) (l : Running) (q : Request) (m : Moment) → (replica m.state j).condition ≡ Live l → Voted S m →
      Voted S (runs S j l q m)
  runs_voted j l q m live h = passes_voted j l (checked S (ran S q l)) (S.word l.array q) m live
      (checked_place (ran S q l))
      (λ u. sym (checked_harmed (ran S q l)) ∙ u) h

  rogues_voted : (j : ℕ) (l : Running) (q : Request) (m : Moment) → (replica m.state j).condition ≡ Live l → Voted S m →
      Voted S (runs S j (harm l) q m)
  rogues_voted j l q m live h = passes_voted j l (checked S (ran S q (harm l))) (S.word l.array q) m live
      (checked_place (ran S q (harm l)))
      (λ u. absurd (let e = checked_harmed (ran S q (harm l)) in let f : true ≡ false = sym e ∙ u in cc)) h

  skips_voted : (j : ℕ) (l : Running) (m : Moment) → Voted S m → Voted S (skips S j l m)
  skips_voted j l m h =
      let l' = checked S (skipped l) in
      let n = becomes j (Live l') m in
      let g = harmed_voted j l' m (checked_harmed (skipped l)) h in (
        root_of_settled j l' n g.0,
        λ r. keeps_passed r n (casts_root_of S j l' n) (casts_root_of_keeps S r j l' n)
            (g.1 r),
      )

  or_voted : (fault : Bool) (r : ℕ) (does : Moment → Moment) (m : Moment) → Voted S m → Voted S (does m) →
      Voted S (fails_or fault r does m)
  or_voted true r does m h g = fails_voted r m h
  or_voted false r does m h g = g

  idle_voted : (r : ℕ) (c : IdleCause) (m : Moment) → Voted S m → Voted S (print (lines.Idle r c) m)
  idle_voted r c m h = print_voted (lines.Idle r c) m (λ k p. refl) h

  quiet_voted : (fault : Bool) (r : ℕ) (m : Moment) → Voted S m → Voted S (quiet_turn S fault r (turn S m.state r) m)
  quiet_voted fault r m h = turn_cases S m.state r (λ t. Voted S (quiet_turn S fault r t m))
      (λ l q live next. or_voted fault r (runs S r l q) m h (runs_voted r l q m live h)) (λ c. h)

  run_voted : (fault : Bool) (r : ℕ) (m : Moment) → Voted S m → Voted S (run_turn S fault r (turn S m.state r) m)
  run_voted fault r m h = turn_cases S m.state r (λ t. Voted S (run_turn S fault r t m))
      (λ l q live next. or_voted fault r (runs S r l q) m h (runs_voted r l q m live h)) (λ c. idle_voted r c m h)

  rogue_voted : (fault : Bool) (r : ℕ) (q : Request) (m : Moment) → Voted S m →
      Voted S (rogue_turn S fault r q (turn S m.state r) m)
  rogue_voted fault r q m h = turn_cases S m.state r (λ t. Voted S (rogue_turn S fault r q t m))
      (λ l _ live next. or_voted fault r (runs S r (harm l) q) m h (rogues_voted r l q m live h))
      (λ c. idle_voted r c m h)

  skip_voted : (fault : Bool) (r : ℕ) (m : Moment) → Voted S m → Voted S (skip_turn S fault r (turn S m.state r) m)
  skip_voted fault r m h = turn_cases S m.state r (λ t. Voted S (skip_turn S fault r t m))
      (λ l _ live next. or_voted fault r (skips S r l) m h (skips_voted r l m h)) (λ c. idle_voted r c m h)

  -- Reboot: the words are withdrawn, and r is not Live
  withdraws_other : (r j : ℕ) (m : Moment) → r ≢ j → Keeps r m (withdraws j m)
  withdraws_other r j m other =
      let same : replica (withdraws j m).state r ≡ replica m.state r = get_or-set_other m.state.replicas j r
      (record (replica m.state j) { words = []; roots = [] }) gone other in
      record {
        since_same = refl;
        word = λ p h. ⊎_elim (λ e. inl e)
            (λ e. inr (subst (λ (y : Replica). has (lookup p y.words) ≡ true) (sym same) e)) h;
        live = λ l e u. (l, ap (λ (y : Replica). y.condition) (sym same) ∙ e, u, refl);
      }

  reboots_voted : (j : ℕ) (c : Condition) (m : Moment) → ((l : Running) → c ≡ Live l → ⊥) → Voted S m →
      Voted S (becomes j c (withdraws j m))
  reboots_voted j c m dead h =
      let n = withdraws j m in (
        becomes_settled j c n
            (put_settled S m.state j (record (replica m.state j) { words = []; roots = [] })
            (λ p w t. absurd (cc)) h.0),
        λ r. ⊎_elim
            (λ same l e u. absurd
            (dead l (becomes_own j c n l
            (subst (λ i. (replica (becomes j c n).state i).condition ≡ Live l) same e))))
            (λ other. keeps_passed r m (becomes j c n)
            (keeps_then r m n (becomes j c n) (withdraws_other r j m other) (becomes_other r j c n other)) (h.1 r))
            (cases_eq r j),
      )

  rebooted_dead : (c : Condition) (l : Running) → rebooted S c ≡ Live l → ⊥
  rebooted_dead (Live o) l e = absurd (cc)
  rebooted_dead Down l e = absurd (cc)
  rebooted_dead (Rebuilding b) l e = absurd (cc)

  reboot_voted : (fault : Bool) (r : ℕ) (m : Moment) → Voted S m →
      Voted S (fails_or fault r (λ n. becomes r (rebooted S (replica m.state r).condition) n) (withdraws r m))
  reboot_voted true r m h = print_voted (lines.Down r) (becomes r Down (withdraws r m)) (λ k p. refl)
      (reboots_voted r Down m (λ l e. absurd (cc)) h)
  reboot_voted false r m h = reboots_voted r (rebooted S (replica m.state r).condition) m
      (rebooted_dead (replica m.state r).condition) h

  -- Fetch: r begins anew at the place that its line names
  begins_voted : (r p nodes objects : ℕ) (a : List Entry) (m : Moment) → Voted S m →
      Voted S (print (lines.Rebuilt r p nodes objects) (becomes r (Live (begins S p a)) m))
  begins_voted r p nodes objects a m h =
      let n = becomes r (Live (begins S p a)) m in
      let x = lines.Rebuilt r p nodes objects in (
        becomes_settled r (Live (begins S p a)) m h.0,
        λ k. ⊎_elim
            (λ same l e u i low high.
            let f : Live (begins S p a) ≡ Live l = becomes_own r (Live (begins S p a)) m l
            (subst (λ j. (replica n.state j).condition ≡ Live l) same e) in
            let place : p ≡ l.place = ap place_in f in
            let yes : (r == k) ≡ true = eq-eqb r k (sym same) in
            let from : since k (m.lines ++ x ∷ []) ≡ p = since-print k 0 m.lines x
            ∙ ap (λ b. cond b p (since k m.lines)) yes in
            absurd (omega arith))
            (λ other. keeps_passed k n (print x n)
            (keeps_print k x n (λ i.
            (let no' : (r == k) ≡ false = not_eq r k (λ e. other (sym e)) in ap (λ b. cond b p i) no')))
            (keeps_passed k m n (becomes_other k r (Live (begins S p a)) m other) (h.1 k)))
            (cases_eq k r),
      )
    where
      not_eq : (a b : ℕ) → (a ≡ b → ⊥) → (a == b) ≡ false
      not_eq a b h = by (a == b) refl
        where
          by : (t : Bool) → (a == b) ≡ t → t ≡ false
          by true e = absurd (h (eqb-true a b e))
          by false e = refl

pub Always-moments : {X : Type 0} (Q : Moment → Type 0) (small : Moment → X → Moment) →
    ((m : Moment) (x : X) → Q m → Q (small m x)) → (m : Moment) (xs : List X) → Q m → Always Q (moments small m xs)
Always-moments Q small keeps m [] h = tt
Always-moments Q small keeps m (x ∷ xs) h = (keeps m x h, Always-moments Q small keeps (small m x) xs (keeps m x h))

pub Always-last : (Q : Moment → Type 0) (m : Moment) (ms : List Moment) → Q m → Always Q ms → Q (last m ms)
Always-last Q m [] h g = h
Always-last Q m (n ∷ ms) h g = Always-last Q n ms g.0 g.1

pub Always-append : (Q : Moment → Type 0) (ms ns : List Moment) → Always Q ms → Always Q ns → Always Q (ms ++ ns)
Always-append Q [] ns h g = g
Always-append Q (m ∷ ms) ns h g = (h.0, Always-append Q ms ns h.1 g)

module _ (S : Service) (faults : Faults) where
  abbrev V : Moment → Type 0
  V m = Voted S m

  stage_voted : (r stage : ℕ) (m : Moment) (j : ℕ) → V m → V (stage_fault faults r stage m j)
  stage_voted r stage m j h = by (faults stage j && ((j == r) || is_live (replica m.state j).condition))
    where
      by : (b : Bool) → Voted S (cond b (fails j m) m)
      by true = fails_voted S j m h
      by false = h

  ends_voted : (r : ℕ) (end : FetchEnd) (m : Moment) (b : Fetching) → V m → V (ends_fetch S r end m b)
  ends_voted r Missing m b h = print_voted S (lines.Fetching r m.state.stable (length b.got)) m (λ k p. refl) h
  ends_voted r Forgets m b h = print_voted S (lines.Fetching r m.state.stable 0)
      (becomes r (Rebuilding (record b { got = [] })) m) (λ k p. refl)
      (rebuilding_voted S r (record b { got = [] }) m h)
  ends_voted r (Whole a) m b h = begins_voted S r m.state.stable (nodes_of b.got) (objects_of b.got) a m h

  fetches_voted : (r : ℕ) (end : FetchEnd) (stage : ℕ) (items : List (Item × List ℕ)) (m : Moment) → V m →
      Always V (fetches S faults r end stage items m)
  fetches_voted r end stage [] m h =
      let ms = stage_moments faults r stage m in
      let hs = Always-moments V (stage_fault faults r stage) (λ n j g. stage_voted r stage n j g) m
      (stage_order (length m.state.replicas) r) h in
      let k = last m ms in
      let g = Always-last V m ms h hs in
      Always-append V ms (if_rebuilding k (replica k.state r).condition (λ b. ends_fetch S r end k b) ∷ []) hs (
        if_rebuilding_cases S faults r k.state.requests k.state.stable V k (replica k.state r).condition
            (λ b. ends_fetch S r end k b) g (λ b live. ends_voted r end k b g),
        tt,
      )
  fetches_voted r end stage (x ∷ xs) m h =
      let ms = stage_moments faults r stage m in
      let hs = Always-moments V (stage_fault faults r stage) (λ n j g. stage_voted r stage n j g) m
      (stage_order (length m.state.replicas) r) h in
      let k = last m ms in
      let g = Always-last V m ms h hs in
      Always-append V ms (if_rebuilding (k ∷ []) (replica k.state r).condition
      (λ b. fetches S faults r end (suc stage) xs (gets r x k b))) hs
      (if_rebuilding_cases S faults r k.state.requests k.state.stable (Always V) (k ∷ []) (replica k.state r).condition
      (λ b. fetches S faults r end (suc stage) xs (gets r x k b)) (g, tt)
      (λ b live. fetches_voted r end (suc stage) xs (gets r x k b)
      (rebuilding_voted S r (record b { got = b.got ++ x ∷ [] }) k g)))

  harms_voted : (r : ℕ) (how : Running → Running) (m : Moment) → V m → V (harms r how m)
  harms_voted r how m h = if_live_cases V (print (lines.Idle r NotLive) m) (replica m.state r).condition
      (λ l. becomes r (Live (harm (how l))) m)
      (idle_voted S r NotLive m h) (λ l. harmed_voted S r (harm (how l)) m refl h)

  prints_voted : (r : ℕ) (xs : List Replica) (m : Moment) → V m → V (prints_ends r xs m)
  prints_voted r [] m h = h
  prints_voted r (x ∷ xs) m h = prints_voted (suc r) xs (print (at_line r x.condition) m)
      (print_voted S (at_line r x.condition) m (λ k p. since-at k p r x.condition) h)

  scratches_voted : (r : ℕ) (l : Running) (o : Option (List Entry)) (m : Moment) → V m → V (scratches r l o m)
  scratches_voted r l None m h = idle_voted S r NoBytes m h
  scratches_voted r l (Some a) m h = harmed_voted S r (harm (record l { array = a })) m refl h

  swaps_voted : (fault : Bool) (r spare : ℕ) (c : Condition) (m : Moment) → V m → V (swaps S fault r spare c m)
  swaps_voted fault r spare (Live l) m h = or_voted S fault r (becomes r (Live (harm (wiped S l))))
      (exchanged r spare m) h
      (harmed_voted S r (harm (wiped S l)) (exchanged r spare m) refl h)
  swaps_voted fault r spare Down m h = h
  swaps_voted fault r spare (Rebuilding b) m h = idle_voted S r NotLive m h

  pub step_voted : (e : Event) (m : Moment) → V m → Always V (step S faults e m)
  step_voted (Ask client time bytes) m h = (h, tt)
  step_voted (Run r) m h = (run_voted S (faults 0 r) r m h, tt)
  step_voted RunAll m h =
      let ts = slots (length m.state.requests) (length m.state.replicas) in
      let ms = moments (slot_turn S faults) m ts in
      let hs = Always-moments V (slot_turn S faults)
      (λ n t g. quiet_voted S (faults t.round t.replica) t.replica n g) m ts h in
      Always-append V ms (last m ms ∷ []) hs (Always-last V m ms h hs, tt)
  step_voted (Reboot r) m h = (reboot_voted S (faults 0 r) r m h, tt)
  step_voted (Fetch r n) m h =
      if_rebuilding_cases S faults r m.state.requests m.state.stable (Always V)
      (print (lines.Idle r NotRebuilding) m ∷ []) (replica m.state r).condition
      (λ b. fetch_towards S faults r (array_at S m.state.requests m.state.stable) n m b)
      (idle_voted S r NotRebuilding m h, tt)
      (λ b live. let c = array_at S m.state.requests m.state.stable in let aim = aimed m.state.stable b in
      fetches_voted r (end_towards S c n aim) 0 (items_towards S c n aim) (aims r m b) (rebuilding_voted S r aim m h))
  step_voted (Rogue r time bytes) m h = (rogue_voted S (faults 0 r) r (request time bytes) m h, tt)
  step_voted (Skip r) m h = (skip_voted S (faults 0 r) r m h, tt)
  step_voted (Scratch r i offset bytes) m h = (
    if_live_cases V (print (lines.Idle r NotLive) m) (replica m.state r).condition
        (λ l. fails_or (faults 0 r) r (scratches r l (S.scratched l.array i offset bytes)) m)
        (idle_voted S r NotLive m h)
        (λ l. or_voted S (faults 0 r) r (scratches r l (S.scratched l.array i offset bytes)) m h
        (scratches_voted r l (S.scratched l.array i offset bytes) m h)),
    tt,
  )
  step_voted (LieReply r p w) m h = (harms_voted r (lies_word p w) m h, tt)
  step_voted (LieRoot r p d) m h = (harms_voted r (lies_root p d) m h, tt)
  step_voted (LieItem r level number t) m h = (harms_voted r (lies_item (item level number) t) m h, tt)
  step_voted (Wipe r) m h = (
    if_live_cases V (print (lines.Idle r NotLive) m) (replica m.state r).condition
        (λ l. fails_or (faults 0 r) r (becomes r (Live (harm (wiped S l)))) m)
        (idle_voted S r NotLive m h)
        (λ l. or_voted S (faults 0 r) r (becomes r (Live (harm (wiped S l)))) m h
        (harmed_voted S r (harm (wiped S l)) m refl h)),
    tt,
  )
  step_voted (Swap r spare) m h = (swaps_voted (faults 0 r) r spare (replica m.state r).condition m h, tt)
  step_voted End m h = (prints_voted 0 m.state.replicas m h, tt)
