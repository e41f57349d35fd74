-- In a loose run every kept text is a text of a moment up to it; so Apart of these gives each step's premise: whole
-- runs.
use Rattle.std.proofs.Common.{◌≡◌, ℕ, zero, suc, ◌+◌, ◌-◌, ◌*◌, ◌^◌, ◌<◌, Bool, true, false, cond, ◌||◌, ◌&&◌, List, [], ◌∷◌, ◌++◌, length, get_or, refl, sym, ◌∙◌, ap, subst, inl, inr, ⊎_elim, arith}
use Rattle.std.specs.Prelude.{Option, Some, None, nat_le, ◌==◌}
use Rattle.std.specs.List.{All}
use Rattle.std.proofs.lemmas.Bool.{cases_lt}
use Rattle.std.proofs.lemmas.List.{get_or_past}
use Rattle.std.proofs.lemmas.List.Elements.{All-head, All-tail, All-nil, All-cons, All-push, All-weaker}
use Rattle.abs_model.specs.declared.Entry.{Entry}
use Rattle.log_format.specs.declared.IdleCause.{IdleCause}
use Rattle.log_format.specs.declared.Event.{Event}
use Rattle.log_format.specs.declared.Event.TheVariants.{Request as Ask, Run, RunAll, Reboot, Fetch, Rogue, Skip, Scratch, LieReply, LieRoot, LieItem, Wipe, Swap, End}
use Rattle.log_format.specs.declared.Line.TheVariants as lines
use Rattle.log_format.specs.declared.IdleCause.TheVariants.{NotLive, NotRebuilding, NoBytes}
use Rattle.cluster_model.specs.Service.{Service, request}
use Rattle.cluster_model.specs.Tree.{Item, text_of, node_text, digests, item}
use Rattle.cluster_model.specs.State.{Condition, Live, Down, Rebuilding, Running, Fetching, Replica, State, Checkpoint, lookup, lookup_item, held_from, held_text, or_else}
use Rattle.cluster_model.specs.Moments.{Moment, Faults, gone, replica, print, becomes, fails}
use Rattle.cluster_model.specs.Turns.{fails_or, harm, turn, run_turn, rogue_turn, skip_turn, slot_turn, slots, moments, last, begins}
use Rattle.cluster_model.specs.Step.{FetchEnd, Missing, Forgets, Whole, is_target, harms, if_live, wiped, scratches, exchanged, swaps, withdraws, rebooted, if_rebuilding, stage_fault, stage_moments, stage_order, is_live, gets, ends_fetch, fetches, aims, aimed, prints_ends, asks, lies_word, lies_root, lies_item}
use Rattle.cluster_model.specs.Fair.{IsItem, IsText, OfArray, OfBelieved, OfLie, IsArrayIn, IsBelievedIn, IsLieIn}
use Rattle.cluster_model.specs.Right.{IsSpelled}
use Rattle.cluster_model.specs.Good.{FitsEvent}
use Rattle.cluster_model.specs.Loose.{IsGiven, given, gives, held_item, held_digests, node_held, text_held, lie_or, LooseStep, LooseFetch}
use Rattle.cluster_model.specs.Run.{and_texts, known_after, nothing}
use Rattle.cluster_model.proofs.Seats.{put_same, live_within}
use Rattle.cluster_model.proofs.Votes.{All-lookup}
use Rattle.cluster_model.proofs.Steps.{if_rebuilding_cases, prints_state}
use Rattle.cluster_model.proofs.Keeps.{IsKnown, AllKnown, IsKnownCheckpoint, replica_known, put_known}
use Rattle.cluster_model.proofs.History.{all_weaker, believed_within, quiet_then, run_then, rogue_then, skip_then, reboot_then, becomes_live_then, same_then, or_then}

-- At each of these moments, what is kept is known then
abbrev pub Hist : Service → (List ℕ → Type 0) → List Moment → Type 0
Hist S T [] = Unit {0}
Hist S T (m ∷ ms) = AllKnown S (and_texts S T m) m.state × Hist S (and_texts S T m) ms

module _ (S : Service) where
  stays_known : (T : List ℕ → Type 0) (ms : List Moment) (t : List ℕ) → T t → known_after S T ms t
  stays_known T [] t h = h
  stays_known T (m ∷ ms) t h = stays_known (and_texts S T m) ms t (inl h)

  kept_last : (T : List ℕ → Type 0) (m : Moment) (ms : List Moment) → AllKnown S T m.state → Hist S T ms →
      AllKnown S (known_after S T ms) (last m ms).state
  kept_last T m [] h g = h
  kept_last T m (n ∷ ms) h g = kept_last (and_texts S T n) n ms g.0 g.1

  abbrev pub Ready : (List ℕ → Type 0) → Moment → Type 0
  Ready T m = ((t : List ℕ) → IsText S m.state t → T t) × AllKnown S T m.state

  pub ready_last : (T : List ℕ → Type 0) (m : Moment) (ms : List Moment) → Ready T m → Hist S T ms →
      Ready (known_after S T ms) (last m ms)
  ready_last T m [] h g = h
  ready_last T m (n ∷ ms) h g = ready_last (and_texts S T n) n ms ((λ t k. inr k), g.0) g.1

  pub Hist-append : (T : List ℕ → Type 0) (ms ns : List Moment) → Hist S T ms → Hist S (known_after S T ms) ns →
      Hist S T (ms ++ ns)
  Hist-append T [] ns h g = g
  Hist-append T (m ∷ ms) ns h g = (h.0, Hist-append (and_texts S T m) ms ns h.1 g)

  Hist-one : (T : List ℕ → Type 0) (m : Moment) → AllKnown S (and_texts S T m) m.state → Hist S T (m ∷ [])
  Hist-one T m h = (h, tt)

  Hist-moments : {X : Type 0} (small : Moment → X → Moment) →
      ((T : List ℕ → Type 0) (m : Moment) (x : X) → Ready T m →
      AllKnown S (and_texts S T (small m x)) (small m x).state) →
      (T : List ℕ → Type 0) (m : Moment) (xs : List X) → Ready T m → Hist S T (moments small m xs)
  Hist-moments small keeps T m [] h = tt
  Hist-moments small keeps T m (x ∷ xs) h =
      let n = small m x in
      let k = keeps T m x h in (k, Hist-moments small keeps (and_texts S T n) n xs ((λ t g. inr g), k))

  -- where nothing new is kept
  pub Hist-plain : {X : Type 0} (small : Moment → X → Moment) →
      ((T : List ℕ → Type 0) (m : Moment) (x : X) → AllKnown S T m.state → AllKnown S T (small m x).state) →
      (T : List ℕ → Type 0) (m : Moment) (xs : List X) → AllKnown S T m.state → Hist S T (moments small m xs)
  Hist-plain small keeps T m [] h = tt
  Hist-plain small keeps T m (x ∷ xs) h =
      let n = small m x in
      let k : AllKnown S (and_texts S T n) n.state = all_weaker S T (and_texts S T n) (λ t g. inl g) n.state
      (keeps T m x h) in
      (k, Hist-plain small keeps (and_texts S T n) n xs k)

  pub becomes_known : (T : List ℕ → Type 0) (r : ℕ) (c : Condition) (k : Moment) → AllKnown S T k.state → IsKnown S T c →
      AllKnown S T (becomes r c k).state
  becomes_known T r c k g e = put_known S T k.state r (record (replica k.state r) { condition = c }) g e

-- A Fetch

pub rebuilding_within : (s : State) (r : ℕ) (b : Fetching) → (replica s r).condition ≡ Rebuilding b →
    r < length s.replicas
rebuilding_within s r b e = ⊎_elim (λ h. h)
    (λ g. let d : replica s r ≡ gone = get_or_past s.replicas r gone g in
    let k : Down ≡ Rebuilding b = ap (λ (x : Replica). x.condition) (sym d) ∙ e in absurd (cc))
    (cases_lt r (length s.replicas))

module _ (S : Service) (faults : Faults) (r : ℕ) (end : FetchEnd)
    (whole : (a : List Entry) → end ≡ Whole a → S.good a) where
  stage_known : (stage : ℕ) (T : List ℕ → Type 0) (m : Moment) (j : ℕ) → AllKnown S T m.state →
      AllKnown S T (stage_fault faults r stage m j).state
  stage_known stage T m j h = by (faults stage j && ((j == r) || is_live (replica m.state j).condition))
    where
      by : (b : Bool) → AllKnown S T (cond b (fails j m) m).state
      by true = becomes_known S T j Down m h tt
      by false = h

  stages_hist : (stage : ℕ) (T : List ℕ → Type 0) (m : Moment) → AllKnown S T m.state →
      Hist S T (stage_moments faults r stage m)
  stages_hist stage T m h = Hist-plain S (stage_fault faults r stage) (λ U n j g. stage_known stage U n j g) T m
      (stage_order (length m.state.replicas) r) h

  fetching_known : (T : List ℕ → Type 0) (k : Moment) (b : Fetching) → (replica k.state r).condition ≡ Rebuilding b →
      AllKnown S T k.state → IsKnown S T (Rebuilding b)
  fetching_known T k b e h = subst (IsKnown S T) e (replica_known S T k.state r h)

  ends_known : (T : List ℕ → Type 0) (e : FetchEnd) → end ≡ e → (k : Moment) (b : Fetching) →
      (replica k.state r).condition ≡ Rebuilding b → AllKnown S T k.state →
      AllKnown S (and_texts S T (ends_fetch S r e k b)) (ends_fetch S r e k b).state
  ends_known T Missing is k b live h = all_weaker S T (and_texts S T (ends_fetch S r Missing k b))
      (λ t g. inl g) k.state h
  ends_known T Forgets is k b live h =
      let n = ends_fetch S r Forgets k b in
      all_weaker S T (and_texts S T n) (λ t g. inl g) n.state
      (becomes_known S T r (Rebuilding (record b { got = [] })) k h
      ((fetching_known T k b live h).0, All-nil (λ (x : Item × List ℕ). T x.1)))
  ends_known T (Whole a) is k b live h =
      let n = ends_fetch S r (Whole a) k b in
      let U = and_texts S T n in
      let l = begins S k.state.stable a in
      let x : Replica = record (replica k.state r) { condition = Live l } in
      let there : (replica n.state r).condition ≡ Live l = ap (λ (y : Replica). y.condition)
      (put_same k.state r x (rebuilding_within k.state r b live)) in
      let believes : IsBelievedIn (digests S a) (replica n.state r).condition = subst (IsBelievedIn (digests S a))
      (sym there) refl in
      becomes_known S U r (Live l) k (all_weaker S T U (λ t g. inl g) k.state h) (
        whole a is,
        All-cons (IsKnownCheckpoint S U) (record { place = k.state.stable; digests = digests S a; saved = [] }) [] (
          All-nil (λ (s : ℕ × List ℕ). U s.1),
          λ l' j item. inr (OfBelieved r (digests S a) l' j
              (believed_within n.state r (digests S a) believes) believes item refl),
        )
            (All-nil (IsKnownCheckpoint S U)),
      )

  abbrev ended : Moment → Moment
  ended k = if_rebuilding k (replica k.state r).condition (λ b. ends_fetch S r end k b)

  ended_known : (T : List ℕ → Type 0) (k : Moment) → AllKnown S T k.state →
      AllKnown S (and_texts S T (ended k)) (ended k).state
  ended_known T k h = if_rebuilding_cases S faults r k.state.requests k.state.stable
      (λ n. AllKnown S (and_texts S T n) n.state) k (replica k.state r).condition
      (λ b. ends_fetch S r end k b) (all_weaker S T (and_texts S T k) (λ t g. inl g) k.state h)
      (λ b live. ends_known T end refl k b live h)

  fetches_hist : (stage : ℕ) (items : List (Item × List ℕ)) (T : List ℕ → Type 0) (m : Moment) →
      All (λ (x : Item × List ℕ). T x.1) items → AllKnown S T m.state →
      Hist S T (fetches S faults r end stage items m)
  fetches_hist stage [] T m known h =
      let ms = stage_moments faults r stage m in
      let hs = stages_hist stage T m h in
      Hist-append S T ms (ended (last m ms) ∷ []) hs
      (Hist-one S (known_after S T ms) (ended (last m ms))
      (ended_known (known_after S T ms) (last m ms) (kept_last S T m ms h hs)))
  fetches_hist stage (x ∷ xs) T m known h =
      let ms = stage_moments faults r stage m in
      let hs = stages_hist stage T m h in
      let U = known_after S T ms in
      let k = last m ms in
      let P : Item × List ℕ → Type 0 = λ y. T y.1 in
      let Q : Item × List ℕ → Type 0 = λ y. U y.1 in
      let known' : All Q (x ∷ xs) = All-weaker P Q (λ y g. stays_known S T ms y.1 g) (x ∷ xs) known in
      let h' : AllKnown S U k.state = kept_last S T m ms h hs in
      Hist-append S T ms (if_rebuilding (k ∷ []) (replica k.state r).condition
      (λ b. fetches S faults r end (suc stage) xs (gets r x k b))) hs
      (if_rebuilding_cases S faults r k.state.requests k.state.stable (Hist S U) (k ∷ []) (replica k.state r).condition
      (λ b. fetches S faults r end (suc stage) xs (gets r x k b))
      (Hist-one S U k (all_weaker S U (and_texts S U k) (λ t g. inl g) k.state h'))
      (λ b live. let g = fetching_known U k b live h' in
      fetches_hist (suc stage) xs U (gets r x k b) (All-tail Q x xs known')
      (becomes_known S U r (Rebuilding (record b { got = b.got ++ x ∷ [] })) k h'
      (g.0, All-push Q b.got x g.1 (All-head Q x xs known')))))

-- What a loose Fetch gets is known

module _ (S : Service) (T : List ℕ → Type 0) (m : Moment) (ready : Ready S T m) where
  pub held_known : (p i : ℕ) (cs : List Checkpoint) (now : List ℕ) → T now → All (IsKnownCheckpoint S T) cs →
      T (held_from p i cs now)
  held_known p i [] now h g = h
  held_known p i (c ∷ cs) now h g =
      held_known p i cs (cond (nat_le p c.place) (or_else (lookup i c.saved) now) now)
      (by (nat_le p c.place) (lookup i c.saved) refl) (All-tail (IsKnownCheckpoint S T) c cs g)
    where
      saved : All (λ (s : ℕ × List ℕ). T s.1) c.saved
      saved = (All-head (IsKnownCheckpoint S T) c cs g).0

      by : (b : Bool) (o : Option (List ℕ)) → lookup i c.saved ≡ o → T (cond b (or_else o now) now)
      by false o e = h
      by true None e = h
      by true (Some t) e = All-lookup (λ (s : ℕ × List ℕ). T s.1) i t c.saved saved e

  pub held_list : (p : ℕ) (ds : List (List ℕ)) (cs : List Checkpoint) → held_digests p cs ≡ Some ds →
      All (IsKnownCheckpoint S T) cs →
      (l k : ℕ) → IsItem S (record { level = suc l; number = k }) → T (node_text S ds l k)
  held_list p ds [] e g l k item = absurd (cc)
  held_list p ds (c ∷ cs) e g l k item = by (held_list p ds cs) (c.place == p) e
    where
      by : (held_digests p cs ≡ Some ds → All (IsKnownCheckpoint S T) cs → (l' k' : ℕ) →
          IsItem S (record { level = suc l'; number = k' }) → T (node_text S ds l' k')) →
          (b : Bool) → cond b (Some c.digests) (held_digests p cs) ≡ Some ds → T (node_text S ds l k)
      by rest true f = let same : c.digests ≡ ds = cc in
          subst (λ es. T (node_text S es l k)) same ((All-head (IsKnownCheckpoint S T) c cs g).1 l k item)
      by rest false f = rest f (All-tail (IsKnownCheckpoint S T) c cs g) l k item

  array_known : (j : ℕ) (l : Running) → (replica m.state j).condition ≡ Live l → (i : ℕ) → i < 16 ^ (S.levels - 0) →
      T (text_of S l.array i)
  array_known j l live i low = ready.0 (text_of S l.array i)
      (OfArray j l.array (record { level = 0; number = i }) (live_within m.state j l live)
      (subst (IsArrayIn l.array) (sym live) refl) (omega arith, low) refl)

  level_known : (p j : ℕ) (l : Running) → (replica m.state j).condition ≡ Live l → (level number : ℕ) →
      IsItem S (record { level = level; number = number }) →
      (t : List ℕ) → held_item S p l level number ≡ Some t → T t
  level_known p j l live zero k item t e = by (held_digests p l.holds) e
    where
      held : T (held_text S l p k)
      held = held_known p k l.holds (text_of S l.array k) (array_known j l live k item.1)
          (subst (IsKnown S T) live (replica_known S T m.state j ready.1)).1

      by : (o : Option (List (List ℕ))) → text_held o (held_text S l p k) ≡ Some t → T t
      by None f = absurd (cc)
      by (Some ds) f = let same : held_text S l p k ≡ t = cc in subst T same held
  level_known p j l live (suc level) k item t e = by (held_digests p l.holds) refl e
    where
      by : (o : Option (List (List ℕ))) → held_digests p l.holds ≡ o → node_held S level k o ≡ Some t → T t
      by None eo f = absurd (cc)
      by (Some ds) eo f = let same : node_text S ds level k ≡ t = cc in
          subst T same (held_list p ds l.holds eo
          (subst (IsKnown S T) live (replica_known S T m.state j ready.1)).1 level k item)

  gives_known : (p j : ℕ) (x : Item × List ℕ) → j < length m.state.replicas → IsItem S x.0 → (c : Condition) →
      (replica m.state j).condition ≡ c → gives S p x c → T x.1
  gives_known p j x within item (Live l) live g = by (lookup_item x.0 l.lies.items) refl g
    where
      by : (o : Option (List ℕ)) → lookup_item x.0 l.lies.items ≡ o →
          lie_or o (held_item S p l x.0.level x.0.number) ≡ Some x.1 → T x.1
      by None eo f = level_known p j l live x.0.level x.0.number item x.1 f
      by (Some t) eo f = ready.0 x.1 (OfLie j within (subst (IsLieIn x.1) (sym live) (x.0, eo ∙ f)))
  gives_known p j x within item Down live g = absurd g
  gives_known p j x within item (Rebuilding b) live g = absurd g

  given_known : (r : ℕ) (x : Item × List ℕ) → IsItem S x.0 → IsGiven S m.state r x → T x.1
  given_known r x item g = gives_known m.state.stable g.0 x g.1 item (replica m.state g.0).condition refl g.3

  pub items_known : (r : ℕ) (items : List (Item × List ℕ)) → All (λ (x : Item × List ℕ). IsItem S x.0) items →
      All (IsGiven S m.state r) items → All (λ (x : Item × List ℕ). T x.1) items
  items_known r items inside given = λ k d within. given_known r (get_or items k d) (inside k d within)
      (given k d within)

-- One event

module _ (S : Service) (laws : IsSpelled S) (T : List ℕ → Type 0) (faults : Faults) (m : Moment)
    (ready : Ready S T m) where
  abbrev one : (n : Moment) → AllKnown S (and_texts S T n) n.state → Hist S T (n ∷ [])
  one n h = Hist-one S T n h

  if_live_is : (P : Moment → Type 0) (other : Moment) (c : Condition) (does : Running → Moment) → P other →
      ((l : Running) → c ≡ Live l → P (does l)) → P (if_live other c does)
  if_live_is P other (Live l) does idle busy = busy l refl
  if_live_is P other Down does idle busy = idle
  if_live_is P other (Rebuilding b) does idle busy = idle

  abbrev Thens : Moment → Type 0
  Thens n = AllKnown S (and_texts S T n) n.state

  live_of : (r : ℕ) (l : Running) → (replica m.state r).condition ≡ Live l → IsKnown S T (Live l)
  live_of r l live = subst (IsKnown S T) live (replica_known S T m.state r ready.1)

  idle_then : (r : ℕ) (c : IdleCause) → Thens (print (lines.Idle r c) m)
  idle_then r c = same_then S laws T m ready.0 ready.1 (print (lines.Idle r c) m) refl ready.1.0

  become_then : (r : ℕ) (l : Running) (k : Moment) → AllKnown S T k.state → IsKnown S T (Live l) →
      Thens (becomes r (Live l) k)
  become_then r l k h g = becomes_live_then S laws T m ready.0 ready.1 r l k h g

  harms_then : (r : ℕ) (how : Running → Running) →
      ((l : Running) → IsKnown S T (Live l) → IsKnown S T (Live (harm (how l)))) → Thens (harms r how m)
  harms_then r how keeps = if_live_is Thens (print (lines.Idle r NotLive) m) (replica m.state r).condition
      (λ l. becomes r (Live (harm (how l))) m)
      (idle_then r NotLive) (λ l live. become_then r (harm (how l)) m ready.1 (keeps l (live_of r l live)))

  wiped_known : (l : Running) → IsKnown S T (Live l) → IsKnown S T (Live (harm (wiped S l)))
  wiped_known l h = (laws.good_empty, h.1)

  scratches_then : (r i offset : ℕ) (bytes : List ℕ) → All (λ c. c < 256) bytes →
      (l : Running) (o : Option (List Entry)) → S.scratched l.array i offset bytes ≡ o → IsKnown S T (Live l) →
      Thens (scratches r l o m)
  scratches_then r i offset bytes fit l None e h = idle_then r NoBytes
  scratches_then r i offset bytes fit l (Some a) e h = become_then r (harm (record l { array = a })) m ready.1
      (laws.good_scratched l.array a i offset bytes fit h.0 e, h.1)

  swaps_then : (fault : Bool) (r spare : ℕ) (c : Condition) → (replica m.state r).condition ≡ c →
      Thens (swaps S fault r spare c m)
  swaps_then fault r spare (Live l) live = or_then S laws T m ready.0 ready.1 fault r
      (becomes r (Live (harm (wiped S l)))) (exchanged r spare m) ready.1
      (become_then r (harm (wiped S l)) (exchanged r spare m) ready.1 (wiped_known l (live_of r l live)))
  swaps_then fault r spare Down live = same_then S laws T m ready.0 ready.1 (exchanged r spare m) refl ready.1.0
  swaps_then fault r spare (Rebuilding b) live = idle_then r NotLive

  aimed_known : (b : Fetching) → IsKnown S T (Rebuilding b) → IsKnown S T (Rebuilding (aimed m.state.stable b))
  aimed_known b h = by (is_target m.state.stable b.target)
    where
      by : (t : Bool) → IsKnown S T
          (Rebuilding (cond t b (record { array = b.array; target = Some m.state.stable; got = [] })))
      by true = h
      by false = (h.0, All-nil (λ (x : Item × List ℕ). T x.1))

  loose_fetch_hist : (r n : ℕ) (c : Condition) → (replica m.state r).condition ≡ c → (ms : List Moment) →
      LooseFetch S faults r n m c ms → Hist S T ms
  loose_fetch_hist r n (Live l) live ms loose = subst (Hist S T) (sym loose)
      (one (print (lines.Idle r NotRebuilding) m) (idle_then r NotRebuilding))
  loose_fetch_hist r n Down live ms loose = subst (Hist S T) (sym loose)
      (one (print (lines.Idle r NotRebuilding) m) (idle_then r NotRebuilding))
  loose_fetch_hist r n (Rebuilding b) live ms loose =
      let g : IsKnown S T (Rebuilding b) = subst (IsKnown S T) live (replica_known S T m.state r ready.1) in
      subst (Hist S T) (sym loose.3)
      (fetches_hist S faults r loose.1 (λ a e. (loose.2.whole a e).0) 0 loose.0 T (aims r m b)
      (items_known S T m ready r loose.0 loose.2.inside loose.2.given)
      (becomes_known S T r (Rebuilding (aimed m.state.stable b)) m ready.1 (aimed_known b g)))

  pub step_hist : (e : Event) → FitsEvent S e → (ms : List Moment) → LooseStep S faults e m ms → Hist S T ms
  step_hist (Fetch r n) fits ms loose = loose_fetch_hist r n (replica m.state r).condition refl ms loose
  step_hist (Ask client time bytes) fits ms loose = subst (Hist S T) (sym loose)
      (one (asks (request time bytes) m)
      (same_then S laws T m ready.0 ready.1 (asks (request time bytes) m) refl
      (All-push S.fits m.state.requests (request time bytes) ready.1.0 fits)))
  step_hist (Run r) fits ms loose = subst (Hist S T) (sym loose)
      (one (run_turn S (faults 0 r) r (turn S m.state r) m) (run_then S laws T m ready.0 ready.1 (faults 0 r) r))
  step_hist RunAll fits ms loose =
      let ts = slots (length m.state.requests) (length m.state.replicas) in
      let ns = moments (slot_turn S faults) m ts in
      let h : Hist S T ns = Hist-moments S (slot_turn S faults)
      (λ U n t g. quiet_then S laws U n g.0 g.1 (faults t.round t.replica) t.replica) T m ts ready in
      let end : Ready S (known_after S T ns) (last m ns) = ready_last S T m ns ready h in
      subst (Hist S T) (sym loose) (Hist-append S T ns (last m ns ∷ []) h
      (Hist-one S (known_after S T ns) (last m ns)
      (all_weaker S (known_after S T ns) (and_texts S (known_after S T ns) (last m ns)) (λ t g. inl g)
      (last m ns).state end.1)))
  step_hist (Reboot r) fits ms loose = subst (Hist S T) (sym loose)
      (one (fails_or (faults 0 r) r (λ n. becomes r (rebooted S (replica m.state r).condition) n) (withdraws r m))
      (reboot_then S laws T m ready.0 ready.1 (faults 0 r) r))
  step_hist (Rogue r time bytes) fits ms loose = subst (Hist S T) (sym loose)
      (one (rogue_turn S (faults 0 r) r (request time bytes) (turn S m.state r) m)
      (rogue_then S laws T m ready.0 ready.1 (faults 0 r) r (request time bytes) fits))
  step_hist (Skip r) fits ms loose = subst (Hist S T) (sym loose)
      (one (skip_turn S (faults 0 r) r (turn S m.state r) m) (skip_then S laws T m ready.0 ready.1 (faults 0 r) r))
  step_hist (Scratch r i offset bytes) fits ms loose = subst (Hist S T) (sym loose)
      (one (if_live (print (lines.Idle r NotLive) m) (replica m.state r).condition
      (λ l. fails_or (faults 0 r) r (scratches r l (S.scratched l.array i offset bytes)) m))
      (if_live_is Thens (print (lines.Idle r NotLive) m) (replica m.state r).condition
      (λ l. fails_or (faults 0 r) r (scratches r l (S.scratched l.array i offset bytes)) m)
      (idle_then r NotLive)
      (λ l live. or_then S laws T m ready.0 ready.1 (faults 0 r) r
      (scratches r l (S.scratched l.array i offset bytes)) m ready.1
      (scratches_then r i offset bytes fits l (S.scratched l.array i offset bytes) refl (live_of r l live)))))
  step_hist (LieReply r p w) fits ms loose = subst (Hist S T) (sym loose)
      (one (harms r (lies_word p w) m) (harms_then r (lies_word p w) (λ l g. g)))
  step_hist (LieRoot r p d) fits ms loose = subst (Hist S T) (sym loose)
      (one (harms r (lies_root p d) m) (harms_then r (lies_root p d) (λ l g. g)))
  step_hist (LieItem r level number t) fits ms loose = subst (Hist S T) (sym loose)
      (one (harms r (lies_item (item level number) t) m) (harms_then r (lies_item (item level number) t) (λ l g. g)))
  step_hist (Wipe r) fits ms loose = subst (Hist S T) (sym loose)
      (one (if_live (print (lines.Idle r NotLive) m) (replica m.state r).condition
      (λ l. fails_or (faults 0 r) r (becomes r (Live (harm (wiped S l)))) m))
      (if_live_is Thens (print (lines.Idle r NotLive) m) (replica m.state r).condition
      (λ l. fails_or (faults 0 r) r (becomes r (Live (harm (wiped S l)))) m)
      (idle_then r NotLive)
      (λ l live. or_then S laws T m ready.0 ready.1 (faults 0 r) r (becomes r (Live (harm (wiped S l)))) m ready.1
      (become_then r (harm (wiped S l)) m ready.1 (wiped_known l (live_of r l live))))))
  step_hist (Swap r spare) fits ms loose = subst (Hist S T) (sym loose)
      (one (swaps S (faults 0 r) r spare (replica m.state r).condition m)
      (swaps_then (faults 0 r) r spare (replica m.state r).condition refl))
  step_hist End fits ms loose = subst (Hist S T) (sym loose) (one (prints_ends 0 m.state.replicas m)
      (same_then S laws T m ready.0 ready.1 (prints_ends 0 m.state.replicas m)
      (ap (λ (s : State). s.replicas) (prints_state 0 m.state.replicas m))
      (subst (λ (s : State). All S.fits s.requests) (sym (prints_state 0 m.state.replicas m)) ready.1.0)))
