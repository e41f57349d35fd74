-- Each event keeps a state right, up to the last moment that is fair.
use Rattle.std.proofs.Common.{◌≡◌, ℕ, suc, ◌+◌, ◌<◌, ◌≤◌, Bool, true, false, cond, ◌||◌, ◌&&◌, List, [], ◌∷◌, ◌++◌, length, get_or, refl, sym, ◌∙◌, ap, subst, ⊎_elim, arith}
use Rattle.std.specs.Prelude.{Option, Some, None, nat_le, nat_lt, slice_get, ◌==◌}
use Rattle.std.proofs.lemmas.Bool.{eq-eqb, cases_lt}
use Rattle.std.proofs.lemmas.List.{set_past, get_or_past}
use Rattle.std.proofs.lemmas.List.Elements.{All-nil, All-cons}
use Rattle.abs_model.specs.declared.Entry.{Entry}
use Rattle.cluster_model.specs.declared.request.Request.{Request}
use Rattle.nfs2_types.specs.declared.Word.{Word}
use Rattle.log_format.specs.declared.IdleCause.{IdleCause}
use Rattle.log_format.specs.declared.Event.TheVariants.{Reboot, Fetch}
use Rattle.log_format.specs.declared.Line.TheVariants as lines
use Rattle.log_format.specs.declared.IdleCause.TheVariants.{NotLive, AtEnd, Behind}
use Rattle.cluster_model.specs.Service.{Service, array_at, request}
use Rattle.cluster_model.specs.Tree.{Item, digests, text_of, entry_text}
use Rattle.cluster_model.specs.State.{Condition, Live, Down, Rebuilding, Running, Fetching, Replica, State, Checkpoint, holds_in, holds_at, is_harmed}
use Rattle.cluster_model.specs.Moments.{Moment, Faults, gone, replica, put, print, becomes, fails}
use Rattle.cluster_model.specs.Turns.{runs, skips, Turn, Next, Not, fails_or, harm, turn, turn_in, turn_at, run_turn, rogue_turn, skip_turn, quiet_turn, moments, last, begins}
use Rattle.cluster_model.specs.Step.{at_line, FetchEnd, Missing, Forgets, Whole, harms, if_live, wiped, scratches, exchanged, swaps, withdraws, rebooted, if_rebuilding, stage_fault, stage_moments, stage_order, is_live, gets, ends_fetch, fetches, prints_ends}
use Rattle.cluster_model.specs.Fair.{IsFair}
use Rattle.cluster_model.specs.Right.{IsRightLive, IsRightIn, IsRight, IsRightCheckpoint, IsRightWord, IsRightRoot, is_source, IsOrderly}
use Rattle.cluster_model.specs.Run.{Upto}
use Rattle.cluster_model.proofs.Seats.{put_right, put_same, replica_right}
use Rattle.cluster_model.proofs.Turns.{runs_right, rogues_right, skipping_right}
use Rattle.cluster_model.proofs.Passing.{digests_length, digests_at, same_cond}

-- One replica comes into another condition

becomes_right : (S : Service) (r : ℕ) (c : Condition) (m : Moment) → IsRight S m.state →
    IsRightIn S m.state.requests (replica m.state r).words (replica m.state r).roots c →
    (is_source m.state.stable (replica m.state r) ≡ true → (is_harmed c || holds_at m.state.stable c) ≡ true) →
    IsRight S (becomes r c m).state
becomes_right S r c m h right source = put_right S m.state r
    (record (replica m.state r) { condition = c }) h right source

pub fails_right : (S : Service) (r : ℕ) (m : Moment) → IsRight S m.state → IsRight S (fails r m).state
fails_right S r m h = becomes_right S r Down m h tt (λ g. refl)

pub harmed_right : (S : Service) (r : ℕ) (l : Running) (m : Moment) → l.harmed ≡ true → IsRight S m.state →
    IsRight S (becomes r (Live l) m).state
harmed_right S r l m e h = becomes_right S r (Live l) m h (λ u. absurd (cc))
    (λ g. ap (λ b. b || holds_in m.state.stable l.holds) e)

-- a replica without words may be Rebuilding
pub rebuilding_right : (S : Service) (r : ℕ) (b : Fetching) (m : Moment) → IsRight S m.state →
    (replica m.state r).words ≡ [] → (replica m.state r).roots ≡ [] → IsRight S (becomes r (Rebuilding b) m).state
rebuilding_right S r b m h ws ds = becomes_right S r (Rebuilding b) m h (ws, ds) (λ g. refl)

-- a Rebuilding replica has no words
pub rebuilding_words : (S : Service) (r : ℕ) (b : Fetching) (s : State) → IsRight S s →
    (replica s r).condition ≡ Rebuilding b →
    ((replica s r).words ≡ []) × ((replica s r).roots ≡ [])
rebuilding_words S r b s h e = subst (λ c. IsRightIn S s.requests (replica s r).words (replica s r).roots c) e
    (replica_right S s r h)

pub or_right : (S : Service) (fault : Bool) (r : ℕ) (does : Moment → Moment) (m : Moment) → IsRight S m.state →
    (IsFair S (does m) → IsRight S (does m).state) → IsFair S (fails_or fault r does m) →
    IsRight S (fails_or fault r does m).state
or_right S true r does m h g fair = fails_right S r m h
or_right S false r does m h g fair = g fair

-- Turns

-- a turn is that of a Live replica with a next request, or an idle one
pub turn_cases : (S : Service) (s : State) (r : ℕ) (P : Turn → Type 0) →
    ((l : Running) (q : Request) → (replica s r).condition ≡ Live l → slice_get s.requests l.place ≡ Some q →
    P (Next l q)) →
    ((c : IdleCause) → P (Not c)) → P (turn S s r)
turn_cases S s r P next not = by_condition (replica s r).condition refl
  where
    by_rank : (b : Bool) (l : Running) (q : Request) → (replica s r).condition ≡ Live l →
        slice_get s.requests l.place ≡ Some q → P (cond b (Not Behind) (Next l q))
    by_rank true l q e g = not Behind
    by_rank false l q e g = next l q e g

    by_request : (l : Running) (o : Option Request) → (replica s r).condition ≡ Live l →
        slice_get s.requests l.place ≡ o → P (turn_at S s l o)
    by_request l None e g = not AtEnd
    by_request l (Some q) e g = by_rank (nat_lt (l.place + S.k) s.stable) l q e g

    by_condition : (c : Condition) → (replica s r).condition ≡ c → P (turn_in S s c)
    by_condition (Live l) e = by_request l (slice_get s.requests l.place) e refl
    by_condition Down e = not NotLive
    by_condition (Rebuilding b) e = not NotLive

module _ (S : Service) (laws : IsOrderly S) (fault : Bool) (r : ℕ) (m : Moment) (h : IsRight S m.state) where
  pub quiet_right : IsFair S (quiet_turn S fault r (turn S m.state r) m) →
      IsRight S (quiet_turn S fault r (turn S m.state r) m).state
  quiet_right = turn_cases S m.state r
      (λ t. IsFair S (quiet_turn S fault r t m) → IsRight S (quiet_turn S fault r t m).state)
      (λ l q live next. or_right S fault r (runs S r l q) m h (runs_right S laws r l m h live q next)) (λ c fair. h)

  pub run_right : IsFair S (run_turn S fault r (turn S m.state r) m) →
      IsRight S (run_turn S fault r (turn S m.state r) m).state
  run_right = turn_cases S m.state r (λ t. IsFair S (run_turn S fault r t m) → IsRight S (run_turn S fault r t m).state)
      (λ l q live next. or_right S fault r (runs S r l q) m h (runs_right S laws r l m h live q next)) (λ c fair. h)

  pub rogue_right : (q : Request) → IsFair S (rogue_turn S fault r q (turn S m.state r) m) →
      IsRight S (rogue_turn S fault r q (turn S m.state r) m).state
  rogue_right q = turn_cases S m.state r
      (λ t. IsFair S (rogue_turn S fault r q t m) → IsRight S (rogue_turn S fault r q t m).state)
      (λ l _ live next. or_right S fault r (runs S r (harm l) q) m h (rogues_right S laws r l m h live q)) (λ c fair. h)

  pub skip_turn_right : IsFair S (skip_turn S fault r (turn S m.state r) m) →
      IsRight S (skip_turn S fault r (turn S m.state r) m).state
  skip_turn_right = turn_cases S m.state r
      (λ t. IsFair S (skip_turn S fault r t m) → IsRight S (skip_turn S fault r t m).state)
      (λ l _ live next. or_right S fault r (skips S r l) m h (skipping_right S laws r l m h live)) (λ c fair. h)

-- Lists of moments

pub Upto-moments : {X : Type 0} (P Q : Moment → Type 0) (small : Moment → X → Moment) →
    ((m : Moment) (x : X) → Q m → P (small m x) → Q (small m x)) →
    (m : Moment) (xs : List X) → Q m → Upto P Q (moments small m xs)
Upto-moments P Q small keeps m [] h = tt
Upto-moments P Q small keeps m (x ∷ xs) h = λ p.
    (keeps m x h p, Upto-moments P Q small keeps (small m x) xs (keeps m x h p))

pub Upto-append : (P Q : Moment → Type 0) (m : Moment) (ms ns : List Moment) → Q m → Upto P Q ms →
    (Q (last m ms) → Upto P Q ns) → Upto P Q (ms ++ ns)
Upto-append P Q m [] ns h g k = k h
Upto-append P Q m (n ∷ ms) ns h g k = λ p. ((g p).0, Upto-append P Q n ms ns (g p).0 (g p).1 k)

pub Upto-one : (P Q : Moment → Type 0) (m : Moment) → (P m → Q m) → Upto P Q (m ∷ [])
Upto-one P Q m h = λ p. (h p, tt)

pub Upto-weaker : (P Q R : Moment → Type 0) → ((m : Moment) → Q m → R m) → (ms : List Moment) → Upto P Q ms →
    Upto P R ms
Upto-weaker P Q R w [] h = tt
Upto-weaker P Q R w (m ∷ ms) h = λ p. (w m (h p).0, Upto-weaker P Q R w ms (h p).1)

-- Reboot

none_in : (S : Service) (q : List Request) (ws : List (ℕ × Word)) (ds : List (ℕ × List ℕ)) (c : Condition) →
    IsRightIn S q ws ds c → IsRightIn S q [] [] c
none_in S q ws ds (Live l) h = λ u. record {
  array = (h u).array;
  place = (h u).place;
  lies = (h u).lies;
  believes = (h u).believes;
  untold = (h u).untold;
  ordered = (h u).ordered;
  holds = (h u).holds;
  said = All-nil (IsRightWord S q l.place);
  rooted = All-nil (IsRightRoot S q l);
}
none_in S q ws ds Down h = tt
none_in S q ws ds (Rebuilding b) h = (refl, refl)

pub withdraws_right : (S : Service) (r : ℕ) (m : Moment) → IsRight S m.state → IsRight S (withdraws r m).state
withdraws_right S r m h = put_right S m.state r (record (replica m.state r) { words = []; roots = [] }) h
    (none_in S m.state.requests (replica m.state r).words (replica m.state r).roots (replica m.state r).condition
    (replica_right S m.state r h)) (λ g. g)

pub withdrawn : (r : ℕ) (m : Moment) → ((replica (withdraws r m).state r).words ≡ [])
    × ((replica (withdraws r m).state r).roots ≡ [])
withdrawn r m =
    let x : Replica = record (replica m.state r) { words = []; roots = [] } in
    ⊎_elim
    (λ l. (
      ap (λ (y : Replica). y.words) (put_same m.state r x l),
      ap (λ (y : Replica). y.roots) (put_same m.state r x l),
    ))
    (λ g. let e : replica (put r x m.state) r ≡ gone = ap (λ xs. get_or xs r gone) (set_past m.state.replicas r x g)
    ∙ get_or_past m.state.replicas r gone g in
    (ap (λ (y : Replica). y.words) e, ap (λ (y : Replica). y.roots) e))
    (cases_lt r (length m.state.replicas))

pub reboots_right : (S : Service) (r : ℕ) (c : Condition) (m : Moment) → IsRight S m.state →
    (replica m.state r).words ≡ [] → (replica m.state r).roots ≡ [] →
    IsRight S (becomes r (rebooted S c) m).state
reboots_right S r (Live l) m h ws ds = rebuilding_right S r
    (record { array = l.array; target = None; got = [] }) m h ws ds
reboots_right S r Down m h ws ds = rebuilding_right S r (record { array = S.empty; target = None; got = [] }) m h ws ds
reboots_right S r (Rebuilding b) m h ws ds = rebuilding_right S r
    (record { array = b.array; target = None; got = [] }) m h ws ds

-- Harm

pub if_live_cases : (P : Moment → Type 0) (other : Moment) (c : Condition) (does : Running → Moment) → P other →
    ((l : Running) → P (does l)) → P (if_live other c does)
if_live_cases P other (Live l) does idle busy = busy l
if_live_cases P other Down does idle busy = idle
if_live_cases P other (Rebuilding b) does idle busy = idle

pub harms_right : (S : Service) (r : ℕ) (how : Running → Running) (m : Moment) → IsRight S m.state →
    IsRight S (harms r how m).state
harms_right S r how m h = if_live_cases (λ n. IsRight S n.state) (print (lines.Idle r NotLive) m)
    (replica m.state r).condition (λ l. becomes r (Live (harm (how l))) m)
    h (λ l. harmed_right S r (harm (how l)) m refl h)

pub scratches_right : (S : Service) (r : ℕ) (l : Running) (o : Option (List Entry)) (m : Moment) → IsRight S m.state →
    IsRight S (scratches r l o m).state
scratches_right S r l None m h = h
scratches_right S r l (Some a) m h = harmed_right S r (harm (record l { array = a })) m refl h

exchanged_right : (S : Service) (r spare : ℕ) (m : Moment) → IsRight S m.state → IsRight S (exchanged r spare m).state
exchanged_right S r spare m h =
    record {
      size = h.size;
      fit = h.fit;
      stable = h.stable;
      stable_root = h.stable_root;
      decided = h.decided;
      replicas = h.replicas;
      sources = h.sources;
    }

pub swaps_right : (S : Service) (fault : Bool) (r spare : ℕ) (c : Condition) (m : Moment) → IsRight S m.state →
    IsFair S (swaps S fault r spare c m) → IsRight S (swaps S fault r spare c m).state
swaps_right S fault r spare (Live l) m h = or_right S fault r (becomes r (Live (harm (wiped S l))))
    (exchanged r spare m) (exchanged_right S r spare m h)
    (λ fair. harmed_right S r (harm (wiped S l)) (exchanged r spare m) refl (exchanged_right S r spare m h))
swaps_right S fault r spare Down m h = λ fair. exchanged_right S r spare m h
swaps_right S fault r spare (Rebuilding b) m h = λ fair. h

pub prints_state : (r : ℕ) (xs : List Replica) (m : Moment) → (prints_ends r xs m).state ≡ m.state
prints_state r [] m = refl
prints_state r (x ∷ xs) m = prints_state (suc r) xs (print (at_line r x.condition) m)

-- Fetch

pub begins_right : (S : Service) (q : List Request) (p : ℕ) → p ≤ length q →
    IsRightLive S q (begins S p (array_at S q p)) [] []
begins_right S q p low =
    let a = array_at S q p in
    let c : Checkpoint = record { place = p; digests = digests S a; saved = [] } in
    record {
      array = refl;
      place = low;
      lies = refl;
      believes = digests_length S 0 a;
      untold = λ i within none. digests_at S 0 a i within
          ∙ (let k : 0 + i ≡ i = omega arith in ap (λ k. S.digest (entry_text S k (slice_get a i))) k);
      ordered = (All-nil (λ (d : Checkpoint). d.place < p), tt);
      holds = All-cons (IsRightCheckpoint S q (begins S p a)) c []
          (record { passed = omega arith; listed = refl; texts = λ i. same_cond (nat_le p p) (text_of S a i) })
          (All-nil (IsRightCheckpoint S q (begins S p a)));
      said = All-nil (IsRightWord S q p);
      rooted = All-nil (IsRightRoot S q (begins S p a));
    }

module _ (S : Service) (faults : Faults) (r : ℕ) (q : List Request) (p : ℕ) where
  -- a state that is right, whose requests and stable place are these
  abbrev pub IsRightAt : Moment → Type 0
  IsRightAt m = IsRight S m.state × (m.state.requests ≡ q) × (m.state.stable ≡ p)

  stage_right : (stage : ℕ) (m : Moment) (j : ℕ) → IsRightAt m → IsFair S (stage_fault faults r stage m j) →
      IsRightAt (stage_fault faults r stage m j)
  stage_right stage m j h = by (faults stage j && ((j == r) || is_live (replica m.state j).condition))
    where
      by : (b : Bool) → IsFair S (cond b (fails j m) m) → IsRightAt (cond b (fails j m) m)
      by true fair = (fails_right S j m h.0, h.1, h.2)
      by false fair = h

  pub stages_right : (stage : ℕ) (m : Moment) → IsRightAt m → Upto (IsFair S) IsRightAt (stage_moments faults r stage m)
  stages_right stage m h = Upto-moments (IsFair S) IsRightAt (stage_fault faults r stage)
      (λ n j. stage_right stage n j) m (stage_order (length m.state.replicas) r) h

  ends_right : (end : FetchEnd) → ((a : List Entry) → end ≡ Whole a → a ≡ array_at S q p) →
      (m : Moment) (b : Fetching) → IsRightAt m →
      (replica m.state r).condition ≡ Rebuilding b → IsRightAt (ends_fetch S r end m b)
  ends_right Missing whole m b h live = h
  ends_right Forgets whole m b h live =
      let none = rebuilding_words S r b m.state h.0 live in
      (rebuilding_right S r (record b { got = [] }) m h.0 none.0 none.1, h.1, h.2)
  ends_right (Whole a) whole m b h live =
      let none = rebuilding_words S r b m.state h.0 live in
      let low : m.state.stable ≤ length m.state.requests = h.0.stable in
      let same : array_at S m.state.requests m.state.stable ≡ a = ap (λ k. array_at S k m.state.stable) h.1
      ∙ ap (array_at S q) h.2 ∙ sym (whole a refl) in (
        becomes_right S r (Live (begins S m.state.stable a)) m h.0
            (λ u. subst (λ ws. IsRightLive S m.state.requests (begins S m.state.stable a) ws (replica m.state r).roots)
            (sym none.0)
            (subst (λ ds. IsRightLive S m.state.requests (begins S m.state.stable a) [] ds) (sym none.1)
            (subst (λ c. IsRightLive S m.state.requests (begins S m.state.stable c) [] []) same
            (begins_right S m.state.requests m.state.stable low))))
            (λ g. let yes : (m.state.stable == m.state.stable) ≡ true = eq-eqb m.state.stable m.state.stable refl in
            rw yes refl),
        h.1,
        h.2,
      )

  pub gets_right : (x : Item × List ℕ) (m : Moment) (b : Fetching) → IsRightAt m →
      (replica m.state r).condition ≡ Rebuilding b → IsRightAt (gets r x m b)
  gets_right x m b h live =
      let none = rebuilding_words S r b m.state h.0 live in
      (rebuilding_right S r (record b { got = b.got ++ x ∷ [] }) m h.0 none.0 none.1, h.1, h.2)

  pub if_rebuilding_cases : {X : Type 0} (P : X → Type 0) (other : X) (c : Condition) (does : Fetching → X) → P other →
      ((b : Fetching) → c ≡ Rebuilding b → P (does b)) → P (if_rebuilding other c does)
  if_rebuilding_cases P other (Live l) does idle busy = idle
  if_rebuilding_cases P other Down does idle busy = idle
  if_rebuilding_cases P other (Rebuilding b) does idle busy = busy b refl

  abbrev staged : ℕ → Moment → Moment
  staged stage m = last m (stage_moments faults r stage m)

  abbrev ended : FetchEnd → Moment → Moment
  ended end m = if_rebuilding m (replica m.state r).condition (λ b. ends_fetch S r end m b)

  ended_right : (end : FetchEnd) → ((a : List Entry) → end ≡ Whole a → a ≡ array_at S q p) → (m : Moment) →
      IsRightAt m → IsRightAt (ended end m)
  ended_right end whole m g = if_rebuilding_cases IsRightAt m (replica m.state r).condition
      (λ b. ends_fetch S r end m b) g
      (λ b live. ends_right end whole m b g live)

  pub fetches_right : (end : FetchEnd) → ((a : List Entry) → end ≡ Whole a → a ≡ array_at S q p) →
      (stage : ℕ) (items : List (Item × List ℕ)) (m : Moment) → IsRightAt m →
      Upto (IsFair S) IsRightAt (fetches S faults r end stage items m)
  fetches_right end whole stage [] m h =
      Upto-append (IsFair S) IsRightAt m (stage_moments faults r stage m) (ended end (staged stage m) ∷ []) h
      (stages_right stage m h)
      (λ g. Upto-one (IsFair S) IsRightAt (ended end (staged stage m))
      (λ fair. ended_right end whole (staged stage m) g))
  fetches_right end whole stage (x ∷ xs) m h =
      let n = staged stage m in
      Upto-append (IsFair S) IsRightAt m (stage_moments faults r stage m)
      (if_rebuilding (n ∷ []) (replica n.state r).condition
      (λ b. fetches S faults r end (suc stage) xs (gets r x n b))) h (stages_right stage m h)
      (λ g. if_rebuilding_cases (Upto (IsFair S) IsRightAt) (n ∷ []) (replica n.state r).condition
      (λ b. fetches S faults r end (suc stage) xs (gets r x n b))
      (Upto-one (IsFair S) IsRightAt n (λ fair. g))
      (λ b live. fetches_right end whole (suc stage) xs (gets r x n b) (gets_right x n b g live)))
