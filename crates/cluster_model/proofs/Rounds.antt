-- As many rounds as there are requests are enough: after them each replica is idle.
use Rattle.std.proofs.Common.{◌≡◌, ◌≢◌, ℕ, zero, suc, ◌+◌, ◌*◌, ◌<◌, ◌≤◌, ◌⊎◌, Bool, true, false, cond, ◌||◌, List, [], ◌∷◌, ◌++◌, map, length, refl, sym, ◌∙◌, ap, subst, inl, inr, ⊎_elim, arith}
use Rattle.std.specs.Prelude.{Option, Some, None, nat_le, nat_lt, ◌==◌, slice_get}
use Rattle.std.proofs.lemmas.Bool.{eqb-true, ltb-true, lt-ltb, cases_eq}
use Rattle.std.proofs.lemmas.List.{get_or-set_other}
use Rattle.std.specs.List.{All}
use Rattle.std.proofs.lemmas.List.Elements.{All-head, All-tail}
use Rattle.cluster_model.specs.declared.request.Request.{Request}
use Rattle.nfs2_types.specs.declared.Word.{Word}
use Rattle.log_format.specs.declared.IdleCause.{IdleCause}
use Rattle.log_format.specs.declared.IdleCause.TheVariants.{NotLive, AtEnd, Behind}
use Rattle.cluster_model.specs.Service.{Service}
use Rattle.cluster_model.specs.Tree.{below, root_of}
use Rattle.cluster_model.specs.State.{Condition, Live, Down, Rebuilding, Running, Replica, lookup, or_else}
use Rattle.cluster_model.specs.Moments.{Moment, Faults, gone, replica, becomes, fails, casts_word, casts_root, becomes_stable, decides, adds_word, adds_root, votes, root_votes, is_decided, drops_before}
use Rattle.cluster_model.specs.Turns.{Turn, Next, Not, Slot, fails_or, runs, passes, ran, checked, takes_checkpoint, is_checkpoint, turn, turn_at, turn_in, quiet_turn, slot_turn, slots, moments, last, casts_root_of}
use Rattle.cluster_model.specs.Right.{is_told}
use Rattle.cluster_model.proofs.Seats.{put_same, live_within}
use Rattle.cluster_model.proofs.History.{one_passes}
use Rattle.cluster_model.proofs.Same.{told_below}

-- the requests are the same, and the stable place does not fall
record Later (m n : Moment) : Type 0 where
  requests : n.state.requests ≡ m.state.requests
  stable : m.state.stable ≤ n.state.stable

later_same : (m : Moment) → Later m m
later_same m = record { requests = refl; stable = omega arith }

later_then : (m n k : Moment) → Later m n → Later n k → Later m k
later_then m n k h g = record { requests = g.requests ∙ h.requests; stable = omega (arith, h.stable, g.stable) }

word_later : (S : Service) (r p : ℕ) (w : Word) (m : Moment) → Later m (casts_word S r p w m)
word_later S r p w m = by (is_decided p m.state) (nat_le (S.f + 1) (votes p w (adds_word r p w m.state)))
  where
    by : (a b : Bool) → Later m
        (cond a m (cond b (decides p w (record m { state = adds_word r p w m.state }))
        (record m { state = adds_word r p w m.state })))
    by true b = later_same m
    by false false = record { requests = refl; stable = omega arith }
    by false true = record { requests = refl; stable = omega arith }

root_later : (S : Service) (r p : ℕ) (d : List ℕ) (m : Moment) → Later m (casts_root S r p d m)
root_later S r p d m = by (nat_lt m.state.stable p) refl
    (nat_le (2 * S.f + 1) (root_votes p d (adds_root r p d m.state)))
  where
    by : (a : Bool) → nat_lt m.state.stable p ≡ a → (b : Bool) →
        Later m (cond a (cond b (becomes_stable p d (record m { state = adds_root r p d m.state }))
        (record m { state = adds_root r p d m.state })) m)
    by false e b = later_same m
    by true e false = record { requests = refl; stable = omega arith }
    by true e true = record {
      requests = refl;
      stable =
          (let h : m.state.stable < p = ltb-true m.state.stable p e in omega arith);
    }

passes_later : (S : Service) (r : ℕ) (l : Running) (w : Word) (m : Moment) → Later m (passes S r l w m)
passes_later S r l w m =
    let n = becomes r (Live l) m in
    let k = casts_word S r l.place (or_else (lookup l.place l.lies.words) w) n in
    later_then m k (casts_root_of S r l k)
    (later_then m n k (record { requests = refl; stable = omega arith })
    (word_later S r l.place (or_else (lookup l.place l.lies.words) w) n)) (by k (is_checkpoint S l.place))
  where
    by : (k : Moment) (b : Bool) →
        Later k (cond b (casts_root S r l.place (or_else (lookup l.place l.lies.roots) (root_of S l.believed)) k) k)
    by k true = root_later S r l.place (or_else (lookup l.place l.lies.roots) (root_of S l.believed)) k
    by k false = later_same k

abbrev place_of : Condition → ℕ
place_of (Live l) = l.place
place_of Down = 0
place_of (Rebuilding b) = 0

module _ (S : Service) (faults : Faults) where
  -- after k rounds: if r is Live, it has passed k places, or is at the end, or behind
  abbrev pub Went : ℕ → ℕ → Moment → Type 0
  Went k r m = (l : Running) → (replica m.state r).condition ≡ Live l →
      (k ≤ l.place) ⊎ ((length m.state.requests ≤ l.place) ⊎ (l.place + S.k < m.state.stable))

  went_later : (k r : ℕ) (m n : Moment) → Later m n →
      ((l : Running) → (replica n.state r).condition ≡ Live l →
      (o : Running) × ((replica m.state r).condition ≡ Live o) × (o.place ≡ l.place)) →
      Went k r m → Went k r n
  went_later k r m n later was h l live =
      let f = was l live in
      let stable : m.state.stable ≤ n.state.stable = later.stable in
      ⊎_elim (λ e. inl (omega (arith, f.2)))
      (λ e. inr (⊎_elim
      (λ g. inl (subst (λ q. length q ≤ l.place) (sym later.requests) (omega (arith, f.2))))
      (λ g. inr (omega (arith, f.2))) e))
      (h f.0 f.1)

  -- places of conditions
  abbrev PlaceIs : ℕ → Condition → Type 0
  PlaceIs p c = (l : Running) → c ≡ Live l → l.place ≡ p

  place_drop : (p : ℕ) (q : ℕ) (c : Condition) → PlaceIs p c → PlaceIs p (drops_before q c)
  place_drop p q (Live o) h l e = sym (ap place_of e) ∙ h o refl
  place_drop p q Down h l e = absurd (cc)
  place_drop p q (Rebuilding b) h l e = absurd (cc)

  abbrev WasPlace : Moment → ℕ → Condition → Type 0
  WasPlace m r c = (l : Running) → c ≡ Live l → (o : Running) × ((replica m.state r).condition ≡ Live o)
      × (o.place ≡ l.place)

  was_drop : (m : Moment) (r q : ℕ) (c : Condition) → WasPlace m r c → WasPlace m r (drops_before q c)
  was_drop m r q (Live o) h l e = let f = h o refl in (f.0, f.1, f.2 ∙ ap place_of e)
  was_drop m r q Down h l e = absurd (cc)
  was_drop m r q (Rebuilding b) h l e = absurd (cc)

  replica_other : (m : Moment) (j r : ℕ) (c : Condition) → r ≢ j →
      (replica (becomes j c m).state r).condition ≡ (replica m.state r).condition
  replica_other m j r c other = ap (λ (x : Replica). x.condition)
      (get_or-set_other m.state.replicas j r (record (replica m.state j) { condition = c }) gone other)

  checked_place : (l : Running) → (checked S l).place ≡ l.place
  checked_place l = by (is_checkpoint S l.place)
    where
      by : (b : Bool) → (cond b (takes_checkpoint S l) l).place ≡ l.place
      by true = refl
      by false = refl

  quiet_later : (fault : Bool) (j : ℕ) (t : Turn) (m : Moment) → Later m (quiet_turn S fault j t m)
  quiet_later true j (Next l q) m = record { requests = refl; stable = omega arith }
  quiet_later false j (Next l q) m = passes_later S j (checked S (ran S q l)) (S.word l.array q) m
  quiet_later fault j (Not c) m = later_same m

  other_was : (fault : Bool) (j r : ℕ) (t : Turn) (m : Moment) → r ≢ j →
      WasPlace m r (replica (quiet_turn S fault j t m).state r).condition
  other_was true j r (Next l q) m other = λ o e. (o, sym (replica_other m j r Down other) ∙ e, refl)
  other_was false j r (Next l q) m other =
      one_passes (WasPlace m r) (was_drop m r) S j (checked S (ran S q l)) (S.word l.array q) m r
      (λ o e. (o, sym (replica_other m j r (Live (checked S (ran S q l))) other) ∙ e, refl))
  other_was fault j r (Not c) m other = λ o e. (o, e, refl)

  other_turn : (k j r round : ℕ) (m : Moment) → r ≢ j → Went k r m →
      Went k r (slot_turn S faults m (record { round = round; replica = j }))
  other_turn k j r round m other h =
      let n = slot_turn S faults m (record { round = round; replica = j }) in
      went_later k r m n (quiet_later (faults round j) j (turn S m.state j) m)
      (other_was (faults round j) j r (turn S m.state j) m other) h

  none_past : {X : Type 0} (xs : List X) (i : ℕ) → slice_get xs i ≡ None → length xs ≤ i
  none_past [] i e = omega arith
  none_past (x ∷ xs) zero e = absurd (cc)
  none_past (x ∷ xs) (suc i) e = let h : length xs ≤ i = none_past xs i e in omega arith

  some_within : {X : Type 0} (xs : List X) (i : ℕ) (x : X) → slice_get xs i ≡ Some x → i < length xs
  some_within [] i x e = absurd (cc)
  some_within (y ∷ xs) zero x e = omega arith
  some_within (y ∷ xs) (suc i) x e = let h : i < length xs = some_within xs i x e in omega arith

  own_turn : (k r round : ℕ) (m : Moment) → Went k r m →
      Went (suc k) r (slot_turn S faults m (record { round = round; replica = r }))
  own_turn k r round m h = by (replica m.state r).condition refl
    where
      ran_place : (l : Running) (q : Request) → (replica m.state r).condition ≡ Live l → (o : Running) →
          (replica (runs S r l q m).state r).condition ≡ Live o → o.place ≡ suc l.place
      ran_place l q live =
          let l' = checked S (ran S q l) in
          let there : (replica (becomes r (Live l') m).state r).condition ≡ Live l' =
          ap (λ (x : Replica). x.condition)
          (put_same m.state r (record (replica m.state r) { condition = Live l' })
          (live_within m.state r l live)) in
          one_passes (PlaceIs (suc l.place)) (place_drop (suc l.place)) S r l' (S.word l.array q) m r
          (λ o e. ap place_of (sym e ∙ there) ∙ checked_place (ran S q l))

      down_there : (l : Running) → (replica m.state r).condition ≡ Live l → (o : Running) →
          (replica (fails r m).state r).condition ≡ Live o → ⊥
      down_there l live o e =
          let d : (replica (fails r m).state r).condition ≡ Down =
          ap (λ (x : Replica). x.condition)
          (put_same m.state r (record (replica m.state r) { condition = Down }) (live_within m.state r l live)) in
          cc

      after : (fault : Bool) (l : Running) (q : Request) → (replica m.state r).condition ≡ Live l →
          slice_get m.state.requests l.place ≡ Some q →
          nat_lt (l.place + S.k) m.state.stable ≡ false → Went (suc k) r (fails_or fault r (runs S r l q) m)
      after true l q live e g o there = absurd (down_there l live o there)
      after false l q live e g o there =
          let place : o.place ≡ suc l.place = ran_place l q live o there in
          let within : l.place < length m.state.requests = some_within m.state.requests l.place q e in
          ⊎_elim (λ w. inl (omega arith))
          (λ w. ⊎_elim (λ x. absurd (omega arith))
          (λ x. absurd (let t : nat_lt (l.place + S.k) m.state.stable ≡ true = lt-ltb
          (l.place + S.k) m.state.stable x in cc)) w)
          (h l live)

      rank : (b : Bool) (l : Running) (q : Request) → (replica m.state r).condition ≡ Live l →
          slice_get m.state.requests l.place ≡ Some q →
          nat_lt (l.place + S.k) m.state.stable ≡ b → Went (suc k) r
          (quiet_turn S (faults round r) r (cond b (Not Behind) (Next l q)) m)
      rank true l q live e g o there = let same : l.place ≡ o.place = ap place_of (sym live ∙ there) in
          let low : l.place + S.k < m.state.stable = ltb-true (l.place + S.k) m.state.stable g in
          inr (inr (omega arith))
      rank false l q live e g o there = after (faults round r) l q live e g o there

      asked : (l : Running) (o : Option Request) → (replica m.state r).condition ≡ Live l →
          slice_get m.state.requests l.place ≡ o →
          Went (suc k) r (quiet_turn S (faults round r) r (turn_at S m.state l o) m)
      asked l None live e p there = let same : l.place ≡ p.place = ap place_of (sym live ∙ there) in
          let past : length m.state.requests ≤ l.place = none_past m.state.requests l.place e in inr (inl (omega arith))
      asked l (Some q) live e p there = rank (nat_lt (l.place + S.k) m.state.stable) l q live e refl p there

      by : (c : Condition) → (replica m.state r).condition ≡ c →
          Went (suc k) r (quiet_turn S (faults round r) r (turn_in S m.state c) m)
      by (Live l) live o there = asked l (slice_get m.state.requests l.place) live refl o there
      by Down live o there = absurd (cc)
      by (Rebuilding b) live o there = absurd (cc)

  went_less : (k r : ℕ) (m : Moment) → Went (suc k) r m → Went k r m
  went_less k r m h l live = ⊎_elim (λ e. inl (omega arith)) (λ e. inr e) (h l live)

  -- a round: each replica in it went one place further
  in_round : (k r round : ℕ) (js : List ℕ) (m : Moment) → Went k r m →
      Went k r (last m (moments (slot_turn S faults) m (map (λ j. record { round = round; replica = j }) js)))
      × (is_told r js ≡ true →
      Went (suc k) r (last m
      (moments (slot_turn S faults) m (map (λ j. record { round = round; replica = j }) js))))
  in_round k r round [] m h = (h, λ e. absurd (cc))
  in_round k r round (j ∷ js) m h = ⊎_elim
      (λ same.
      let own : Went (suc k) r (slot_turn S faults m (record { round = round; replica = j })) =
      subst (λ i. Went (suc k) r (slot_turn S faults m (record { round = round; replica = i }))) same
      (own_turn k r round m h) in
      let rest = in_round (suc k) r round js (slot_turn S faults m (record { round = round; replica = j })) own in (
        went_less k r (last (slot_turn S faults m (record { round = round; replica = j }))
            (moments (slot_turn S faults) (slot_turn S faults m (record { round = round; replica = j }))
            (map (λ i. record { round = round; replica = i }) js))) rest.0,
        λ e. rest.0,
      ))
      (λ other.
      let rest = in_round k r round js (slot_turn S faults m (record { round = round; replica = j }))
      (other_turn k j r round m other h) in
      (rest.0, λ e. rest.1 (by (j == r) refl (λ t. other (sym (eqb-true j r t))) e)))
      (cases_eq r j)
    where
      by : (b : Bool) → (j == r) ≡ b → ((j == r) ≡ true → ⊥) → (b || is_told r js) ≡ true → is_told r js ≡ true
      by true t deny e = absurd (deny t)
      by false t deny e = e

  pub last-append : (m : Moment) (ms ns : List Moment) → last m (ms ++ ns) ≡ last (last m ms) ns
  last-append m [] ns = refl
  last-append m (x ∷ ms) ns = last-append x ms ns

  moments-append : {X : Type 0} (small : Moment → X → Moment) (m : Moment) (xs ys : List X) →
      moments small m (xs ++ ys) ≡ moments small m xs ++ moments small (last m (moments small m xs)) ys
  moments-append small m [] ys = refl
  moments-append small m (x ∷ xs) ys = ap (λ zs. small m x ∷ zs) (moments-append small (small m x) xs ys)

  in_rounds : (rounds n r : ℕ) (m : Moment) → r < n → Went rounds r
      (last m (moments (slot_turn S faults) m (slots rounds n)))
  in_rounds zero n r m low = λ l live. inl (omega arith)
  in_rounds (suc rounds) n r m low =
      let small = slot_turn S faults in
      let xs = slots rounds n in
      let ys : List Slot = map (λ j. record { round = suc rounds; replica = j }) (below n) in
      let k = last m (moments small m xs) in
      let e : last m (moments small m (xs ++ ys)) ≡ last k (moments small k ys) =
      ap (last m) (moments-append small m xs ys) ∙ last-append m (moments small m xs) (moments small k ys) in
      subst (Went (suc rounds) r) (sym e)
      ((in_round rounds r (suc rounds) (below n) k (in_rounds rounds n r m low)).1 (told_below r n low))

  idle_after : (r : ℕ) (m : Moment) →
      ((l : Running) → (replica m.state r).condition ≡ Live l →
      (length m.state.requests ≤ l.place) ⊎ (l.place + S.k < m.state.stable)) →
      (c : IdleCause) × (turn S m.state r ≡ Not c)
  idle_after r m h = by (replica m.state r).condition refl
    where
      rank : (l : Running) (q : Request) (b : Bool) → nat_lt (l.place + S.k) m.state.stable ≡ b →
          (l.place + S.k < m.state.stable) → (c : IdleCause) × (cond b (Not Behind) (Next l q) ≡ Not c)
      rank l q true e g = (Behind, refl)
      rank l q false e g = absurd
          (let t : nat_lt (l.place + S.k) m.state.stable ≡ true = lt-ltb (l.place + S.k) m.state.stable g in cc)

      asked : (l : Running) (o : Option Request) → slice_get m.state.requests l.place ≡ o →
          ((length m.state.requests ≤ l.place) ⊎ (l.place + S.k < m.state.stable)) →
          (c : IdleCause) × (turn_at S m.state l o ≡ Not c)
      asked l None e g = (AtEnd, refl)
      asked l (Some q) e (inl g) = absurd
          (let w : l.place < length m.state.requests = some_within m.state.requests l.place q e in omega arith)
      asked l (Some q) e (inr g) = rank l q (nat_lt (l.place + S.k) m.state.stable) refl g

      by : (c : Condition) → (replica m.state r).condition ≡ c → (d : IdleCause) × (turn_in S m.state c ≡ Not d)
      by (Live l) live = asked l (slice_get m.state.requests l.place) refl (h l live)
      by Down live = (NotLive, refl)
      by (Rebuilding b) live = (NotLive, refl)

  moments_later : (m : Moment) (xs : List Slot) → Later m (last m (moments (slot_turn S faults) m xs))
  moments_later m [] = later_same m
  moments_later m (x ∷ xs) = later_then m (slot_turn S faults m x)
      (last (slot_turn S faults m x) (moments (slot_turn S faults) (slot_turn S faults m x) xs))
      (quiet_later (faults x.round x.replica) x.replica (turn S m.state x.replica) m)
      (moments_later (slot_turn S faults m x) xs)

  -- after as many rounds as there are requests no replica may run
  pub rounds_enough : (r : ℕ) (m : Moment) → r < length m.state.replicas →
      (c : IdleCause) × (turn S
      (last m (moments (slot_turn S faults) m (slots (length m.state.requests) (length m.state.replicas)))).state r
      ≡ Not c)
  rounds_enough r m low =
      let n = last m (moments (slot_turn S faults) m (slots (length m.state.requests) (length m.state.replicas))) in
      let later = moments_later m (slots (length m.state.requests) (length m.state.replicas)) in
      let w = in_rounds (length m.state.requests) (length m.state.replicas) r m low in
      idle_after r n (λ l live. ⊎_elim (λ e. inl (subst (λ q. length q ≤ l.place) (sym later.requests) e)) (λ e. e)
      (w l live))

-- fault points of other turns make no difference, so a run over slots does not see the points that come later
pub slots_agree : (S : Service) (f g : Faults) (m : Moment) (xs : List Slot) →
    All (λ (t : Slot). f t.round t.replica ≡ g t.round t.replica) xs →
    moments (slot_turn S f) m xs ≡ moments (slot_turn S g) m xs
slots_agree S f g m [] h = refl
slots_agree S f g m (x ∷ xs) h =
    let P : Slot → Type 0 = λ t. f t.round t.replica ≡ g t.round t.replica in
    let e : slot_turn S f m x ≡ slot_turn S g m x = ap (λ b. quiet_turn S b x.replica (turn S m.state x.replica) m)
    (All-head P x xs h) in
    ap (λ n. n ∷ moments (slot_turn S f) n xs) e ∙ ap (λ ns. slot_turn S g m x ∷ ns)
    (slots_agree S f g (slot_turn S g m x) xs (All-tail P x xs h))
