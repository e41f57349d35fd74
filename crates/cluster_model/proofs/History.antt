-- In a loose run every kept text is a text of a moment up to it; so Apart of these gives each step's premise.
use Rattle.std.proofs.Common.{◌≡◌, ℕ, ◌+◌, ◌-◌, ◌*◌, ◌^◌, ◌<◌, Bool, true, false, cond, List, [], ◌∷◌, length, get_or, refl, sym, ap, subst, inl, inr, ⊎_elim, arith}
use Rattle.std.specs.Prelude.{Some, slice_get, nat_le, nat_lt}
use Rattle.std.specs.List.{All}
use Rattle.std.proofs.lemmas.Bool.{cases_lt, cases_eq}
use Rattle.std.proofs.lemmas.List.{set_past, get_or_past, get_or-set_other}
use Rattle.std.proofs.Math.ListN.{get_or-map}
use Rattle.std.proofs.lemmas.List.Elements.{All-nil, All-map, All-weaker, All-set, All-get_or}
use Rattle.cluster_model.specs.declared.request.Request.{Request}
use Rattle.nfs2_types.specs.declared.Word.{Word}
use Rattle.log_format.specs.declared.Line.TheVariants as lines
use Rattle.cluster_model.specs.Service.{Service}
use Rattle.cluster_model.specs.Tree.{Item, text_of, node_text, root_of}
use Rattle.cluster_model.specs.State.{Condition, Live, Down, Rebuilding, Running, Replica, State, lookup, or_else}
use Rattle.cluster_model.specs.Moments.{Moment, gone, replica, put, print, becomes, fails, casts_word, casts_root, becomes_stable, decides, adds_word, adds_root, votes, root_votes, is_decided, drops_before, sees_stable, forgets_words}
use Rattle.cluster_model.specs.Turns.{fails_or, harm, turn, run_turn, rogue_turn, skip_turn, quiet_turn, passes, runs, skips, skipped, ran, checked, is_checkpoint, casts_root_of}
use Rattle.cluster_model.specs.Step.{withdraws, rebooted}
use Rattle.cluster_model.specs.Fair.{IsText, OfArray, OfBelieved, IsArrayIn, IsBelievedIn}
use Rattle.cluster_model.specs.Right.{IsSpelled}
use Rattle.cluster_model.specs.Run.{and_texts}
use Rattle.cluster_model.proofs.Seats.{put_same, live_within}
use Rattle.cluster_model.proofs.Turns.{casts_condition, passes_requests, root_of_requests}
use Rattle.cluster_model.proofs.Steps.{turn_cases}
use Rattle.cluster_model.proofs.Same.{slice_get-All}
use Rattle.cluster_model.proofs.Keeps.{IsKnown, AllKnown, IsKnownCheckpoint, drops_known, replica_known, put_known, ran_known, checked_known}

-- More is known later

pub known_weaker : (S : Service) (T U : List ℕ → Type 0) → ((t : List ℕ) → T t → U t) → (c : Condition) →
    IsKnown S T c → IsKnown S U c
known_weaker S T U w (Live l) h = (
  h.0,
  All-weaker (IsKnownCheckpoint S T) (IsKnownCheckpoint S U)
      (λ c g. (
        All-weaker (λ (s : ℕ × List ℕ). T s.1) (λ (s : ℕ × List ℕ). U s.1) (λ s k. w s.1 k) c.saved g.0,
        λ l' k i. w (node_text S c.digests l' k) (g.1 l' k i),
      )) l.holds h.1,
)
known_weaker S T U w Down h = tt
known_weaker S T U w (Rebuilding b) h =
    (h.0, All-weaker (λ (g : Item × List ℕ). T g.1) (λ (g : Item × List ℕ). U g.1) (λ g k. w g.1 k) b.got h.1)

pub all_weaker : (S : Service) (T U : List ℕ → Type 0) → ((t : List ℕ) → T t → U t) → (s : State) → AllKnown S T s →
    AllKnown S U s
all_weaker S T U w s h = (
  h.0,
  All-weaker (λ (x : Replica). IsKnown S T x.condition) (λ (x : Replica). IsKnown S U x.condition)
      (λ x g. known_weaker S T U w x.condition g) s.replicas h.1,
)

-- Casting words keeps what holds of each condition, and of one, and is not lost where checkpoints are dropped

module _ (K : Condition → Type 0) (drop : (p : ℕ) (c : Condition) → K c → K (drops_before p c)) (down : K Down) where
  abbrev Each : State → Type 0
  Each s = All (λ (x : Replica). K x.condition) s.replicas

  each_replica : (s : State) (r : ℕ) → Each s → K (replica s r).condition
  each_replica s r h = ⊎_elim (λ l. All-get_or (λ (x : Replica). K x.condition) s.replicas r gone l h)
      (λ g. let e : replica s r ≡ gone = get_or_past s.replicas r gone g in
      subst (λ (x : Replica). K x.condition) (sym e) down) (cases_lt r (length s.replicas))

  each_put : (s : State) (r : ℕ) (x : Replica) → Each s → K x.condition → Each (put r x s)
  each_put s r x h k = All-set (λ (y : Replica). K y.condition) s.replicas r x k h

  each_word : (S : Service) (r p : ℕ) (w : Word) (m : Moment) → Each m.state → Each (casts_word S r p w m).state
  each_word S r p w m h = by (is_decided p m.state) (nat_le (S.f + 1) (votes p w (adds_word r p w m.state)))
    where
      added : Each (adds_word r p w m.state)
      added = each_put m.state r (record (replica m.state r) { words = (p, w) ∷ (replica m.state r).words }) h
          (each_replica m.state r h)

      by : (a b : Bool) → Each
          (cond a m (cond b (decides p w (record m { state = adds_word r p w m.state }))
          (record m { state = adds_word r p w m.state }))).state
      by true b = h
      by false false = added
      by false true = All-map (λ (y : Replica). K y.condition) (forgets_words p)
          (adds_word r p w m.state).replicas added

  each_root : (S : Service) (r p : ℕ) (d : List ℕ) (m : Moment) → Each m.state → Each (casts_root S r p d m).state
  each_root S r p d m h = by (nat_lt m.state.stable p) (nat_le (2 * S.f + 1) (root_votes p d (adds_root r p d m.state)))
    where
      added : Each (adds_root r p d m.state)
      added = each_put m.state r (record (replica m.state r) { roots = (p, d) ∷ (replica m.state r).roots }) h
          (each_replica m.state r h)

      by : (a b : Bool) → Each
          (cond a (cond b (becomes_stable p d (record m { state = adds_root r p d m.state }))
          (record m { state = adds_root r p d m.state })) m).state
      by false b = h
      by true false = added
      by true true = All-map (λ (y : Replica). K y.condition) (sees_stable p) (adds_root r p d m.state).replicas
          (All-weaker (λ (y : Replica). K y.condition) (λ (y : Replica). K (drops_before p y.condition))
          (λ y g. drop p y.condition g) (adds_root r p d m.state).replicas added)

  each_root_of : (S : Service) (r : ℕ) (l : Running) (m : Moment) → Each m.state → Each (casts_root_of S r l m).state
  each_root_of S r l m h = by (is_checkpoint S l.place)
    where
      word : List ℕ
      word = or_else (lookup l.place l.lies.roots) (root_of S l.believed)

      by : (b : Bool) → Each (cond b (casts_root S r l.place word m) m).state
      by true = each_root S r l.place word m h
      by false = h

  pub each_passes : (S : Service) (r : ℕ) (l : Running) (w : Word) (m : Moment) → Each m.state → K (Live l) →
      Each (passes S r l w m).state
  each_passes S r l w m h k =
      let n = becomes r (Live l) m in
      let word = or_else (lookup l.place l.lies.words) w in
      each_root_of S r l (casts_word S r l.place word n)
      (each_word S r l.place word n (each_put m.state r (record (replica m.state r) { condition = Live l }) h k))

  pub each_skips : (S : Service) (r : ℕ) (l : Running) (m : Moment) → Each m.state → K (Live l) →
      Each (casts_root_of S r l (becomes r (Live l) m)).state
  each_skips S r l m h k = each_root_of S r l (becomes r (Live l) m)
      (each_put m.state r (record (replica m.state r) { condition = Live l }) h k)

module _ (K : Condition → Type 0) (drop : (p : ℕ) (c : Condition) → K c → K (drops_before p c)) where
  -- of one replica

  one_put : (s : State) (r j : ℕ) (x : Replica) → K (replica s j).condition → (x.condition ≡ (replica s r).condition) →
      K (replica (put r x s) j).condition
  one_put s r j x h e = ⊎_elim
      (λ l. ⊎_elim
      (λ same. subst (λ k. K (replica (put r x s) k).condition) (sym same)
      (subst K (ap (λ (y : Replica). y.condition) (sym (put_same s r x l)))
      (subst K (sym e) (subst (λ k. K (replica s k).condition) same h))))
      (λ other. subst K (ap (λ (y : Replica). y.condition) (sym (get_or-set_other s.replicas r j x gone other))) h)
      (cases_eq j r))
      (λ g. subst (λ xs. K (get_or xs j gone).condition) (sym (set_past s.replicas r x g)) h)
      (cases_lt r (length s.replicas))

  one_root : (S : Service) (r p : ℕ) (d : List ℕ) (m : Moment) (j : ℕ) → K (replica m.state j).condition →
      K (replica (casts_root S r p d m).state j).condition
  one_root S r p d m j h = by (nat_lt m.state.stable p)
      (nat_le (2 * S.f + 1) (root_votes p d (adds_root r p d m.state)))
    where
      added : K (replica (adds_root r p d m.state) j).condition
      added = one_put m.state r j (record (replica m.state r) { roots = (p, d) ∷ (replica m.state r).roots }) h refl

      by : (a b : Bool) → K
          (replica (cond a (cond b (becomes_stable p d (record m { state = adds_root r p d m.state }))
          (record m { state = adds_root r p d m.state })) m).state j).condition
      by false b = h
      by true false = added
      by true true = subst K
          (ap (λ (y : Replica). y.condition)
          (sym (get_or-map (sees_stable p) (adds_root r p d m.state).replicas j gone)))
          (drop p (replica (adds_root r p d m.state) j).condition added)

  pub one_root_of : (S : Service) (r : ℕ) (l : Running) (m : Moment) (j : ℕ) → K (replica m.state j).condition →
      K (replica (casts_root_of S r l m).state j).condition
  one_root_of S r l m j h = by (is_checkpoint S l.place)
    where
      word : List ℕ
      word = or_else (lookup l.place l.lies.roots) (root_of S l.believed)

      by : (b : Bool) → K (replica (cond b (casts_root S r l.place word m) m).state j).condition
      by true = one_root S r l.place word m j h
      by false = h

  pub one_passes : (S : Service) (r : ℕ) (l : Running) (w : Word) (m : Moment) (j : ℕ) →
      K (replica (becomes r (Live l) m).state j).condition → K (replica (passes S r l w m).state j).condition
  one_passes S r l w m j h =
      let n = becomes r (Live l) m in
      let word = or_else (lookup l.place l.lies.words) w in
      one_root_of S r l (casts_word S r l.place word n) j (subst K (sym (casts_condition S r l.place word n j)) h)

-- One event, not a Fetch

pub believed_within : (s : State) (r : ℕ) (ds : List (List ℕ)) → IsBelievedIn ds (replica s r).condition →
    r < length s.replicas
believed_within s r ds h = ⊎_elim (λ l. l)
    (λ g. let e : replica s r ≡ gone = get_or_past s.replicas r gone g in
    absurd (subst (λ (x : Replica). IsBelievedIn ds x.condition) e h)) (cases_lt r (length s.replicas))

believed_drop : (ds : List (List ℕ)) (p : ℕ) (c : Condition) → IsBelievedIn ds c → IsBelievedIn ds (drops_before p c)
believed_drop ds p (Live l) h = h
believed_drop ds p Down h = h
believed_drop ds p (Rebuilding b) h = h

module _ (S : Service) (laws : IsSpelled S) (T : List ℕ → Type 0) (m : Moment)
    (seen : (t : List ℕ) → IsText S m.state t → T t) (h : AllKnown S T m.state) where
  -- what is to be shown of the moment n that follows
  abbrev Then : Moment → Type 0
  Then n = AllKnown S (and_texts S T n) n.state

  pub same_then : (n : Moment) → n.state.replicas ≡ m.state.replicas → All S.fits n.state.requests → Then n
  same_then n e fit =
      let g = all_weaker S T (and_texts S T n) (λ t g. inl g) m.state h in
      (fit, subst (λ xs. All (λ (x : Replica). IsKnown S (and_texts S T n) x.condition) xs) (sym e) g.1)

  -- from a moment that keeps nothing new
  pub plain_then : (n : Moment) → AllKnown S T n.state → Then n
  plain_then n g = all_weaker S T (and_texts S T n) (λ t g. inl g) n.state g

  pub becomes_then : (r : ℕ) (c : Condition) (k : Moment) → AllKnown S T k.state → IsKnown S T c →
      AllKnown S T (becomes r c k).state
  becomes_then r c k g e = put_known S T k.state r (record (replica k.state r) { condition = c }) g e

  live_known : (r : ℕ) (l : Running) → (replica m.state r).condition ≡ Live l → IsKnown S T (Live l)
  live_known r l live = subst (IsKnown S T) live (replica_known S T m.state r h)

  here_known : (r : ℕ) (l : Running) → (replica m.state r).condition ≡ Live l → (i : ℕ) → i < length l.array →
      T (text_of S l.array i)
  here_known r l live i within =
      let size : length l.array ≡ 16 ^ S.levels = laws.good_size l.array (live_known r l live).0 in
      let z : S.levels - 0 ≡ S.levels = omega arith in
      let low : i < 16 ^ (S.levels - 0) = subst (λ n. i < 16 ^ n) (sym z) (subst (λ n. i < n) size within) in
      seen (text_of S l.array i) (OfArray r l.array (record { level = 0; number = i }) (live_within m.state r l live)
      (subst (IsArrayIn l.array) (sym live) refl) (omega arith, low) refl)

  fits_next : (l : Running) (q : Request) → slice_get m.state.requests l.place ≡ Some q → S.fits q
  fits_next l q e = slice_get-All S.fits m.state.requests l.place q h.0 e

  -- a replica passes its next place as l, and takes a checkpoint there if it is one
  passes_then : (r : ℕ) (old l : Running) (w : Word) → (replica m.state r).condition ≡ Live old → IsKnown S T (Live l) →
      Then (passes S r (checked S l) w m)
  passes_then r old l w live g =
      let l' = checked S l in
      let n = passes S r l' w m in
      let U = and_texts S T n in
      let x : Replica = record (replica m.state r) { condition = Live l' } in
      let entered : (replica (becomes r (Live l') m).state r).condition ≡ Live l' = ap (λ (y : Replica). y.condition)
      (put_same m.state r x (live_within m.state r old live)) in
      let believes : IsBelievedIn l'.believed (replica n.state r).condition =
      one_passes (IsBelievedIn l'.believed) (believed_drop l'.believed) S r l' w m r
      (subst (IsBelievedIn l'.believed) (sym entered) refl) in
      let known : IsKnown S U (Live l') = checked_known S U l
      (λ k j item. inr (OfBelieved r l'.believed k j
      (believed_within n.state r l'.believed believes) believes item refl))
      (known_weaker S T U (λ t k. inl k) (Live l) g) in (
        subst (All S.fits) (sym (passes_requests S r l' w m)) h.0,
        each_passes (IsKnown S U) (λ p c k. drops_known S U p c k) tt S r l' w m
            (all_weaker S T U (λ t k. inl k) m.state h).1 known,
      )

  skips_then : (r : ℕ) (old l : Running) → (replica m.state r).condition ≡ Live old → IsKnown S T (Live l) →
      Then (casts_root_of S r (checked S l) (becomes r (Live (checked S l)) m))
  skips_then r old l live g =
      let l' = checked S l in
      let n = casts_root_of S r l' (becomes r (Live l') m) in
      let U = and_texts S T n in
      let x : Replica = record (replica m.state r) { condition = Live l' } in
      let entered : (replica (becomes r (Live l') m).state r).condition ≡ Live l' = ap (λ (y : Replica). y.condition)
      (put_same m.state r x (live_within m.state r old live)) in
      let believes : IsBelievedIn l'.believed (replica n.state r).condition =
      one_root_of (IsBelievedIn l'.believed) (believed_drop l'.believed) S r l' (becomes r (Live l') m) r
      (subst (IsBelievedIn l'.believed) (sym entered) refl) in
      let known : IsKnown S U (Live l') = checked_known S U l
      (λ k j item. inr (OfBelieved r l'.believed k j
      (believed_within n.state r l'.believed believes) believes item refl))
      (known_weaker S T U (λ t k. inl k) (Live l) g) in (
        subst (All S.fits) (sym (root_of_requests S r l' (becomes r (Live l') m))) h.0,
        each_skips (IsKnown S U) (λ p c k. drops_known S U p c k) tt S r l' m
            (all_weaker S T U (λ t k. inl k) m.state h).1 known,
      )

  fails_then : (r : ℕ) (k : Moment) → AllKnown S T k.state → Then (fails r k)
  fails_then r k g = plain_then (fails r k) (becomes_then r Down k g tt)

  pub or_then : (fault : Bool) (r : ℕ) (does : Moment → Moment) (k : Moment) → AllKnown S T k.state → Then (does k) →
      Then (fails_or fault r does k)
  or_then true r does k g e = fails_then r k g
  or_then false r does k g e = e

  pub quiet_then : (fault : Bool) (r : ℕ) → Then (quiet_turn S fault r (turn S m.state r) m)
  quiet_then fault r = turn_cases S m.state r (λ t. Then (quiet_turn S fault r t m))
      (λ l q live next. or_then fault r (runs S r l q) m h
      (passes_then r l (ran S q l) (S.word l.array q) live
      (ran_known S T laws q (fits_next l q next) l (here_known r l live) (live_known r l live))))
      (λ c. same_then m refl h.0)

  pub run_then : (fault : Bool) (r : ℕ) → Then (run_turn S fault r (turn S m.state r) m)
  run_then fault r = turn_cases S m.state r (λ t. Then (run_turn S fault r t m))
      (λ l q live next. or_then fault r (runs S r l q) m h
      (passes_then r l (ran S q l) (S.word l.array q) live
      (ran_known S T laws q (fits_next l q next) l (here_known r l live) (live_known r l live))))
      (λ c. same_then (print (lines.Idle r c) m) refl h.0)

  pub rogue_then : (fault : Bool) (r : ℕ) (q : Request) → S.fits q → Then (rogue_turn S fault r q (turn S m.state r) m)
  rogue_then fault r q fit = turn_cases S m.state r (λ t. Then (rogue_turn S fault r q t m))
      (λ l _ live next. or_then fault r (runs S r (harm l) q) m h
      (passes_then r l (ran S q (harm l)) (S.word l.array q) live
      (ran_known S T laws q fit (harm l) (here_known r l live) (live_known r l live))))
      (λ c. same_then (print (lines.Idle r c) m) refl h.0)

  pub skip_then : (fault : Bool) (r : ℕ) → Then (skip_turn S fault r (turn S m.state r) m)
  skip_then fault r = turn_cases S m.state r (λ t. Then (skip_turn S fault r t m))
      (λ l _ live next. or_then fault r (skips S r l) m h (skips_then r l (skipped l) live (live_known r l live)))
      (λ c. same_then (print (lines.Idle r c) m) refl h.0)

  rebooted_known : (c : Condition) → IsKnown S T c → IsKnown S T (rebooted S c)
  rebooted_known (Live l) g = (g.0, All-nil (λ (x : Item × List ℕ). T x.1))
  rebooted_known Down g = (laws.good_empty, All-nil (λ (x : Item × List ℕ). T x.1))
  rebooted_known (Rebuilding b) g = (g.0, All-nil (λ (x : Item × List ℕ). T x.1))

  withdraws_known : (r : ℕ) → AllKnown S T (withdraws r m).state
  withdraws_known r = put_known S T m.state r (record (replica m.state r) { words = []; roots = [] }) h
      (replica_known S T m.state r h)

  pub reboot_then : (fault : Bool) (r : ℕ) →
      Then (fails_or fault r (λ n. becomes r (rebooted S (replica m.state r).condition) n) (withdraws r m))
  reboot_then fault r = or_then fault r (λ n. becomes r (rebooted S (replica m.state r).condition) n) (withdraws r m)
      (withdraws_known r)
      (plain_then (becomes r (rebooted S (replica m.state r).condition) (withdraws r m))
      (becomes_then r (rebooted S (replica m.state r).condition) (withdraws r m) (withdraws_known r)
      (rebooted_known (replica m.state r).condition (replica_known S T m.state r h))))

  -- harm that leaves the array's size and the checkpoints
  pub becomes_live_then : (r : ℕ) (l : Running) (k : Moment) → AllKnown S T k.state → IsKnown S T (Live l) →
      Then (becomes r (Live l) k)
  becomes_live_then r l k g e = plain_then (becomes r (Live l) k) (becomes_then r (Live l) k g e)
