-- At every moment, fair or not, what a Rebuilding replica got is as far as a walk from the stable root came.
use Rattle.std.proofs.Common.{◌≡◌, ℕ, zero, suc, ◌+◌, ◌*◌, ◌<◌, ◌≤◌, Bool, true, false, cond, ◌&&◌, ◌||◌, List, [], ◌∷◌, ◌++◌, length, get_or, refl, sym, ◌∙◌, ap, subst, ⊎_elim, arith}
use Rattle.std.specs.List.{All}
use Rattle.std.specs.Prelude.{Option, Some, None, nat_le, nat_lt, ◌==◌, zip}
use Rattle.std.proofs.lemmas.Bool.{eqb-true, ltb-true, cases_lt, cases_eq}
use Rattle.std.proofs.lemmas.List.{set_past, get_or_past, get_or-set_other}
use Rattle.std.proofs.lemmas.List.Elements.{All-map, All-weaker, All-set, All-get_or, All-replicate, All-nil, All-cons, All-head, All-tail}
use Rattle.abs_model.specs.declared.Entry.{Entry}
use Rattle.nfs2_types.specs.declared.Word.{Word}
use Rattle.log_format.specs.declared.Event.{Event}
use Rattle.log_format.specs.declared.Event.TheVariants.{Request as Ask, Run, RunAll, Reboot, Fetch, Rogue, Skip, Scratch, LieReply, LieRoot, LieItem, Wipe, Swap, End}
use Rattle.cluster_model.specs.Service.{Service}
use Rattle.cluster_model.specs.Tree.{Item, digests, children}
use Rattle.cluster_model.specs.State.{Condition, Live, Down, Rebuilding, Fetching, Replica, State}
use Rattle.cluster_model.specs.Moments.{Moment, Faults, gone, replica, put, becomes, fails, is_decided, votes, root_votes, decides, forgets_words, adds_word, casts_word, becomes_stable, sees_stable, drops_before, adds_root, casts_root}
use Rattle.cluster_model.specs.Turns.{begins, last}
use Rattle.cluster_model.specs.Step.{FetchEnd, Missing, Forgets, Whole, rebooted, is_target, aimed, aims, if_rebuilding, stage_fault, stage_moments, stage_order, is_live, gets, ends_fetch, fetches}
use Rattle.cluster_model.specs.Right.{IsSpelled}
use Rattle.cluster_model.specs.Good.{AllGood}
use Rattle.cluster_model.specs.Loose.{LooseStep, LooseFetch}
use Rattle.cluster_model.specs.Run.{fresh}
use Rattle.cluster_model.specs.Walk.{sought, IsGotAt, IsWalk, IsFormed, IsGoing, IsWalkIn, HasWalks, IsWalkedFetch, WalkedFetch, WalkedStep}
use Rattle.cluster_model.proofs.Seats.{put_same}
use Rattle.cluster_model.proofs.Steps.{if_rebuilding_cases}
use Rattle.cluster_model.proofs.Premise.{rebuilding_within}
use Rattle.cluster_model.proofs.Walking.{++-assoc}
use Rattle.cluster_model.proofs.Voted.{Always-moments, Always-append, Always-last}
use Rattle.cluster_model.specs.Run.{Always}
use Rattle.cluster_model.proofs.Keeping.{IsClosed, loose_keeps}
use Rattle.cluster_model.proofs.Walked.{walked_loose}

-- Beginnings of walks

got_front : (S : Service) (then : List (ℕ × List ℕ) → List (Item × List ℕ) → Type 0) →
    ((lower : List (ℕ × List ℕ)) (xs ys : List (Item × List ℕ)) → then lower (xs ++ ys) → then lower xs) →
    (l : ℕ) (fr lower : List (ℕ × List ℕ)) (xs ys : List (Item × List ℕ)) → IsGotAt S then l fr lower (xs ++ ys) →
    IsGotAt S then l fr lower xs
got_front S then front l [] lower xs ys w = front lower xs ys w
got_front S then front l (f ∷ fr) lower [] ys w = tt
got_front S then front l (f ∷ fr) lower (x ∷ xs) ys w =
    (w.0, w.1, got_front S then front l fr (lower ++ zip_of f x) xs ys w.2)
  where
    zip_of : ℕ × List ℕ → Item × List ℕ → List (ℕ × List ℕ)
    zip_of f x = zip (children f.0) (S.parts x.1)

nil_front : {X : Type 0} (xs ys : List X) → xs ++ ys ≡ [] → xs ≡ []
nil_front [] ys e = refl
nil_front (x ∷ xs) ys e = absurd (cc)

pub walk_front : (S : Service) (own : List (List ℕ)) (l : ℕ) (fr : List (ℕ × List ℕ)) (xs ys : List (Item × List ℕ)) →
    IsWalk S own l fr (xs ++ ys) → IsWalk S own l fr xs
walk_front S own zero fr xs ys w = got_front S (λ lower rest. rest ≡ []) (λ lower us vs e. nil_front us vs e) 0
    (sought S own 0 fr) [] xs ys w
walk_front S own (suc l) fr xs ys w = got_front S (λ lower rest. IsWalk S own l lower rest)
    (λ lower us vs e. walk_front S own l lower us vs e) (suc l) (sought S own (suc l) fr) [] xs ys w

got_nil : (S : Service) (then : List (ℕ × List ℕ) → List (Item × List ℕ) → Type 0) →
    ((lower : List (ℕ × List ℕ)) → then lower []) →
    (l : ℕ) (fr lower : List (ℕ × List ℕ)) → IsGotAt S then l fr lower []
got_nil S then nil l [] lower = nil lower
got_nil S then nil l (f ∷ fr) lower = tt

pub walk_nil : (S : Service) (own : List (List ℕ)) (l : ℕ) (fr : List (ℕ × List ℕ)) → IsWalk S own l fr []
walk_nil S own zero fr = got_nil S (λ lower rest. rest ≡ []) (λ lower. refl) 0 (sought S own 0 fr) []
walk_nil S own (suc l) fr = got_nil S (λ lower rest. IsWalk S own l lower rest) (λ lower. walk_nil S own l lower)
    (suc l) (sought S own (suc l) fr) []

formed_front : (S : Service) (xs ys : List (Item × List ℕ)) → All (IsFormed S) (xs ++ ys) → All (IsFormed S) xs
formed_front S [] ys h = All-nil (IsFormed S)
formed_front S (x ∷ xs) ys h = All-cons (IsFormed S) x xs (All-head (IsFormed S) x (xs ++ ys) h)
    (formed_front S xs ys (All-tail (IsFormed S) x (xs ++ ys) h))

going_front : (S : Service) (b : List Entry) (d : List ℕ) (xs ys : List (Item × List ℕ)) → IsGoing S b d (xs ++ ys) →
    IsGoing S b d xs
going_front S b d xs ys h = (walk_front S (digests S b) S.levels ((0, d) ∷ []) xs ys h.0, formed_front S xs ys h.1)

going_nil : (S : Service) (b : List Entry) (d : List ℕ) → IsGoing S b d []
going_nil S b d = (walk_nil S (digests S b) S.levels ((0, d) ∷ []), All-nil (IsFormed S))

-- Small changes

module _ (S : Service) where
  abbrev W : State → Replica → Type 0
  W s x = IsWalkIn S s x.condition

  walk_at : (s : State) (r : ℕ) → HasWalks S s → W s (replica s r)
  walk_at s r h = ⊎_elim (λ l. All-get_or (W s) s.replicas r gone l h)
      (λ g. let e : replica s r ≡ gone = get_or_past s.replicas r gone g in subst (W s) (sym e) tt)
      (cases_lt r (length s.replicas))

  put_walks : (s : State) (r : ℕ) (x : Replica) → HasWalks S s → W s x → HasWalks S (put r x s)
  put_walks s r x h w = All-set (W s) s.replicas r x w h

  rebooted_walks : (s : State) (c : Condition) → IsWalkIn S s (rebooted S c)
  rebooted_walks s (Live l) = ((λ t e. absurd (cc)), (λ e. absurd (cc)))
  rebooted_walks s Down = ((λ t e. absurd (cc)), (λ e. absurd (cc)))
  rebooted_walks s (Rebuilding b) = ((λ t e. absurd (cc)), (λ e. absurd (cc)))

  word_walks : (r p : ℕ) (w : Word) (m : Moment) → HasWalks S m.state → HasWalks S (casts_word S r p w m).state
  word_walks r p w m h = by (is_decided p m.state) (nat_le (S.f + 1) (votes p w (adds_word r p w m.state)))
    where
      added : HasWalks S (adds_word r p w m.state)
      added = put_walks m.state r (record (replica m.state r) { words = (p, w) ∷ (replica m.state r).words }) h
          (walk_at m.state r h)

      by : (a b : Bool) → HasWalks S
          (cond a m (cond b (decides p w (record m { state = adds_word r p w m.state }))
          (record m { state = adds_word r p w m.state }))).state
      by true b = h
      by false false = added
      by false true = All-map (W m.state) (forgets_words p) (adds_word r p w m.state).replicas added

  -- where another place becomes stable, no target is stable
  later_walk : (s n : State) (p : ℕ) → s.stable < p → n.stable ≡ p → (c : Condition) → IsWalkIn S s c →
      IsWalkIn S n (drops_before p c)
  later_walk s n p up e (Live l) h = tt
  later_walk s n p up e Down h = tt
  later_walk s n p up e (Rebuilding b) h = (
    (λ t g. (let low : t ≤ s.stable = h.0 t g in omega arith)),
    (λ g. absurd (let low : n.stable ≤ s.stable = h.0 n.stable g in omega arith)),
  )

  root_walks : (r p : ℕ) (d : List ℕ) (m : Moment) → HasWalks S m.state → HasWalks S (casts_root S r p d m).state
  root_walks r p d m h = by (nat_lt m.state.stable p) refl
      (nat_le (2 * S.f + 1) (root_votes p d (adds_root r p d m.state)))
    where
      n : Moment
      n = record m { state = adds_root r p d m.state }

      added : HasWalks S (adds_root r p d m.state)
      added = put_walks m.state r (record (replica m.state r) { roots = (p, d) ∷ (replica m.state r).roots }) h
          (walk_at m.state r h)

      by : (a : Bool) → nat_lt m.state.stable p ≡ a → (b : Bool) →
          HasWalks S (cond a (cond b (becomes_stable p d (record m { state = adds_root r p d m.state }))
          (record m { state = adds_root r p d m.state })) m).state
      by false e b = h
      by true e false = added
      by true e true =
          let k = becomes_stable p d (record m { state = adds_root r p d m.state }) in
          All-map (W k.state) (sees_stable p) (adds_root r p d m.state).replicas
          (All-weaker (W m.state) (λ x. W k.state (sees_stable p x))
          (λ x g. later_walk m.state k.state p (ltb-true m.state.stable p e) refl x.condition g)
          (adds_root r p d m.state).replicas added)

  pub walks_closed : IsClosed S (HasWalks S)
  walks_closed = record {
    live = λ r l s h. put_walks s r (record (replica s r) { condition = Live l }) h tt;
    down = λ r s h. put_walks s r (record (replica s r) { condition = Down }) h tt;
    reboot = λ r c s h. put_walks s r (record (replica s r) { condition = rebooted S c }) h (rebooted_walks s c);
    withdraw = λ r s h. put_walks s r (record (replica s r) { words = []; roots = [] }) h (walk_at s r h);
    word = word_walks;
    root_word = root_walks;
    ask = λ q s h. h;
  }

-- A Fetch

-- who is Rebuilding after another is Down was so before
becomes_rebuilding : (j r : ℕ) (m : Moment) (b : Fetching) →
    (replica (becomes j Down m).state r).condition ≡ Rebuilding b → (replica m.state r).condition ≡ Rebuilding b
becomes_rebuilding j r m b e =
    let x : Replica = record (replica m.state j) { condition = Down } in
    ⊎_elim
    (λ same. ⊎_elim
    (λ within. absurd (let f : Down ≡ Rebuilding b = sym
    (ap (λ (y : Replica). y.condition) (put_same m.state j x within))
    ∙ subst (λ k. (replica (becomes j Down m).state k).condition ≡ Rebuilding b) same e in cc))
    (λ past. ap (λ xs. (get_or xs r gone).condition) (sym (set_past m.state.replicas j x past)) ∙ e)
    (cases_lt j (length m.state.replicas)))
    (λ other. ap (λ (y : Replica). y.condition) (sym (get_or-set_other m.state.replicas j r x gone other)) ∙ e)
    (cases_eq r j)

module _ (S : Service) (faults : Faults) (r p : ℕ) (d : List ℕ) (a : List Entry) (end : FetchEnd) where
  -- r has got this much, towards p
  record IsAt (got : List (Item × List ℕ)) (n : Moment) : Type 0 where
    walks : HasWalks S n.state
    stable_is : n.state.stable ≡ p
    root_is : n.state.root ≡ d
    has : (b : Fetching) → (replica n.state r).condition ≡ Rebuilding b →
        (b.array ≡ a) × (b.target ≡ Some p) × (b.got ≡ got)

  stage_at : (got : List (Item × List ℕ)) (stage : ℕ) (m : Moment) (j : ℕ) → IsAt got m →
      IsAt got (stage_fault faults r stage m j)
  stage_at got stage m j h = by (faults stage j && ((j == r) || is_live (replica m.state j).condition))
    where
      by : (t : Bool) → IsAt got (cond t (fails j m) m)
      by true = record {
        walks = put_walks S m.state j (record (replica m.state j) { condition = Down }) h.walks tt;
        stable_is = h.stable_is;
        root_is = h.root_is;
        has = λ b e. h.has b (becomes_rebuilding j r m b e);
      }
      by false = h

  rebuilding_walk : (m : Moment) (b : Fetching) (got : List (Item × List ℕ)) → IsAt got m → b.array ≡ a →
      b.target ≡ Some p → IsGoing S a d b.got → IsWalkIn S m.state (Rebuilding b)
  rebuilding_walk m b got h ea et w = (
    (λ t e. (let f : Some p ≡ Some t = sym et ∙ e in let same : p ≡ t = cc in
        let st : m.state.stable ≡ p = h.stable_is in omega arith)),
    (λ e. subst (λ x. IsGoing S x m.state.root b.got) (sym ea) (subst (λ x. IsGoing S a x b.got) (sym h.root_is) w)),
  )

  gets_at : (got : List (Item × List ℕ)) (x : Item × List ℕ) (m : Moment) (b : Fetching) → IsAt got m →
      (replica m.state r).condition ≡ Rebuilding b →
      IsGoing S a d (got ++ x ∷ []) → IsAt (got ++ x ∷ []) (gets r x m b)
  gets_at got x m b h live w =
      let f = h.has b live in
      let b' : Fetching = record b { got = b.got ++ x ∷ [] } in
      let y : Replica = record (replica m.state r) { condition = Rebuilding b' } in
      let more : b.got ++ x ∷ [] ≡ got ++ x ∷ [] = ap (λ xs. xs ++ x ∷ []) f.2 in
      record {
        walks = put_walks S m.state r y h.walks
            (rebuilding_walk m b' got h f.0 f.1 (subst (IsGoing S a d) (sym more) w));
        stable_is = h.stable_is;
        root_is = h.root_is;
        has = λ c e.
            let same : Rebuilding b' ≡ Rebuilding c = sym
            (ap (λ (z : Replica). z.condition) (put_same m.state r y (rebuilding_within m.state r b live))) ∙ e in
            let is : b' ≡ c = cc in (
              subst (λ (z : Fetching). z.array ≡ a) is f.0,
              subst (λ (z : Fetching). z.target ≡ Some p) is f.1,
              subst (λ (z : Fetching). z.got ≡ got ++ x ∷ []) is more,
            );
      }

  ends_at : (got : List (Item × List ℕ)) (e : FetchEnd) (m : Moment) (b : Fetching) → IsAt got m →
      (replica m.state r).condition ≡ Rebuilding b → HasWalks S (ends_fetch S r e m b).state
  ends_at got Missing m b h live = h.walks
  ends_at got Forgets m b h live =
      let f = h.has b live in
      let b' : Fetching = record b { got = [] } in
      put_walks S m.state r (record (replica m.state r) { condition = Rebuilding b' }) h.walks
      (rebuilding_walk m b' got h f.0 f.1 (going_nil S a d))
  ends_at got (Whole c) m b h live = put_walks S m.state r
      (record (replica m.state r) { condition = Live (begins S m.state.stable c) }) h.walks tt

  abbrev Walks : Moment → Type 0
  Walks n = HasWalks S n.state

  stages_at : (got : List (Item × List ℕ)) (stage : ℕ) (m : Moment) → IsAt got m →
      Always (IsAt got) (stage_moments faults r stage m)
  stages_at got stage m h = Always-moments (IsAt got) (stage_fault faults r stage) (λ n j g. stage_at got stage n j g) m
      (stage_order (length m.state.replicas) r) h

  only_walks : (got : List (Item × List ℕ)) (ms : List Moment) → Always (IsAt got) ms → Always Walks ms
  only_walks got [] h = tt
  only_walks got (m ∷ ms) h = (h.0.walks, only_walks got ms h.1)

  fetches_at : (stage : ℕ) (items got : List (Item × List ℕ)) (m : Moment) → IsAt got m → IsGoing S a d (got ++ items) →
      Always Walks (fetches S faults r end stage items m)
  fetches_at stage [] got m h w =
      let ms = stage_moments faults r stage m in
      let hs = stages_at got stage m h in
      let k = last m ms in
      let g = Always-last (IsAt got) m ms h hs in
      Always-append Walks ms (if_rebuilding k (replica k.state r).condition (λ b. ends_fetch S r end k b) ∷ [])
      (only_walks got ms hs) (
        if_rebuilding_cases S faults r k.state.requests k.state.stable Walks k (replica k.state r).condition
            (λ b. ends_fetch S r end k b) g.walks (λ b live. ends_at got end k b g live),
        tt,
      )
  fetches_at stage (x ∷ xs) got m h w =
      let ms = stage_moments faults r stage m in
      let hs = stages_at got stage m h in
      let k = last m ms in
      let g = Always-last (IsAt got) m ms h hs in
      let w' : IsGoing S a d ((got ++ x ∷ []) ++ xs) = subst (IsGoing S a d) (sym (++-assoc got (x ∷ []) xs)) w in
      Always-append Walks ms
      (if_rebuilding (k ∷ []) (replica k.state r).condition
      (λ b. fetches S faults r end (suc stage) xs (gets r x k b))) (only_walks got ms hs)
      (if_rebuilding_cases S faults r k.state.requests k.state.stable (Always Walks) (k ∷ [])
      (replica k.state r).condition
      (λ b. fetches S faults r end (suc stage) xs (gets r x k b)) (g.walks, tt)
      (λ b live. fetches_at (suc stage) xs (got ++ x ∷ []) (gets r x k b)
      (gets_at got x k b g live (going_front S a d (got ++ x ∷ []) xs w')) w'))

pub aimed_target : (p : ℕ) (b : Fetching) → (aimed p b).target ≡ Some p
aimed_target p b = by b.target refl
  where
    cut : (t : ℕ) → b.target ≡ Some t → (u : Bool) → (t == p) ≡ u →
        (cond u b (record { array = b.array; target = Some p; got = [] })).target ≡ Some p
    cut t e true g = e ∙ ap Some (eqb-true t p g)
    cut t e false g = refl

    by : (o : Option ℕ) → b.target ≡ o →
        (cond (is_target p o) b (record { array = b.array; target = Some p; got = [] })).target ≡ Some p
    by None e = refl
    by (Some t) e = cut t e (t == p) refl

-- a Fetch keeps the walks
fetch_walks : (S : Service) (faults : Faults) (r n : ℕ) (m : Moment) (b : Fetching) (items : List (Item × List ℕ))
    (end : FetchEnd) → HasWalks S m.state →
    (replica m.state r).condition ≡ Rebuilding b → IsWalkedFetch S faults r n m b items end →
    Always (λ k. HasWalks S k.state) (fetches S faults r end 0 items (aims r m b))
fetch_walks S faults r n m b items end h live w =
    let aim = aimed m.state.stable b in
    let y : Replica = record (replica m.state r) { condition = Rebuilding aim } in
    let d = m.state.root in
    let front : IsGoing S aim.array d aim.got = going_front S aim.array d aim.got items w.walked.going in
    let target : aim.target ≡ Some m.state.stable = aimed_target m.state.stable b in
    fetches_at S faults r m.state.stable d aim.array end 0 items aim.got (aims r m b)
    (record {
      walks = put_walks S m.state r y h (
        (λ t e. (let f : Some m.state.stable ≡ Some t = sym target
            ∙ e in let same : m.state.stable ≡ t = cc in omega arith)),
        (λ e. front),
      );
      stable_is = refl;
      root_is = refl;
      has = λ c e.
          let same : Rebuilding aim ≡ Rebuilding c = sym
          (ap (λ (z : Replica). z.condition) (put_same m.state r y (rebuilding_within m.state r b live))) ∙ e in
          let is : aim ≡ c = cc in (
            ap (λ (z : Fetching). z.array) (sym is),
            subst (λ (z : Fetching). z.target ≡ Some m.state.stable) is target,
            ap (λ (z : Fetching). z.got) (sym is),
          );
    }) w.walked.going

-- The code's step is a loose step, and keeps the walks

walked_fetch : (S : Service) → IsSpelled S → (faults : Faults) (r n : ℕ) (m : Moment) → AllGood S m.state →
    (c : Condition) → (replica m.state r).condition ≡ c →
    (ms : List Moment) → WalkedFetch S faults r n m c ms → LooseFetch S faults r n m c ms
walked_fetch S laws faults r n m good (Live l) live ms w = w
walked_fetch S laws faults r n m good Down live ms w = w
walked_fetch S laws faults r n m good (Rebuilding b) live ms w =
    (w.0, w.1, walked_loose S laws faults r n m b w.0 w.1 good live w.2, w.3)

pub walked_step : (S : Service) → IsSpelled S → (faults : Faults) (e : Event) (m : Moment) (ms : List Moment) →
    AllGood S m.state → WalkedStep S faults e m ms → LooseStep S faults e m ms
walked_step S laws faults (Fetch r n) m ms good w = walked_fetch S laws faults r n m good
    (replica m.state r).condition refl ms w
walked_step S laws faults (Ask client time bytes) m ms good w = w
walked_step S laws faults (Run r) m ms good w = w
walked_step S laws faults RunAll m ms good w = w
walked_step S laws faults (Reboot r) m ms good w = w
walked_step S laws faults (Rogue r time bytes) m ms good w = w
walked_step S laws faults (Skip r) m ms good w = w
walked_step S laws faults (Scratch r i o b) m ms good w = w
walked_step S laws faults (LieReply r p x) m ms good w = w
walked_step S laws faults (LieRoot r p d) m ms good w = w
walked_step S laws faults (LieItem r level number t) m ms good w = w
walked_step S laws faults (Wipe r) m ms good w = w
walked_step S laws faults (Swap r spare) m ms good w = w
walked_step S laws faults End m ms good w = w

fetch_all : (S : Service) (faults : Faults) (r n : ℕ) (m : Moment) → HasWalks S m.state → (c : Condition) →
    (replica m.state r).condition ≡ c →
    (ms : List Moment) → WalkedFetch S faults r n m c ms → Always (λ k. HasWalks S k.state) ms
fetch_all S faults r n m h (Live l) live ms w = subst (Always (λ k. HasWalks S k.state)) (sym w) (h, tt)
fetch_all S faults r n m h Down live ms w = subst (Always (λ k. HasWalks S k.state)) (sym w) (h, tt)
fetch_all S faults r n m h (Rebuilding b) live ms w = subst (Always (λ k. HasWalks S k.state)) (sym w.3)
    (fetch_walks S faults r n m b w.0 w.1 h live w.2)

-- what is kept where the event is not a Fetch
kept_walks : (S : Service) (faults : Faults) (m : Moment) → HasWalks S m.state → (e : Event) →
    ((r n : ℕ) → e ≡ Fetch r n → ⊥) → (ms : List Moment) → LooseStep S faults e m ms →
    Always (λ k. HasWalks S k.state) ms
kept_walks S faults m h e no' ms loose = loose_keeps S (HasWalks S) (walks_closed S) faults m h e
    (λ r n is ks l. absurd (no' r n is)) (λ r spare is. h) ms loose

pub walks_kept : (S : Service) (faults : Faults) (m : Moment) → HasWalks S m.state → (e : Event) (ms : List Moment) →
    WalkedStep S faults e m ms → Always (λ k. HasWalks S k.state) ms
walks_kept S faults m h (Fetch r n) ms w = fetch_all S faults r n m h (replica m.state r).condition refl ms w
walks_kept S faults m h (Ask client time bytes) ms w = kept_walks S faults m h (Ask client time bytes)
    (λ j n is. cc) ms w
walks_kept S faults m h (Run r) ms w = kept_walks S faults m h (Run r) (λ j n is. cc) ms w
walks_kept S faults m h RunAll ms w = kept_walks S faults m h RunAll (λ j n is. cc) ms w
walks_kept S faults m h (Reboot r) ms w = kept_walks S faults m h (Reboot r) (λ j n is. cc) ms w
walks_kept S faults m h (Rogue r time bytes) ms w = kept_walks S faults m h (Rogue r time bytes) (λ j n is. cc) ms w
walks_kept S faults m h (Skip r) ms w = kept_walks S faults m h (Skip r) (λ j n is. cc) ms w
walks_kept S faults m h (Scratch r i o b) ms w = kept_walks S faults m h (Scratch r i o b) (λ j n is. cc) ms w
walks_kept S faults m h (LieReply r p x) ms w = kept_walks S faults m h (LieReply r p x) (λ j n is. cc) ms w
walks_kept S faults m h (LieRoot r p d) ms w = kept_walks S faults m h (LieRoot r p d) (λ j n is. cc) ms w
walks_kept S faults m h (LieItem r level number t) ms w = kept_walks S faults m h (LieItem r level number t)
    (λ j n is. cc) ms w
walks_kept S faults m h (Wipe r) ms w = kept_walks S faults m h (Wipe r) (λ j n is. cc) ms w
walks_kept S faults m h (Swap r spare) ms w = kept_walks S faults m h (Swap r spare) (λ j n is. cc) ms w
walks_kept S faults m h End ms w = kept_walks S faults m h End (λ j n is. cc) ms w

pub fresh_walks : (S : Service) (servers : ℕ) → HasWalks S (fresh S servers).state
fresh_walks S servers = All-replicate (λ (x : Replica). IsWalkIn S (fresh S servers).state x.condition) (3 * S.f + 1)
    (record { condition = Live (begins S 0 S.empty); words = []; roots = [] }) tt
