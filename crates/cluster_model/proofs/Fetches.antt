-- A loose Fetch is Step's, up to the last moment up to which all are fair.
use Rattle.std.proofs.Common.{◌≡◌, ◌≢◌, ℕ, suc, ◌+◌, ◌<◌, ◌≤◌, true, false, List, [], ◌∷◌, ◌++◌, length, take, refl, sym, ◌∙◌, ap, subst, arith}
use Rattle.std.specs.List.{count_by}
use Rattle.std.proofs.Common.{⊎_elim}
use Rattle.std.proofs.lemmas.Bool.{cases_lt}
use Rattle.cluster_model.specs.Service.{Service, array_at}
use Rattle.cluster_model.specs.Tree.{Item, root}
use Rattle.cluster_model.specs.State.{is_harmed, Condition, Live, Down, Rebuilding, Running, Fetching, Replica, is_unsound}
use Rattle.cluster_model.specs.Moments.{Moment, Faults, replica, put}
use Rattle.cluster_model.specs.Turns.{last}
use Rattle.cluster_model.specs.Step.{FetchEnd, if_rebuilding, stage_moments, stage_order, gets, ends_fetch, fetches, fetch_towards, aims, aimed, end_towards, items_towards}
use Rattle.cluster_model.specs.Fair.{IsFair, IsApartNow}
use Rattle.cluster_model.specs.Right.{IsRight, IsSpelled}
use Rattle.cluster_model.specs.Loose.{Serves, ServesIn, IsLooseFetch}
use Rattle.cluster_model.specs.Run.{Upto, SameUpto}
use Rattle.cluster_model.proofs.Seats.{put_unsound, live_within}
use Rattle.cluster_model.proofs.Steps.{IsRightAt, stages_right, gets_right}
use Rattle.cluster_model.proofs.RightSteps.{aims_right}
use Rattle.cluster_model.proofs.Same.{WasLive, has_source, stages_live, told_order, replica_put}

pub SameUpto-refl : (P : Moment → Type 0) (ms : List Moment) → SameUpto P ms ms
SameUpto-refl P [] = tt
SameUpto-refl P (m ∷ ms) = λ p. (refl, SameUpto-refl P ms)

pub SameUpto-same : (P : Moment → Type 0) (ms ns : List Moment) → ms ≡ ns → SameUpto P ms ns
SameUpto-same P ms ns e = subst (λ ks. SameUpto P ms ks) e (SameUpto-refl P ms)

pub SameUpto-append : (P Q : Moment → Type 0) (m : Moment) (ms xs ys : List Moment) → Q m → Upto P Q ms →
    (Q (last m ms) → SameUpto P xs ys) → SameUpto P (ms ++ xs) (ms ++ ys)
SameUpto-append P Q m [] xs ys h g k = k h
SameUpto-append P Q m (n ∷ ms) xs ys h g k = λ p. (refl, SameUpto-append P Q n ms xs ys (g p).0 (g p).1 k)

pub Upto-with : (P R Q : Moment → Type 0) → ((m : Moment) → P m → R m) → (ms : List Moment) → Upto R Q ms →
    Upto P (λ m. Q m × R m) ms
Upto-with P R Q w [] h = tt
Upto-with P R Q w (m ∷ ms) h = λ p. (((h (w m p)).0, w m p), Upto-with P R Q w ms (h (w m p)).1)

module _ (S : Service) (laws : IsSpelled S) (faults : Faults) (r : ℕ) (m0 : Moment) (P : Moment → Type 0)
    (fair : (m : Moment) → P m → IsFair S m)
    (end then : FetchEnd) where
  abbrev Now : Moment → Type 0
  Now n = IsRightAt S faults r m0.state.requests m0.state.stable n

  -- a source that has not failed up to a stage says what is got there
  abbrev pub Link : ℕ → List (Item × List ℕ) → List (Item × List ℕ) → Type 0
  Link stage xs ys = (j : ℕ) → j < length m0.state.replicas → j ≢ r →
      ServesIn S m0.state.stable m0.state.root (array_at S m0.state.requests m0.state.stable)
      (replica m0.state j).condition →
      (g : ℕ) → ((s : ℕ) → s ≤ stage + g → faults s j ≡ false) →
      (take (suc g) xs ≡ take (suc g) ys) × (length xs ≤ g → end ≡ then)

  abbrev Was : ℕ → Moment → Type 0
  Was stage n = (j : ℕ) (l : Running) → j ≢ r → WasLive j l n →
      WasLive j l m0 × ((s : ℕ) → s < stage → faults s j ≡ false)

  link_next : (stage : ℕ) (x : Item × List ℕ) (xs ys : List (Item × List ℕ)) → Link stage (x ∷ xs) (x ∷ ys) →
      Link (suc stage) xs ys
  link_next stage x xs ys link j within other serves g free =
      let f = link j within other serves (suc g) (λ s low. free s (omega arith)) in
      let e : x ∷ take (suc g) xs ≡ x ∷ take (suc g) ys = f.0 in
      (cc, λ short. f.1 (omega arith))

  -- after the faults of a stage
  was_after : (stage : ℕ) (n : Moment) → Now n → Was stage n → Was (suc stage) (last n (stage_moments faults r stage n))
  was_after stage n h was j l other live =
      let f = stages_live faults r stage n (stage_order (length n.state.replicas) r) j l live in
      let before = was j l other f.0 in
      let within : j < length n.state.replicas = live_within n.state j l f.0 in
      let here : faults stage j ≡ false = f.1 (told_order (length n.state.replicas) r j within other) in (
        before.0,
        λ s low. ⊎_elim
            (λ lt. before.1 s lt)
            (λ ge. (let e : stage ≡ s = omega arith in subst (λ k. faults k j ≡ false) e here))
            (cases_lt s stage),
      )

  -- a replica that is there at the end of a stage at which r is still Rebuilding: a source that has not failed
  record Source (stage : ℕ) : Type 0 where
    who : ℕ
    within : who < length m0.state.replicas
    other : who ≢ r
    serving : ServesIn S m0.state.stable m0.state.root (array_at S m0.state.requests m0.state.stable)
        (replica m0.state who).condition
    free : (s : ℕ) → s ≤ stage → faults s who ≡ false

  source_at : IsRight S m0.state → (stage : ℕ) (k : Moment) (b : Fetching) → Now k → IsFair S k → Was (suc stage) k →
      (replica k.state r).condition ≡ Rebuilding b → Source stage
  source_at right stage k b h f was live =
      let src = has_source S laws k.state h.0 f in
      let other : src.who ≢ r = λ e.
      (let t : Rebuilding b ≡ Live src.live = sym live
      ∙ subst (λ j. (replica k.state j).condition ≡ Live src.live) e src.is_live_there in absurd (cc)) in
      let before = was src.who src.live other src.is_live_there in
      let root : k.state.root ≡ m0.state.root = h.0.stable_root ∙ ap (λ q. root S (array_at S q k.state.stable)) h.1
      ∙ ap (λ p. root S (array_at S m0.state.requests p)) h.2 ∙ sym right.stable_root in
      let one : Serves S m0.state.stable k.state.root src.live (array_at S k.state.requests m0.state.stable) =
      subst (λ p. Serves S p k.state.root src.live (array_at S k.state.requests p)) h.2 src.serves in
      let two : Serves S m0.state.stable m0.state.root src.live (array_at S k.state.requests m0.state.stable) =
      subst (λ d. Serves S m0.state.stable d src.live (array_at S k.state.requests m0.state.stable)) root one in
      let three : Serves S m0.state.stable m0.state.root src.live (array_at S m0.state.requests m0.state.stable) =
      subst (λ q. Serves S m0.state.stable m0.state.root src.live (array_at S q m0.state.stable)) h.1 two in
      record {
        who = src.who;
        within = live_within m0.state src.who src.live before.0;
        other = other;
        serving = subst (λ c. ServesIn S m0.state.stable m0.state.root (array_at S m0.state.requests m0.state.stable) c)
            (sym before.0) three;
        free = λ s low. before.1 s (omega arith);
      }

  -- the moments that follow those of a stage, where r has come into this condition
  abbrev after : FetchEnd → ℕ → List (Item × List ℕ) → Moment → Condition → List Moment
  after e stage [] k c = if_rebuilding k c (λ b. ends_fetch S r e k b) ∷ []
  after e stage (x ∷ xs) k c = if_rebuilding (k ∷ []) c (λ b. fetches S faults r e (suc stage) xs (gets r x k b))

  after_fetches : (e : FetchEnd) (stage : ℕ) (xs : List (Item × List ℕ)) (n : Moment) →
      fetches S faults r e stage xs n ≡ stage_moments faults r stage n
      ++ after e stage xs (last n (stage_moments faults r stage n))
      (replica (last n (stage_moments faults r stage n)).state r).condition
  after_fetches e stage [] n = refl
  after_fetches e stage (x ∷ xs) n = refl

  after_live : (e : FetchEnd) (stage : ℕ) (xs : List (Item × List ℕ)) (k : Moment) (l : Running) →
      after e stage xs k (Live l) ≡ k ∷ []
  after_live e stage [] k l = refl
  after_live e stage (x ∷ xs) k l = refl

  after_down : (e : FetchEnd) (stage : ℕ) (xs : List (Item × List ℕ)) (k : Moment) → after e stage xs k Down ≡ k ∷ []
  after_down e stage [] k = refl
  after_down e stage (x ∷ xs) k = refl

  gets_fair : (x : Item × List ℕ) (k : Moment) (b : Fetching) → (replica k.state r).condition ≡ Rebuilding b →
      IsFair S k → IsFair S (gets r x k b)
  gets_fair x k b live f =
      let y : Replica = record (replica k.state r) { condition = Rebuilding (record b { got = b.got ++ x ∷ [] }) } in
      let same : true ≡ is_unsound (replica k.state r) = sym (ap is_harmed live) in
      let e : count_by is_unsound (put r y k.state).replicas ≡ count_by is_unsound k.state.replicas =
      put_unsound k.state r y same in
      rw e f

  gets_was : (stage : ℕ) (x : Item × List ℕ) (k : Moment) (b : Fetching) → Was stage k → Was stage (gets r x k b)
  gets_was stage x k b was j l other live =
      let y : Replica = record (replica k.state r) { condition = Rebuilding (record b { got = b.got ++ x ∷ [] }) } in
      was j l other (ap (λ (z : Replica). z.condition) (sym (replica_put k.state r j y other)) ∙ live)

  module _ (right : IsRight S m0.state) where
    -- the moments of a stage are the same, and then those that follow it
    stages_from : (stage : ℕ) (xs ys : List (Item × List ℕ)) (n : Moment) → Now n → IsFair S n → Was stage n →
        ((k : Moment) (c : Condition) → (replica k.state r).condition ≡ c → Now k → IsFair S k → Was (suc stage) k →
        SameUpto P (after end stage xs k c) (after then stage ys k c)) →
        SameUpto P (fetches S faults r end stage xs n) (fetches S faults r then stage ys n)
    stages_from stage xs ys n h f was rest =
        let ms = stage_moments faults r stage n in
        let k = last n ms in
        let c = (replica k.state r).condition in
        let steps : Upto P (λ m. Now m × IsFair S m) ms = Upto-with P (IsFair S) Now fair ms
        (stages_right S faults r m0.state.requests m0.state.stable stage n h) in
        let both : SameUpto P (ms ++ after end stage xs k c) (ms ++ after then stage ys k c) =
        SameUpto-append P (λ m. Now m × IsFair S m) n ms (after end stage xs k c) (after then stage ys k c) (h, f) steps
        (λ g. rest k c refl g.0 g.1 (was_after stage n h was)) in
        subst (λ ks. SameUpto P ks (fetches S faults r then stage ys n)) (sym (after_fetches end stage xs n))
        (subst (λ ks. SameUpto P (ms ++ after end stage xs k c) ks) (sym (after_fetches then stage ys n)) both)

    after_same : (stage : ℕ) (xs ys : List (Item × List ℕ)) (k : Moment) (c : Condition) →
        (replica k.state r).condition ≡ c → Now k → IsFair S k → Was (suc stage) k → Link stage xs ys →
        SameUpto P (after end stage xs k c) (after then stage ys k c)
    after_same stage xs ys k (Live l) live h f was link = SameUpto-same P _ _
        (after_live end stage xs k l ∙ sym (after_live then stage ys k l))
    after_same stage xs ys k Down live h f was link = SameUpto-same P _ _
        (after_down end stage xs k ∙ sym (after_down then stage ys k))
    after_same stage [] [] k (Rebuilding b) live h f was link =
        let src = source_at right stage k b h f was live in
        let fact = link src.who src.within src.other src.serving 0 (λ s low. src.free s (omega arith)) in
        SameUpto-same P _ _ (ap (λ e. ends_fetch S r e k b ∷ []) (fact.1 (omega arith)))
    after_same stage [] (y ∷ ys) k (Rebuilding b) live h f was link =
        let src = source_at right stage k b h f was live in
        let fact = link src.who src.within src.other src.serving 0 (λ s low. src.free s (omega arith)) in
        absurd (let e : [] ≡ y ∷ [] = fact.0 in cc)
    after_same stage (x ∷ xs) [] k (Rebuilding b) live h f was link =
        let src = source_at right stage k b h f was live in
        let fact = link src.who src.within src.other src.serving 0 (λ s low. src.free s (omega arith)) in
        absurd (let e : x ∷ [] ≡ [] = fact.0 in cc)
    after_same stage (x ∷ xs) (y ∷ ys) k (Rebuilding b) live h f was link =
        let src = source_at right stage k b h f was live in
        let fact = link src.who src.within src.other src.serving 0 (λ s low. src.free s (omega arith)) in
        let e : x ∷ [] ≡ y ∷ [] = fact.0 in
        let same : x ≡ y = cc in
        subst (λ z. SameUpto P (fetches S faults r end (suc stage) xs (gets r x k b))
        (fetches S faults r then (suc stage) ys (gets r z k b))) same
        (stages_from (suc stage) xs ys (gets r x k b)
        (gets_right S faults r m0.state.requests m0.state.stable x k b h live) (gets_fair x k b live f)
        (gets_was (suc stage) x k b was)
        (λ k' c live' h' f' was'. after_same (suc stage) xs ys k' c live' h' f' was'
        (link_next stage x xs ys (subst (λ z. Link stage (x ∷ xs) (z ∷ ys)) (sym same) link))))

-- What a loose Fetch may give is Step's, up to the last moment up to which all are fair
pub loose_fetch_same : (S : Service) → IsSpelled S → (faults : Faults) (r n : ℕ) (m : Moment) (b : Fetching)
    (P : Moment → Type 0) → ((k : Moment) → P k → IsFair S k) →
    IsRight S m.state → IsFair S m → IsApartNow S m.state → (replica m.state r).condition ≡ Rebuilding b →
    (items : List (Item × List ℕ)) (end : FetchEnd) → IsLooseFetch S faults r n m b items end →
    SameUpto P (fetches S faults r end 0 items (aims r m b))
    (fetch_towards S faults r (array_at S m.state.requests m.state.stable) n m b)
loose_fetch_same S laws faults r n m b P fair right f apart live items end loose =
    let c = array_at S m.state.requests m.state.stable in
    let aim = aimed m.state.stable b in
    let then = end_towards S c n aim in
    let wanted = items_towards S c n aim in
    let start = aims r m b in
    let y : Replica = record (replica m.state r) { condition = Rebuilding aim } in
    let now : IsRightAt S faults r m.state.requests m.state.stable start =
    (aims_right S r m b right live, refl, refl) in
    let same : true ≡ is_unsound (replica m.state r) = sym (ap is_harmed live) in
    let e : count_by is_unsound (put r y m.state).replicas ≡ count_by is_unsound m.state.replicas =
    put_unsound m.state r y same in
    let still : IsFair S start = rw e f in
    let link : Link S laws faults r m P fair end then 0 items wanted = λ j within other serves g free.
    loose.true_source apart j c within other serves g (λ s low. free s (omega arith)) in
    stages_from S laws faults r m P fair end then right 0 items wanted start now still
    (λ j l other live'. (
      ap (λ (z : Replica). z.condition) (sym (replica_put m.state r j y other))
          ∙ live',
      λ s low. absurd (omega arith),
    ))
    (λ k c' live' h' f' was'. after_same S laws faults r m P fair end then right 0 items wanted k c' live' h' f' was' link)
