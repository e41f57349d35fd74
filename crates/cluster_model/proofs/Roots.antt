-- A root word cast, and a place that becomes stable, keep a state right.
use Rattle.std.proofs.Common.{◌≡◌, ℕ, ◌+◌, ◌*◌, ◌<◌, ◌≤◌, Bool, true, false, cond, ◌||◌, List, [], ◌∷◌, map, get_or, refl, ◌∙◌, ap, arith}
use Rattle.std.specs.Prelude.{Some, ◌==◌, nat_le, nat_lt}
use Rattle.std.specs.List.{count_by, All}
use Rattle.std.proofs.lemmas.Bool.{leb-true, le-leb, ltb-true, eqb-true}
use Rattle.std.proofs.lemmas.List.{length-map}
use Rattle.std.proofs.lemmas.List.Elements.{All-cons, All-filter, All-map, All-weaker, filter_passes}
use Rattle.cluster_model.specs.declared.request.Request.{Request}
use Rattle.nfs2_types.specs.declared.Word.{Word}
use Rattle.cluster_model.specs.Service.{Service}
use Rattle.cluster_model.specs.Tree.{text_of}
use Rattle.cluster_model.specs.State.{Condition, Live, Down, Rebuilding, Running, Replica, State, Checkpoint, is_unsound, is_harmed, lookup, says_root, holds_at, holds_in, held_from, or_else}
use Rattle.cluster_model.specs.Moments.{Moment, replica, root_votes, becomes_stable, sees_stable, drops_before, from_place, above, adds_root, counts_root, casts_root}
use Rattle.cluster_model.specs.Fair.{IsFair}
use Rattle.cluster_model.specs.Right.{IsRightIn, IsRightReplica, IsRight, is_source, IsRightRoot, IsRightCheckpoint, IsNewestFirst}
use Rattle.cluster_model.proofs.Counting.{count_by-map_same, count_by-weaker}
use Rattle.cluster_model.proofs.Seats.{put_right, put_unsound, replica_right}
use Rattle.cluster_model.proofs.Votes.{root_votes_right, All-lookup, is_digest-true}

-- What is held at k, once checkpoints below p are dropped, for p at most k

held_kept : (p k i : ℕ) (cs : List Checkpoint) (now : List ℕ) → p ≤ k →
    held_from k i (from_place p cs) now ≡ held_from k i cs now
held_kept p k i [] now h = refl
held_kept p k i (c ∷ cs) now h = kept (λ t. held_kept p k i cs t h) (nat_le p c.place) refl
  where
    kept : ((t : List ℕ) → held_from k i (from_place p cs) t ≡ held_from k i cs t) → (b : Bool) → nat_le p c.place ≡ b →
        held_from k i (cond b (c ∷ from_place p cs) (from_place p cs)) now ≡ held_from k i cs
        (cond (nat_le k c.place) (or_else (lookup i c.saved) now) now)
    kept rest true e = rest (cond (nat_le k c.place) (or_else (lookup i c.saved) now) now)
    kept rest false e =
        let no : nat_le k c.place ≡ false = grind (arith, leb-true) in
        rw no (rest now)

holds_kept : (p k : ℕ) (cs : List Checkpoint) → p ≤ k → holds_in k cs ≡ true → holds_in k (from_place p cs) ≡ true
holds_kept p k [] h e = e
holds_kept p k (c ∷ cs) h e = kept (holds_kept p k cs h) (nat_le p c.place) (c.place == k) refl refl e
  where
    kept : (holds_in k cs ≡ true → holds_in k (from_place p cs) ≡ true) → (a b : Bool) → nat_le p c.place ≡ a →
        (c.place == k) ≡ b →
        (b || holds_in k cs) ≡ true → holds_in k (cond a (c ∷ from_place p cs) (from_place p cs)) ≡ true
    kept rest true true ea eb g = rw eb refl
    kept rest true false ea eb g = rw eb (rest g)
    kept rest false true ea eb g =
        let same : c.place ≡ k = eqb-true c.place k eb in
        let low : p ≤ c.place = omega arith in
        let yes : nat_le p c.place ≡ true = le-leb p c.place low in absurd (cc)
    kept rest false false ea eb g = rest g

-- A replica sees a place become stable

order_kept : (p : ℕ) (cs : List Checkpoint) → IsNewestFirst cs → IsNewestFirst (from_place p cs)
order_kept p [] h = h
order_kept p (c ∷ cs) h = kept (order_kept p cs h.1) (nat_le p c.place)
  where
    kept : IsNewestFirst (from_place p cs) → (b : Bool) → IsNewestFirst (cond b (c ∷ from_place p cs) (from_place p cs))
    kept rest true = (
      All-filter (λ (d : Checkpoint). nat_le p d.place) (λ (d : Checkpoint). d.place < c.place) cs h.0,
      rest,
    )
    kept rest false = rest

abbrev dropped : ℕ → Running → Running
dropped p l = record l { holds = from_place p l.holds }

checkpoint_kept : (S : Service) (q : List Request) (p : ℕ) (l : Running) (c : Checkpoint) → p ≤ c.place →
    IsRightCheckpoint S q l c → IsRightCheckpoint S q (dropped p l) c
checkpoint_kept S q p l c low h = record {
  passed = h.passed;
  listed = h.listed;
  texts = λ i. held_kept p c.place i l.holds (text_of S l.array i) low ∙ h.texts i;
}

checkpoints_kept : (S : Service) (q : List Request) (p : ℕ) (l : Running) →
    All (IsRightCheckpoint S q l) l.holds → All (IsRightCheckpoint S q (dropped p l)) (from_place p l.holds)
checkpoints_kept S q p l h =
    let test : Checkpoint → Bool = λ c. nat_le p c.place in
    let known : All (IsRightCheckpoint S q l) (from_place p l.holds) = All-filter test
    (IsRightCheckpoint S q l) l.holds h in
    let passes : All (λ c. test c ≡ true) (from_place p l.holds) = filter_passes test l.holds in
    λ k d within. checkpoint_kept S q p l (get_or (from_place p l.holds) k d)
    (leb-true p (get_or (from_place p l.holds) k d).place (passes k d within)) (known k d within)

roots_kept : (S : Service) (q : List Request) (p : ℕ) (l : Running) (ds : List (ℕ × List ℕ)) →
    All (IsRightRoot S q l) ds → All (IsRightRoot S q (dropped p l)) (above p ds)
roots_kept S q p l ds h =
    let test : ℕ × List ℕ → Bool = λ w. nat_lt p w.0 in
    let known : All (IsRightRoot S q l) (above p ds) = All-filter test (IsRightRoot S q l) ds h in
    let passes : All (λ w. test w ≡ true) (above p ds) = filter_passes test ds in
    λ k d within.
    let w = get_or (above p ds) k d in
    let high : p < w.0 = ltb-true p w.0 (passes k d within) in
    let g = known k d within in
    (g.0, g.1, g.2, holds_kept p w.0 l.holds (omega arith) g.3)

pub sees_in : (S : Service) (q : List Request) (p : ℕ) (ws : List (ℕ × Word)) (ds : List (ℕ × List ℕ)) (c : Condition) →
    IsRightIn S q ws ds c → IsRightIn S q ws (above p ds) (drops_before p c)
sees_in S q p ws ds (Live l) h = λ u. record {
  array = (h u).array;
  place = (h u).place;
  lies = (h u).lies;
  believes = (h u).believes;
  untold = (h u).untold;
  ordered = order_kept p l.holds (h u).ordered;
  holds = checkpoints_kept S q p l (h u).holds;
  said = (h u).said;
  rooted = roots_kept S q p l ds (h u).rooted;
}
sees_in S q p ws ds Down h = tt
sees_in S q p ws ds (Rebuilding b) h = (h.0, ap (above p) h.1)

-- whoever cast a root word for p is unsound or holds p
source_voter : (S : Service) (q : List Request) (p : ℕ) (d : List ℕ) (ws : List (ℕ × Word)) (ds : List (ℕ × List ℕ))
    (c : Condition) →
    IsRightIn S q ws ds c → lookup p ds ≡ Some d → (is_harmed (drops_before p c) || holds_at p (drops_before p c))
    ≡ true
source_voter S q p d ws ds (Live l) h e = voter l.harmed refl
  where
    voter : (b : Bool) → l.harmed ≡ b → (b || holds_in p (from_place p l.holds)) ≡ true
    voter true u = refl
    voter false u = holds_kept p p l.holds (omega arith) (All-lookup (IsRightRoot S q l) p d ds (h u).rooted e).3
source_voter S q p d ws ds Down h e = refl
source_voter S q p d ws ds (Rebuilding b) h e = refl

drops_harmed : (p : ℕ) (c : Condition) → is_harmed (drops_before p c) ≡ is_harmed c
drops_harmed p (Live l) = refl
drops_harmed p Down = refl
drops_harmed p (Rebuilding b) = refl

pub becomes_stable_unsound : (p : ℕ) (d : List ℕ) (m : Moment) →
    count_by is_unsound (becomes_stable p d m).state.replicas ≡ count_by is_unsound m.state.replicas
becomes_stable_unsound p d m = count_by-map_same is_unsound (sees_stable p) m.state.replicas
    (λ x. drops_harmed p x.condition)

pub becomes_stable_right : (S : Service) (p : ℕ) (d : List ℕ) (m : Moment) → IsRight S m.state → IsFair S m →
    2 * S.f + 1 ≤ root_votes p d m.state → IsRight S (becomes_stable p d m).state
becomes_stable_right S p d m h fair enough =
    let s = m.state in
    let fact = root_votes_right S s p d h fair (omega arith) in
    let right = IsRightReplica S s.requests in
    let source : Replica → Bool = λ x. is_source p (sees_stable p x) in
    let voters : count_by (says_root p d) s.replicas ≤ count_by source s.replicas =
    count_by-weaker (says_root p d) source s.replicas
    (All-weaker right (λ x. says_root p d x ≡ true → source x ≡ true)
    (λ x g e. source_voter S s.requests p d x.words x.roots x.condition g (is_digest-true d (lookup p x.roots) e))
    s.replicas h.replicas) in
    let same : count_by (is_source p) (map (sees_stable p) s.replicas) ≡ count_by source s.replicas =
    count_by-map_same (is_source p) (sees_stable p) s.replicas (λ x. refl) in
    record {
      size = length-map s.replicas (sees_stable p) ∙ h.size;
      fit = h.fit;
      stable = fact.1;
      stable_root = fact.2;
      decided = h.decided;
      replicas = All-map right (sees_stable p) s.replicas
          (All-weaker right (λ x. right (sees_stable p x))
          (λ x g. sees_in S s.requests p x.words x.roots x.condition g) s.replicas h.replicas);
      sources = omega arith;
    }

-- A root word is cast

abbrev pub MayRoot : Service → List Request → ℕ × List ℕ → Condition → Type 0
MayRoot S q d (Live l) = l.harmed ≡ false → IsRightRoot S q l d
MayRoot S q d Down = Unit {0}
MayRoot S q d (Rebuilding b) = ⊥

more_root_in : (S : Service) (q : List Request) (d : ℕ × List ℕ) (ws : List (ℕ × Word)) (ds : List (ℕ × List ℕ))
    (c : Condition) →
    MayRoot S q d c → IsRightIn S q ws ds c → IsRightIn S q ws (d ∷ ds) c
more_root_in S q d ws ds (Live l) may h = λ u. record {
  array = (h u).array;
  place = (h u).place;
  lies = (h u).lies;
  believes = (h u).believes;
  untold = (h u).untold;
  ordered = (h u).ordered;
  holds = (h u).holds;
  said = (h u).said;
  rooted = All-cons (IsRightRoot S q l) d ds (may u) (h u).rooted;
}
more_root_in S q d ws ds Down may h = tt
more_root_in S q d ws ds (Rebuilding b) may h = absurd may

adds_root_right : (S : Service) (r p : ℕ) (d : List ℕ) (s : State) → IsRight S s →
    MayRoot S s.requests (p, d) (replica s r).condition → IsRight S (adds_root r p d s)
adds_root_right S r p d s h may =
    put_right S s r (record (replica s r) { roots = (p, d) ∷ (replica s r).roots }) h
    (more_root_in S s.requests (p, d) (replica s r).words (replica s r).roots (replica s r).condition may
    (replica_right S s r h))
    (λ g. g)

adds_root_unsound : (r p : ℕ) (d : List ℕ) (s : State) →
    count_by is_unsound (adds_root r p d s).replicas ≡ count_by is_unsound s.replicas
adds_root_unsound r p d s = put_unsound s r (record (replica s r) { roots = (p, d) ∷ (replica s r).roots }) refl

counts_root_right : (S : Service) (p : ℕ) (d : List ℕ) (m : Moment) → IsRight S m.state → IsFair S m →
    IsRight S (counts_root S p d m).state
counts_root_right S p d m h fair = counted (nat_le (2 * S.f + 1) (root_votes p d m.state)) refl
  where
    counted : (b : Bool) → nat_le (2 * S.f + 1) (root_votes p d m.state) ≡ b →
        IsRight S (cond b (becomes_stable p d m) m).state
    counted true e = becomes_stable_right S p d m h fair (leb-true (2 * S.f + 1) (root_votes p d m.state) e)
    counted false e = h

counts_root_unsound : (S : Service) (p : ℕ) (d : List ℕ) (m : Moment) →
    count_by is_unsound (counts_root S p d m).state.replicas ≡ count_by is_unsound m.state.replicas
counts_root_unsound S p d m = counted (nat_le (2 * S.f + 1) (root_votes p d m.state))
  where
    counted : (b : Bool) → count_by is_unsound (cond b (becomes_stable p d m) m).state.replicas
        ≡ count_by is_unsound m.state.replicas
    counted true = becomes_stable_unsound p d m
    counted false = refl

abbrev with_root : ℕ → ℕ → List ℕ → Moment → Moment
with_root r p d m = record m { state = adds_root r p d m.state }

pub casts_root_unsound : (S : Service) (r p : ℕ) (d : List ℕ) (m : Moment) →
    count_by is_unsound (casts_root S r p d m).state.replicas ≡ count_by is_unsound m.state.replicas
casts_root_unsound S r p d m = high (nat_lt m.state.stable p)
  where
    high : (b : Bool) → count_by is_unsound (cond b (counts_root S p d (with_root r p d m)) m).state.replicas
        ≡ count_by is_unsound m.state.replicas
    high true = counts_root_unsound S p d (with_root r p d m) ∙ adds_root_unsound r p d m.state
    high false = refl

pub casts_root_right : (S : Service) (r p : ℕ) (d : List ℕ) (m : Moment) → IsRight S m.state → IsFair S m →
    MayRoot S m.state.requests (p, d) (replica m.state r).condition → IsRight S (casts_root S r p d m).state
casts_root_right S r p d m h fair may = high (nat_lt m.state.stable p)
  where
    still : IsFair S (with_root r p d m)
    still = let e = adds_root_unsound r p d m.state in rw e fair

    high : (b : Bool) → IsRight S (cond b (counts_root S p d (with_root r p d m)) m).state
    high true = counts_root_right S p d (with_root r p d m) (adds_root_right S r p d m.state h may) still
    high false = h
