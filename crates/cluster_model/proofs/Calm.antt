-- Logs without harm: at every moment, however many servers failed, each word is right.
use Rattle.std.proofs.Common.{◌≡◌, ℕ, ◌+◌, ◌*◌, ◌≤◌, Bool, true, false, cond, List, [], ◌∷◌, ◌++◌, length, refl, sym, ◌∙◌, subst, ⊎_elim, arith}
use Rattle.std.specs.Prelude.{◌==◌, nat_le, nat_lt, not}
use Rattle.std.specs.List.{count_by, All}
use Rattle.std.proofs.lemmas.Bool.{leb-true, cases_lt}
use Rattle.std.proofs.lemmas.List.{get_or_past}
use Rattle.std.proofs.lemmas.List.Elements.{All-contains, All-cons, All-nil, All-filter, All-map, All-weaker, All-push, All-set, All-get_or}
use Rattle.cluster_model.specs.declared.request.Request.{Request}
use Rattle.nfs2_types.specs.declared.Word.{Word}
use Rattle.cluster_model.specs.Service.{Service}
use Rattle.cluster_model.specs.State.{Condition, Live, Down, Rebuilding, Running, Replica, State, lookup, says, says_root}
use Rattle.cluster_model.specs.Moments.{Moment, gone, replica, put, fails, is_decided, votes, root_votes, decides, forgets_words, adds_word, casts_word, without, becomes_stable, sees_stable, adds_root, casts_root}
use Rattle.cluster_model.specs.Right.{IsRightWord, IsRightRoot}
use Rattle.cluster_model.specs.Calm.{IsPlaceRoot, IsCalmIn, IsCalmReplica, IsCalm}
use Rattle.cluster_model.proofs.Counting.{count_by-cons, count_by_more}
use Rattle.cluster_model.proofs.Votes.{All-lookup, is_word-true, is_digest-true}
use Rattle.cluster_model.proofs.Casts.{fewer_in}
use Rattle.cluster_model.proofs.Roots.{sees_in}

-- what a replica says is right

words_right : (S : Service) (q : List Request) (ws : List (ℕ × Word)) (ds : List (ℕ × List ℕ)) (c : Condition) →
    IsCalmIn S q ws ds c → All (IsRightWord S q (length q)) ws
words_right S q ws ds (Live l) h = All-weaker (IsRightWord S q l.place) (IsRightWord S q (length q))
    (λ w g. (g.0, omega (arith, g.1, h.1.place), g.2)) ws h.1.said
words_right S q ws ds Down h = h.0
words_right S q ws ds (Rebuilding b) h = absurd h

pub roots_right : (S : Service) (q : List Request) (ws : List (ℕ × Word)) (ds : List (ℕ × List ℕ)) (c : Condition) →
    IsCalmIn S q ws ds c → All (IsPlaceRoot S q) ds
roots_right S q ws ds (Live l) h = All-weaker (IsRightRoot S q l) (IsPlaceRoot S q)
    (λ d g. (omega (arith, g.1, h.1.place), g.2)) ds h.1.rooted
roots_right S q ws ds Down h = h.1
roots_right S q ws ds (Rebuilding b) h = absurd h

count_none : {X : Type 0} (xs : List X) → count_by (λ (x : X). false) xs ≡ 0
count_none [] = refl
count_none {X} (x ∷ xs) = count_by-cons (λ (x : X). false) x xs
    ∙ (let rest : count_by (λ (x : X). false) xs ≡ 0 = count_none xs in omega arith)

module _ (S : Service) where
  votes_calm : (s : State) (p : ℕ) (w : Word) → IsCalm S s → 1 ≤ votes p w s →
      IsRightWord S s.requests (length s.requests) (p, w)
  votes_calm s p w h enough =
      let none : count_by (λ (x : Replica). false) s.replicas ≡ 0 = count_none s.replicas in
      let found = count_by_more (says p w) (λ (x : Replica). false) s.replicas (omega arith) in
      let x = found.0 in
      All-lookup (IsRightWord S s.requests (length s.requests)) p w x.words
      (words_right S s.requests x.words x.roots x.condition
      (All-contains (IsCalmReplica S s.requests) s.replicas x h.replicas found.1))
      (is_word-true w (lookup p x.words) found.2)

  root_votes_calm : (s : State) (p : ℕ) (d : List ℕ) → IsCalm S s → 1 ≤ root_votes p d s →
      IsPlaceRoot S s.requests (p, d)
  root_votes_calm s p d h enough =
      let none : count_by (λ (x : Replica). false) s.replicas ≡ 0 = count_none s.replicas in
      let found = count_by_more (says_root p d) (λ (x : Replica). false) s.replicas (omega arith) in
      let x = found.0 in
      All-lookup (IsPlaceRoot S s.requests) p d x.roots
      (roots_right S s.requests x.words x.roots x.condition
      (All-contains (IsCalmReplica S s.requests) s.replicas x h.replicas found.1))
      (is_digest-true d (lookup p x.roots) found.2)

  pub replica_calm : (s : State) (r : ℕ) → IsCalm S s → IsCalmReplica S s.requests (replica s r)
  replica_calm s r h = ⊎_elim (λ l. All-get_or (IsCalmReplica S s.requests) s.replicas r gone l h.replicas)
      (λ g. let e : replica s r ≡ gone = get_or_past s.replicas r gone g in
      subst (IsCalmReplica S s.requests) (sym e)
      (All-nil (IsRightWord S s.requests (length s.requests)), All-nil (IsPlaceRoot S s.requests)))
      (cases_lt r (length s.replicas))

  pub put_calm : (s : State) (r : ℕ) (x : Replica) → IsCalm S s → IsCalmReplica S s.requests x → IsCalm S (put r x s)
  put_calm s r x h right = record {
    stable = h.stable;
    stable_root = h.stable_root;
    decided = h.decided;
    replicas = All-set (IsCalmReplica S s.requests) s.replicas r x right h.replicas;
  }

  fails_in : (q : List Request) (ws : List (ℕ × Word)) (ds : List (ℕ × List ℕ)) (c : Condition) → IsCalmIn S q ws ds c →
      IsCalmIn S q ws ds Down
  fails_in q ws ds c h = (words_right S q ws ds c h, roots_right S q ws ds c h)

  pub fails_calm : (r : ℕ) (m : Moment) → IsCalm S m.state → IsCalm S (fails r m).state
  fails_calm r m h = put_calm m.state r (record (replica m.state r) { condition = Down }) h
      (fails_in m.state.requests (replica m.state r).words (replica m.state r).roots (replica m.state r).condition
      (replica_calm m.state r h))

  -- casting a right word

  fewer_calm : (q : List Request) (p : ℕ) (ws : List (ℕ × Word)) (ds : List (ℕ × List ℕ)) (c : Condition) →
      IsCalmIn S q ws ds c → IsCalmIn S q (without p ws) ds c
  fewer_calm q p ws ds (Live l) h = (h.0, fewer_in S q p ws ds (Live l) (λ u. h.1) h.0)
  fewer_calm q p ws ds Down h = (All-filter (λ (w : ℕ × Word). not (w.0 == p)) (IsRightWord S q (length q)) ws h.0, h.1)
  fewer_calm q p ws ds (Rebuilding b) h = absurd h

  decides_calm : (p : ℕ) (w : Word) (m : Moment) → IsCalm S m.state →
      IsRightWord S m.state.requests (length m.state.requests) (p, w) → IsCalm S (decides p w m).state
  decides_calm p w m h right =
      let s = m.state in
      record {
        stable = h.stable;
        stable_root = h.stable_root;
        decided = All-push (IsRightWord S s.requests (length s.requests)) s.decisions (p, w) h.decided right;
        replicas = All-map (IsCalmReplica S s.requests) (forgets_words p) s.replicas
            (All-weaker (IsCalmReplica S s.requests) (λ x. IsCalmReplica S s.requests (forgets_words p x))
            (λ x g. fewer_calm s.requests p x.words x.roots x.condition g) s.replicas h.replicas);
      }

  -- r is Live as l, and the word is right
  pub casts_word_calm : (r p : ℕ) (w : Word) (l : Running) (m : Moment) → IsCalm S m.state →
      (replica m.state r).condition ≡ Live l → IsRightWord S m.state.requests l.place (p, w) →
      IsCalm S (casts_word S r p w m).state
  casts_word_calm r p w l m h live may = by (is_decided p m.state)
      (nat_le (S.f + 1) (votes p w (adds_word r p w m.state))) refl
    where
      n : Moment
      n = record m { state = adds_word r p w m.state }

      x : Replica
      x = record (replica m.state r) { words = (p, w) ∷ (replica m.state r).words }

      old : IsCalmIn S m.state.requests (replica m.state r).words (replica m.state r).roots (Live l)
      old = subst (IsCalmIn S m.state.requests (replica m.state r).words (replica m.state r).roots) live
          (replica_calm m.state r h)

      new : IsCalmIn S m.state.requests ((p, w) ∷ (replica m.state r).words) (replica m.state r).roots (Live l)
      new = (
        old.0,
        record {
          array = old.1.array;
          place = old.1.place;
          lies = old.1.lies;
          believes = old.1.believes;
          untold = old.1.untold;
          ordered = old.1.ordered;
          holds = old.1.holds;
          said = All-cons (IsRightWord S m.state.requests l.place) (p, w) (replica m.state r).words may old.1.said;
          rooted = old.1.rooted;
        },
      )

      added : IsCalm S (adds_word r p w m.state)
      added = put_calm m.state r (record (replica m.state r) { words = (p, w) ∷ (replica m.state r).words }) h
          (subst (IsCalmIn S m.state.requests ((p, w) ∷ (replica m.state r).words) (replica m.state r).roots)
          (sym live) new)

      by : (a b : Bool) → nat_le (S.f + 1) (votes p w (adds_word r p w m.state)) ≡ b →
          IsCalm S (cond a m (cond b (decides p w (record m { state = adds_word r p w m.state }))
          (record m { state = adds_word r p w m.state }))).state
      by true b e = h
      by false false e = added
      by false true e =
          let many : S.f + 1 ≤ votes p w (adds_word r p w m.state) = leb-true (S.f + 1)
          (votes p w (adds_word r p w m.state)) e in
          decides_calm p w (record m { state = adds_word r p w m.state }) added
          (votes_calm (adds_word r p w m.state) p w added (omega arith))

  sees_calm : (q : List Request) (p : ℕ) (ws : List (ℕ × Word)) (ds : List (ℕ × List ℕ)) (c : Condition) →
      IsCalmIn S q ws ds c → IsCalmReplica S q (sees_stable p (record { condition = c; words = ws; roots = ds }))
  sees_calm q p ws ds (Live l) h = (h.0, sees_in S q p ws ds (Live l) (λ u. h.1) h.0)
  sees_calm q p ws ds Down h = (h.0, All-filter (λ (d : ℕ × List ℕ). nat_lt p d.0) (IsPlaceRoot S q) ds h.1)
  sees_calm q p ws ds (Rebuilding b) h = absurd h

  pub casts_root_calm : (r p : ℕ) (d : List ℕ) (l : Running) (m : Moment) → IsCalm S m.state →
      (replica m.state r).condition ≡ Live l → IsRightRoot S m.state.requests l (p, d) →
      IsCalm S (casts_root S r p d m).state
  casts_root_calm r p d l m h live may = by (nat_lt m.state.stable p)
      (nat_le (2 * S.f + 1) (root_votes p d (adds_root r p d m.state))) refl
    where
      old : IsCalmIn S m.state.requests (replica m.state r).words (replica m.state r).roots (Live l)
      old = subst (IsCalmIn S m.state.requests (replica m.state r).words (replica m.state r).roots) live
          (replica_calm m.state r h)

      new : IsCalmIn S m.state.requests (replica m.state r).words ((p, d) ∷ (replica m.state r).roots) (Live l)
      new = (
        old.0,
        record {
          array = old.1.array;
          place = old.1.place;
          lies = old.1.lies;
          believes = old.1.believes;
          untold = old.1.untold;
          ordered = old.1.ordered;
          holds = old.1.holds;
          said = old.1.said;
          rooted = All-cons (IsRightRoot S m.state.requests l) (p, d) (replica m.state r).roots may old.1.rooted;
        },
      )

      added : IsCalm S (adds_root r p d m.state)
      added = put_calm m.state r (record (replica m.state r) { roots = (p, d) ∷ (replica m.state r).roots }) h
          (subst (IsCalmIn S m.state.requests (replica m.state r).words ((p, d) ∷ (replica m.state r).roots))
          (sym live) new)

      stable : 2 * S.f + 1 ≤ root_votes p d (adds_root r p d m.state) →
          IsCalm S (becomes_stable p d (record m { state = adds_root r p d m.state })).state
      stable many =
          let s = adds_root r p d m.state in
          let fact = root_votes_calm s p d added (omega arith) in
          record {
            stable = fact.0;
            stable_root = fact.1;
            decided = added.decided;
            replicas = All-map (IsCalmReplica S s.requests) (sees_stable p) s.replicas
                (All-weaker (IsCalmReplica S s.requests) (λ x. IsCalmReplica S s.requests (sees_stable p x))
                (λ x g. sees_calm s.requests p x.words x.roots x.condition g) s.replicas added.replicas);
          }

      by : (a b : Bool) → nat_le (2 * S.f + 1) (root_votes p d (adds_root r p d m.state)) ≡ b →
          IsCalm S (cond a (cond b (becomes_stable p d (record m { state = adds_root r p d m.state }))
          (record m { state = adds_root r p d m.state })) m).state
      by false b e = h
      by true false e = added
      by true true e = stable (leb-true (2 * S.f + 1) (root_votes p d (adds_root r p d m.state)) e)
