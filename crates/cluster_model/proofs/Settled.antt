-- At every moment, fair or not, no vote waits.
use Rattle.std.proofs.Common.{◌≡◌, ℕ, zero, suc, ◌+◌, ◌*◌, ◌<◌, ◌≤◌, Bool, true, false, cond, List, [], ◌∷◌, map, replicate, refl, sym, ◌∙◌, ap, subst, ⊎_elim, arith}
use Rattle.std.specs.Prelude.{Some, nat_le, nat_lt, ◌==◌, bytes_eq}
use Rattle.std.specs.List.{count_by}
use Rattle.std.proofs.lemmas.Bool.{eqb-true, eq-eqb, le-leb, lt-ltb, ltb-true, cases_lt}
use Rattle.std.proofs.lemmas.Slice.Eq.{bytes_eq-Decides}
use Rattle.nfs2_types.specs.declared.Word.{Word}
use Rattle.log_format.specs.declared.Event.{Event}
use Rattle.cluster_model.specs.Service.{Service, same_word}
use Rattle.cluster_model.specs.State.{Live, Replica, State, lookup, says, says_root, is_word, is_digest}
use Rattle.cluster_model.specs.Moments.{Moment, Faults, gone, replica, put, is_decided, votes, decides, forgets_words, adds_word, casts_word, above, becomes_stable, sees_stable, adds_root, root_votes, casts_root}
use Rattle.cluster_model.specs.Turns.{begins}
use Rattle.cluster_model.specs.Settled.{IsSettled, IsRootSettled}
use Rattle.cluster_model.specs.Loose.{LooseStep}
use Rattle.cluster_model.specs.Run.{fresh}
use Rattle.cluster_model.proofs.Counting.{count_by-cons, bit}
use Rattle.cluster_model.proofs.Votes.{same_word-true}
use Rattle.cluster_model.proofs.Enough.{count_by-set_ge, count_by-map_ge, put_settled, casts_word_settled, casts_root_settled}
use Rattle.cluster_model.proofs.Keeping.{IsClosed, any_keeps}
use Rattle.cluster_model.specs.Run.{Always}

-- Reply words

pub settled_closed : (S : Service) → IsClosed S (IsSettled S)
settled_closed S = record {
  live = λ r l s h. put_settled S s r _ (λ p w t. t) h;
  down = λ r s h. put_settled S s r _ (λ p w t. t) h;
  reboot = λ r c s h. put_settled S s r _ (λ p w t. t) h;
  withdraw = λ r s h. put_settled S s r _ (λ p w t. absurd (cc)) h;
  word = λ r p w m h. casts_word_settled S r p w m h;
  root_word = λ r p d m h. casts_root_settled S r p d m h;
  ask = λ q s h. h;
}

-- With one more word no other word than this has f + 1: so which of a place's words is counted first makes no
-- difference
pub only_word : (S : Service) (r p : ℕ) (w v : Word) (s : State) → IsSettled S s → is_decided p s ≡ false →
    S.f + 1 ≤ votes p v (adds_word r p w s) → v ≡ w
only_word S r p w v s h open' many = by (same_word v w) refl
  where
    yes : (p == p) ≡ true
    yes = eq-eqb p p refl

    by : (b : Bool) → same_word v w ≡ b → v ≡ w
    by true e = same_word-true v w e
    by false e = absurd (
        let a : votes p v s ≤ S.f = h p v open' in
        let b : votes p v (adds_word r p w s) ≤ votes p v s = count_by-set_ge (says p v) s.replicas r
        (record (replica s r) { words = (p, w) ∷ (replica s r).words }) gone
        (λ t. absurd (let u : same_word v w ≡ true = ap
        (λ b. is_word v (cond b (Some w) (lookup p (replica s r).words))) (sym yes) ∙ t in cc)) in omega arith)

-- Root words

pub lookup-above : {X : Type 0} (p k : ℕ) (ws : List (ℕ × X)) → p < k → lookup k (above p ws) ≡ lookup k ws
lookup-above p k [] h = refl
lookup-above p k (x ∷ xs) h = by (nat_lt p x.0) (x.0 == k) refl refl (lookup-above p k xs h)
  where
    by : (a b : Bool) → nat_lt p x.0 ≡ a → (x.0 == k) ≡ b → lookup k (above p xs) ≡ lookup k xs →
        lookup k (cond a (x ∷ above p xs) (above p xs)) ≡ cond b (Some x.1) (lookup k xs)
    by true true ea eb rest = rw eb refl
    by true false ea eb rest = rw eb rest
    by false true ea eb rest = absurd
        (let e : x.0 ≡ k = eqb-true x.0 k eb in let t : nat_lt p x.0 ≡ true = lt-ltb p x.0 (omega arith) in cc)
    by false false ea eb rest = rest

pub put_root_settled : (S : Service) (s : State) (r : ℕ) (x : Replica) →
    ((p : ℕ) (d : List ℕ) → says_root p d x ≡ true → says_root p d (replica s r) ≡ true) →
    IsRootSettled S s → IsRootSettled S (put r x s)
put_root_settled S s r x fewer h p d high =
    let a : root_votes p d s ≤ 2 * S.f = h p d high in
    let b : root_votes p d (put r x s) ≤ root_votes p d s = count_by-set_ge (says_root p d) s.replicas r x gone
    (fewer p d) in
    omega arith

casts_word_root_settled : (S : Service) (r p : ℕ) (w : Word) (m : Moment) → IsRootSettled S m.state →
    IsRootSettled S (casts_word S r p w m).state
casts_word_root_settled S r p w m h = by (is_decided p m.state) (nat_le (S.f + 1) (votes p w (adds_word r p w m.state)))
  where
    x : Replica
    x = record (replica m.state r) { words = (p, w) ∷ (replica m.state r).words }

    added : IsRootSettled S (adds_word r p w m.state)
    added = put_root_settled S m.state r (record (replica m.state r) { words = (p, w) ∷ (replica m.state r).words })
        (λ k d t. t) h

    by : (a b : Bool) → IsRootSettled S
        (cond a m (cond b (decides p w (record m { state = adds_word r p w m.state }))
        (record m { state = adds_word r p w m.state }))).state
    by true b = h
    by false false = added
    by false true = λ k d high.
        let a : root_votes k d (adds_word r p w m.state) ≤ 2 * S.f = added k d high in
        let b : count_by (says_root k d) (map (forgets_words p) (adds_word r p w m.state).replicas) ≤ count_by
        (says_root k d) (adds_word r p w m.state).replicas =
        count_by-map_ge (says_root k d) (says_root k d) (forgets_words p) (adds_word r p w m.state).replicas
        (λ y t. t) in
        omega arith

module _ (S : Service) (r p : ℕ) (d : List ℕ) (m : Moment) (h : IsRootSettled S m.state)
    (high : m.state.stable < p) where
  abbrev with_root : State
  with_root = adds_root r p d m.state

  abbrev own : Replica
  own = record (replica m.state r) { roots = (p, d) ∷ (replica m.state r).roots }

  -- another place has no more votes, nor has another digest
  others : (k : ℕ) (e : List ℕ) → m.state.stable < k → ((p == k) ≡ true → bytes_eq e d ≡ true → ⊥) →
      root_votes k e with_root ≤ 2 * S.f
  others k e up other =
      let a : root_votes k e m.state ≤ 2 * S.f = h k e up in
      let b : root_votes k e with_root ≤ root_votes k e m.state = count_by-set_ge
      (says_root k e) m.state.replicas r own gone (by (p == k) (bytes_eq e d) refl refl) in
      omega arith
    where
      by : (a b : Bool) → (p == k) ≡ a → bytes_eq e d ≡ b →
          is_digest e (cond a (Some d) (lookup k (replica m.state r).roots)) ≡ true →
          says_root k e (replica m.state r) ≡ true
      by true true ea eb t = absurd (other ea eb)
      by true false ea eb t = absurd (let f : bytes_eq e d ≡ true = t in cc)
      by false b ea eb t = t

  counted : (b : Bool) → nat_le (2 * S.f + 1) (root_votes p d with_root) ≡ b →
      IsRootSettled S (cond b (becomes_stable p d (record m { state = with_root }))
      (record m { state = with_root })).state
  counted true t k e up =
      let no' : (p == k) ≡ true → bytes_eq e d ≡ true →
      ⊥ = λ ea eb. (let same : p ≡ k = eqb-true p k ea in absurd (omega arith)) in
      let a : root_votes k e with_root ≤ 2 * S.f = others k e (omega arith) no' in
      let b : count_by (says_root k e) (map (sees_stable p) with_root.replicas) ≤ count_by
      (says_root k e) with_root.replicas =
      count_by-map_ge (says_root k e) (says_root k e) (sees_stable p) with_root.replicas
      (λ x t. ap (is_digest e) (sym (lookup-above p k x.roots up)) ∙ t) in
      omega arith
  counted false t k e up = by (p == k) (bytes_eq e d) refl refl
    where
      low : root_votes p d with_root ≤ 2 * S.f
      low = ⊎_elim (λ l. omega arith)
          (λ g. absurd (let u : nat_le (2 * S.f + 1) (root_votes p d with_root) ≡ true = le-leb (2 * S.f + 1)
          (root_votes p d with_root) g in cc))
          (cases_lt (root_votes p d with_root) (2 * S.f + 1))

      by : (a b : Bool) → (p == k) ≡ a → bytes_eq e d ≡ b → root_votes k e with_root ≤ 2 * S.f
      by true true ea eb = subst (λ i. root_votes i e with_root ≤ 2 * S.f) (eqb-true p k ea)
          (subst (λ u. root_votes p u with_root ≤ 2 * S.f) (sym ((bytes_eq-Decides e d).0 eb)) low)
      by true false ea eb = others k e up (λ i j. (let f : true ≡ false = sym j ∙ eb in cc))
      by false b ea eb = others k e up (λ i j. (let f : true ≡ false = sym i ∙ ea in cc))

pub only_root : (S : Service) (r p : ℕ) (d e : List ℕ) (s : State) → IsRootSettled S s → s.stable < p →
    2 * S.f + 1 ≤ root_votes p e (adds_root r p d s) → e ≡ d
only_root S r p d e s h high many = by (bytes_eq e d) refl
  where
    m : Moment
    m = record { state = s; lines = [] }

    by : (b : Bool) → bytes_eq e d ≡ b → e ≡ d
    by true t = (bytes_eq-Decides e d).0 t
    by false t = absurd (let low : root_votes p e (adds_root r p d s) ≤ 2 * S.f = others S r p d
        (record { state = s; lines = [] }) h high p e high (λ i j. (let f : true ≡ false = sym j ∙ t in cc)) in
        omega arith)

casts_root_root_settled : (S : Service) (r p : ℕ) (d : List ℕ) (m : Moment) → IsRootSettled S m.state →
    IsRootSettled S (casts_root S r p d m).state
casts_root_root_settled S r p d m h = by (nat_lt m.state.stable p) refl
  where
    by : (b : Bool) → nat_lt m.state.stable p ≡ b →
        IsRootSettled S (cond b
        (cond (nat_le (2 * S.f + 1) (root_votes p d (adds_root r p d m.state)))
        (becomes_stable p d (record m { state = adds_root r p d m.state }))
        (record m { state = adds_root r p d m.state })) m).state
    by false e = h
    by true e = counted S r p d m h (ltb-true m.state.stable p e)
        (nat_le (2 * S.f + 1) (root_votes p d (adds_root r p d m.state))) refl

pub root_settled_closed : (S : Service) → IsClosed S (IsRootSettled S)
root_settled_closed S = record {
  live = λ r l s h. put_root_settled S s r _ (λ p w t. t) h;
  down = λ r s h. put_root_settled S s r _ (λ p w t. t) h;
  reboot = λ r c s h. put_root_settled S s r _ (λ p w t. t) h;
  withdraw = λ r s h. put_root_settled S s r _ (λ p w t. absurd (cc)) h;
  word = λ r p w m h. casts_word_root_settled S r p w m h;
  root_word = λ r p d m h. casts_root_root_settled S r p d m h;
  ask = λ q s h. h;
}

-- at each moment of each loose step
pub settled_kept : (S : Service) (faults : Faults) (e : Event) (m : Moment) (ms : List Moment) →
    LooseStep S faults e m ms → IsSettled S m.state → Always (λ n. IsSettled S n.state) ms
settled_kept S faults e m ms loose h = any_keeps S (IsSettled S) (settled_closed S)
    (λ r c s g. put_settled S s r _ (λ p w t. t) g) faults m h e (λ r spare i. h) ms loose

pub root_settled_kept : (S : Service) (faults : Faults) (e : Event) (m : Moment) (ms : List Moment) →
    LooseStep S faults e m ms → IsRootSettled S m.state → Always (λ n. IsRootSettled S n.state) ms
root_settled_kept S faults e m ms loose h = any_keeps S (IsRootSettled S) (root_settled_closed S)
    (λ r c s g. put_root_settled S s r _ (λ p w t. t) g) faults m h e (λ r spare i. h) ms loose

-- at the start
none : {X : Type 0} (q : X → Bool) (n : ℕ) (x : X) → q x ≡ false → count_by q (replicate n x) ≡ 0
none q zero x h = refl
none q (suc n) x h = count_by-cons q x (replicate n x) ∙
    (let one : bit (q x) ≡ 0 = ap bit h in let rest : count_by q (replicate n x) ≡ 0 = none q n x h in omega arith)

pub fresh_settled : (S : Service) (servers : ℕ) → IsSettled S (fresh S servers).state
    × IsRootSettled S (fresh S servers).state
fresh_settled S servers =
    let x : Replica = record { condition = Live (begins S 0 S.empty); words = []; roots = [] } in (
      (λ p w e. (let z : count_by (says p w) (replicate (3 * S.f + 1) x) ≡ 0 = none (says p w) (3 * S.f + 1) x refl in
          omega arith)),
      (λ p d e. (let z : count_by (says_root p d) (replicate (3 * S.f + 1) x) ≡ 0 = none (says_root p d)
          (3 * S.f + 1) x refl in omega arith)),
    )
