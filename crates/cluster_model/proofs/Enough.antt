-- No place is left undecided that f + 1 equal standing words speak for; this holds at every moment, fair or not.
use Rattle.std.proofs.Common.{◌≡◌, ℕ, ◌+◌, ◌*◌, ◌≤◌, Bool, true, false, cond, ◌||◌, List, [], ◌∷◌, ◌++◌, map, length, get_or, set, refl, sym, ◌∙◌, ap, subst, ⊎_elim, arith}
use Rattle.std.specs.Prelude.{Some, None, nat_le, nat_lt, ◌==◌, not}
use Rattle.std.specs.List.{count_by}
use Rattle.std.proofs.lemmas.Bool.{eqb-true, eq-eqb, le-leb, cases_lt}
use Rattle.std.proofs.lemmas.List.{set_past}
use Rattle.std.proofs.lemmas.List.Sums.{sum_by-set}
use Rattle.nfs2_types.specs.declared.Word.{Word}
use Rattle.cluster_model.specs.Service.{Service, same_word}
use Rattle.cluster_model.specs.State.{Replica, State, lookup, has, says, is_word}
use Rattle.cluster_model.specs.Moments.{Moment, gone, replica, put, votes, is_decided, decides, forgets_words, adds_word, counts_word, casts_word, without, becomes_stable, sees_stable, adds_root, root_votes, casts_root}
use Rattle.cluster_model.specs.Settled.{IsSettled}
use Rattle.cluster_model.proofs.Counting.{bit, bits-le, count_by-cons}
use Rattle.cluster_model.proofs.Votes.{same_word-true}

pub count_by-set_ge : {X : Type 0} (p : X → Bool) (xs : List X) (i : ℕ) (y d : X) →
    (p y ≡ true → p (get_or xs i d) ≡ true) → count_by p (set xs i y) ≤ count_by p xs
count_by-set_ge p xs i y d h = ⊎_elim
    (λ l. let e : count_by p (set xs i y) + bit (p (get_or xs i d)) ≡ count_by p xs + bit (p y) = sum_by-set
    (λ z. bit (p z)) xs i y d l in
    let one : bit (p y) ≤ bit (p (get_or xs i d)) = bits-le (p y) (p (get_or xs i d)) h in omega arith)
    (λ g. let e : count_by p (set xs i y) ≡ count_by p xs = ap (count_by p) (set_past xs i y g) in omega arith)
    (cases_lt i (length xs))

pub count_by-map_ge : {X Y : Type 0} (p : X → Bool) (q : Y → Bool) (g : X → Y) (xs : List X) →
    ((x : X) → q (g x) ≡ true → p x ≡ true) → count_by q (map g xs) ≤ count_by p xs
count_by-map_ge p q g [] h = omega arith
count_by-map_ge p q g (x ∷ xs) h =
    let rest : count_by q (map g xs) ≤ count_by p xs = count_by-map_ge p q g xs h in
    let one : bit (q (g x)) ≤ bit (p x) = bits-le (q (g x)) (p x) (h x) in
    rw (count_by-cons p x xs, count_by-cons q (g x) (map g xs)) (omega arith)

pub put_settled : (S : Service) (s : State) (r : ℕ) (x : Replica) →
    ((p : ℕ) (w : Word) → says p w x ≡ true → says p w (replica s r) ≡ true) → IsSettled S s → IsSettled S (put r x s)
put_settled S s r x fewer h p w e =
    let a : votes p w s ≤ S.f = h p w e in
    let b : count_by (says p w) (set s.replicas r x) ≤ count_by (says p w) s.replicas = count_by-set_ge
    (says p w) s.replicas r x gone (fewer p w) in
    omega arith

pub has-append : {X : Type 0} (k : ℕ) (xs : List (ℕ × X)) (y : ℕ × X) →
    has (lookup k (xs ++ y ∷ [])) ≡ (has (lookup k xs) || (y.0 == k))
has-append k [] y = by (y.0 == k)
  where
    by : (b : Bool) → has (cond b (Some y.1) None) ≡ b
    by true = refl
    by false = refl
has-append k (x ∷ xs) y = by (x.0 == k) (has-append k xs y)
  where
    by : (b : Bool) → has (lookup k (xs ++ y ∷ [])) ≡ (has (lookup k xs) || (y.0 == k)) →
        has (cond b (Some x.1) (lookup k (xs ++ y ∷ []))) ≡ (has (cond b (Some x.1) (lookup k xs)) || (y.0 == k))
    by true e = refl
    by false e = e

pub lookup-without : {X : Type 0} (p k : ℕ) (ws : List (ℕ × X)) → (p == k) ≡ false →
    lookup k (without p ws) ≡ lookup k ws
lookup-without p k [] e = refl
lookup-without p k (x ∷ xs) e = by (x.0 == p) (x.0 == k) refl refl (lookup-without p k xs e)
  where
    by : (a b : Bool) → (x.0 == p) ≡ a → (x.0 == k) ≡ b → lookup k (without p xs) ≡ lookup k xs →
        lookup k (cond (not a) (x ∷ without p xs) (without p xs)) ≡ cond b (Some x.1) (lookup k xs)
    by true true ea eb rest = absurd
        (let f : x.0 ≡ p = eqb-true x.0 p ea in let g : x.0 ≡ k = eqb-true x.0 k eb in
        let t : (p == k) ≡ true = eq-eqb p k (sym f ∙ g) in cc)
    by true false ea eb rest = rest
    by false true ea eb rest = rw eb refl
    by false false ea eb rest = rw eb rest

or_false : (a b : Bool) → (a || b) ≡ false → (a ≡ false) × (b ≡ false)
or_false true b e = absurd (cc)
or_false false b e = (refl, e)

module _ (S : Service) (r p : ℕ) (w : Word) (m : Moment) (h : IsSettled S m.state)
    (open' : is_decided p m.state ≡ false) where
  abbrev with_word : Moment
  with_word = record m { state = adds_word r p w m.state }

  -- another place has no more votes
  others : (k : ℕ) (v : Word) → (p == k) ≡ false → is_decided k m.state ≡ false → votes k v with_word.state ≤ S.f
  others k v other e =
      let a : votes k v m.state ≤ S.f = h k v e in
      let b : count_by (says k v)
      (set m.state.replicas r
      (record (replica m.state r) { words = (p, w) ∷ (replica m.state r).words })) ≤ count_by
      (says k v) m.state.replicas =
      count_by-set_ge (says k v) m.state.replicas r
      (record (replica m.state r) { words = (p, w) ∷ (replica m.state r).words }) gone
      (λ t. ap (λ b. is_word v (cond b (Some w) (lookup k (replica m.state r).words))) (sym other) ∙ t) in
      omega arith

  -- so has another word for this place
  other_word : (v : Word) → same_word v w ≡ false → votes p v with_word.state ≤ S.f
  other_word v differs =
      let a : votes p v m.state ≤ S.f = h p v open' in
      let yes : (p == p) ≡ true = eq-eqb p p refl in
      let b : count_by (says p v)
      (set m.state.replicas r
      (record (replica m.state r) { words = (p, w) ∷ (replica m.state r).words })) ≤ count_by
      (says p v) m.state.replicas =
      count_by-set_ge (says p v) m.state.replicas r
      (record (replica m.state r) { words = (p, w) ∷ (replica m.state r).words }) gone
      (λ t. absurd (let u : same_word v w ≡ true = ap
      (λ b. is_word v (cond b (Some w) (lookup p (replica m.state r).words))) (sym yes) ∙ t in cc)) in
      omega arith

  undecided : (b : Bool) → nat_le (S.f + 1) (votes p w with_word.state) ≡ b →
      IsSettled S (cond b (decides p w with_word) with_word).state
  undecided true e k v open'' =
      let both = or_false (has (lookup k m.state.decisions)) (p == k)
      (sym (has-append k m.state.decisions (p, w)) ∙ open'') in
      let a : votes k v with_word.state ≤ S.f = others k v both.1 both.0 in
      let b : count_by (says k v) (map (forgets_words p) with_word.state.replicas) ≤ count_by
      (says k v) with_word.state.replicas =
      count_by-map_ge (says k v) (says k v) (forgets_words p) with_word.state.replicas
      (λ x t. ap (is_word v) (sym (lookup-without p k x.words both.1)) ∙ t) in
      omega arith
  undecided false e k v open'' = by (p == k) (same_word v w) refl refl
    where
      low : votes p w with_word.state ≤ S.f
      low = ⊎_elim (λ l. omega arith)
          (λ g. absurd (let t : nat_le (S.f + 1) (votes p w with_word.state) ≡ true = le-leb (S.f + 1)
          (votes p w with_word.state) g in cc))
          (cases_lt (votes p w with_word.state) (S.f + 1))

      by : (a b : Bool) → (p == k) ≡ a → same_word v w ≡ b → votes k v with_word.state ≤ S.f
      by false b ea eb = others k v ea open''
      by true true ea eb = subst (λ i. votes i v with_word.state ≤ S.f) (eqb-true p k ea)
          (subst (λ u. votes p u with_word.state ≤ S.f) (sym (same_word-true v w eb)) low)
      by true false ea eb = subst (λ i. votes i v with_word.state ≤ S.f) (eqb-true p k ea) (other_word v eb)

pub casts_word_settled : (S : Service) (r p : ℕ) (w : Word) (m : Moment) → IsSettled S m.state →
    IsSettled S (casts_word S r p w m).state
casts_word_settled S r p w m h = by (is_decided p m.state) refl
  where
    by : (b : Bool) → is_decided p m.state ≡ b → IsSettled S
        (cond b m (counts_word S p w (record m { state = adds_word r p w m.state }))).state
    by true e = h
    by false e = undecided S r p w m h e (nat_le (S.f + 1) (votes p w (adds_word r p w m.state))) refl

pub casts_root_settled : (S : Service) (r p : ℕ) (d : List ℕ) (m : Moment) → IsSettled S m.state →
    IsSettled S (casts_root S r p d m).state
casts_root_settled S r p d m h = by (nat_lt m.state.stable p)
    (nat_le (2 * S.f + 1) (root_votes p d (adds_root r p d m.state)))
  where
    added : IsSettled S (adds_root r p d m.state)
    added = put_settled S m.state r (record (replica m.state r) { roots = (p, d) ∷ (replica m.state r).roots })
        (λ p w t. t) h

    by : (a b : Bool) → IsSettled S
        (cond a (cond b (becomes_stable p d (record m { state = adds_root r p d m.state }))
        (record m { state = adds_root r p d m.state })) m).state
    by false b = h
    by true false = added
    by true true = λ p' w' e.
        let a : votes p' w' (adds_root r p d m.state) ≤ S.f = added p' w' e in
        let b : count_by (says p' w') (map (sees_stable p) (adds_root r p d m.state).replicas) ≤ count_by (says p' w')
        (adds_root r p d m.state).replicas =
        count_by-map_ge (says p' w') (says p' w') (sees_stable p) (adds_root r p d m.state).replicas (λ x t. t) in
        omega arith
