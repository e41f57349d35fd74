-- A live replica has a standing root word for each place of a checkpoint that it has passed, or the place is stable or
-- below.
use Rattle.std.proofs.Common.{◌≡◌, ◌⊎◌, ℕ, suc, ◌+◌, ◌*◌, ◌<◌, ◌≤◌, Bool, true, false, cond, List, [], ◌∷◌, length, get_or, refl, sym, ◌∙◌, ap, subst, inl, inr, ⊎_elim, arith}
use Rattle.std.specs.Prelude.{Some, nat_le, nat_lt, ◌==◌}
use Rattle.std.proofs.lemmas.Bool.{eq-eqb, ltb-true, lt-ltb, cases_lt, cases_eq}
use Rattle.std.proofs.lemmas.List.{set_past, get_or-set_other}
use Rattle.std.proofs.Math.ListN.{get_or-map}
use Rattle.nfs2_types.specs.declared.Word.{Word}
use Rattle.cluster_model.specs.Service.{Service}
use Rattle.cluster_model.specs.Tree.{root_of}
use Rattle.cluster_model.specs.State.{Condition, Live, Down, Rebuilding, Running, Replica, State, lookup, has, or_else}
use Rattle.cluster_model.specs.Moments.{Moment, gone, replica, put, becomes, votes, root_votes, is_decided, decides, forgets_words, adds_word, casts_word, becomes_stable, sees_stable, drops_before, adds_root, casts_root}
use Rattle.cluster_model.specs.Turns.{casts_root_of, is_checkpoint, passes}
use Rattle.cluster_model.specs.Run.{place_in}
use Rattle.cluster_model.proofs.Seats.{put_same, live_within}
use Rattle.cluster_model.proofs.Settled.{lookup-above}
use Rattle.cluster_model.proofs.Turns.{condition_put}
use Rattle.cluster_model.proofs.Ran.{becomes_own}

abbrev pub HasRoot : ℕ → ℕ → State → Type 0
HasRoot r p s = (p ≤ s.stable) ⊎ (has (lookup p (replica s r).roots) ≡ true)

abbrev pub PassedRoots : Service → State → ℕ → Type 0
PassedRoots S s r = (l : Running) → (replica s r).condition ≡ Live l → (p : ℕ) → 1 ≤ p → p ≤ l.place →
    is_checkpoint S p ≡ true → HasRoot r p s

-- what is kept of r from m to n
record KeepsRoots (r : ℕ) (m n : State) : Type 0 where
  pub root : (p : ℕ) → HasRoot r p m → HasRoot r p n
  pub live : (l : Running) → (replica n r).condition ≡ Live l →
      (o : Running) × ((replica m r).condition ≡ Live o) × (o.place ≡ l.place)

keeps_passed : (S : Service) (r : ℕ) (m n : State) → KeepsRoots r m n → PassedRoots S m r → PassedRoots S n r
keeps_passed S r m n k h l e p low high check =
    let f = k.live l e in
    k.root p (h f.0 f.1 p low (subst (λ x. p ≤ x) (sym f.2) high) check)

keeps_then : (r : ℕ) (m n k : State) → KeepsRoots r m n → KeepsRoots r n k → KeepsRoots r m k
keeps_then r m n k h g = record {
  root = λ p w. g.root p (h.root p w);
  live = λ l e. (let f = g.live l e in let d = h.live f.0 f.1 in (d.0, d.1, d.2 ∙ f.2));
}

keeps_same : (r : ℕ) (m : State) → KeepsRoots r m m
keeps_same r m = record { root = λ p w. w; live = λ l e. (l, e, refl) }

roots_put : (s : State) (j r : ℕ) (x : Replica) (p : ℕ) →
    (has (lookup p (replica s j).roots) ≡ true → has (lookup p x.roots) ≡ true) →
    has (lookup p (replica s r).roots) ≡ true → has (lookup p (replica (put j x s) r).roots) ≡ true
roots_put s j r x p keep h = ⊎_elim
    (λ within. ⊎_elim
    (λ same. subst (λ i. has (lookup p (replica (put j x s) i).roots) ≡ true) (sym same)
    (subst (λ (y : Replica). has (lookup p y.roots) ≡ true) (sym (put_same s j x within))
    (keep (subst (λ i. has (lookup p (replica s i).roots) ≡ true) same h))))
    (λ other. subst (λ (y : Replica). has (lookup p y.roots) ≡ true)
    (sym (get_or-set_other s.replicas j r x gone other)) h)
    (cases_eq r j))
    (λ past. subst (λ xs. has (lookup p (get_or xs r gone).roots) ≡ true) (sym (set_past s.replicas j x past)) h)
    (cases_lt j (length s.replicas))

-- a replica is put whose condition is the same, and whose root words are the same or more
put_keeps : (s : State) (r j : ℕ) (x : Replica) → x.condition ≡ (replica s j).condition →
    ((p : ℕ) → has (lookup p (replica s j).roots) ≡ true → has (lookup p x.roots) ≡ true) → KeepsRoots r s (put j x s)
put_keeps s r j x same more = record {
  root = λ k h. ⊎_elim (λ e. inl e) (λ e. inr (roots_put s j r x k (more k) e)) h;
  live = λ l e. (l, sym (condition_put s j r x same) ∙ e, refl);
}

-- a word cast

word_keeps : (S : Service) (r j p : ℕ) (w : Word) (m : Moment) → KeepsRoots r m.state (casts_word S j p w m).state
word_keeps S r j p w m = by (is_decided p m.state) (nat_le (S.f + 1) (votes p w (adds_word j p w m.state)))
  where
    n : Moment
    n = record m { state = adds_word j p w m.state }

    added : KeepsRoots r m.state (adds_word j p w m.state)
    added = put_keeps m.state r j (record (replica m.state j) { words = (p, w) ∷ (replica m.state j).words }) refl
        (λ k t. t)

    decided : KeepsRoots r (adds_word j p w m.state)
        (decides p w (record m { state = adds_word j p w m.state })).state
    decided =
        let there : replica (decides p w (record m { state = adds_word j p w m.state })).state r ≡
        forgets_words p (replica (adds_word j p w m.state) r) =
        get_or-map (forgets_words p) (adds_word j p w m.state).replicas r gone in
        record {
          root = λ k h. ⊎_elim (λ e. inl e)
              (λ e. inr (subst (λ (y : Replica). has (lookup k y.roots) ≡ true) (sym there) e)) h;
          live = λ l e. (l, sym (ap (λ (y : Replica). y.condition) there) ∙ e, refl);
        }

    by : (a b : Bool) → KeepsRoots r m.state
        (cond a m (cond b (decides p w (record m { state = adds_word j p w m.state }))
        (record m { state = adds_word j p w m.state }))).state
    by true b = keeps_same r m.state
    by false false = added
    by false true = keeps_then r m.state (adds_word j p w m.state)
        (decides p w (record m { state = adds_word j p w m.state })).state added decided

-- a root word cast

has_more : (p k : ℕ) (d : List ℕ) (ds : List (ℕ × List ℕ)) → has (lookup k ds) ≡ true →
    has (lookup k ((p, d) ∷ ds)) ≡ true
has_more p k d ds h = by (p == k)
  where
    by : (b : Bool) → has (cond b (Some d) (lookup k ds)) ≡ true
    by true = refl
    by false = h

adds_keeps : (r j p : ℕ) (d : List ℕ) (s : State) → KeepsRoots r s (adds_root j p d s)
adds_keeps r j p d s = put_keeps s r j (record (replica s j) { roots = (p, d) ∷ (replica s j).roots }) refl
    (λ k t. has_more p k d (replica s j).roots t)

stable_keeps : (r p : ℕ) (d : List ℕ) (m : Moment) → m.state.stable ≤ p →
    KeepsRoots r m.state (becomes_stable p d m).state
stable_keeps r p d m up =
    let there : replica (becomes_stable p d m).state r ≡ sees_stable p (replica m.state r) = get_or-map
    (sees_stable p) m.state.replicas r gone in
    record {
      root = λ k h. ⊎_elim (λ e. inl (omega arith))
          (λ e. ⊎_elim (λ above. inr (subst (λ (y : Replica). has (lookup k y.roots) ≡ true) (sym there)
          (ap has (lookup-above p k (replica m.state r).roots above) ∙ e)))
          (λ below. inl below) (cases_lt p k)) h;
      live = λ l e. undropped (replica m.state r).condition l (sym (ap (λ (y : Replica). y.condition) there) ∙ e);
    }
  where
    undropped : (c : Condition) (l : Running) → drops_before p c ≡ Live l →
        (o : Running) × (c ≡ Live o) × (o.place ≡ l.place)
    undropped (Live o) l e = (o, refl, ap place_in e)
    undropped Down l e = absurd (cc)
    undropped (Rebuilding b) l e = absurd (cc)

root_keeps : (S : Service) (r j p : ℕ) (d : List ℕ) (m : Moment) → KeepsRoots r m.state (casts_root S j p d m).state
root_keeps S r j p d m = by (nat_lt m.state.stable p)
    (nat_le (2 * S.f + 1) (root_votes p d (adds_root j p d m.state))) refl
  where
    by : (a b : Bool) → nat_lt m.state.stable p ≡ a → KeepsRoots r m.state
        (cond a (cond b (becomes_stable p d (record m { state = adds_root j p d m.state }))
        (record m { state = adds_root j p d m.state })) m).state
    by false b e = keeps_same r m.state
    by true false e = adds_keeps r j p d m.state
    by true true e =
        let up : m.state.stable < p = ltb-true m.state.stable p e in
        keeps_then r m.state (adds_root j p d m.state)
        (becomes_stable p d (record m { state = adds_root j p d m.state })).state
        (adds_keeps r j p d m.state)
        (stable_keeps r p d (record m { state = adds_root j p d m.state }) (omega arith))

root_of_keeps : (S : Service) (r j : ℕ) (l : Running) (m : Moment) →
    KeepsRoots r m.state (casts_root_of S j l m).state
root_of_keeps S r j l m = by (is_checkpoint S l.place)
  where
    d : List ℕ
    d = or_else (lookup l.place l.lies.roots) (root_of S l.believed)

    by : (b : Bool) → KeepsRoots r m.state (cond b (casts_root S j l.place d m) m).state
    by true = root_keeps S r j l.place d m
    by false = keeps_same r m.state

-- whoever casts a root word has it, or its place is stable or below
root_has : (S : Service) (j p : ℕ) (d : List ℕ) (m : Moment) → j < length m.state.replicas →
    HasRoot j p (casts_root S j p d m).state
root_has S j p d m within = by (nat_lt m.state.stable p) refl
    (nat_le (2 * S.f + 1) (root_votes p d (adds_root j p d m.state)))
  where
    yes : (p == p) ≡ true
    yes = eq-eqb p p refl

    low : nat_lt m.state.stable p ≡ false → p ≤ m.state.stable
    low e = ⊎_elim (λ up. absurd (let t : nat_lt m.state.stable p ≡ true = lt-ltb m.state.stable p up in cc)) (λ h. h)
        (cases_lt m.state.stable p)

    by : (a : Bool) → nat_lt m.state.stable p ≡ a → (b : Bool) →
        HasRoot j p (cond a (cond b (becomes_stable p d (record m { state = adds_root j p d m.state }))
        (record m { state = adds_root j p d m.state })) m).state
    by false e b = inl (low e)
    by true e true = inl (omega arith)
    by true e false = inr
        (ap (λ (y : Replica). has (lookup p y.roots))
        (put_same m.state j (record (replica m.state j) { roots = (p, d) ∷ (replica m.state j).roots }) within)
        ∙ ap (λ b. has (cond b (Some d) (lookup p (replica m.state j).roots))) yes)

-- a replica comes into another condition

becomes_root : (r j : ℕ) (c : Condition) (m : Moment) (p : ℕ) → HasRoot r p m.state →
    HasRoot r p (becomes j c m).state
becomes_root r j c m p h = ⊎_elim (λ e. inl e)
    (λ e. inr (roots_put m.state j r (record (replica m.state j) { condition = c }) p (λ t. t) e)) h

becomes_other : (r j : ℕ) (c : Condition) (m : Moment) → (r ≡ j → ⊥) → KeepsRoots r m.state (becomes j c m).state
becomes_other r j c m other = record {
  root = becomes_root r j c m;
  live = λ l e. (
    l,
    ap (λ (y : Replica). y.condition)
        (sym (get_or-set_other m.state.replicas j r (record (replica m.state j) { condition = c }) gone other))
        ∙ e,
    refl,
  );
}

-- its server fails
pub down_passed_roots : (S : Service) (j : ℕ) (m : Moment) → ((r : ℕ) → PassedRoots S m.state r) → (r : ℕ) →
    PassedRoots S (becomes j Down m).state r
down_passed_roots S j m h r = ⊎_elim
    (λ same l e. (let f : Down ≡ Live l = becomes_own j Down m l
    (subst (λ i. (replica (becomes j Down m).state i).condition ≡ Live l) same e) in absurd (cc)))
    (λ other. keeps_passed S r m.state (becomes j Down m).state (becomes_other r j Down m other) (h r))
    (cases_eq r j)

-- j, Live as l, passes its next place as l'
pub passes_passed_roots : (S : Service) (j : ℕ) (l l' : Running) (w : Word) (m : Moment) →
    (replica m.state j).condition ≡ Live l → l'.place ≡ suc l.place →
    ((r : ℕ) → PassedRoots S m.state r) → (r : ℕ) → PassedRoots S (passes S j l' w m).state r
passes_passed_roots S j l l' w m live next all r = ⊎_elim own other (cases_eq r j)
  where
    cast : Moment
    cast = casts_word S j l'.place (or_else (lookup l'.place l'.lies.words) w) (becomes j (Live l') m)

    d : List ℕ
    d = or_else (lookup l'.place l'.lies.roots) (root_of S l'.believed)

    later : (i : ℕ) → KeepsRoots i (becomes j (Live l') m).state (passes S j l' w m).state
    later i = keeps_then i (becomes j (Live l') m).state cast.state (casts_root_of S j l' cast).state
        (word_keeps S i j l'.place (or_else (lookup l'.place l'.lies.words) w) (becomes j (Live l') m))
        (root_of_keeps S i j l' cast)

    other : (r ≡ j → ⊥) → PassedRoots S (passes S j l' w m).state r
    other apart = keeps_passed S r m.state (passes S j l' w m).state
        (keeps_then r m.state (becomes j (Live l') m).state (passes S j l' w m).state
        (becomes_other r j (Live l') m apart) (later r))
        (all r)

    newest : (b : Bool) → b ≡ true → j < length cast.state.replicas →
        HasRoot j l'.place (cond b (casts_root S j l'.place d cast) cast).state
    newest true e within = root_has S j l'.place d cast within
    newest false e within = absurd (cc)

    mine : PassedRoots S (passes S j l' w m).state j
    mine o e p low high check =
        let f = (later j).live o e in
        let g = (word_keeps S j j l'.place (or_else (lookup l'.place l'.lies.words) w) (becomes j (Live l') m)).live in
        let k = (root_of_keeps S j j l' cast).live o e in
        let same : Live l' ≡ Live f.0 = becomes_own j (Live l') m f.0 f.1 in
        let place : l'.place ≡ f.0.place = ap place_in same in
        let within : j < length cast.state.replicas = live_within cast.state j k.0 k.1 in
        let high' : p ≤ suc l.place = omega (arith, f.2) in
        ⊎_elim
        (λ lt. (later j).root p (becomes_root j j (Live l') m p (all j l live p low (omega arith) check)))
        (λ ge. (let at : p ≡ l'.place = omega arith in
        subst (λ i. HasRoot j i (passes S j l' w m).state) (sym at)
        (newest (is_checkpoint S l'.place) (subst (λ i. is_checkpoint S i ≡ true) at check) within)))
        (cases_lt p (suc l.place))

    own : r ≡ j → PassedRoots S (passes S j l' w m).state r
    own same = subst (PassedRoots S (passes S j l' w m).state) (sym same) mine
