-- A sound replica has a standing word for each place that it has run since its last rebuild, or the place is decided.
use Rattle.std.proofs.Common.{◌≡◌, ◌≢◌, ℕ, suc, ◌+◌, ◌*◌, ◌<◌, ◌≤◌, ◌⊎◌, Bool, true, false, cond, ◌||◌, List, [], ◌∷◌, ◌++◌, length, get_or, refl, sym, ◌∙◌, ap, subst, inl, inr, ⊎_elim, arith}
use Rattle.std.specs.Prelude.{Some, nat_le, nat_lt, ◌==◌}
use Rattle.std.proofs.lemmas.Bool.{eq-eqb, cases_lt, cases_eq}
use Rattle.std.proofs.lemmas.List.{set_past, get_or_past, get_or-set_other}
use Rattle.std.proofs.Math.ListN.{get_or-map}
use Rattle.nfs2_types.specs.declared.Word.{Word}
use Rattle.log_format.specs.declared.Line.{Line}
use Rattle.log_format.specs.declared.Line.TheVariants as lines
use Rattle.cluster_model.proofs.Tells.{since-decision}
use Rattle.cluster_model.specs.Service.{Service}
use Rattle.cluster_model.specs.Tree.{root_of}
use Rattle.cluster_model.specs.State.{Condition, Live, Down, Rebuilding, Running, Replica, State, lookup, has, or_else}
use Rattle.cluster_model.specs.Moments.{Moment, decision_line, gone, replica, put, print, becomes, votes, root_votes, is_decided, decides, forgets_words, adds_word, casts_word, becomes_stable, sees_stable, drops_before, adds_root, casts_root}
use Rattle.cluster_model.specs.Turns.{casts_root_of, is_checkpoint, passes}
use Rattle.cluster_model.specs.Run.{since, since_from, since_step, place_in}
use Rattle.cluster_model.proofs.Seats.{put_same, live_within}
use Rattle.cluster_model.proofs.Enough.{has-append, lookup-without}
use Rattle.cluster_model.proofs.Turns.{condition_put}
use Rattle.cluster_model.proofs.Passing.{or_true}

abbrev harmed_in : Condition → Bool
harmed_in (Live l) = l.harmed
harmed_in Down = true
harmed_in (Rebuilding b) = true

abbrev pub HasWord : ℕ → ℕ → State → Type 0
HasWord r p s = (is_decided p s ≡ true) ⊎ (has (lookup p (replica s r).words) ≡ true)

abbrev pub Passed : ℕ → Moment → Type 0
Passed r m = (l : Running) → (replica m.state r).condition ≡ Live l → l.harmed ≡ false → (p : ℕ) → since r m.lines < p →
    p ≤ l.place → HasWord r p m.state

-- what is kept of r from m to n
pub record Keeps (r : ℕ) (m n : Moment) : Type 0 where
  pub since_same : since r n.lines ≡ since r m.lines
  pub word : (p : ℕ) → HasWord r p m.state → HasWord r p n.state
  pub live : (l : Running) → (replica n.state r).condition ≡ Live l → l.harmed ≡ false →
      (o : Running) × ((replica m.state r).condition ≡ Live o) × (o.harmed ≡ false) × (o.place ≡ l.place)

pub keeps_passed : (r : ℕ) (m n : Moment) → Keeps r m n → Passed r m → Passed r n
keeps_passed r m n k h l e u p low high =
    let f = k.live l e u in
    k.word p (h f.0 f.1 f.2 p (subst (λ s. s < p) k.since_same low) (subst (λ x. p ≤ x) (sym f.3) high))

pub keeps_then : (r : ℕ) (m n k : Moment) → Keeps r m n → Keeps r n k → Keeps r m k
keeps_then r m n k h g = record {
  since_same = g.since_same ∙ h.since_same;
  word = λ p w. g.word p (h.word p w);
  live = λ l e u. (let f = g.live l e u in let d = h.live f.0 f.1 f.2 in (d.0, d.1, d.2, d.3 ∙ f.3));
}

keeps_same : (r : ℕ) (m : Moment) → Keeps r m m
keeps_same r m = record { since_same = refl; word = λ p w. w; live = λ l e u. (l, e, u, refl) }

pub since-print : (r p : ℕ) (xs : List Line) (x : Line) →
    since_from r p (xs ++ x ∷ []) ≡ since_step r (since_from r p xs) x
since-print r p [] x = refl
since-print r p (y ∷ xs) x = since-print r (since_step r p y) xs x

pub keeps_print : (r : ℕ) (x : Line) (m : Moment) → ((p : ℕ) → since_step r p x ≡ p) → Keeps r m (print x m)
keeps_print r x m h =
    record {
      since_same = since-print r 0 m.lines x ∙ h (since r m.lines);
      word = λ p w. w;
      live = λ l e u. (l, e, u, refl);
    }

-- a word cast

words_put : (s : State) (j r : ℕ) (x : Replica) (p : ℕ) →
    (has (lookup p (replica s j).words) ≡ true → has (lookup p x.words) ≡ true) →
    has (lookup p (replica s r).words) ≡ true → has (lookup p (replica (put j x s) r).words) ≡ true
words_put s j r x p keep h = ⊎_elim
    (λ within. ⊎_elim
    (λ same. subst (λ i. has (lookup p (replica (put j x s) i).words) ≡ true) (sym same)
    (subst (λ (y : Replica). has (lookup p y.words) ≡ true) (sym (put_same s j x within))
    (keep (subst (λ i. has (lookup p (replica s i).words) ≡ true) same h))))
    (λ other. subst (λ (y : Replica). has (lookup p y.words) ≡ true)
    (sym (get_or-set_other s.replicas j r x gone other)) h)
    (cases_eq r j))
    (λ past. subst (λ xs. has (lookup p (get_or xs r gone).words) ≡ true) (sym (set_past s.replicas j x past)) h)
    (cases_lt j (length s.replicas))

has_more : (p k : ℕ) (w : Word) (ws : List (ℕ × Word)) → has (lookup k ws) ≡ true → has (lookup k ((p, w) ∷ ws)) ≡ true
has_more p k w ws h = by (p == k)
  where
    by : (b : Bool) → has (cond b (Some w) (lookup k ws)) ≡ true
    by true = refl
    by false = h

adds_keeps : (r j p : ℕ) (w : Word) (m : Moment) → Keeps r m (record m { state = adds_word j p w m.state })
adds_keeps r j p w m =
    let x : Replica = record (replica m.state j) { words = (p, w) ∷ (replica m.state j).words } in
    record {
      since_same = refl;
      word = λ k h. ⊎_elim (λ e. inl e)
          (λ e. inr (words_put m.state j r x k (has_more p k w (replica m.state j).words) e)) h;
      live = λ l e u. (l, sym (condition_put m.state j r x refl) ∙ e, u, refl);
    }

decides_keeps : (r p : ℕ) (w : Word) (m : Moment) → Keeps r m (decides p w m)
decides_keeps r p w m =
    let there : replica (decides p w m).state r ≡ forgets_words p (replica m.state r) = get_or-map
    (forgets_words p) m.state.replicas r gone in
    record {
      since_same = since-print r 0 m.lines (decision_line p w) ∙ since-decision r (since r m.lines) p w;
      word = λ k h. by k (p == k) refl h;
      live = λ l e u. (l, sym (ap (λ (y : Replica). y.condition) there) ∙ e, u, refl);
    }
  where
    by : (k : ℕ) (b : Bool) → (p == k) ≡ b → HasWord r k m.state → HasWord r k (decides p w m).state
    by k true e h = inl (has-append k m.state.decisions (p, w) ∙ ap (λ b. has (lookup k m.state.decisions) || b) e
        ∙ or_true (has (lookup k m.state.decisions)))
    by k false e (inl h) = inl (has-append k m.state.decisions (p, w) ∙ ap (λ b. b || (p == k)) h)
    by k false e (inr h) = inr
        (ap (λ (y : Replica). has (lookup k y.words)) (get_or-map (forgets_words p) m.state.replicas r gone)
        ∙ ap has (lookup-without p k (replica m.state r).words e) ∙ h)

pub casts_word_keeps : (S : Service) (r j p : ℕ) (w : Word) (m : Moment) → Keeps r m (casts_word S j p w m)
casts_word_keeps S r j p w m = by (is_decided p m.state) (nat_le (S.f + 1) (votes p w (adds_word j p w m.state)))
  where
    n : Moment
    n = record m { state = adds_word j p w m.state }

    by : (a b : Bool) → Keeps r m
        (cond a m (cond b (decides p w (record m { state = adds_word j p w m.state }))
        (record m { state = adds_word j p w m.state })))
    by true b = keeps_same r m
    by false false = adds_keeps r j p w m
    by false true = keeps_then r m (record m { state = adds_word j p w m.state })
        (decides p w (record m { state = adds_word j p w m.state }))
        (adds_keeps r j p w m) (decides_keeps r p w (record m { state = adds_word j p w m.state }))

-- whoever casts a word has it, or its place is decided
pub casts_word_has : (S : Service) (j p : ℕ) (w : Word) (m : Moment) → j < length m.state.replicas →
    HasWord j p (casts_word S j p w m).state
casts_word_has S j p w m within = by (is_decided p m.state) refl
    (nat_le (S.f + 1) (votes p w (adds_word j p w m.state)))
  where
    yes : (p == p) ≡ true
    yes = eq-eqb p p refl

    by : (a : Bool) → is_decided p m.state ≡ a → (b : Bool) →
        HasWord j p (cond a m
        (cond b (decides p w (record m { state = adds_word j p w m.state }))
        (record m { state = adds_word j p w m.state }))).state
    by true e b = inl e
    by false e false = inr
        (ap (λ (y : Replica). has (lookup p y.words))
        (put_same m.state j (record (replica m.state j) { words = (p, w) ∷ (replica m.state j).words }) within)
        ∙ ap (λ b. has (cond b (Some w) (lookup p (replica m.state j).words))) yes)
    by false e true = inl
        (has-append p m.state.decisions (p, w) ∙ ap (λ b. has (lookup p m.state.decisions) || b) yes
        ∙ or_true (has (lookup p m.state.decisions)))

-- a root word cast

adds_root_keeps : (r j p : ℕ) (d : List ℕ) (m : Moment) → Keeps r m (record m { state = adds_root j p d m.state })
adds_root_keeps r j p d m =
    let x : Replica = record (replica m.state j) { roots = (p, d) ∷ (replica m.state j).roots } in
    record {
      since_same = refl;
      word = λ k h. ⊎_elim (λ e. inl e) (λ e. inr (words_put m.state j r x k (λ t. t) e)) h;
      live = λ l e u. (l, sym (condition_put m.state j r x refl) ∙ e, u, refl);
    }

stable_keeps : (r p : ℕ) (d : List ℕ) (m : Moment) → Keeps r m (becomes_stable p d m)
stable_keeps r p d m =
    let there : replica (becomes_stable p d m).state r ≡ sees_stable p (replica m.state r) = get_or-map
    (sees_stable p) m.state.replicas r gone in
    record {
      since_same = since-print r 0 m.lines (lines.Stable p d);
      word = λ k h. ⊎_elim (λ e. inl e) (λ e. inr (ap (λ (y : Replica). has (lookup k y.words)) there ∙ e)) h;
      live = λ l e u. undropped (replica m.state r).condition l (sym (ap (λ (y : Replica). y.condition) there) ∙ e) u;
    }
  where
    undropped : (c : Condition) (l : Running) → drops_before p c ≡ Live l → l.harmed ≡ false →
        (o : Running) × (c ≡ Live o) × (o.harmed ≡ false) × (o.place ≡ l.place)
    undropped (Live o) l e u = (o, refl, ap harmed_in e ∙ u, ap place_in e)
    undropped Down l e u = absurd (cc)
    undropped (Rebuilding b) l e u = absurd (cc)

pub casts_root_keeps : (S : Service) (r j p : ℕ) (d : List ℕ) (m : Moment) → Keeps r m (casts_root S j p d m)
casts_root_keeps S r j p d m = by (nat_lt m.state.stable p)
    (nat_le (2 * S.f + 1) (root_votes p d (adds_root j p d m.state)))
  where
    by : (a b : Bool) → Keeps r m
        (cond a (cond b (becomes_stable p d (record m { state = adds_root j p d m.state }))
        (record m { state = adds_root j p d m.state })) m)
    by false b = keeps_same r m
    by true false = adds_root_keeps r j p d m
    by true true = keeps_then r m (record m { state = adds_root j p d m.state })
        (becomes_stable p d (record m { state = adds_root j p d m.state }))
        (adds_root_keeps r j p d m) (stable_keeps r p d (record m { state = adds_root j p d m.state }))

pub casts_root_of_keeps : (S : Service) (r j : ℕ) (l : Running) (m : Moment) → Keeps r m (casts_root_of S j l m)
casts_root_of_keeps S r j l m = by (is_checkpoint S l.place)
  where
    d : List ℕ
    d = or_else (lookup l.place l.lies.roots) (root_of S l.believed)

    by : (b : Bool) → Keeps r m (cond b (casts_root S j l.place d m) m)
    by true = casts_root_keeps S r j l.place d m
    by false = keeps_same r m

-- a replica comes into another condition

becomes_word : (r j : ℕ) (c : Condition) (m : Moment) (p : ℕ) → HasWord r p m.state → HasWord r p (becomes j c m).state
becomes_word r j c m p h = ⊎_elim (λ e. inl e)
    (λ e. inr (words_put m.state j r (record (replica m.state j) { condition = c }) p (λ t. t) e)) h

pub becomes_other : (r j : ℕ) (c : Condition) (m : Moment) → r ≢ j → Keeps r m (becomes j c m)
becomes_other r j c m other = record {
  since_same = refl;
  word = becomes_word r j c m;
  live = λ l e u. (
    l,
    ap (λ (y : Replica). y.condition)
        (sym (get_or-set_other m.state.replicas j r (record (replica m.state j) { condition = c }) gone other))
        ∙ e,
    u,
    refl,
  );
}

-- what it becomes, if it is there
pub becomes_own : (j : ℕ) (c : Condition) (m : Moment) (l : Running) →
    (replica (becomes j c m).state j).condition ≡ Live l → c ≡ Live l
becomes_own j c m l e =
    let x : Replica = record (replica m.state j) { condition = c } in
    ⊎_elim (λ within. sym (ap (λ (y : Replica). y.condition) (put_same m.state j x within)) ∙ e)
    (λ past. (let d : replica (put j x m.state) j ≡ gone = ap (λ xs. get_or xs j gone)
    (set_past m.state.replicas j x past) ∙ get_or_past m.state.replicas j gone past in
    let f : Down ≡ Live l = ap (λ (y : Replica). y.condition) (sym d) ∙ e in absurd (cc)))
    (cases_lt j (length m.state.replicas))

-- into one that is not Live, or is harmed
pub becomes_passed : (j : ℕ) (c : Condition) (m : Moment) → ((l : Running) → c ≡ Live l → l.harmed ≡ false → ⊥) →
    (r : ℕ) → Passed r m → Passed r (becomes j c m)
becomes_passed j c m dead r h = ⊎_elim
    (λ same l e u. absurd
    (dead l (becomes_own j c m l (subst (λ i. (replica (becomes j c m).state i).condition ≡ Live l) same e)) u))
    (λ other. keeps_passed r m (becomes j c m) (becomes_other r j c m other) h)
    (cases_eq r j)

-- j, Live as l, passes its next place as l'
pub passes_passed : (S : Service) (j : ℕ) (l l' : Running) (w : Word) (m : Moment) →
    (replica m.state j).condition ≡ Live l → l'.place ≡ suc l.place →
    (l'.harmed ≡ false → l.harmed ≡ false) → ((r : ℕ) → Passed r m) → (r : ℕ) → Passed r (passes S j l' w m)
passes_passed S j l l' w m live next unharmed all r = ⊎_elim own other (cases_eq r j)
  where
    entered : Moment
    entered = becomes j (Live l') m

    word : Word
    word = or_else (lookup l'.place l'.lies.words) w

    cast : Moment
    cast = casts_word S j l'.place (or_else (lookup l'.place l'.lies.words) w) (becomes j (Live l') m)

    later : (i : ℕ) → Keeps i (becomes j (Live l') m) (passes S j l' w m)
    later i = keeps_then i (becomes j (Live l') m) cast (casts_root_of S j l' cast)
        (casts_word_keeps S i j l'.place (or_else (lookup l'.place l'.lies.words) w) (becomes j (Live l') m))
        (casts_root_of_keeps S i j l' cast)

    other : (r ≡ j → ⊥) → Passed r (passes S j l' w m)
    other apart = keeps_passed r m (passes S j l' w m)
        (keeps_then r m (becomes j (Live l') m) (passes S j l' w m) (becomes_other r j (Live l') m apart) (later r))
        (all r)

    mine : Passed j (passes S j l' w m)
    mine o e u p low high =
        let f = (later j).live o e u in
        let same : Live l' ≡ Live f.0 = becomes_own j (Live l') m f.0 f.1 in
        let place : l'.place ≡ f.0.place = ap place_in same in
        let fine : l'.harmed ≡ false = ap harmed_in same ∙ f.2 in
        let within : j < length (becomes j (Live l') m).state.replicas = live_within
        (becomes j (Live l') m).state j f.0 f.1 in
        let high' : p ≤ suc l.place = omega (arith, f.3) in
        ⊎_elim
        (λ lt. (later j).word p
        (becomes_word j j (Live l') m p
        (all j l live (unharmed fine) p (subst (λ s. s < p) (later j).since_same low) (omega arith))))
        (λ ge. (casts_root_of_keeps S j j l' cast).word p
        (subst (λ i. HasWord j i cast.state) (omega arith)
        (casts_word_has S j l'.place (or_else (lookup l'.place l'.lies.words) w) (becomes j (Live l') m) within)))
        (cases_lt p (suc l.place))

    own : r ≡ j → Passed r (passes S j l' w m)
    own same = subst (λ i. Passed i (passes S j l' w m)) (sym same) mine
