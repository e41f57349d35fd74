-- A replica that passes its next place keeps the state right.
use Rattle.std.proofs.Common.{◌≡◌, ℕ, ◌+◌, ◌*◌, ◌≤◌, Bool, true, false, cond, ◌||◌, List, ◌∷◌, length, get_or, refl, sym, ◌∙◌, ap, subst, ⊎_elim, arith}
use Rattle.std.specs.Prelude.{Some, None, ◌==◌, nat_le, nat_lt, slice_get}
use Rattle.std.specs.List.{count_by}
use Rattle.std.proofs.lemmas.Bool.{cases_lt, cases_eq}
use Rattle.std.proofs.lemmas.List.{set_past, get_or-set_other}
use Rattle.std.proofs.Math.ListN.{get_or-map}
use Rattle.cluster_model.specs.declared.request.Request.{Request}
use Rattle.nfs2_types.specs.declared.Word.{Word}
use Rattle.nfs2_types.specs.declared.Word.TheVariants.{Silent}
use Rattle.cluster_model.specs.Service.{Service, said_at}
use Rattle.cluster_model.specs.Tree.{root_of}
use Rattle.cluster_model.specs.State.{Checkpoint, Lies, holds_at, Live, Running, Replica, State, lookup, holds_in, or_else, is_unsound, is_harmed}
use Rattle.cluster_model.specs.Moments.{Moment, gone, replica, put, becomes, casts_word, casts_root, counts_word, decides, forgets_words, is_decided, votes, root_votes, adds_root, becomes_stable}
use Rattle.cluster_model.specs.Turns.{ran, saves_newest, skipped, checked, takes_checkpoint, is_checkpoint, harm, passes, runs, skips, casts_root_of}
use Rattle.cluster_model.specs.Fair.{IsFair}
use Rattle.cluster_model.specs.Right.{IsRightLive, IsRightIn, IsRight, is_source, IsRightWord, IsRightRoot, IsOrderly}
use Rattle.cluster_model.proofs.Places.{said_at-next}
use Rattle.cluster_model.proofs.Seats.{put_right, put_same, live_within, replica_right}
use Rattle.cluster_model.proofs.Casts.{casts_word_right, casts_word_unsound, with_word}
use Rattle.cluster_model.proofs.Roots.{casts_root_right, casts_root_unsound}
use Rattle.cluster_model.proofs.Passing.{ran_right, ran_below, saved_holds, taken_right, taken_root, or_true, AllBelow}

-- A word cast leaves conditions and requests

pub condition_put : (s : State) (r j : ℕ) (x : Replica) → x.condition ≡ (replica s r).condition →
    (replica (put r x s) j).condition ≡ (replica s j).condition
condition_put s r j x e = ⊎_elim
    (λ l. ⊎_elim
    (λ same. subst (λ k. (replica (put r x s) k).condition ≡ (replica s k).condition) (sym same)
    (ap (λ (y : Replica). y.condition) (put_same s r x l) ∙ e))
    (λ other. ap (λ (y : Replica). y.condition) (get_or-set_other s.replicas r j x gone other))
    (cases_eq j r))
    (λ g. ap (λ xs. (get_or xs j gone).condition) (set_past s.replicas r x g))
    (cases_lt r (length s.replicas))

decides_condition : (p : ℕ) (w : Word) (m : Moment) (j : ℕ) →
    (replica (decides p w m).state j).condition ≡ (replica m.state j).condition
decides_condition p w m j = ap (λ (y : Replica). y.condition) (get_or-map (forgets_words p) m.state.replicas j gone)

counts_condition : (S : Service) (p : ℕ) (w : Word) (m : Moment) (j : ℕ) →
    (replica (counts_word S p w m).state j).condition ≡ (replica m.state j).condition
counts_condition S p w m j = counted (nat_le (S.f + 1) (votes p w m.state))
  where
    counted : (b : Bool) → (replica (cond b (decides p w m) m).state j).condition ≡ (replica m.state j).condition
    counted true = decides_condition p w m j
    counted false = refl

pub casts_condition : (S : Service) (r p : ℕ) (w : Word) (m : Moment) (j : ℕ) →
    (replica (casts_word S r p w m).state j).condition ≡ (replica m.state j).condition
casts_condition S r p w m j = decided (is_decided p m.state)
  where
    decided : (b : Bool) → (replica (cond b m (counts_word S p w (with_word r p w m))).state j).condition ≡
        (replica m.state j).condition
    decided true = refl
    decided false = counts_condition S p w (with_word r p w m) j
        ∙ condition_put m.state r j (record (replica m.state r) { words = (p, w) ∷ (replica m.state r).words }) refl

pub casts_requests : (S : Service) (r p : ℕ) (w : Word) (m : Moment) →
    (casts_word S r p w m).state.requests ≡ m.state.requests
casts_requests S r p w m = decided (is_decided p m.state) (nat_le (S.f + 1) (votes p w (with_word r p w m).state))
  where
    decided : (b c : Bool) → (cond b m (cond c (decides p w (with_word r p w m)) (with_word r p w m))).state.requests
        ≡ m.state.requests
    decided true c = refl
    decided false true = refl
    decided false false = refl

pub root_of_requests : (S : Service) (r : ℕ) (l : Running) (m : Moment) →
    (casts_root_of S r l m).state.requests ≡ m.state.requests
root_of_requests S r l m = by (is_checkpoint S l.place) (nat_lt m.state.stable l.place)
    (nat_le (2 * S.f + 1)
    (root_votes l.place (or_else (lookup l.place l.lies.roots) (root_of S l.believed))
    (adds_root r l.place (or_else (lookup l.place l.lies.roots) (root_of S l.believed)) m.state)))
  where
    d : List ℕ
    d = or_else (lookup l.place l.lies.roots) (root_of S l.believed)

    by : (a b c : Bool) →
        (cond a (cond b (cond c (becomes_stable l.place d (record m { state = adds_root r l.place d m.state }))
        (record m { state = adds_root r l.place d m.state })) m) m).state.requests ≡ m.state.requests
    by false b c = refl
    by true false c = refl
    by true true true = refl
    by true true false = refl

pub passes_requests : (S : Service) (r : ℕ) (l : Running) (w : Word) (m : Moment) →
    (passes S r l w m).state.requests ≡ m.state.requests
passes_requests S r l w m =
    let n = becomes r (Live l) m in
    let v = or_else (lookup l.place l.lies.words) w in
    root_of_requests S r l (casts_word S r l.place v n) ∙ casts_requests S r l.place v n

-- Passing

-- the root word, where the replica takes a checkpoint
casts_root_of_unsound : (S : Service) (r : ℕ) (l : Running) (m : Moment) →
    count_by is_unsound (casts_root_of S r l m).state.replicas ≡ count_by is_unsound m.state.replicas
casts_root_of_unsound S r l m = taken (is_checkpoint S l.place)
  where
    word : List ℕ
    word = or_else (lookup l.place l.lies.roots) (root_of S l.believed)

    taken : (b : Bool) → count_by is_unsound (cond b (casts_root S r l.place word m) m).state.replicas
        ≡ count_by is_unsound m.state.replicas
    taken true = casts_root_unsound S r l.place word m
    taken false = refl

-- what the root word of l is to be
abbrev pub MayRootAt : Service → List Request → Running → Type 0
MayRootAt S q l = is_checkpoint S l.place ≡ true → l.harmed ≡ false →
    IsRightRoot S q l (l.place, or_else (lookup l.place l.lies.roots) (root_of S l.believed))

casts_root_of_right : (S : Service) (r : ℕ) (l : Running) (m : Moment) → IsRight S m.state → IsFair S m →
    (replica m.state r).condition ≡ Live l → MayRootAt S m.state.requests l → IsRight S (casts_root_of S r l m).state
casts_root_of_right S r l m h fair live may = taken (is_checkpoint S l.place) refl
  where
    word : List ℕ
    word = or_else (lookup l.place l.lies.roots) (root_of S l.believed)

    taken : (b : Bool) → is_checkpoint S l.place ≡ b → IsRight S (cond b (casts_root S r l.place word m) m).state
    taken true e = casts_root_right S r l.place word m h fair (rw live (λ u. may e u))
    taken false e = h

-- r, Live as l, comes to be Live as l'
enters_right : (S : Service) (r : ℕ) (l l' : Running) (m : Moment) → IsRight S m.state →
    (replica m.state r).condition ≡ Live l →
    (l'.harmed ≡ false → IsRightLive S m.state.requests l' (replica m.state r).words (replica m.state r).roots) →
    (is_source m.state.stable (replica m.state r) ≡ true → (l'.harmed || holds_in m.state.stable l'.holds) ≡ true) →
    IsRight S (becomes r (Live l') m).state
enters_right S r l l' m h live right source =
    put_right S m.state r (record (replica m.state r) { condition = Live l' }) h right source

module _ (S : Service) (r : ℕ) (l l' : Running) (w : Word) (m : Moment) (h : IsRight S m.state)
    (live : (replica m.state r).condition ≡ Live l)
    (right : l'.harmed ≡ false → IsRightLive S m.state.requests l' (replica m.state r).words (replica m.state r).roots)
    (source : is_source m.state.stable (replica m.state r) ≡ true →
    (l'.harmed || holds_in m.state.stable l'.holds) ≡ true)
    (root : MayRootAt S m.state.requests l') where
  abbrev entered : Moment
  entered = becomes r (Live l') m

  entered_live : (replica entered.state r).condition ≡ Live l'
  entered_live = ap (λ (y : Replica). y.condition)
      (put_same m.state r (record (replica m.state r) { condition = Live l' }) (live_within m.state r l live))

  skips_right : IsFair S (casts_root_of S r l' entered) → IsRight S (casts_root_of S r l' entered).state
  skips_right fair =
      let still : IsFair S entered = let e = casts_root_of_unsound S r l' entered in rw (← e) fair in
      casts_root_of_right S r l' entered (enters_right S r l l' m h live right source) still entered_live root

  abbrev cast : Word
  cast = or_else (lookup l'.place l'.lies.words) w

  abbrev said_then : Moment
  said_then = casts_word S r l'.place cast entered

  passes_right : (l'.harmed ≡ false → IsRightWord S m.state.requests l'.place (l'.place, cast)) →
      IsFair S (passes S r l' w m) → IsRight S (passes S r l' w m).state
  passes_right word fair =
      let second : IsFair S said_then = let e = casts_root_of_unsound S r l' said_then in rw (← e) fair in
      let first : IsFair S entered = let e = casts_word_unsound S r l'.place cast entered in rw (← e) second in
      let here : IsRight S said_then.state =
      casts_word_right S r l'.place cast entered (enters_right S r l l' m h live right source) first
      (rw entered_live word) in
      casts_root_of_right S r l' said_then here second
      (casts_condition S r l'.place cast entered r ∙ entered_live)
      (let e = casts_requests S r l'.place cast entered in rw e root)

-- A turn

abbrev pub words_of : Moment → ℕ → List (ℕ × Word)
words_of m r = (replica m.state r).words

abbrev pub roots_of : Moment → ℕ → List (ℕ × List ℕ)
roots_of m r = (replica m.state r).roots

module _ (S : Service) (r : ℕ) (l l' : Running) (m : Moment) (h : IsRight S m.state)
    (live : (replica m.state r).condition ≡ Live l)
    (right : l'.harmed ≡ false → IsRightLive S m.state.requests l' (words_of m r) (roots_of m r))
    (below : l'.harmed ≡ false → AllBelow l'.place l'.holds)
    (high : 1 ≤ l'.place)
    (source : is_source m.state.stable (replica m.state r) ≡ true →
    (l'.harmed || holds_in m.state.stable l'.holds) ≡ true) where
  source_taken : is_source m.state.stable (replica m.state r) ≡ true →
      (l'.harmed || holds_in m.state.stable (takes_checkpoint S l').holds) ≡ true
  source_taken g = more l'.harmed (source g)
    where
      more : (b : Bool) → (b || holds_in m.state.stable l'.holds) ≡ true →
          (b || holds_in m.state.stable (takes_checkpoint S l').holds) ≡ true
      more true e = refl
      more false e = ap (λ b. (l'.place == m.state.stable) || b) e ∙ or_true (l'.place == m.state.stable)

  root_taken : MayRootAt S m.state.requests (takes_checkpoint S l')
  root_taken e u =
      let g = right u in
      let no : lookup l'.place l'.lies.roots ≡ None = ap (λ (x : Lies). lookup l'.place x.roots) g.lies in
      subst (λ o. IsRightRoot S m.state.requests (takes_checkpoint S l')
      (l'.place, or_else o (root_of S (takes_checkpoint S l').believed))) (sym no)
      (taken_root S m.state.requests l' (words_of m r) (roots_of m r) g (below u)
      (taken_right S m.state.requests l' (words_of m r) (roots_of m r) g (below u)) high)

  pub turn_right : (w : Word) → (l'.harmed ≡ false → w ≡ said_at S m.state.requests l'.place) →
      IsFair S (passes S r (checked S l') w m) → IsRight S (passes S r (checked S l') w m).state
  turn_right w word = by (is_checkpoint S l'.place) refl
    where
      spoken : l'.harmed ≡ false → IsRightWord S m.state.requests l'.place
          (l'.place, or_else (lookup l'.place l'.lies.words) w)
      spoken u =
          let no : lookup l'.place l'.lies.words ≡ None = ap (λ (x : Lies). lookup l'.place x.words) (right u).lies in
          (high, omega arith, ap (λ o. or_else o w) no ∙ word u)

      by : (b : Bool) → is_checkpoint S l'.place ≡ b → IsFair S (passes S r (cond b (takes_checkpoint S l') l') w m) →
          IsRight S (passes S r (cond b (takes_checkpoint S l') l') w m).state
      by true e fair = passes_right S r l (takes_checkpoint S l') w m h live
          (λ u. taken_right S m.state.requests l' (words_of m r) (roots_of m r) (right u)
          (below u)) source_taken root_taken spoken fair
      by false e fair = passes_right S r l l' w m h live right source (λ t u. absurd (cc)) spoken fair

  pub skip_right : IsFair S (casts_root_of S r (checked S l') (becomes r (Live (checked S l')) m)) →
      IsRight S (casts_root_of S r (checked S l') (becomes r (Live (checked S l')) m)).state
  skip_right = by (is_checkpoint S l'.place) refl
    where
      by : (b : Bool) → is_checkpoint S l'.place ≡ b →
          IsFair S (casts_root_of S r (cond b (takes_checkpoint S l') l')
          (becomes r (Live (cond b (takes_checkpoint S l') l')) m)) →
          IsRight S (casts_root_of S r (cond b (takes_checkpoint S l') l')
          (becomes r (Live (cond b (takes_checkpoint S l') l')) m)).state
      by true e fair = skips_right S r l (takes_checkpoint S l') Silent m h live
          (λ u. taken_right S m.state.requests l' (words_of m r) (roots_of m r) (right u)
          (below u)) source_taken root_taken fair
      by false e fair = skips_right S r l l' Silent m h live right source (λ t u. absurd (cc)) fair

-- Run, Rogue and Skip of a replica that may run

module _ (S : Service) (laws : IsOrderly S) (r : ℕ) (l : Running) (m : Moment) (h : IsRight S m.state)
    (live : (replica m.state r).condition ≡ Live l) where
  known : l.harmed ≡ false → IsRightLive S m.state.requests l (words_of m r) (roots_of m r)
  known = subst (λ c. IsRightIn S m.state.requests (words_of m r) (roots_of m r) c) live (replica_right S m.state r h)

  source_of : (cs : List Checkpoint) → holds_in m.state.stable cs ≡ holds_in m.state.stable l.holds →
      is_source m.state.stable (replica m.state r) ≡ true → (l.harmed || holds_in m.state.stable cs) ≡ true
  source_of cs e g =
      let f : (l.harmed || holds_in m.state.stable l.holds) ≡ true = subst
      (λ c. (is_harmed c || holds_at m.state.stable c) ≡ true) live g in
      ap (λ b. l.harmed || b) e ∙ f

  pub runs_right : (q : Request) → slice_get m.state.requests l.place ≡ Some q → IsFair S (runs S r l q m) →
      IsRight S (runs S r l q m).state
  runs_right q e =
      turn_right S r l (ran S q l) m h live
      (λ u. ran_right S laws m.state.requests q l (words_of m r) (roots_of m r) (known u) e)
      (λ u. ran_below S laws m.state.requests q l (words_of m r) (roots_of m r) (known u) e)
      (omega arith)
      (source_of (saves_newest S l.array (S.saving l.array (S.told l.array q)) l.holds)
      (saved_holds S l.array (S.saving l.array (S.told l.array q)) m.state.stable l.holds))
      (S.word l.array q)
      (λ u. ap (λ a. S.word a q) (known u).array ∙ sym (said_at-next S m.state.requests l.place q e))

  pub rogues_right : (q : Request) → IsFair S (runs S r (harm l) q m) → IsRight S (runs S r (harm l) q m).state
  rogues_right q =
      turn_right S r l (ran S q (harm l)) m h live (λ u. absurd (cc)) (λ u. absurd (cc)) (omega arith) (λ g. refl)
      (S.word l.array q) (λ u. absurd (cc))

  pub skipping_right : IsFair S (skips S r l m) → IsRight S (skips S r l m).state
  skipping_right = skip_right S r l (skipped l) m h live (λ u. absurd (cc)) (λ u. absurd (cc)) (omega arith) (λ g. refl)
