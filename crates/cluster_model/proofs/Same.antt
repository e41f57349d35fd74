-- A loose Fetch is Step's, up to the last moment up to which all are fair.
use Rattle.std.proofs.Common.{◌≡◌, ◌≢◌, ℕ, zero, suc, ◌<◌, ◌≤◌, Bool, true, false, cond, ◌||◌, ◌&&◌, List, [], ◌∷◌, ◌++◌, length, get_or, refl, sym, ◌∙◌, ap, subst, ⊎_elim, arith}
use Rattle.std.specs.Prelude.{Option, Some, None, slice_get, ◌==◌, filter, not}
use Rattle.std.specs.List.{count_by, All}
use Rattle.std.proofs.lemmas.Bool.{eq-eqb, eqb-true, cases_lt, cases_eq}
use Rattle.std.proofs.lemmas.List.{set_past, get_or_past, get_or-set_other}
use Rattle.std.proofs.lemmas.List.Elements.{All-head, All-tail}
use Rattle.cluster_model.specs.declared.request.Request.{Request}
use Rattle.nfs2_types.specs.declared.Word.{Word}
use Rattle.cluster_model.specs.Service.{Service, array_at, after}
use Rattle.cluster_model.specs.Tree.{digests, text_of, below}
use Rattle.cluster_model.specs.State.{Lies, Condition, Live, Down, Running, Replica, State, Checkpoint, holds_in, holds_at, is_unsound, is_harmed, held_text}
use Rattle.cluster_model.specs.Moments.{Moment, Faults, gone, replica, put, becomes, fails}
use Rattle.cluster_model.specs.Turns.{moments, last}
use Rattle.cluster_model.specs.Step.{stage_fault, stage_order, is_live}
use Rattle.cluster_model.specs.Right.{IsRightLive, IsRightReplica, IsRight, IsRightCheckpoint, is_source, IsSpelled, is_told}
use Rattle.cluster_model.specs.Loose.{Serves, held_digests}
use Rattle.cluster_model.proofs.Counting.{count_by_more}
use Rattle.cluster_model.proofs.Seats.{put_same, replica_right, sound_right}
use Rattle.cluster_model.proofs.Passing.{or_true}

-- A sound holder of the stable place serves it with the array there

pub slice_get-All : {X : Type 0} (P : X → Type 0) (xs : List X) (i : ℕ) (x : X) → All P xs → slice_get xs i ≡ Some x →
    P x
slice_get-All P [] i x h e = absurd (cc)
slice_get-All P (y ∷ ys) zero x h e = let same : y ≡ x = cc in subst P same (All-head P y ys h)
slice_get-All P (y ∷ ys) (suc i) x h e = slice_get-All P ys i x (All-tail P y ys h) e

-- the array at each place of requests that fit is good
pub good_at : (S : Service) → IsSpelled S → (q : List Request) → All S.fits q → (p : ℕ) → S.good (array_at S q p)
good_at S laws q fit zero = laws.good_empty
good_at S laws q fit (suc p) = by (good_at S laws q fit p) (slice_get q p) refl
  where
    by : S.good (array_at S q p) → (o : Option Request) → slice_get q p ≡ o → S.good (after S (array_at S q p) o)
    by rest None e = rest
    by rest (Some r) e = laws.good_next (array_at S q p) r (slice_get-All S.fits q p r fit e) rest

-- the checkpoint held for a place
record IsHeld (S : Service) (q : List Request) (l : Running) (p : ℕ) (cs : List Checkpoint) : Type 0 where
  listed : held_digests p cs ≡ Some (digests S (array_at S q p))
  texts : (i : ℕ) → held_text S l p i ≡ text_of S (array_at S q p) i

held_in : (S : Service) (q : List Request) (l : Running) (p : ℕ) (cs : List Checkpoint) →
    All (IsRightCheckpoint S q l) cs → holds_in p cs ≡ true → IsHeld S q l p cs
held_in S q l p [] h e = absurd (cc)
held_in S q l p (c ∷ cs) h e =
    by (λ g. held_in S q l p cs (All-tail (IsRightCheckpoint S q l) c cs h) g) (c.place == p) refl e
  where
    right : IsRightCheckpoint S q l c
    right = All-head (IsRightCheckpoint S q l) c cs h

    by : (holds_in p cs ≡ true → IsHeld S q l p cs) → (b : Bool) → (c.place == p) ≡ b → (b || holds_in p cs) ≡ true →
        IsHeld S q l p (c ∷ cs)
    by rest true t g =
        let same : c.place ≡ p = eqb-true c.place p t in
        record {
          listed = rw t (ap Some (right.listed ∙ ap (λ k. digests S (array_at S q k)) same));
          texts = λ i. subst (λ k. held_text S l k i ≡ text_of S (array_at S q k) i) same (right.texts i);
        }
    by rest false t g = let f = rest g in record { listed = rw t f.listed; texts = f.texts }

serves_right : (S : Service) → IsSpelled S → (s : State) (l : Running) (ws : List (ℕ × Word)) (ds : List (ℕ × List ℕ)) →
    IsRight S s →
    IsRightLive S s.requests l ws ds → holds_in s.stable l.holds ≡ true →
    Serves S s.stable s.root l (array_at S s.requests s.stable)
serves_right S laws s l ws ds h right holds =
    let held = held_in S s.requests l s.stable l.holds right.holds holds in
    record {
      good = good_at S laws s.requests h.fit s.stable;
      has_root = sym h.stable_root;
      no_lie = ap (λ (x : Lies). x.items) right.lies;
      listed = held.listed;
      texts = held.texts;
    }

pub get_or_any : {X : Type 0} (xs : List X) (i : ℕ) (d e : X) → i < length xs → get_or xs i d ≡ get_or xs i e
get_or_any [] i d e h = absurd (omega arith)
get_or_any (x ∷ xs) zero d e h = refl
get_or_any (x ∷ xs) (suc i) d e h = get_or_any xs i d e (omega arith)

source_holds : (p : ℕ) (c : Condition) (l : Running) → c ≡ Live l → (is_harmed c || holds_at p c) ≡ true →
    is_harmed c ≡ false → holds_in p l.holds ≡ true
source_holds p c l e g u =
    let f : holds_at p c ≡ true = ap (λ b. b || holds_at p c) (sym u) ∙ g in
    subst (λ k. holds_at p k ≡ true) e f

-- there is a sound holder of the stable place
pub record HasSource (S : Service) (s : State) : Type 0 where
  pub who : ℕ
  pub within : who < length s.replicas
  pub live : Running
  pub is_live_there : (replica s who).condition ≡ Live live
  pub serves : Serves S s.stable s.root live (array_at S s.requests s.stable)

pub has_source : (S : Service) → IsSpelled S → (s : State) → IsRight S s → count_by is_unsound s.replicas ≤ S.f →
    HasSource S s
has_source S laws s h fair =
    let found = count_by_more (is_source s.stable) is_unsound s.replicas (omega (arith, h.sources)) in
    let x = found.0 in
    let place = found.1 in
    let same : replica s place.0 ≡ x = get_or_any s.replicas place.0 gone x place.1 ∙ place.2 in
    let sound = sound_right S s.requests x
    (subst (IsRightReplica S s.requests) same (replica_right S s place.0 h)) found.3 in
    let holds : holds_in s.stable sound.live.holds ≡ true =
    source_holds s.stable x.condition sound.live sound.is_live found.2 found.3 in
    record {
      who = place.0;
      within = place.1;
      live = sound.live;
      is_live_there = ap (λ (y : Replica). y.condition) same ∙ sound.is_live;
      serves = serves_right S laws s sound.live x.words x.roots h sound.right holds;
    }

-- Who is Live after the faults of a stage was Live before it, and has no fault there

abbrev pub WasLive : ℕ → Running → Moment → Type 0
WasLive j l m = (replica m.state j).condition ≡ Live l

pub replica_put : (s : State) (r j : ℕ) (x : Replica) → j ≢ r → replica (put r x s) j ≡ replica s j
replica_put s r j x other = get_or-set_other s.replicas r j x gone other

-- what becomes Down is not Live
becomes_live : (r j : ℕ) (c : Condition) (l : Running) (m : Moment) → ((k : Running) → c ≡ Live k → ⊥) →
    WasLive j l (becomes r c m) → WasLive j l m × (j ≢ r)
becomes_live r j c l m dead e =
    let x : Replica = record (replica m.state r) { condition = c } in
    ⊎_elim
    (λ same. ⊎_elim
    (λ within. absurd (dead l
    (sym (ap (λ (y : Replica). y.condition) (put_same m.state r x within))
    ∙ subst (λ k. WasLive k l (becomes r c m)) same e)))
    (λ past.
    let k : replica (put r x m.state) j ≡ gone = ap (λ xs. get_or xs j gone) (set_past m.state.replicas r x past)
    ∙ subst (λ i. get_or m.state.replicas i gone ≡ gone) (sym same) (get_or_past m.state.replicas r gone past) in
    let d : Down ≡ Live l = ap (λ (y : Replica). y.condition) (sym k) ∙ e in absurd (cc))
    (cases_lt r (length m.state.replicas)))
    (λ other. (ap (λ (y : Replica). y.condition) (sym (replica_put m.state r j x other)) ∙ e, other))
    (cases_eq j r)

stage_live : (faults : Faults) (r stage : ℕ) (m : Moment) (i j : ℕ) (l : Running) →
    WasLive j l (stage_fault faults r stage m i) →
    WasLive j l m × (i ≡ j → faults stage j ≡ false)
stage_live faults r stage m i j l = by (faults stage i) ((i == r) || is_live (replica m.state i).condition) refl refl
  where
    live_true : (c : Condition) → c ≡ Live l → (b : Bool) → (b || is_live c) ≡ true
    live_true c e b = ap (λ k. b || is_live k) e ∙ or_true b

    by : (a b : Bool) → faults stage i ≡ a → ((i == r) || is_live (replica m.state i).condition) ≡ b →
        WasLive j l (cond (a && b) (fails i m) m) → WasLive j l m × (i ≡ j → faults stage j ≡ false)
    by true true ea eb e =
        let f = becomes_live i j Down l m (λ k d. cc) e in (f.0, λ same. absurd (f.1 (sym same)))
    by true false ea eb e = (
      e,
      λ same.
          let t : ((i == r) || is_live (replica m.state i).condition) ≡ true = live_true (replica m.state i).condition
          (subst (λ k. WasLive k l m) (sym same) e) (i == r) in absurd (cc),
    )
    by false b ea eb e = (e, λ same. subst (λ k. faults stage k ≡ false) same ea)

pub stages_live : (faults : Faults) (r stage : ℕ) (m : Moment) (is : List ℕ) (j : ℕ) (l : Running) →
    WasLive j l (last m (moments (stage_fault faults r stage) m is)) →
    WasLive j l m × (is_told j is ≡ true → faults stage j ≡ false)
stages_live faults r stage m [] j l e = (e, λ t. absurd (cc))
stages_live faults r stage m (i ∷ is) j l e =
    let rest = stages_live faults r stage (stage_fault faults r stage m i) is j l e in
    let here = stage_live faults r stage m i j l rest.0 in
    (here.0, by (i == j) refl rest.1 here.1)
  where
    by : (b : Bool) → (i == j) ≡ b → (is_told j is ≡ true → faults stage j ≡ false) → (i ≡ j → faults stage j ≡ false) →
        (b || is_told j is) ≡ true → faults stage j ≡ false
    by true t later now g = now (eqb-true i j t)
    by false t later now g = later g

-- each replica but r is asked at each stage

told_append : (j : ℕ) (xs ys : List ℕ) → is_told j (xs ++ ys) ≡ (is_told j xs || is_told j ys)
told_append j [] ys = refl
told_append j (x ∷ xs) ys = by (x == j) (told_append j xs ys)
  where
    by : (b : Bool) → is_told j (xs ++ ys) ≡ (is_told j xs || is_told j ys) →
        (b || is_told j (xs ++ ys)) ≡ ((b || is_told j xs) || is_told j ys)
    by true e = refl
    by false e = e

pub told_below : (j n : ℕ) → j < n → is_told j (below n) ≡ true
told_below j zero h = absurd (omega arith)
told_below j (suc n) h = told_append j (below n) (n ∷ []) ∙ ⊎_elim
    (λ same. (let t : (n == j) ≡ true = eq-eqb n j (sym same) in rw t (or_true (is_told j (below n)))))
    (λ other. (let e : is_told j (below n) ≡ true = told_below j n (omega arith) in rw e refl))
    (cases_eq j n)

told_filter : (j r : ℕ) (xs : List ℕ) → j ≢ r → is_told j xs ≡ true → is_told j (filter (λ k. not (k == r)) xs) ≡ true
told_filter j r [] other h = h
told_filter j r (x ∷ xs) other h = by (told_filter j r xs other) (x == r) (x == j) refl refl h
  where
    by : (is_told j xs ≡ true → is_told j (filter (λ k. not (k == r)) xs) ≡ true) → (a b : Bool) → (x == r) ≡ a →
        (x == j) ≡ b →
        (b || is_told j xs) ≡ true →
        is_told j (cond (not a) (x ∷ filter (λ k. not (k == r)) xs) (filter (λ k. not (k == r)) xs)) ≡ true
    by rest true true ea eb g = absurd (other (sym (eqb-true x j eb) ∙ eqb-true x r ea))
    by rest true false ea eb g = rest g
    by rest false true ea eb g = rw eb refl
    by rest false false ea eb g = rw eb (rest g)

pub told_order : (n r j : ℕ) → j < n → j ≢ r → is_told j (stage_order n r) ≡ true
told_order n r j h other =
    let e : is_told j (filter (λ k. not (k == r)) (below n)) ≡ true = told_filter j r (below n) other
    (told_below j n h) in
    told_append j (filter (λ k. not (k == r)) (below n)) (r ∷ []) ∙ (rw e refl)
