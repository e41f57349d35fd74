-- The texts that a state keeps are texts of moments up to it.
use Rattle.std.proofs.Common.{◌≡◌, ℕ, suc, ◌<◌, Bool, true, false, cond, List, [], ◌∷◌, map, length, refl, sym, subst, ⊎_elim}
use Rattle.std.specs.Prelude.{nat_le}
use Rattle.std.specs.List.{All}
use Rattle.std.proofs.lemmas.Bool.{cases_lt}
use Rattle.std.proofs.lemmas.List.{get_or_past}
use Rattle.std.proofs.lemmas.List.Elements.{All-head, All-tail, All-nil, All-cons, All-map, All-filter, All-weaker, All-set, All-get_or}
use Rattle.abs_model.specs.declared.Entry.{Entry}
use Rattle.cluster_model.specs.declared.request.Request.{Request}
use Rattle.cluster_model.specs.Service.{Service}
use Rattle.cluster_model.specs.Tree.{Item, text_of, node_text}
use Rattle.cluster_model.specs.State.{Condition, Live, Down, Rebuilding, Running, Replica, State, Checkpoint, lookup, has}
use Rattle.cluster_model.specs.Moments.{gone, replica, put, drops_before, sees_stable, forgets_words}
use Rattle.cluster_model.specs.Turns.{saves, saves_newest, ran, refreshed, takes_checkpoint, checked, is_checkpoint}
use Rattle.cluster_model.specs.Fair.{IsItem}
use Rattle.cluster_model.specs.Right.{IsSpelled}

-- The texts known so far are a predicate T.

abbrev pub IsKnownCheckpoint : Service → (List ℕ → Type 0) → Checkpoint → Type 0
IsKnownCheckpoint S T c = All (λ (s : ℕ × List ℕ). T s.1) c.saved
    × ((l k : ℕ) → IsItem S (record { level = suc l; number = k }) → T (node_text S c.digests l k))

-- every array is good, and every kept text is known
abbrev pub IsKnown : Service → (List ℕ → Type 0) → Condition → Type 0
IsKnown S T (Live l) = S.good l.array × All (IsKnownCheckpoint S T) l.holds
IsKnown S T Down = Unit {0}
IsKnown S T (Rebuilding b) = S.good b.array × All (λ (g : Item × List ℕ). T g.1) b.got

abbrev pub AllKnown : Service → (List ℕ → Type 0) → State → Type 0
AllKnown S T s = All S.fits s.requests × All (λ (x : Replica). IsKnown S T x.condition) s.replicas

module _ (S : Service) (T : List ℕ → Type 0) where
  abbrev Known : Replica → Type 0
  Known x = IsKnown S T x.condition

  pub replica_known : (s : State) (r : ℕ) → AllKnown S T s → IsKnown S T (replica s r).condition
  replica_known s r h = ⊎_elim (λ l. All-get_or Known s.replicas r gone l h.1)
      (λ g. let e : replica s r ≡ gone = get_or_past s.replicas r gone g in subst Known (sym e) tt)
      (cases_lt r (length s.replicas))

  pub put_known : (s : State) (r : ℕ) (x : Replica) → AllKnown S T s → IsKnown S T x.condition →
      AllKnown S T (put r x s)
  put_known s r x h k = (h.0, All-set Known s.replicas r x k h.1)

  pub forgets_known : (s : State) (p : ℕ) → AllKnown S T s → All Known (map (forgets_words p) s.replicas)
  forgets_known s p h = All-map Known (forgets_words p) s.replicas h.1

  pub drops_known : (p : ℕ) (c : Condition) → IsKnown S T c → IsKnown S T (drops_before p c)
  drops_known p (Live l) h =
      (h.0, All-filter (λ (c : Checkpoint). nat_le p c.place) (IsKnownCheckpoint S T) l.holds h.1)
  drops_known p Down h = tt
  drops_known p (Rebuilding b) h = h

  pub sees_known : (s : State) (p : ℕ) → AllKnown S T s → All Known (map (sees_stable p) s.replicas)
  sees_known s p h = All-map Known (sees_stable p) s.replicas
      (All-weaker Known (λ x. Known (sees_stable p x)) (λ x g. drops_known p x.condition g) s.replicas h.1)

  -- what is saved is a text of the array
  saves_known : (a : List Entry) → ((i : ℕ) → i < length a → T (text_of S a i)) → (told : List ℕ) →
      All (λ i. i < length a) told →
      (saved : List (ℕ × List ℕ)) → All (λ (s : ℕ × List ℕ). T s.1) saved →
      All (λ (s : ℕ × List ℕ). T s.1) (saves S a told saved)
  saves_known a here [] within saved h = h
  saves_known a here (i ∷ told) within saved h =
      let P : ℕ → Type 0 = λ i. i < length a in
      let Q : ℕ × List ℕ → Type 0 = λ s. T s.1 in
      saves_known a here told (All-tail P i told within)
      (cond (has (lookup i saved)) saved ((i, text_of S a i) ∷ saved))
      (by (has (lookup i saved)) (All-cons Q (i, text_of S a i) saved (here i (All-head P i told within)) h))
    where
      by : (b : Bool) → All (λ (s : ℕ × List ℕ). T s.1) ((i, text_of S a i) ∷ saved) →
          All (λ (s : ℕ × List ℕ). T s.1) (cond b saved ((i, text_of S a i) ∷ saved))
      by true g = h
      by false g = g

  saves_newest_known : (a : List Entry) → ((i : ℕ) → i < length a → T (text_of S a i)) → (told : List ℕ) →
      All (λ i. i < length a) told →
      (cs : List Checkpoint) → All (IsKnownCheckpoint S T) cs → All (IsKnownCheckpoint S T) (saves_newest S a told cs)
  saves_newest_known a here told within [] h = h
  saves_newest_known a here told within (c ∷ cs) h =
      let P = IsKnownCheckpoint S T in
      let g = All-head P c cs h in
      All-cons P (record c { saved = saves S a told c.saved }) cs (saves_known a here told within c.saved g.0, g.1)
      (All-tail P c cs h)

  pub ran_known : IsSpelled S → (q : Request) → S.fits q → (l : Running) →
      ((i : ℕ) → i < length l.array → T (text_of S l.array i)) → IsKnown S T (Live l) → IsKnown S T (Live (ran S q l))
  ran_known laws q fit l here h = (
    laws.good_next l.array q fit h.0,
    saves_newest_known l.array here (S.saving l.array (S.told l.array q))
        (laws.saving_within l.array q h.0) l.holds h.1,
  )

  -- the digests that are believed at a checkpoint are known once the replica has them
  pub checked_known : (l : Running) →
      ((l' k : ℕ) → IsItem S (record { level = suc l'; number = k }) → T (node_text S (checked S l).believed l' k)) →
      IsKnown S T (Live l) → IsKnown S T (Live (checked S l))
  checked_known l believed h = by (is_checkpoint S l.place) refl
    where
      by : (b : Bool) → is_checkpoint S l.place ≡ b → IsKnown S T (Live (cond b (takes_checkpoint S l) l))
      by true e = (
        h.0,
        All-cons (IsKnownCheckpoint S T)
            (record { place = l.place; digests = refreshed S l.array l.told l.believed; saved = [] }) l.holds (
              All-nil (λ (s : ℕ × List ℕ). T s.1),
              λ l' k g. subst (λ b. T (node_text S (cond b (takes_checkpoint S l) l).believed l' k)) e (believed l' k g),
            ) h.1,
      )
      by false e = h
