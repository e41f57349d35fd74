-- A sound replica that runs its next request, and takes a checkpoint, stays right.
use Rattle.std.proofs.Common.{◌≡◌, ℕ, zero, suc, ◌+◌, ◌<◌, ◌≤◌, Bool, true, false, cond, ◌||◌, List, [], ◌∷◌, ◌++◌, length, get_or, set, refl, sym, ◌∙◌, ap, subst, arith}
use Rattle.std.specs.Prelude.{Option, Some, None, ◌==◌, nat_le, slice_get}
use Rattle.std.specs.List.{All}
use Rattle.std.proofs.lemmas.Bool.{leb-true, le-leb, eqb-true, eq-eqb}
use Rattle.std.proofs.lemmas.List.{length-set, get_or-set_same, get_or-set_other}
use Rattle.std.proofs.lemmas.List.Elements.{All-head, All-tail, All-cons, All-nil, All-weaker}
use Rattle.abs_model.specs.declared.Entry.{Entry}
use Rattle.cluster_model.specs.declared.request.Request.{Request}
use Rattle.nfs2_types.specs.declared.Word.{Word}
use Rattle.cluster_model.specs.Service.{Service, array_at}
use Rattle.cluster_model.specs.Tree.{root_of, text_of, entry_text, digests, digests_from}
use Rattle.cluster_model.specs.State.{Running, Checkpoint, lookup, holds_in, held_from, held_text, or_else, has}
use Rattle.cluster_model.specs.Turns.{saves, saves_newest, ran, refreshed, takes_checkpoint}
use Rattle.cluster_model.specs.Right.{IsRightLive, IsRightWord, IsRightRoot, IsRightCheckpoint, IsNewestFirst, IsOrderly, is_told}
use Rattle.cluster_model.proofs.Places.{array_at-next, slice_get-within}

not_le : (m n : ℕ) → n < m → nat_le m n ≡ false
not_le m n h = grind (arith, leb-true)

same_lists_at : {X : Type 0} (d : X) (xs ys : List X) → length xs ≡ length ys →
    ((i : ℕ) → i < length xs → get_or xs i d ≡ get_or ys i d) → xs ≡ ys
same_lists_at d [] [] e h = refl
same_lists_at d [] (y ∷ ys) e h = absurd (omega arith)
same_lists_at d (x ∷ xs) [] e h = absurd (omega arith)
same_lists_at d (x ∷ xs) (y ∷ ys) e h =
    let here : x ≡ y = h 0 (omega arith) in
    let rest : xs ≡ ys = same_lists_at d xs ys (omega arith) (λ i l. h (suc i) (omega arith)) in
    cc

-- Saving

abbrev save_one : Service → List Entry → ℕ → List (ℕ × List ℕ) → List (ℕ × List ℕ)
save_one S a j saved = cond (has (lookup j saved)) saved ((j, text_of S a j) ∷ saved)

one_keeps : (S : Service) (a : List Entry) (j i : ℕ) (t : List ℕ) (saved : List (ℕ × List ℕ)) →
    lookup i saved ≡ Some t → lookup i (save_one S a j saved) ≡ Some t
one_keeps S a j i t saved e = kept (lookup j saved) (j == i) refl refl
  where
    kept : (o : Option (List ℕ)) (b : Bool) → lookup j saved ≡ o → (j == i) ≡ b →
        lookup i (cond (has o) saved ((j, text_of S a j) ∷ saved)) ≡ Some t
    kept (Some u) b eo eb = e
    kept None false eo eb = rw eb e
    kept None true eo eb = absurd
        (let same : j ≡ i = eqb-true j i eb in let f : lookup i saved ≡ None = subst
        (λ k. lookup k saved ≡ None) same eo in cc)

one_same : (S : Service) (a : List Entry) (i : ℕ) (saved : List (ℕ × List ℕ)) →
    lookup i (save_one S a i saved) ≡ Some (or_else (lookup i saved) (text_of S a i))
one_same S a i saved = kept (lookup i saved) refl
  where
    kept : (o : Option (List ℕ)) → lookup i saved ≡ o →
        lookup i (cond (has o) saved ((i, text_of S a i) ∷ saved)) ≡ Some (or_else o (text_of S a i))
    kept (Some u) eo = eo
    kept None eo = let yes : (i == i) ≡ true = eq-eqb i i refl in rw yes refl

one_other : (S : Service) (a : List Entry) (j i : ℕ) (saved : List (ℕ × List ℕ)) → (j == i) ≡ false →
    lookup i (save_one S a j saved) ≡ lookup i saved
one_other S a j i saved e = kept (has (lookup j saved))
  where
    kept : (b : Bool) → lookup i (cond b saved ((j, text_of S a j) ∷ saved)) ≡ lookup i saved
    kept true = refl
    kept false = rw e refl

-- what is saved stays
saves_keeps : (S : Service) (a : List Entry) (told : List ℕ) (i : ℕ) (t : List ℕ) (saved : List (ℕ × List ℕ)) →
    lookup i saved ≡ Some t → lookup i (saves S a told saved) ≡ Some t
saves_keeps S a [] i t saved e = e
saves_keeps S a (j ∷ told) i t saved e = saves_keeps S a told i t (save_one S a j saved) (one_keeps S a j i t saved e)

-- the text at the newest checkpoint is the same before the request, by the old text, and after it, by the new one
saves_lookup : (S : Service) (a : List Entry) (told : List ℕ) (i : ℕ) (new : List ℕ) (saved : List (ℕ × List ℕ)) →
    (is_told i told ≡ false → new ≡ text_of S a i) → or_else (lookup i (saves S a told saved)) new ≡ or_else
    (lookup i saved) (text_of S a i)
saves_lookup S a [] i new saved h = ap (or_else (lookup i saved)) (h refl)
saves_lookup S a (j ∷ told) i new saved h =
    step (j == i) refl (saves_lookup S a told i new (save_one S a j saved))
    (saves_keeps S a told i (or_else (lookup i saved) (text_of S a i)) (save_one S a j saved))
  where
    step : (b : Bool) → (j == i) ≡ b →
        ((is_told i told ≡ false → new ≡ text_of S a i) →
        or_else (lookup i (saves S a told (save_one S a j saved))) new ≡ or_else (lookup i (save_one S a j saved))
        (text_of S a i)) →
        (lookup i (save_one S a j saved) ≡ Some (or_else (lookup i saved) (text_of S a i)) →
        lookup i (saves S a told (save_one S a j saved)) ≡ Some (or_else (lookup i saved) (text_of S a i))) →
        or_else (lookup i (saves S a told (save_one S a j saved))) new ≡ or_else (lookup i saved) (text_of S a i)
    step true e rest keeps =
        let same : j ≡ i = eqb-true j i e in
        let here : lookup i (save_one S a j saved) ≡ Some (or_else (lookup i saved) (text_of S a i)) =
        subst (λ k. lookup i (save_one S a k saved) ≡ Some (or_else (lookup i saved) (text_of S a i))) (sym same)
        (one_same S a i saved) in
        ap (λ o. or_else o new) (keeps here)
    step false e rest keeps =
        rest (λ g. h (rw e g)) ∙ ap (λ o. or_else o (text_of S a i)) (one_other S a j i saved e)

-- Held texts

pub saved_holds : (S : Service) (a : List Entry) (told : List ℕ) (k : ℕ) (cs : List Checkpoint) →
    holds_in k (saves_newest S a told cs) ≡ holds_in k cs
saved_holds S a told k [] = refl
saved_holds S a told k (c ∷ cs) = refl

saved_order : (S : Service) (a : List Entry) (told : List ℕ) (cs : List Checkpoint) → IsNewestFirst cs →
    IsNewestFirst (saves_newest S a told cs)
saved_order S a told [] h = h
saved_order S a told (c ∷ cs) h = h

-- at or before the newest place, a held text is the same after a request
held_same : (S : Service) (a b : List Entry) (told : List ℕ) (k i : ℕ) (c : Checkpoint) (cs : List Checkpoint) →
    k ≤ c.place →
    (is_told i told ≡ false → text_of S b i ≡ text_of S a i) →
    held_from k i (saves_newest S a told (c ∷ cs)) (text_of S b i) ≡ held_from k i (c ∷ cs) (text_of S a i)
held_same S a b told k i c cs low h =
    let yes : nat_le k c.place ≡ true = le-leb k c.place low in
    let new = text_of S b i in
    let old = text_of S a i in
    ap (λ t. held_from k i cs (cond t (or_else (lookup i (saves S a told c.saved)) new) new)) yes
    ∙ ap (held_from k i cs) (saves_lookup S a told i new c.saved h)
    ∙ sym (ap (λ t. held_from k i cs (cond t (or_else (lookup i c.saved) old) old)) yes)

-- no checkpoint that is older than k counts at k
held_older : (k i : ℕ) (cs : List Checkpoint) (now : List ℕ) → All (λ (c : Checkpoint). c.place < k) cs →
    held_from k i cs now ≡ now
held_older k i [] now h = refl
held_older k i (c ∷ cs) now h =
    let P : Checkpoint → Type 0 = λ d. d.place < k in
    let here : c.place < k = All-head P c cs h in
    let no : nat_le k c.place ≡ false = not_le k c.place here in
    rw no (held_older k i cs now (All-tail P c cs h))

-- Digests read anew

refreshed_length : (S : Service) (a : List Entry) (told : List ℕ) (ds : List (List ℕ)) →
    length (refreshed S a told ds) ≡ length ds
refreshed_length S a [] ds = refl
refreshed_length S a (j ∷ told) ds = refreshed_length S a told (set ds j (S.digest (text_of S a j)))
    ∙ length-set ds j (S.digest (text_of S a j))

refreshed_at : (S : Service) (a : List Entry) (told : List ℕ) (ds : List (List ℕ)) (i : ℕ) → i < length ds →
    (is_told i told ≡ false → get_or ds i [] ≡ S.digest (text_of S a i)) →
    get_or (refreshed S a told ds) i [] ≡ S.digest (text_of S a i)
refreshed_at S a [] ds i l h = h refl
refreshed_at S a (j ∷ told) ds i l h =
    refreshed_at S a told (set ds j (S.digest (text_of S a j))) i (rw length-set l) (λ g. here g (j == i) refl)
  where
    here : is_told i told ≡ false → (b : Bool) → (j == i) ≡ b →
        get_or (set ds j (S.digest (text_of S a j))) i [] ≡ S.digest (text_of S a i)
    here g true e =
        let same : i ≡ j = sym (eqb-true j i e) in
        subst (λ n. get_or (set ds j (S.digest (text_of S a j))) n [] ≡ S.digest (text_of S a n)) (sym same)
        (get_or-set_same ds j (S.digest (text_of S a j)) [] (subst (λ n. n < length ds) same l))
    here g false e =
        let other : i ≡ j → ⊥ = λ f. (let t : (j == i) ≡ true = eq-eqb j i (sym f) in absurd (cc)) in
        get_or-set_other ds j i (S.digest (text_of S a j)) [] other ∙ h (rw e g)

pub digests_length : (S : Service) (n : ℕ) (a : List Entry) → length (digests_from S n a) ≡ length a
digests_length S n [] = refl
digests_length S n (e ∷ es) = ap suc (digests_length S (suc n) es)

pub digests_at : (S : Service) (n : ℕ) (a : List Entry) (i : ℕ) → i < length a →
    get_or (digests_from S n a) i [] ≡ S.digest (entry_text S (n + i) (slice_get a i))
digests_at S n [] i h = absurd (omega arith)
digests_at S n (e ∷ es) zero h = ap (λ k. S.digest (S.text k e)) (omega arith)
digests_at S n (e ∷ es) (suc i) h =
    digests_at S (suc n) es i (omega arith)
    ∙ (let k : suc n + i ≡ n + suc i = omega arith in ap (λ k. S.digest (entry_text S k (slice_get es i))) k)

-- digests that are right at each index are those of the array
pub digests_are : (S : Service) (a : List Entry) (ds : List (List ℕ)) → length ds ≡ length a →
    ((i : ℕ) → i < length a → get_or ds i [] ≡ S.digest (text_of S a i)) → ds ≡ digests S a
digests_are S a ds e h =
    same_lists_at [] ds (digests S a) (e ∙ sym (digests_length S 0 a))
    (λ i l. h i (subst (λ n. i < n) e l) ∙ sym (digests_at S 0 a i (subst (λ n. i < n) e l)
    ∙ (let k : 0 + i ≡ i = omega arith in ap (λ k. S.digest (entry_text S k (slice_get a i))) k)))

-- A request is run

told_none : (i : ℕ) (xs ys : List ℕ) → is_told i (xs ++ ys) ≡ false → (is_told i xs ≡ false) × (is_told i ys ≡ false)
told_none i [] ys h = (refl, h)
told_none i (x ∷ xs) ys h = cases (x == i) (told_none i xs ys) refl h
  where
    cases : (b : Bool) → (is_told i (xs ++ ys) ≡ false → (is_told i xs ≡ false) × (is_told i ys ≡ false)) →
        (x == i) ≡ b →
        (b || is_told i (xs ++ ys)) ≡ false → (((x == i) || is_told i xs) ≡ false) × (is_told i ys ≡ false)
    cases true rest e g = absurd (cc)
    cases false rest e g = (rw e (rest g).0, (rest g).1)

-- the places of the checkpoints held are below the next place
abbrev pub AllBelow : ℕ → List Checkpoint → Type 0
AllBelow p cs = All (λ (c : Checkpoint). c.place < p) cs

saved_below : (S : Service) (a : List Entry) (told : List ℕ) (p : ℕ) (cs : List Checkpoint) → AllBelow p cs →
    AllBelow p (saves_newest S a told cs)
saved_below S a told p [] h = h
saved_below S a told p (c ∷ cs) h =
    let P : Checkpoint → Type 0 = λ d. d.place < p in
    All-cons P (record c { saved = saves S a told c.saved }) cs (All-head P c cs h) (All-tail P c cs h)

module _ (S : Service) (laws : IsOrderly S) (q : List Request) (r : Request) (l : Running) (ws : List (ℕ × Word))
    (ds : List (ℕ × List ℕ))
    (h : IsRightLive S q l ws ds) (e : slice_get q l.place ≡ Some r) where
  ran_array : S.next l.array r ≡ array_at S q (suc l.place)
  ran_array = ap (λ a. S.next a r) h.array ∙ sym (array_at-next S q l.place r e)

  ran_untold : (i : ℕ) → is_told i (S.told l.array r) ≡ false → text_of S (S.next l.array r) i ≡ text_of S l.array i
  ran_untold i g = laws.untold l.array r i g

  ran_checkpoint : (c : Checkpoint) (cs : List Checkpoint) → l.holds ≡ c ∷ cs → (d : Checkpoint) → d.place ≤ c.place →
      IsRightCheckpoint S q l d → IsRightCheckpoint S q (ran S r l) d
  ran_checkpoint c cs holds d low g = record {
    passed = omega (arith, g.passed);
    listed = g.listed;
    texts = λ i.
        ap (λ hs. held_from d.place i (saves_newest S l.array (S.saving l.array (S.told l.array r)) hs)
        (text_of S (S.next l.array r) i)) holds
        ∙ held_same S l.array (S.next l.array r) (S.saving l.array (S.told l.array r)) d.place i c cs low
        (λ g. ran_untold i (laws.saves_told l.array (S.told l.array r) i g))
        ∙ sym (ap (λ hs. held_from d.place i hs (text_of S l.array i)) holds)
        ∙ g.texts i;
  }

  resaved : (c d : Checkpoint) → d.place ≡ c.place → d.digests ≡ c.digests → IsRightCheckpoint S q (ran S r l) c →
      IsRightCheckpoint S q (ran S r l) d
  resaved c d ep ed g = record {
    passed = subst (λ p. p ≤ suc l.place) (sym ep) g.passed;
    listed = ed ∙ g.listed ∙ ap (λ p. digests S (array_at S q p)) (sym ep);
    texts = λ i. subst (λ p. held_text S (ran S r l) p i ≡ text_of S (array_at S q p) i) (sym ep) (g.texts i);
  }

  ran_holds : (cs : List Checkpoint) → l.holds ≡ cs → IsNewestFirst cs → All (IsRightCheckpoint S q l) cs →
      All (IsRightCheckpoint S q (ran S r l)) (saves_newest S l.array (S.saving l.array (S.told l.array r)) cs)
  ran_holds [] holds o g = All-nil (IsRightCheckpoint S q (ran S r l))
  ran_holds (c ∷ cs) holds o g =
      let right = IsRightCheckpoint S q l in
      let then = IsRightCheckpoint S q (ran S r l) in
      let new : Checkpoint = record c { saved = saves S l.array (S.saving l.array (S.told l.array r)) c.saved } in
      All-cons then new cs
      (resaved c new refl refl (ran_checkpoint c cs holds c (omega arith) (All-head right c cs g)))
      (λ k d within. ran_checkpoint c cs holds (get_or cs k d) (omega (arith, o.0 k d within))
      (All-tail right c cs g k d within))

  pub ran_right : IsRightLive S q (ran S r l) ws ds
  ran_right = record {
    array = ran_array;
    place = slice_get-within q l.place r e;
    lies = h.lies;
    believes = h.believes ∙ sym (laws.as_long l.array r);
    untold = λ i within none.
        let both = told_none i l.told (S.told l.array r) none in
        let short : i < length l.array = subst (λ n. i < n) (laws.as_long l.array r) within in
        h.untold i short both.0 ∙ ap S.digest (sym (ran_untold i both.1));
    ordered = saved_order S l.array (S.saving l.array (S.told l.array r)) l.holds h.ordered;
    holds = ran_holds l.holds refl h.ordered h.holds;
    said = All-weaker (IsRightWord S q l.place) (IsRightWord S q (suc l.place))
        (λ w g. (g.0, omega (arith, g.1), g.2)) ws h.said;
    rooted = All-weaker (IsRightRoot S q l) (IsRightRoot S q (ran S r l))
        (λ w g. (
          g.0,
          omega (arith, g.1),
          g.2,
          saved_holds S l.array (S.saving l.array (S.told l.array r)) w.0 l.holds
              ∙ g.3,
        )) ds h.rooted;
  }

  pub ran_below : AllBelow (suc l.place) (saves_newest S l.array (S.saving l.array (S.told l.array r)) l.holds)
  ran_below = saved_below S l.array (S.saving l.array (S.told l.array r)) (suc l.place) l.holds
      (All-weaker (IsRightCheckpoint S q l) (λ c. c.place < suc l.place)
      (λ c g. omega (arith, g.passed)) l.holds h.holds)

-- A checkpoint is taken

pub same_cond : (b : Bool) (now : List ℕ) → cond b now now ≡ now
same_cond true now = refl
same_cond false now = refl

pub or_true : (b : Bool) → (b || true) ≡ true
or_true true = refl
or_true false = refl

module _ (S : Service) (q : List Request) (l : Running) (ws : List (ℕ × Word)) (ds : List (ℕ × List ℕ))
    (h : IsRightLive S q l ws ds) (below : AllBelow l.place l.holds) where
  taken_digests : refreshed S l.array l.told l.believed ≡ digests S l.array
  taken_digests = digests_are S l.array (refreshed S l.array l.told l.believed)
      (refreshed_length S l.array l.told l.believed ∙ h.believes)
      (λ i within. refreshed_at S l.array l.told l.believed i (subst (λ n. i < n) (sym h.believes) within)
      (h.untold i within))

  taken_older : (c : Checkpoint) → IsRightCheckpoint S q l c → IsRightCheckpoint S q (takes_checkpoint S l) c
  taken_older c g = record {
    passed = g.passed;
    listed = g.listed;
    texts = λ i. ap (held_from c.place i l.holds) (same_cond (nat_le c.place l.place) (text_of S l.array i))
        ∙ g.texts i;
  }

  taken_newest : IsRightCheckpoint S q (takes_checkpoint S l)
      (record { place = l.place; digests = refreshed S l.array l.told l.believed; saved = [] })
  taken_newest = record {
    passed = omega arith;
    listed = taken_digests ∙ ap (digests S) h.array;
    texts = λ i. ap (held_from l.place i l.holds) (same_cond (nat_le l.place l.place) (text_of S l.array i))
        ∙ held_older l.place i l.holds (text_of S l.array i) below ∙ ap (λ a. text_of S a i) h.array;
  }

  pub taken_right : IsRightLive S q (takes_checkpoint S l) ws ds
  taken_right = record {
    array = h.array;
    place = h.place;
    lies = h.lies;
    believes = refreshed_length S l.array l.told l.believed ∙ h.believes;
    untold = λ i within none. refreshed_at S l.array l.told l.believed i (subst (λ n. i < n) (sym h.believes) within)
        (h.untold i within);
    ordered = (below, h.ordered);
    holds = All-cons (IsRightCheckpoint S q (takes_checkpoint S l))
        (record { place = l.place; digests = refreshed S l.array l.told l.believed; saved = [] }) l.holds
        taken_newest (All-weaker (IsRightCheckpoint S q l)
        (IsRightCheckpoint S q (takes_checkpoint S l)) taken_older l.holds h.holds);
    said = h.said;
    rooted = All-weaker (IsRightRoot S q l) (IsRightRoot S q (takes_checkpoint S l))
        (λ w g. (g.0, g.1, g.2, ap (λ b. (l.place == w.0) || b) g.3 ∙ or_true (l.place == w.0))) ds h.rooted;
  }

  pub taken_root : IsRightLive S q (takes_checkpoint S l) ws ds → 1 ≤ l.place →
      IsRightRoot S q (takes_checkpoint S l) (l.place, root_of S (refreshed S l.array l.told l.believed))
  taken_root g high = (
    high,
    omega arith,
    ap (root_of S) (taken_digests ∙ ap (digests S) h.array),
    (let yes : (l.place == l.place) ≡ true = eq-eqb l.place l.place refl in rw yes refl),
  )
