-- Words by voter and place, over lists of what each voter has.
use Rattle.std.proofs.Common.{⊎_elim, ◌≡◌, ◌≢◌, ℕ, zero, suc, ◌+◌, ◌<◌, ◌≤◌, Bool, true, false, cond, List, [], ◌∷◌, map, take, length, slice_get, slice_set, get_or, nat_le, Option, Some, None, option_map, refl, sym, ◌∙◌, ap, subst, arith}
use Rattle.std.specs.Option.{option_and_then}
use Rattle.std.specs.List.{All, count_by}
use Rattle.std.proofs.lemmas.List.{length-set, length-map}
use Rattle.std.proofs.lemmas.Bool.{cases_eq}
use Rattle.std.proofs.lemmas.Option.{slice_get-map, slice_get_read, slice_get_past}
use Rattle.nfs2_types.specs.declared.Word.{Word}
use Rattle.cluster_model.proofs.Same.{slice_get-All}
use Rattle.cluster_model.proofs.Counting.{bit, count_by-cons}
use Rattle.reply_vote.specs.declared.standing.Standing.{Standing}
use Rattle.reply_vote.specs.Ballots.{Ballot, ballot, word_at, Casts, Withdraws, SameWords}

-- the word of a voter, from the list of what voters have
pub at_voter : (xs : List Standing) (r p : ℕ) → word_at (map ballot xs) r p ≡ option_and_then (λ s. ballot s p) (slice_get xs r)
at_voter xs r p = ap (option_and_then (λ (b : Ballot). b p)) (slice_get-map ballot xs r) ∙ by (slice_get xs r)
  where
    by : (o : Option Standing) → option_and_then (λ (b : Ballot). b p) (option_map ballot o) ≡ option_and_then (λ s. ballot s p) o
    by None = refl
    by (Some s) = refl

pub set_here : {X : Type 0} (xs : List X) (i : ℕ) (v : X) → i < length xs → slice_get (slice_set xs i v) i ≡ Some v
set_here [] i v h = absurd (omega arith)
set_here (x ∷ xs) zero v h = refl
set_here (x ∷ xs) (suc i) v h = set_here xs i v (omega arith)

pub set_elsewhere : {X : Type 0} (xs : List X) (i j : ℕ) (v : X) → j ≢ i → slice_get (slice_set xs i v) j ≡ slice_get xs j
set_elsewhere [] i j v ne = refl
set_elsewhere (x ∷ xs) zero zero v ne = absurd (ne refl)
set_elsewhere (x ∷ xs) zero (suc j) v ne = refl
set_elsewhere (x ∷ xs) (suc i) zero v ne = refl
set_elsewhere (x ∷ xs) (suc i) (suc j) v ne = set_elsewhere xs i j v (λ e. ne (ap suc e))

module _ (xs : List Standing) (r : ℕ) (s : Standing) (within : r < length xs) where
  -- voter r has s now
  pub now_here : (p : ℕ) → word_at (map ballot (slice_set xs r s)) r p ≡ ballot s p
  now_here p = at_voter (slice_set xs r s) r p ∙ ap (option_and_then (λ t. ballot t p)) (set_here xs r s within)

  pub now_elsewhere : (k p : ℕ) → k ≢ r → word_at (map ballot (slice_set xs r s)) k p ≡ word_at (map ballot xs) k p
  now_elsewhere k p ne = at_voter (slice_set xs r s) k p
      ∙ ap (option_and_then (λ t. ballot t p)) (set_elsewhere xs r k s ne) ∙ sym (at_voter xs k p)

  pub as_many : length (map ballot (slice_set xs r s)) ≡ length (map ballot xs)
  as_many = length-map (slice_set xs r s) ballot ∙ length-set xs r s ∙ sym (length-map xs ballot)

  pub withdraws_set : ((p : ℕ) → ballot s p ≡ None) → Withdraws r (map ballot xs) (map ballot (slice_set xs r s))
  withdraws_set none = record {
    size = as_many;
    here = λ p. now_here p ∙ none p;
    voters = now_elsewhere;
  }

  module _ (old : Standing) (was : slice_get xs r ≡ Some old) where
    pub was_here : (p : ℕ) → word_at (map ballot xs) r p ≡ ballot old p
    was_here p = at_voter xs r p ∙ ap (option_and_then (λ t. ballot t p)) was

    pub casts_set : (p : ℕ) (w : Word) → ballot s p ≡ Some w → ((q : ℕ) → q ≢ p → ballot s q ≡ ballot old q) →
        Casts r p w (map ballot xs) (map ballot (slice_set xs r s))
    casts_set p w here others = record {
      size = as_many;
      here = now_here p ∙ here;
      places = λ q ne. now_here q ∙ others q ne ∙ sym (was_here q);
      voters = now_elsewhere;
    }

    -- the same words, where the voter's are the same
    pub same_set : ((q : ℕ) → ballot s q ≡ ballot old q) → SameWords (map ballot xs) (map ballot (slice_set xs r s))
    same_set same = record {
      size = as_many;
      words = λ k q. ⊎_elim
          (λ here. subst (λ j. word_at (map ballot (slice_set xs r s)) j q ≡ word_at (map ballot xs) j q) (sym here)
          (now_here q ∙ same q ∙ sym (was_here q)))
          (λ other. now_elsewhere k q other) (cases_eq k r);
    }

-- the same ballots
pub same_words : (bs : List Ballot) → SameWords bs bs
same_words bs = record { size = refl; words = λ k q. refl }

-- no voter has a word
pub no_words : (xs : List Standing) → All (λ s. (p : ℕ) → ballot s p ≡ None) xs → (k p : ℕ) → word_at (map ballot xs) k p ≡ None
no_words xs none k p = at_voter xs k p ∙ by (slice_get xs k) refl
  where
    by : (o : Option Standing) → slice_get xs k ≡ o → option_and_then (λ s. ballot s p) o ≡ None
    by None e = refl
    by (Some s) e = slice_get-All (λ t. (q : ℕ) → ballot t q ≡ None) xs k s none e p

-- COUNTING

pub count_take : {A : Type 0} (P : A → Bool) (xs : List A) (k : ℕ) (x : A) → slice_get xs k ≡ Some x →
    count_by P (take (suc k) xs) ≡ count_by P (take k xs) + bit (P x)
count_take P [] k x e = absurd (cc)
count_take P (y ∷ xs) zero x e =
    let same : y ≡ x = cc in
    count_by-cons P y [] ∙ (let one : bit (P y) ≡ bit (P x) = ap (λ z. bit (P z)) same in omega arith)
count_take P (y ∷ xs) (suc k) x e =
    let rest : count_by P (take (suc k) xs) ≡ count_by P (take k xs) + bit (P x) = count_take P xs k x e in
    rw (count_by-cons P y (take (suc k) xs), count_by-cons P y (take k xs)) (omega arith)

-- one voter more was counted
pub counted_more : (test : Standing → Bool) (xs : List Standing) (k n n' : ℕ) (s : Standing) → k < length xs →
    s ≡ get_or xs k s → n ≡ count_by test (take k xs) → n' ≡ n + bit (test s) → n' ≡ count_by test (take (k + 1) xs)
counted_more test xs k n n' s within is before now =
    let e : k + 1 ≡ suc k = omega arith in
    let here : slice_get xs k ≡ Some s = slice_get_read xs (length xs) k s refl within is in
    now ∙ ap (λ j. j + bit (test s)) before ∙ sym (count_take test xs k s here) ∙ ap (λ j. count_by test (take j xs)) (sym e)

pub count_map : {A B : Type 0} (P : B → Bool) (f : A → B) (xs : List A) → count_by P (map f xs) ≡ count_by (λ x. P (f x)) xs
count_map P f [] = refl
count_map P f (x ∷ xs) =
    let rest : count_by P (map f xs) ≡ count_by (λ x. P (f x)) xs = count_map P f xs in
    rw (count_by-cons P (f x) (map f xs), count_by-cons (λ x. P (f x)) x xs) (omega arith)

-- a voter past the end has no word
pub none_past : (bs : List Ballot) (k p : ℕ) (v : Word) → word_at bs k p ≡ Some v → k < length bs
none_past [] k p v e = absurd (cc)
none_past (b ∷ bs) zero p v e = omega arith
none_past (b ∷ bs) (suc k) p v e = (let rest : k < length bs = none_past bs k p v e in omega arith)

-- where the words of voter r for places up to p go, those of the others stay
pub drop_one : (xs : List Standing) (r p : ℕ) (s old : Standing) → r < length xs → slice_get xs r ≡ Some old →
    ((q : ℕ) → ballot s q ≡ cond (nat_le q p) None (ballot old q)) →
    (k q : ℕ) → k ≡ r → word_at (map ballot (slice_set xs r s)) k q ≡ cond (nat_le q p) None (word_at (map ballot xs) k q)
drop_one xs r p s old within was drops k q e =
    subst (λ j. word_at (map ballot (slice_set xs r s)) j q ≡ cond (nat_le q p) None (word_at (map ballot xs) j q)) (sym e)
    (now_here xs r s within q ∙ drops q ∙ ap (λ o. cond (nat_le q p) None o) (sym (was_here xs r s within old was q)))

pub no_word_past : (xs : List Standing) (k p : ℕ) → length xs ≤ k → word_at (map ballot xs) k p ≡ None
no_word_past xs k p high = at_voter xs k p ∙ ap (option_and_then (λ s. ballot s p)) (slice_get_past xs k high)

pub none_both : {X : Type 0} (b : Bool) (o : Option X) → o ≡ None → o ≡ cond b None o
none_both true o e = e
none_both false o e = refl

-- the word of a voter that has s
pub was_at : (xs : List Standing) (r : ℕ) (s : Standing) → slice_get xs r ≡ Some s → (p : ℕ) → word_at (map ballot xs) r p ≡ ballot s p
was_at xs r s was p = at_voter xs r p ∙ ap (option_and_then (λ t. ballot t p)) was

pub some_same : {X : Type 0} {x y : X} → Some x ≡ Some y → x ≡ y
some_same {X} {x} e = ap (or_this x) e
  where
    or_this : X → Option X → X
    or_this d None = d
    or_this d (Some z) = z

-- FORGETTING A PLACE

-- where the word of voter r for place p goes, all else stays
module _ (xs : List Standing) (r p : ℕ) (s old : Standing) (within : r < length xs) (was : slice_get xs r ≡ Some old)
    (gone : ballot s p ≡ None) (kept : (q : ℕ) → q ≢ p → ballot s q ≡ ballot old q) where
  pub forgot_here : (k : ℕ) → k ≡ r → word_at (map ballot (slice_set xs r s)) k p ≡ None
  forgot_here k e = subst (λ j. word_at (map ballot (slice_set xs r s)) j p ≡ None) (sym e)
      (now_here xs r s within p ∙ gone)

  pub forgot_others : (k q : ℕ) → q ≢ p → word_at (map ballot (slice_set xs r s)) k q ≡ word_at (map ballot xs) k q
  forgot_others k q ne = ⊎_elim
      (λ e. subst (λ j. word_at (map ballot (slice_set xs r s)) j q ≡ word_at (map ballot xs) j q) (sym e)
      (now_here xs r s within q ∙ kept q ne ∙ sym (was_here xs r s within old was q)))
      (λ other. now_elsewhere xs r s within k q other)
      (cases_eq k r)
