-- What the model makes of digests and checkpoints is what a replica keeps.
use Rattle.std.proofs.Common.{◌≡◌, ◌⊎◌, ℕ, zero, suc, ◌+◌, ◌*◌, ◌%◌, ◌^◌, ◌<◌, ◌≤◌, Bool, true, false, cond, List, [], ◌∷◌, ◌++◌, map, length, inl, inr, refl, sym, ◌∙◌, ap, subst, arith}
use Rattle.std.specs.Prelude.{slice_set, ◌==◌}
use Rattle.std.specs.List.{All}
use Rattle.std.proofs.lemmas.List.Elements.{All-head, All-tail}
use Rattle.std.proofs.lemmas.Option.{slice_get-get_or}
use Rattle.sha2.specs.Sha256.{sha256}
use Rattle.nfs2_types.specs.declared.Limits.{Limits}
use Rattle.abs_model.specs.declared.Entry.{Entry}
use Rattle.abs_model.specs.Array.{entry_at, null_entry, empty_array}
use Rattle.abs_model.specs.Valid.{Valid}
use Rattle.abs_text.specs.Text.{entry_text, node_text}
use Rattle.dispatch.specs.Answer.{answer}
use Rattle.cluster_model.specs.declared.Request.{Request}
use Rattle.cluster_model.specs.Tree as trees
use Rattle.cluster_model.specs.State.{Checkpoint, Running}
use Rattle.cluster_model.specs.Turns as turns
use Rattle.cluster_model.specs.Service.{Service}
use Rattle.cluster_model.specs.Step.{wiped}
use Rattle.service_laws.specs.Served.{levels_of, IsSized, service}
use Rattle.service_laws.proofs.Served.{service_orderly}
use Rattle.partition_tree.specs.Digests.{numbers, digest_at, IsRoot, IsTreeSize}
use Rattle.cow_checkpoint.specs.Store.{Store, fresh, saves, saves_newest, notices, all_noticed}
use Rattle.replica.specs.declared.Replica.{Replica as Runner}
use Rattle.replica.specs.Replicas.{IsOver, digests_from, digests_of, begun_at, begun, refreshed, told_of, takes_checkpoint, checked, passed, is_due, harm, skipped}
use Rattle.replica.proofs.Told.{answer_within}
use Rattle.replica.proofs.Overs.{over_begun, over_told, told-all_noticed}
use Rattle.cluster.specs.OverBench.{IsKeptBy, is_size}
use Rattle.cluster.proofs.ListFacts.{map-append}

-- TEXTS AND DIGESTS

text_same : (limits : Limits) (A : List Entry) (i : ℕ) → i < length A →
    trees.text_of (service limits) A i ≡ entry_text i (entry_at A i)
unfolding service
text_same limits A i low = ap (trees.entry_text (service limits) i) (slice_get-get_or A i null_entry low)

digests_from_same : (limits : Limits) (i : ℕ) (es : List Entry) →
    trees.digests_from (service limits) i es ≡ digests_from i es
unfolding service
digests_from_same limits i [] = refl
digests_from_same limits i (e ∷ es) = ap (λ ds. sha256 (entry_text i e) ∷ ds) (digests_from_same limits (suc i) es)

refreshed_same : (limits : Limits) (A : List Entry) (told : List ℕ) (ds : List (List ℕ)) →
    All (λ i. i < length A) told → turns.refreshed (service limits) A told ds ≡ refreshed A told ds
unfolding service
refreshed_same limits A [] ds low = refl
refreshed_same limits A (i ∷ told) ds low =
    ap (λ t. turns.refreshed (service limits) A told (slice_set ds i (sha256 t)))
    (text_same limits A i (All-head (λ i. i < length A) i told low))
    ∙ refreshed_same limits A told (slice_set ds i (sha256 (entry_text i (entry_at A i))))
    (All-tail (λ i. i < length A) i told low)

-- THE TREE

numbers_more : (first n : ℕ) → numbers first (suc n) ≡ numbers first n ++ (first + n) ∷ []
numbers_more first zero = (let e : first ≡ first + 0 = omega arith in ap (λ k. k ∷ []) e)
numbers_more first (suc n) =
    let e : suc first + n ≡ first + suc n = omega arith in
    ap (λ ks. first ∷ ks) (numbers_more (suc first) n ∙ ap (λ k. numbers (suc first) n ++ k ∷ []) e)

numbers_are : (first n : ℕ) → map (λ j. first + j) (trees.below n) ≡ numbers first n
numbers_are first zero = refl
numbers_are first (suc n) = map-append (λ j. first + j) (trees.below n) (n ∷ [])
    ∙ ap (λ ks. ks ++ (first + n) ∷ []) (numbers_are first n) ∙ sym (numbers_more first n)

digest_same : (limits : Limits) (ds : List (List ℕ)) (level number : ℕ) →
    trees.digest_at (service limits) ds level number ≡ digest_at ds level number
unfolding service
digest_same limits ds zero number = refl
digest_same limits ds (suc level) number = λ i. sha256 (node_text (suc level) number
    (map (λ k. digest_same limits ds level k i) (numbers_are (16 * number) 16 i)))

tree_sized : (n : ℕ) → (n ≡ 16) ⊎ ((n ≡ 256) ⊎ (n ≡ 4096)) → n ≡ 16 ^ levels_of n
tree_sized n (inl e) = e ∙ sym (ap (λ k. 16 ^ levels_of k) e)
tree_sized n (inr (inl e)) = e ∙ sym (ap (λ k. 16 ^ levels_of k) e)
tree_sized n (inr (inr e)) = e ∙ sym (ap (λ k. 16 ^ levels_of k) e)

some_entries : (n : ℕ) → (n ≡ 16) ⊎ ((n ≡ 256) ⊎ (n ≡ 4096)) → 1 ≤ n
some_entries n (inl e) = omega arith
some_entries n (inr (inl e)) = omega arith
some_entries n (inr (inr e)) = omega arith

pub tree_size : (limits : Limits) → IsSized limits → IsTreeSize limits.n
tree_size limits h = by limits.n h.entries
  where
    by : (n : ℕ) → (n ≡ 16) ⊎ ((n ≡ 256) ⊎ (n ≡ 4096)) → IsTreeSize n
    by n (inl e) = record { levels = 1; some = omega arith; few = omega arith; size = e }
    by n (inr (inl e)) = record { levels = 2; some = omega arith; few = omega arith; size = e }
    by n (inr (inr e)) = record { levels = 3; some = omega arith; few = omega arith; size = e }

pub size_is : (limits : Limits) → IsSized limits → is_size limits.n ≡ true
size_is limits h = by limits.n h.entries
  where
    by : (n : ℕ) → (n ≡ 16) ⊎ ((n ≡ 256) ⊎ (n ≡ 4096)) → is_size n ≡ true
    by n (inl e) = subst (λ k. is_size k ≡ true) (sym e) refl
    by n (inr (inl e)) = subst (λ k. is_size k ≡ true) (sym e) refl
    by n (inr (inr e)) = subst (λ k. is_size k ≡ true) (sym e) refl

pub root_is : (limits : Limits) → IsSized limits → (ds : List (List ℕ)) (d : List ℕ) → length ds ≡ limits.n →
    IsRoot ds d → d ≡ trees.root_of (service limits) ds
unfolding service
root_is limits sized ds d size is =
    is (levels_of limits.n) (size ∙ tree_sized limits.n sized.entries)
    ∙ sym (digest_same limits ds (levels_of limits.n) 0)

-- CHECKPOINTS

-- the texts saved at one notice more
saves_one : (limits : Limits) (A : List Entry) (i : ℕ) (told : List ℕ) → i < length A → (holds : List Checkpoint) →
    turns.saves_newest (service limits) A (i ∷ told) holds
    ≡ turns.saves_newest (service limits) A told (saves_newest i (entry_text i (entry_at A i)) holds)
saves_one limits A i told low [] = refl
saves_one limits A i told low (c ∷ cs) =
    ap (λ t. let d : Checkpoint = record c {
      saved = turns.saves (service limits) A told (saves i t c.saved);
    } in d ∷ cs) (text_same limits A i low)

saves_none : (limits : Limits) (A : List Entry) (holds : List Checkpoint) →
    turns.saves_newest (service limits) A [] holds ≡ holds
saves_none limits A [] = refl
saves_none limits A (c ∷ cs) = refl

holds_same : (limits : Limits) (A : List Entry) (told : List ℕ) (s : Store) → All (λ i. i < length A) told →
    turns.saves_newest (service limits) A told s.holds ≡ (all_noticed A told s).holds
holds_same limits A [] s low = saves_none limits A s.holds
holds_same limits A (i ∷ told) s low =
    saves_one limits A i told (All-head (λ i. i < length A) i told low) s.holds
    ∙ holds_same limits A told (notices A i s) (All-tail (λ i. i < length A) i told low)

module _ (limits : Limits) (A : List Entry) (k : Runner) (l : Running) (h : IsKeptBy k l) (same : l.array ≡ A)
    (low : All (λ i. i < length A) k.store.told) where
  digests_same : turns.refreshed (service limits) l.array l.told l.believed ≡ refreshed A k.store.told k.tree
  digests_same = ap (λ a. turns.refreshed (service limits) a l.told l.believed) same
      ∙ ap (λ told. turns.refreshed (service limits) A told l.believed) h.told
      ∙ ap (turns.refreshed (service limits) A k.store.told) h.believed
      ∙ refreshed_same limits A k.store.told k.tree low

  keeps_taken : IsKeptBy (takes_checkpoint A k) (turns.takes_checkpoint (service limits) l)
  keeps_taken = record {
    place = h.place;
    believed = digests_same;
    told = refl;
    holds = λ i. fresh (h.place i) (digests_same i) ∷ h.holds i;
    lies = h.lies;
    harmed = h.harmed;
  }

  keeps_checked : IsKeptBy (checked limits A k) (turns.checked (service limits) l)
  unfolding service
  keeps_checked = by (turns.is_checkpoint (service limits) l.place) (is_due limits k.place)
      (ap (λ p. p % limits.k == 0) h.place)
    where
      by : (b c : Bool) → b ≡ c → IsKeptBy (cond c (takes_checkpoint A k) k)
          (cond b (turns.takes_checkpoint (service limits) l) l)
      by true true e = keeps_taken
      by false false e = h
      by true false e = absurd (cc)
      by false true e = absurd (cc)

-- a request that is run
keeps_ran : (limits : Limits) (l : Running) (k : Runner) (q : Request) → IsKeptBy k l → Valid limits l.array →
    IsKeptBy (told_of l.array (answer l.array limits q.time q.bytes).told k) (turns.ran (service limits) q l)
unfolding service
keeps_ran limits l k q h valid =
    let A = l.array in
    let told = (answer A limits q.time q.bytes).told in
    record {
      place = ap suc h.place;
      believed = h.believed;
      told = ap (λ is. is ++ told) h.told ∙ sym (told-all_noticed A told k.store);
      holds = ap (turns.saves_newest (service limits) A told) h.holds
          ∙ holds_same limits A told k.store (answer_within A limits q.time valid q.bytes);
      lies = h.lies;
      harmed = h.harmed;
    }

-- the array after a request
array_is : (limits : Limits) (l : Running) (q : Request) →
    (turns.ran (service limits) q l).array ≡ (answer l.array limits q.time q.bytes).array
unfolding service
array_is limits l q = refl

pub keeps_passed : (limits : Limits) (l : Running) (k : Runner) (q : Request) → IsKeptBy k l → IsOver limits.n k →
    Valid limits l.array →
    IsKeptBy (passed limits l.array (answer l.array limits q.time q.bytes) k)
    (turns.checked (service limits) (turns.ran (service limits) q l))
keeps_passed limits l k q h over valid =
    let A = l.array in
    let a = answer A limits q.time q.bytes in
    let j = told_of A a.told k in
    let below_n : All (λ i. i < limits.n) a.told = subst (λ n. All (λ i. i < n) a.told) valid.size
    (answer_within A limits q.time valid q.bytes) in
    let over' : IsOver limits.n j = over_told limits.n A a.told k over below_n in
    let size : length a.array ≡ limits.n = ap length (sym (array_is limits l q))
    ∙ (service_orderly limits).as_long A q ∙ valid.size in
    keeps_checked limits a.array j (turns.ran (service limits) q l) (keeps_ran limits l k q h valid)
    (array_is limits l q) (subst (λ n. All (λ i. i < n) j.store.told) (sym size) over'.told)

-- HARM

-- what is kept of a replica is kept of a harmed one
pub keeps_harmed : (l : Running) (k : Runner) → IsKeptBy k l → IsKeptBy (harm k) (turns.harm l)
keeps_harmed l k h = record {
  place = h.place;
  believed = h.believed;
  told = h.told;
  holds = h.holds;
  lies = h.lies;
  harmed = refl;
}

-- its array is not among what is kept
pub keeps_wiped : (S : Service) (l : Running) (k : Runner) → IsKeptBy k l → IsKeptBy (harm k) (turns.harm (wiped S l))
keeps_wiped S l k h = record {
  place = h.place;
  believed = h.believed;
  told = h.told;
  holds = h.holds;
  lies = h.lies;
  harmed = refl;
}

keeps_skipped : (l : Running) (k : Runner) → IsKeptBy k l → IsKeptBy (skipped k) (turns.skipped l)
keeps_skipped l k h = record {
  place = ap suc h.place;
  believed = h.believed;
  told = h.told;
  holds = h.holds;
  lies = h.lies;
  harmed = refl;
}

-- a place that is passed with no request
pub keeps_passed_over : (limits : Limits) (l : Running) (k : Runner) → IsKeptBy k l → IsOver limits.n k →
    Valid limits l.array →
    IsKeptBy (checked limits l.array (skipped k)) (turns.checked (service limits) (turns.skipped l))
keeps_passed_over limits l k h over valid =
    keeps_checked limits l.array (skipped k) (turns.skipped l) (keeps_skipped l k h) refl
    (subst (λ n. All (λ i. i < n) k.store.told) (sym valid.size) over.told)

-- THE BEGINNING

digests_are : (limits : Limits) (A : List Entry) → trees.digests (service limits) A ≡ digests_of A
digests_are limits A = digests_from_same limits 0 A

pub keeps_begun_at : (limits : Limits) (place : ℕ) (A : List Entry) →
    IsKeptBy (begun_at place (digests_of A)) (turns.begins (service limits) place A)
keeps_begun_at limits place A = record {
  place = refl;
  believed = digests_are limits A;
  told = refl;
  holds = λ i. fresh place (digests_are limits A i) ∷ [];
  lies = refl;
  harmed = refl;
}

pub keeps_begun : (limits : Limits) → IsKeptBy (begun limits.n) (turns.begins (service limits) 0 (service limits).empty)
unfolding service
keeps_begun limits = keeps_begun_at limits 0 (empty_array limits.n)

begin_digests : (limits : Limits) →
    trees.digests (service limits) (service limits).empty ≡ digests_of (empty_array limits.n)
unfolding service
begin_digests limits = digests_are limits (empty_array limits.n)

pub empty_root_is : (limits : Limits) → IsSized limits → (d : List ℕ) → IsRoot (digests_of (empty_array limits.n)) d →
    d ≡ trees.root (service limits) (service limits).empty
empty_root_is limits sized d is =
    root_is limits sized (digests_of (empty_array limits.n)) d
    (over_begun limits.n (some_entries limits.n sized.entries)).digests is
    ∙ ap (trees.root_of (service limits)) (sym (begin_digests limits))
