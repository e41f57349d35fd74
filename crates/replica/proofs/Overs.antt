-- Replicas over as many entries as the array.
use Rattle.std.proofs.Common.{◌≡◌, ℕ, zero, suc, ◌+◌, ◌<◌, ◌≤◌, Bool, true, false, cond, List, [], ◌∷◌, ◌++◌, length, get_or, refl, sym, ◌∙◌, ap, subst, arith}
use Rattle.std.specs.Prelude.{◌==◌, ◌||◌, nat_le}
use Rattle.std.specs.List.{All}
use Rattle.std.proofs.lemmas.Bool.{eqb-true, eq-eqb}
use Rattle.std.proofs.lemmas.List.{append-nil, append_assoc}
use Rattle.std.proofs.lemmas.List.Elements.{All-nil, All-cons, All-append, All-head, All-tail, All-filter}
use Rattle.nfs2_types.specs.declared.Limits.{Limits}
use Rattle.abs_model.specs.declared.Entry.{Entry}
use Rattle.abs_model.specs.Array.{entry_at, empty_array}
use Rattle.abs_text.specs.Text.{entry_text}
use Rattle.cluster_model.specs.State.{Checkpoint}
use Rattle.cluster_model.specs.Right.{is_told}
use Rattle.cow_checkpoint.specs.Store.{Store, fresh, saves, saves_newest, notices, all_noticed, takes, drops}
use Rattle.replica.specs.declared.running.Replica.{Replica}
use Rattle.replica.specs.Replicas.{IsOver, begun_at, begun, refreshed, told_of, takes_checkpoint, checked, is_due, harm, skipped, digests_of}
use Rattle.replica.proofs.EmptyArray.{length-empty, length-digests_from}
use Rattle.replica.proofs.Refreshed.{length-refreshed, refreshed_same}

abbrev HasSize : ℕ → Checkpoint → Type 0
HasSize n c = length c.digests ≡ n

pub over_begun_at : (n place : ℕ) (ds : List (List ℕ)) → length ds ≡ n → IsOver n (begun_at place ds)
over_begun_at n place ds size = record {
  digests = size;
  size = size;
  held = All-cons (HasSize n) (fresh place ds) [] size (All-nil (HasSize n));
  told = All-nil (λ i. i < n);
  taken = omega arith;
}

pub over_begun : (n : ℕ) → 1 ≤ n → IsOver n (begun n)
over_begun n some = over_begun_at n 0 (digests_of (empty_array n))
    (length-digests_from 0 (empty_array n) ∙ length-empty n some)

-- what is told at a place of a list is told
told_at : (is : List ℕ) (k d : ℕ) → k < length is → is_told (get_or is k d) is ≡ true
told_at [] k d within = absurd (omega arith)
told_at (i ∷ is) zero d within = ap (λ b. b || is_told i is) (eq-eqb i i refl)
told_at (i ∷ is) (suc k) d within = by (i == get_or is k d) (told_at is k d (omega arith))
  where
    by : (b : Bool) → is_told (get_or is k d) is ≡ true → (b || is_told (get_or is k d) is) ≡ true
    by true e = refl
    by false e = e

told_below : (n : ℕ) (is : List ℕ) (i : ℕ) → All (λ i. i < n) is → is_told i is ≡ true → i < n
told_below n [] i low e = absurd (cc)
told_below n (j ∷ is) i low e = by (told_below n is i (All-tail (λ i. i < n) j is low)) (j == i) refl e
  where
    by : (is_told i is ≡ true → i < n) → (b : Bool) → (j == i) ≡ b → (b || is_told i is) ≡ true → i < n
    by rest true same e = subst (λ k. k < n) (eqb-true j i same) (All-head (λ i. i < n) j is low)
    by rest false same e = rest e

pub told-all_noticed : (A : List Entry) (told : List ℕ) (s : Store) →
    (all_noticed A told s).told ≡ s.told ++ told
told-all_noticed A [] s = sym (append-nil s.told)
told-all_noticed A (i ∷ told) s = told-all_noticed A told (notices A i s) ∙ append_assoc s.told (i ∷ []) told

size-all_noticed : (A : List Entry) (told : List ℕ) (s : Store) → (all_noticed A told s).size ≡ s.size
size-all_noticed A [] s = refl
size-all_noticed A (i ∷ told) s = size-all_noticed A told (notices A i s)

held_saved : (n i : ℕ) (text : List ℕ) (holds : List Checkpoint) → All (HasSize n) holds →
    All (HasSize n) (saves_newest i text holds)
held_saved n i text [] h = h
held_saved n i text (c ∷ cs) h =
    All-cons (HasSize n) (record c { saved = saves i text c.saved }) cs (All-head (HasSize n) c cs h)
    (All-tail (HasSize n) c cs h)

held_noticed : (n : ℕ) (A : List Entry) (told : List ℕ) (s : Store) → All (HasSize n) s.holds →
    All (HasSize n) (all_noticed A told s).holds
held_noticed n A [] s h = h
held_noticed n A (i ∷ told) s h =
    held_noticed n A told (notices A i s) (held_saved n i (entry_text i (entry_at A i)) s.holds h)

pub taken-all_noticed : (A : List Entry) (told : List ℕ) (s : Store) → (all_noticed A told s).taken ≡ s.taken
taken-all_noticed A [] s = refl
taken-all_noticed A (i ∷ told) s = taken-all_noticed A told (notices A i s)

pub over_told : (n : ℕ) (A : List Entry) (told : List ℕ) (k : Replica) → IsOver n k → All (λ i. i < n) told →
    IsOver n (told_of A told k)
over_told n A told k h within = record {
  digests = h.digests;
  size = size-all_noticed A told k.store ∙ h.size;
  held = held_noticed n A told k.store h.held;
  told = subst (All (λ i. i < n)) (sym (told-all_noticed A told k.store))
      (All-append (λ i. i < n) k.store.told told h.told within);
  taken = (let e = taken-all_noticed A told k.store in let t = h.taken in omega arith);
}

pub over_taken : (n : ℕ) (A : List Entry) (k : Replica) → IsOver n k → IsOver n (takes_checkpoint A k)
over_taken n A k h = record {
  digests = length-refreshed A k.store.told k.tree ∙ h.digests;
  size = h.size;
  held = All-cons (HasSize n) (fresh k.place (refreshed A k.store.told k.tree)) k.store.holds
      (length-refreshed A k.store.told k.tree ∙ h.digests) h.held;
  told = All-nil (λ i. i < n);
  taken = omega arith;
}

pub over_checked : (limits : Limits) (n : ℕ) (A : List Entry) (k : Replica) → IsOver n k →
    IsOver n (checked limits A k)
over_checked limits n A k h = by (is_due limits k.place)
  where
    by : (b : Bool) → IsOver n (cond b (takes_checkpoint A k) k)
    by true = over_taken n A k h
    by false = h

-- an index told is among those touched, and is one of the entries
pub touched_low : (n : ℕ) (told indexes : List ℕ) → ((i : ℕ) → is_told i indexes ≡ is_told i told) →
    All (λ i. i < n) told → All (λ i. i < n) indexes
touched_low n told indexes same low k d within =
    told_below n told (get_or indexes k d) low
    (sym (same (get_or indexes k d)) ∙ told_at indexes k d within)

pub taken_is : (A : List Entry) (old new : Replica) (indexes : List ℕ) → new.place ≡ old.place →
    ((i : ℕ) → is_told i indexes ≡ is_told i old.store.told) → new.tree ≡ refreshed A indexes old.tree →
    new.store ≡ takes old.place new.tree old.store → new.lies ≡ old.lies → new.harmed ≡ old.harmed →
    new ≡ takes_checkpoint A old
taken_is A old new indexes place same tree store lies harmed =
    let all : new.tree ≡ refreshed A old.store.told old.tree =
    tree ∙ refreshed_same A indexes old.store.told old.tree same in
    λ i. record {
      place = place i;
      tree = all i;
      store = (store ∙ ap (λ ds. takes old.place ds old.store) all) i;
      lies = lies i;
      harmed = harmed i;
    }

pub over_harmed : (n : ℕ) (k : Replica) → IsOver n k → IsOver n (harm k)
over_harmed n k h =
    record { digests = h.digests; size = h.size; held = h.held; told = h.told; taken = h.taken }

-- checkpoints are forgotten
pub over_dropped : (n place : ℕ) (k : Replica) → IsOver n k → IsOver n (record k { store = drops place k.store })
over_dropped n place k h = record {
  digests = h.digests;
  size = h.size;
  held = All-filter (λ (c : Checkpoint). nat_le place c.place) (HasSize n) k.store.holds h.held;
  told = h.told;
  taken = h.taken;
}

-- a place that is passed with no request
abbrev passing : ℕ → Replica → Replica
passing place k = record k { place = place; harmed = true }

pub over_passing : (n place : ℕ) (k : Replica) → k.place ≤ place → IsOver n k → IsOver n (passing place k)
over_passing n place k le h = record {
  digests = h.digests;
  size = h.size;
  held = h.held;
  told = h.told;
  taken = (let t = h.taken in omega arith);
}

pub passing_is : (k : Replica) (place : ℕ) → place ≡ k.place + 1 → passing place k ≡ skipped k
passing_is k place next = (
    let e : place ≡ suc k.place = omega arith in
    λ i. record { place = e i; tree = k.tree; store = k.store; lies = k.lies; harmed = true })
