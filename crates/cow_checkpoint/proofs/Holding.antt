-- What a store keeps, after each change of it.
use Rattle.std.proofs.Common.{◌≡◌, ℕ, ◌<◌, ◌≤◌, Bool, true, false, cond, List, [], ◌∷◌, ◌++◌, length, reverse, refl, sym, ap, subst, ◌∙◌, arith, Option, None, All}
use Rattle.std.specs.Prelude.{nat_le, filter}
use Rattle.std.specs.Option.{option_to_list}
use Rattle.std.proofs.lemmas.List.{reverse-append, append-nil}
use Rattle.std.proofs.lemmas.List.Elements.{All-nil, All-cons, All-head, All-tail, All-weaker, All-filter, filter-append}
use Rattle.cluster_model.specs.State.{Checkpoint}
use Rattle.cluster_model.specs.Moments.{from_place}
use Rattle.cluster_model.specs.Right.{IsNewestFirst}
use Rattle.cow_checkpoint.specs.Store.{Store, fresh, begun, saves, saves_newest, takes, drops, IsExact, IsKept}
use Rattle.cow_checkpoint.proofs.Saving.{exact_after}

abbrev Below : ℕ → Checkpoint → Type 0
Below most c = c.place < most

abbrev UpTo : ℕ → Checkpoint → Type 0
UpTo most c = c.place ≤ most

abbrev HasSize : ℕ → Checkpoint → Type 0
HasSize n c = length c.digests ≡ n

-- a checkpoint more

pub begun_kept : (place : ℕ) (digests : List (List ℕ)) → IsKept (begun place digests)
begun_kept place digests = record {
  ordered = (All-nil (Below place), tt);
  passed = All-cons (UpTo place) (fresh place digests) [] (omega arith) (All-nil (UpTo place));
  sizes = All-cons (HasSize (length digests)) (fresh place digests) [] refl (All-nil (HasSize (length digests)));
  exact = λ i. refl;
}

pub takes_kept : (s : Store) (place : ℕ) (digests : List (List ℕ)) → IsKept s → s.taken < place →
    length digests ≡ s.size → IsKept (takes place digests s)
takes_kept s place digests k later size = record {
  ordered = (All-weaker (UpTo s.taken) (Below place) (λ c le. omega (arith, le, later)) s.holds k.passed, k.ordered);
  passed = All-cons (UpTo place) (fresh place digests) s.holds (omega arith)
      (All-weaker (UpTo s.taken) (UpTo place) (λ c le. omega (arith, le, later)) s.holds k.passed);
  sizes = All-cons (HasSize s.size) (fresh place digests) s.holds size k.sizes;
  exact = λ i. refl;
}

-- a notice

ordered_same : (i : ℕ) (t : List ℕ) (holds : List Checkpoint) → IsNewestFirst holds →
    IsNewestFirst (saves_newest i t holds)
ordered_same i t [] o = o
ordered_same i t (c ∷ cs) o = o

passed_same : (most i : ℕ) (t : List ℕ) (holds : List Checkpoint) → All (UpTo most) holds →
    All (UpTo most) (saves_newest i t holds)
passed_same most i t [] all = all
passed_same most i t (c ∷ cs) all =
    All-cons (UpTo most) (record c { saved = saves i t c.saved }) cs (All-head (UpTo most) c cs all)
    (All-tail (UpTo most) c cs all)

sizes_same : (n i : ℕ) (t : List ℕ) (holds : List Checkpoint) → All (HasSize n) holds →
    All (HasSize n) (saves_newest i t holds)
sizes_same n i t [] all = all
sizes_same n i t (c ∷ cs) all =
    All-cons (HasSize n) (record c { saved = saves i t c.saved }) cs (All-head (HasSize n) c cs all)
    (All-tail (HasSize n) c cs all)

exact_same : (told : List ℕ) (i : ℕ) (t : List ℕ) (holds : List Checkpoint) → IsExact told holds →
    IsExact (told ++ i ∷ []) (saves_newest i t holds)
exact_same told i t [] e = e
exact_same told i t (c ∷ cs) e = exact_after told i t c.saved e

pub told_kept : (s : Store) (i : ℕ) (t : List ℕ) → IsKept s →
    IsKept (record s { told = s.told ++ i ∷ []; holds = saves_newest i t s.holds })
told_kept s i t k = record {
  ordered = ordered_same i t s.holds k.ordered;
  passed = passed_same s.taken i t s.holds k.passed;
  sizes = sizes_same s.size i t s.holds k.sizes;
  exact = exact_same s.told i t s.holds k.exact;
}

-- checkpoints of lower places are forgotten

none_left : (most place : ℕ) (cs : List Checkpoint) → most ≤ place → All (Below most) cs → from_place place cs ≡ []
none_left most place [] le all = refl
none_left most place (c ∷ cs) le all =
    let here : c.place < most = All-head (Below most) c cs all in
    let no : nat_le place c.place ≡ false = grind (arith, here, le) in
    rw no (none_left most place cs le (All-tail (Below most) c cs all))

ordered_still : (place : ℕ) (cs : List Checkpoint) → IsNewestFirst cs → IsNewestFirst (from_place place cs)
ordered_still place [] o = o
ordered_still place (c ∷ cs) o = by (nat_le place c.place) (ordered_still place cs o.1)
  where
    by : (b : Bool) → IsNewestFirst (from_place place cs) →
        IsNewestFirst (cond b (c ∷ from_place place cs) (from_place place cs))
    by true rest = (All-filter (λ (d : Checkpoint). nat_le place d.place) (Below c.place) cs o.0, rest)
    by false rest = rest

exact_still : (place : ℕ) (told : List ℕ) (cs : List Checkpoint) → IsNewestFirst cs → IsExact told cs →
    IsExact told (from_place place cs)
exact_still place told [] o e = e
exact_still place told (c ∷ cs) o e = by (nat_le place c.place) refl
  where
    left : List Checkpoint
    left = from_place place cs

    by : (b : Bool) → nat_le place c.place ≡ b → IsExact told (cond b (c ∷ left) left)
    by true is = e
    by false is =
        let low : c.place ≤ place = grind (arith, is) in
        subst (λ (ds : List Checkpoint). IsExact told ds) (sym (none_left c.place place cs low o.0)) tt

pub drops_kept : (s : Store) (place : ℕ) → IsKept s → IsKept (drops place s)
drops_kept s place k = record {
  ordered = ordered_still place s.holds k.ordered;
  passed = All-filter (λ (c : Checkpoint). nat_le place c.place) (UpTo s.taken) s.holds k.passed;
  sizes = All-filter (λ (c : Checkpoint). nat_le place c.place) (HasSize s.size) s.holds k.sizes;
  exact = exact_still place s.told s.holds k.ordered k.exact;
}

-- how checkpoints are kept: the newest by itself, the others in the order in which they were taken

filter-reverse : (p : Checkpoint → Bool) (cs : List Checkpoint) → filter p (reverse cs) ≡ reverse (filter p cs)
filter-reverse p [] = refl
filter-reverse p (c ∷ cs) =
    ap (filter p) (reverse-append (c ∷ []) cs) ∙ filter-append p (reverse cs) (c ∷ [])
    ∙ ap (λ (ds : List Checkpoint). ds ++ filter p (c ∷ [])) (filter-reverse p cs) ∙ by (p c)
  where
    by : (b : Bool) → reverse (filter p cs) ++ cond b (c ∷ []) [] ≡ reverse (cond b (c ∷ filter p cs) (filter p cs))
    by true = sym (reverse-append (c ∷ []) (filter p cs))
    by false = append-nil (reverse (filter p cs))

pub filter-kept : (p : Checkpoint → Bool) (newest : Option Checkpoint) (older : List Checkpoint) →
    filter p (option_to_list newest ++ reverse older)
    ≡ filter p (option_to_list newest) ++ reverse (filter p older)
filter-kept p newest older =
    filter-append p (option_to_list newest) (reverse older)
    ∙ ap (λ (ds : List Checkpoint). filter p (option_to_list newest) ++ ds) (filter-reverse p older)

-- a store by its parts

abbrev pub made : ℕ → ℕ → List ℕ → List Checkpoint → Store
made size taken told holds = record { size = size; taken = taken; told = told; holds = holds }

pub kept_as : (size taken : ℕ) (told told' : List ℕ) (holds holds' : List Checkpoint) → told' ≡ told →
    holds' ≡ holds → IsKept (made size taken told holds) → IsKept (made size taken told' holds')
kept_as size taken told told' holds holds' t h k =
    subst (λ (x : List ℕ). IsKept (made size taken x holds')) (sym t)
    (subst (λ (x : List Checkpoint). IsKept (made size taken told x)) (sym h) k)

-- where none is held, nothing is saved
pub none_saved : (i : ℕ) (t : List ℕ) (newest : Option Checkpoint) (older : List Checkpoint) → newest ≡ None →
    older ≡ [] →
    option_to_list newest ++ reverse older ≡ saves_newest i t (option_to_list newest ++ reverse older)
none_saved i t newest older n o =
    let none : option_to_list newest ++ reverse older ≡ []
    = ap (λ (x : Option Checkpoint). option_to_list x ++ reverse older) n ∙ ap reverse o in
    none ∙ sym (ap (saves_newest i t) none)
