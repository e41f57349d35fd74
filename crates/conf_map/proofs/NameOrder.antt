-- Names that are listed once and put in order: what holds of a list holds of it in another order, and its names rise.
use Rattle.std.proofs.Common.{◌≡◌, ◌≢◌, ℕ, ◌+◌, ◌<◌, arith, true, false, Bool, List, [], ◌∷◌, length, map, get_or, slice_get, Some, refl, sym, ap, ◌∙◌, subst, Ordering}
use Rattle.std.specs.Prelude.{bytes_eq, All}
use Rattle.std.specs.List.{list_all, AllByRecursion, IsDistinct}
use Rattle.std.specs.List.Sorted.{IsStrictlySortedBy}
use Rattle.std.specs.Ordering.{nat_cmp, is_lt, is_eq, ordering_reverse}
use Rattle.std.specs.declared.cmp.Ordering.TheVariants.{Less, Equal, Greater}
use Rattle.std.specs.Cmp.Lexicographic.{slice_cmp}
use Rattle.std.proofs.lemmas.Bool.{and_from, true≢false}
use Rattle.std.proofs.lemmas.Cmp.{nat_list_cmp_total}
use Rattle.std.proofs.lemmas.List.{get_or-map, length-map}
use Rattle.std.proofs.lemmas.List.Sorted.{All-permutation, Contains-permutation, IsPermutation-map}
use Rattle.std.proofs.lemmas.Map.Keys.{IsDistinct-from_apart, IsDistinct-IsPermutation, apart_from_distinct, sorted_from_all_adjacent}
use Rattle.std.proofs.lemmas.Map.Text.{is_eq-slice_cmp}
use Rattle.std.proofs.lemmas.Option.{slice_get_within, slice_get-get_or}
use Rattle.std.proofs.lemmas.Slice.Eq.{bytes_eq-Decides}
use Rattle.server_trait.specs.Tree.{Names}
use Rattle.server_trait.specs.Calls.{Lists}
use Rattle.std.specs.FinMap.{get}
use Rattle.server_trait.proofs.TreeLaws.{some_same}
use Rattle.server_trait.specs.declared.server.Listed.{Listed}
use Rattle.abs_model.specs.declared.entry.NameRow.{NameRow}
use Rattle.abs_model.specs.Objects.{name_lt}
use Rattle.abs_model.specs.Valid.{is_rising}
use Rattle.conf_map.specs.Contents.{AreInOrder}

-- the names of a list, and of rows
abbrev pub name_in : Listed → List ℕ
name_in l = l.name

abbrev pub names_in : List Listed → List (List ℕ)
names_in ls = map name_in ls

abbrev pub row_names : List NameRow → List (List ℕ)
row_names rows = map (λ (r : NameRow). r.name) rows

-- ORDER

-- not above, and another: below
less : (a b : List ℕ) → is_lt (slice_cmp nat_cmp b a) ≡ false → bytes_eq a b ≡ false → slice_cmp nat_cmp a b ≡ Less
less a b high other =
    go (slice_cmp nat_cmp a b) (slice_cmp nat_cmp b a) (nat_list_cmp_total.antisymm b a) high
    (is_eq-slice_cmp a b ∙ other)
  where
    go : (o p : Ordering) → p ≡ ordering_reverse o → is_lt p ≡ false → is_eq o ≡ false → o ≡ Less
    go Less p e h k = refl
    go Equal p e h k = absurd (true≢false k)
    go Greater p e h k = absurd (true≢false (sym (ap is_lt e) ∙ h))

above : (name : List ℕ) (rows : List NameRow) → AllByRecursion (λ y. slice_cmp nat_cmp name y ≡ Less) (row_names rows) →
    list_all (λ s. name_lt name s.name) rows ≡ true
above name [] k = refl
above name (r ∷ rs) k = and_from (name_lt name r.name) _ (ap is_lt k.0) (above name rs k.1)

-- rows whose names stand in order rise
pub rows_rise : (rows : List NameRow) → IsStrictlySortedBy (slice_cmp nat_cmp) (row_names rows) → is_rising rows ≡ true
unfolding IsStrictlySortedBy
rows_rise [] k = refl
rows_rise (r ∷ rs) k =
    and_from (list_all (λ s. name_lt r.name s.name) rs) (is_rising rs) (above r.name rs k.0) (rows_rise rs k.1)

-- THE SAME NAMES IN ANOTHER ORDER

flips : (x y : List ℕ) → bytes_eq x y ≡ bytes_eq y x
flips x y =
    sym (is_eq-slice_cmp x y) ∙ ap is_eq (nat_list_cmp_total.antisymm x y) ∙ go (slice_cmp nat_cmp y x)
    ∙ is_eq-slice_cmp y x
  where
    go : (o : Ordering) → is_eq (ordering_reverse o) ≡ is_eq o
    go Less = refl
    go Equal = refl
    go Greater = refl

other_name : (x y : List ℕ) → x ≢ y → bytes_eq x y ≡ false
other_name x y ne = go (bytes_eq x y) refl
  where
    go : (b : Bool) → bytes_eq x y ≡ b → bytes_eq x y ≡ false
    go false e = e
    go true e = absurd (ne ((bytes_eq-Decides x y).0 e))

no_name : Listed
no_name = record { name = []; handle = [] }

abbrev nth : List Listed → ℕ → Listed
nth ls i = get_or ls i no_name

at_nth : (ls : List Listed) (i : ℕ) → i < length ls → slice_get ls i ≡ Some (nth ls i)
at_nth ls i below = slice_get-get_or ls i no_name below

name_nth : (ls : List Listed) (i : ℕ) (d : List ℕ) → i < length ls → get_or (names_in ls) i d ≡ (nth ls i).name
name_nth ls i d below = get_or-map name_in ls i no_name d below

module _ (xs : List Listed) (m : Names) (lists : Lists xs m) where
  apart : (i j : ℕ) (d : List ℕ) → i < j → j < length (names_in xs) →
      bytes_eq (get_or (names_in xs) i d) (get_or (names_in xs) j d) ≡ false
  apart i j d before below =
      let size : length (names_in xs) ≡ length xs = length-map xs name_in in
      let below_j : j < length xs = omega (arith, below, size) in
      let below_i : i < length xs = omega (arith, below_j, before) in
      other_name _ _ (λ e.
      let names = sym (name_nth xs i d below_i) ∙ e ∙ name_nth xs j d below_j in
      let same = lists.once i j (nth xs i) (nth xs j) (at_nth xs i below_i) (at_nth xs j below_j) names in
      absurd (omega (arith, same, before)))

  distinct : IsDistinct bytes_eq (names_in xs)
  distinct = IsDistinct-from_apart bytes_eq (names_in xs) apart

  module _ (ys : List Listed) (order : AreInOrder xs ys) where
    -- each of them is the directory's
    pub sound : (k : ℕ) (l : Listed) → slice_get ys k ≡ Some l → get m l.name ≡ Some l.handle
    sound k l at =
        let Is : Listed → Type 0 = λ l. get m l.name ≡ Some l.handle in
        let old : All Is xs = λ k d below. lists.sound k (get_or xs k d) (slice_get-get_or xs k d below) in
        let below = slice_get_within ys k l at in
        subst Is (some_same (slice_get-get_or ys k l below) at) (All-permutation Is xs ys order.moved old k l below)

    -- each of the directory's is there
    pub complete : (name h : List ℕ) → get m name ≡ Some h →
        (k : ℕ) × (slice_get ys k ≡ Some (record { name = name; handle = h }))
    complete name h is =
        let l : Listed = record { name = name; handle = h } in
        let k = lists.complete name h is in
        let below = slice_get_within xs k.0 l k.1 in
        let there = Contains-permutation xs ys l order.moved
        (k.0, below, some_same (slice_get-get_or xs k.0 l below) k.1) in
        (there.0, slice_get-get_or ys there.0 l there.1 ∙ ap Some there.2)

    distinct_still : IsDistinct bytes_eq (names_in ys)
    distinct_still =
        IsDistinct-IsPermutation bytes_eq flips (names_in xs) (names_in ys)
        (IsPermutation-map name_in xs ys order.moved) distinct

    -- and their names stand in order
    pub names_sorted : IsStrictlySortedBy (slice_cmp nat_cmp) (names_in ys)
    names_sorted = sorted_from_all_adjacent nat_list_cmp_total (names_in ys) [] (λ k below.
        let size : length (names_in ys) ≡ length ys = length-map ys name_in in
        let next : k + 1 < length ys = omega (arith, below, size) in
        let here : k < length ys = omega (arith, next) in
        less (get_or (names_in ys) k []) (get_or (names_in ys) (k + 1) [])
        (ap (λ n. is_lt (slice_cmp nat_cmp n (get_or (names_in ys) k []))) (name_nth ys (k + 1) [] next)
        ∙ ap (λ n. is_lt (slice_cmp nat_cmp (nth ys (k + 1)).name n)) (name_nth ys k [] here)
        ∙ order.sorted k no_name (omega arith) next)
        (apart_from_distinct bytes_eq (names_in ys) k (k + 1) [] distinct_still (omega arith) below))
