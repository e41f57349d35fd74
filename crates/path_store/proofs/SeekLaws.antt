-- A walk over the names of a directory that goes on past all that lies below a name.
use Rattle.std.proofs.Common.{inl, inr, ◌≡◌, ℕ, suc, ◌+◌, ◌<◌, ◌≤◌, Bool, true, false, not, cond, ◌&&◌, T, List, [], ◌∷◌, ◌++◌, length, take, drop, get_or, get_or-drop, slice_index, map, Option, Some, None, option_to_list, refl, sym, ap, ◌∙◌, subst, arith, append_assoc, append-nil, length-take, length-drop, take-append-drop, drop-cons}
use Rattle.std.specs.List.{filter}
use Rattle.std.specs.declared.cmp.Ordering.{Ordering}
use Rattle.std.specs.declared.cmp.Ordering.TheVariants.{Less, Equal, Greater}
use Rattle.std.specs.Ordering.{nat_cmp, is_le, is_lt, ordering_then, ordering_reverse}
use Rattle.std.specs.Cmp.{nat_cmp_is}
use Rattle.std.specs.Cmp.Lexicographic.{slice_cmp, nat_list_cmp_total}
use Rattle.std.specs.BTreeMap.Comparable.{le_lt_trans}
use Rattle.std.specs.FinMap.{get, entries, entries_sorted, is_sorted}
use Rattle.std.specs.FinMap.Entries.{below_all}
use Rattle.slab.specs.Slab.{get as slot}
use Rattle.server_trait.specs.declared.server.Listed.{Listed}
use Rattle.path_store.specs.Placed.{Keys, Rows, has_slash}
use Rattle.path_store.specs.Walks.{IsAmong, GoesOn, StandUnder, IsPastName, ListsFrom, pair, listed_at, listed_of, names_from, paths_from}
use Rattle.std.proofs.lemmas.Bool.{not-true}
use Rattle.std.proofs.lemmas.List.{append_cancel_left}
use Rattle.path_store.proofs.AmongLaws.{among_filter, among_right, entry_got, first_test, second_test}
use Rattle.path_store.proofs.OrderLaws.{cmp_after, beginning_first, in_between, from_slash}
use Rattle.path_store.proofs.PlacedLaws.{row_of_key}
use Rattle.path_store.proofs.Rows.{both_tests'}
use Rattle.path_store.proofs.SlashLaws.{not_both, same_tail, same_head, true_or_false, has_slash_in}
use Rattle.path_store.proofs.WalkLaws.{Entry, inside, and_parts, listed_by}

-- ORDER

is_lt_less : (o : Ordering) → T (is_lt o) → o ≡ Less
is_lt_less Less p = refl
is_lt_less Equal p = absurd p
is_lt_less Greater p = absurd p

less_le : (o : Ordering) → o ≡ Less → is_le o ≡ true
less_le o e = ap is_le e

-- at or below, and then below
abbrev cmp : List ℕ → List ℕ → Ordering
cmp a b = slice_cmp nat_cmp a b

le_less : (a b c : List ℕ) → is_le (cmp a b) ≡ true → cmp b c ≡ Less → cmp a c ≡ Less
le_less a b c le less = le_lt_trans nat_list_cmp_total a b c le less

le_or_less : (a b : List ℕ) → is_le (cmp a b) ≡ false → cmp b a ≡ Less
le_or_less a b f = turn (cmp a b) (cmp b a) (nat_list_cmp_total.antisymm b a) f
  where
    turn : (o p : Ordering) → p ≡ ordering_reverse o → is_le o ≡ false → p ≡ Less
    turn Less p e f = absurd (let bad : true ≡ false = f in cc)
    turn Equal p e f = absurd (let bad : true ≡ false = f in cc)
    turn Greater p e f = e

not_le : (a b : List ℕ) → cmp b a ≡ Less → is_le (cmp a b) ≡ false
not_le a b less = ap is_le (nat_list_cmp_total.antisymm a b ∙ ap ordering_reverse less)

le_trans : (a b c : List ℕ) → is_le (cmp a b) ≡ true → is_le (cmp b c) ≡ true → is_le (cmp a c) ≡ true
le_trans a b c p q = elim (true_or_false (is_le (cmp a c))) [
  | inl t ↦ t
  | inr f ↦ absurd (not_both p (not_le a b (le_less b c a q (le_or_less a c f))))
]

-- what goes on from a path comes before what goes on from it by 48
before : (top rest more : List ℕ) → cmp (top ++ 47 ∷ rest) (top ++ 48 ∷ more) ≡ Less
before top rest more = cmp_after top (47 ∷ rest) (48 ∷ more)
    ∙ ap (λ r. ordering_then r (cmp rest more)) (sym (nat_cmp_is 47 48 Less (omega arith)))

-- the range of a walk runs forward
pub runs_forward : (top low end : List ℕ) → GoesOn top low → end ≡ top ++ 48 ∷ [] → cmp low end ≡ Less
runs_forward top low end on end_is = ap (λ l. cmp l end) on.1 ∙ ap (cmp (top ++ 47 ∷ on.0)) end_is ∙ before top on.0 []

-- ENTRIES THAT ASCEND

below_filter : (p : Entry → Bool) (k : List ℕ) (es : List Entry) → T (below_all (slice_cmp nat_cmp) k es) →
    T (below_all (slice_cmp nat_cmp) k (filter p es))
below_filter p k [] below = tt
below_filter p k (e ∷ es) below =
    let rest = below_filter p k es (second_test (is_lt (cmp k e.0)) (below_all (slice_cmp nat_cmp) k es) below) in
    elim (p e) as (λ b. T (below_all (slice_cmp nat_cmp) k (cond b (e ∷ filter p es) (filter p es)))) [
      | true ↦ both_tests' (is_lt (cmp k e.0)) _ (first_test (is_lt (cmp k e.0)) _ below) rest
      | false ↦ rest
    ]

sorted_filter : (p : Entry → Bool) (es : List Entry) → T (is_sorted (slice_cmp nat_cmp) es) →
    T (is_sorted (slice_cmp nat_cmp) (filter p es))
sorted_filter p [] sorted = tt
sorted_filter p (e ∷ es) sorted =
    let below = first_test (below_all (slice_cmp nat_cmp) e.0 es) (is_sorted (slice_cmp nat_cmp) es) sorted in
    let rest = sorted_filter p es
    (second_test (below_all (slice_cmp nat_cmp) e.0 es) (is_sorted (slice_cmp nat_cmp) es) sorted) in
    elim (p e) as (λ b. T (is_sorted (slice_cmp nat_cmp) (cond b (e ∷ filter p es) (filter p es)))) [
      | true ↦ both_tests' (below_all (slice_cmp nat_cmp) e.0 (filter p es)) _ (below_filter p e.0 es below) rest
      | false ↦ rest
    ]

below_among : (k : List ℕ) (es : List Entry) (x : Entry) → T (below_all (slice_cmp nat_cmp) k es) → IsAmong x es →
    cmp k x.0 ≡ Less
below_among k [] x below m = absurd m
below_among k (e ∷ es) x below (inl same) = ap (λ (z : Entry). cmp k z.0) (sym same)
    ∙ is_lt_less (cmp k e.0) (first_test (is_lt (cmp k e.0)) (below_all (slice_cmp nat_cmp) k es) below)
below_among k (e ∷ es) x below (inr m) =
    below_among k es x (second_test (is_lt (cmp k e.0)) (below_all (slice_cmp nat_cmp) k es) below) m

-- what stands before an entry, and what from it on
among_end : (e : Entry) (done later : List Entry) → IsAmong e (done ++ e ∷ later)
among_end e [] later = inl refl
among_end e (d ∷ done) later = inr (among_end e done later)

before_it : (e : Entry) (done later : List Entry) → T (is_sorted (slice_cmp nat_cmp) (done ++ e ∷ later)) →
    (x : Entry) → IsAmong x done → cmp x.0 e.0 ≡ Less
before_it e [] later sorted x m = absurd m
before_it e (d ∷ done) later sorted x (inl same) = ap (λ (z : Entry). cmp z.0 e.0) (sym same)
    ∙ below_among d.0 (done ++ e ∷ later) e
    (first_test (below_all (slice_cmp nat_cmp) d.0 (done ++ e ∷ later)) _ sorted) (among_end e done later)
before_it e (d ∷ done) later sorted x (inr m) =
    before_it e done later (second_test (below_all (slice_cmp nat_cmp) d.0 (done ++ e ∷ later)) _ sorted) x m

from_it : (e : Entry) (done later : List Entry) → T (is_sorted (slice_cmp nat_cmp) (done ++ e ∷ later)) →
    (x : Entry) → IsAmong x (e ∷ later) → is_le (cmp e.0 x.0) ≡ true
from_it e [] later sorted x (inl same) = ap (λ (z : Entry). is_le (cmp e.0 z.0)) (sym same)
    ∙ ap (λ l. is_le (cmp e.0 l)) (sym (append-nil e.0)) ∙ beginning_first e.0 []
from_it e [] later sorted x (inr m) = less_le (cmp e.0 x.0)
    (below_among e.0 later x (first_test (below_all (slice_cmp nat_cmp) e.0 later) _ sorted) m)
from_it e (d ∷ done) later sorted x m =
    from_it e done later (second_test (below_all (slice_cmp nat_cmp) d.0 (done ++ e ∷ later)) _ sorted) x m

-- NAMES THAT A TEST LEAVES OUT

module _ (rows : Rows) (dir : List ℕ) (size : ℕ) where
  -- none is listed of those that a test leaves out
  listed_same : (r : Entry → Bool) (es : List Entry) →
      ((x : Entry) → IsAmong x es → r x ≡ false → listed_at (slot rows x.1) dir size x.0 ≡ None) →
      listed_of rows dir size es ≡ listed_of rows dir size (filter r es)
  listed_same r [] out = refl
  listed_same r (e ∷ es) out =
      let rest = listed_same r es (λ x m f. out x (inr m) f) in
      elim (r e) as (λ b. r e ≡ b → option_to_list (listed_at (slot rows e.1) dir size e.0)
      ++ listed_of rows dir size es ≡ listed_of rows dir size (cond b (e ∷ filter r es) (filter r es))) [
        | true ↦ λ _. ap (λ l. option_to_list (listed_at (slot rows e.1) dir size e.0) ++ l) rest
        | false ↦ λ f. ap (λ o. option_to_list o ++ listed_of rows dir size es) (out e (inl refl) f) ∙ rest
      ] refl

filter_none : (r : Entry → Bool) (done : List Entry) → ((x : Entry) → IsAmong x done → r x ≡ false) →
    filter r done ≡ []
filter_none r [] out = refl
filter_none r (x ∷ done) out = ap (λ b. cond b (x ∷ filter r done) (filter r done)) (out x (inl refl))
    ∙ filter_none r done (λ y m. out y (inr m))

filter-append : (r : Entry → Bool) (xs ys : List Entry) → filter r (xs ++ ys) ≡ filter r xs ++ filter r ys
filter-append r [] ys = refl
filter-append r (x ∷ xs) ys = elim (r x) as (λ b. cond b (x ∷ filter r (xs ++ ys)) (filter r (xs ++ ys))
    ≡ cond b (x ∷ filter r xs) (filter r xs) ++ filter r ys) [
      | true ↦ ap (λ l. x ∷ l) (filter-append r xs ys)
      | false ↦ filter-append r xs ys
    ]

-- a test that asks for more
filter_twice : (r q : Entry → Bool) (es : List Entry) → ((x : Entry) → r x ≡ true → q x ≡ true) →
    filter r (filter q es) ≡ filter r es
filter_twice r q [] more = refl
filter_twice r q (x ∷ es) more =
    elim (q x) as (λ b. q x ≡ b → filter r (cond b (x ∷ filter q es) (filter q es)) ≡ filter r (x ∷ es)) [
      | true ↦ λ _. ap (λ l. cond (r x) (x ∷ l) l) (filter_twice r q es more)
      | false ↦ λ f. filter_twice r q es more
          ∙ ap (λ b. cond b (x ∷ filter r es) (filter r es)) (sym (out f))
    ] refl
  where
    out : q x ≡ false → r x ≡ false
    out f = elim (true_or_false (r x)) [ inl t ↦ absurd (not_both (more x t) f) | inr g ↦ g ]

filter_shorter : (r : Entry → Bool) (es : List Entry) → length (filter r es) ≤ length es
filter_shorter r [] = omega arith
filter_shorter r (x ∷ es) =
    let rest = filter_shorter r es in
    elim (r x) as (λ b. length (cond b (x ∷ filter r es) (filter r es)) ≤ length (x ∷ es)) [
      | true ↦ omega arith
      | false ↦ omega arith
    ]

fewer_left : (r : Entry → Bool) (es : List Entry) (e : Entry) → IsAmong e es → r e ≡ false →
    length (filter r es) < length es
fewer_left r [] e m f = absurd m
fewer_left r (x ∷ es) e (inl same) f =
    let rest = filter_shorter r es in
    let out : filter r (x ∷ es) ≡ filter r es = ap (λ b. cond b (x ∷ filter r es) (filter r es)) (ap r same ∙ f) in
    let same_length = ap length out in
    omega arith
fewer_left r (x ∷ es) e (inr m) f =
    let rest = fewer_left r es e m f in
    elim (r x) as (λ b. length (cond b (x ∷ filter r es) (filter r es)) < length (x ∷ es)) [
      | true ↦ omega arith
      | false ↦ omega arith
    ]

-- PAST A NAME

-- where a longer path goes on by a slash, it goes on from the shorter one
cut_further : (top rest front more : List ℕ) → top ++ 47 ∷ rest ≡ front ++ 47 ∷ more → length top < length front →
    GoesOn top front
cut_further [] rest [] more e less = absurd (omega arith)
cut_further [] rest (f ∷ front) more e less = (front, ap (λ z. z ∷ front) (sym (same_head _ _ _ _ e)))
cut_further (t ∷ top) rest [] more e less = absurd (omega arith)
cut_further (t ∷ top) rest (f ∷ front) more e less =
    let on = cut_further top rest front more (same_tail _ _ _ _ e) (omega arith) in
    (on.0, ap (λ z. z ∷ front) (sym (same_head _ _ _ _ e)) ∙ ap (λ l. t ∷ l) on.1)

-- one entry more of a walk
pub next_listed : (rows : Rows) (dir : List ℕ) (size : ℕ) (e : Entry) (it later whole : List Entry)
    (old new initial : List (List ℕ × List ℕ)) (o : Option (List ℕ × List ℕ)) → it ≡ e ∷ later →
    o ≡ listed_at (slot rows e.1) dir size e.0 → new ≡ old ++ option_to_list o →
    (old ++ listed_of rows dir size it ≡ initial ++ listed_of rows dir size whole)
    × ((done : List Entry) × (done ++ it ≡ whole)) →
    (new ++ listed_of rows dir size later ≡ initial ++ listed_of rows dir size whole)
    × ((done : List Entry) × (done ++ later ≡ whole))
next_listed rows dir size e it later whole old new initial o it_is o_is new_is before = (
  ap (λ l. l ++ listed_of rows dir size later) (new_is ∙ ap (λ x. old ++ option_to_list x) o_is)
      ∙ append_assoc old (option_to_list (listed_at (slot rows e.1) dir size e.0)) (listed_of rows dir size later)
      ∙ ap (λ l. old ++ listed_of rows dir size l) (sym it_is) ∙ before.0,
  (
    before.1.0 ++ e ∷ [],
    append_assoc before.1.0 (e ∷ []) later ∙ ap (λ l. before.1.0 ++ l) (sym it_is) ∙ before.1.1,
  ),
)

-- a slash behind so many bytes
pub past_slash : (size : ℕ) (path : List ℕ) (end : ℕ) (next : List ℕ) → end < length (drop (size + 1) path) →
    slice_index (drop (size + 1) path) end ≡ 47 → next ≡ take (size + 1 + end) path ++ 48 ∷ [] →
    IsPastName size path next
past_slash size path end next within slash next_is =
    let long = length-drop (size + 1) path in
    let there : size + 1 + end < length path = omega arith in
    let at_end : get_or path (size + 1 + end) 0 ≡ 47 = sym (get_or-drop (size + 1) path end 0) ∙ slash in
    record {
      front = take (size + 1 + end) path;
      rest = drop (suc (size + 1 + end)) path;
      path_is = sym (take-append-drop (size + 1 + end) path)
          ∙ ap (λ l. take (size + 1 + end) path ++ l) (drop-cons path (size + 1 + end) 0 there
          ∙ ap (λ b. b ∷ drop (suc (size + 1 + end)) path) at_end);
      behind = (let front_long = length-take (size + 1 + end) path in omega arith);
      next_is = next_is;
    }

module _ (top : List ℕ) (keys : Keys) (rows : Rows) (dir low : List ℕ) (on : GoesOn top low)
    (placed : StandUnder dir top keys rows) where
  abbrev size : ℕ
  size = length top

  -- what lies below a name is no name
  no_name : (x : Entry) (front rest : List ℕ) → get keys x.0 ≡ Some x.1 → GoesOn top front → x.0 ≡ front ++ 47 ∷ rest →
      listed_at (slot rows x.1) dir size x.0 ≡ None
  no_name x front rest at_x front_on x_is = elim (listed_at (slot rows x.1) dir size x.0) as (λ o.
      listed_at (slot rows x.1) dir size x.0 ≡ o → o ≡ None) [
        | None ↦ λ _. refl
        | Some y ↦ λ is.
            let by = listed_by (slot rows x.1) dir size x.0 y.0 y.1 is in
            let at_name = placed x.0 by.row (row_of_key keys rows x.0 x.1 at_x ∙ by.found) by.dir_is in
            let longer : x.0 ≡ top ++ 47 ∷ (front_on.0 ++ 47 ∷ rest) = x_is
            ∙ ap (λ l. l ++ 47 ∷ rest) front_on.1 ∙ append_assoc top (47 ∷ front_on.0) (47 ∷ rest) in
            let name : front_on.0 ++ 47 ∷ rest ≡ at_name.0 =
            same_tail _ _ _ _ (append_cancel_left top _ _ (sym longer ∙ at_name.1)) in
            absurd (not_both (ap has_slash (sym name) ∙ has_slash_in front_on.0 rest) at_name.2)
      ] refl

  module _ (e : Entry) (done later : List Entry)
      (split : done ++ e ∷ later ≡ paths_from top low (entries keys)) (next : List ℕ)
      (past : IsPastName size e.0 next) where
    abbrev walked : List Entry
    walked = paths_from top low (entries keys)

    walk_sorted : T (is_sorted (slice_cmp nat_cmp) (done ++ e ∷ later))
    walk_sorted = subst (λ l. T (is_sorted (slice_cmp nat_cmp) l)) (sym split)
        (sorted_filter (inside top low) (entries keys) (entries_sorted keys))

    e_walked : IsAmong e walked
    e_walked = subst (IsAmong e) split (among_end e done later)

    in_walk : (x : Entry) → IsAmong x walked → (get keys x.0 ≡ Some x.1) × (is_le (cmp low x.0) ≡ true)
        × (is_le (cmp (top ++ 48 ∷ []) x.0) ≡ false)
    in_walk x m =
        let part = among_filter (inside top low) x (entries keys) m in
        let tests = and_parts (is_le (cmp low x.0)) (not (is_le (cmp (top ++ 48 ∷ []) x.0))) part.1 in
        (entry_got keys x.0 x.1 part.0, tests.0, not-true (is_le (cmp (top ++ 48 ∷ []) x.0)) tests.1)

    slash_low : is_le (cmp (top ++ 47 ∷ []) low) ≡ true
    slash_low = ap (λ l. is_le (cmp (top ++ 47 ∷ []) l)) on.1 ∙ from_slash top on.0

    e_on : GoesOn top e.0
    e_on = let w = in_walk e e_walked in in_between top e.0 (le_trans (top ++ 47 ∷ []) low e.0 slash_low w.1) w.2

    front_on : GoesOn top past.front
    front_on = cut_further top e_on.0 past.front past.rest (sym e_on.1 ∙ past.path_is) past.behind

    e_before : cmp e.0 next ≡ Less
    e_before = ap (λ l. cmp l next) past.path_is ∙ ap (cmp (past.front ++ 47 ∷ past.rest)) past.next_is
        ∙ before past.front past.rest []

    -- what the later walk has, this one has
    later_within : (x : Entry) → inside top next x ≡ true → inside top low x ≡ true
    later_within x t =
        let tests = and_parts (is_le (cmp next x.0)) (not (is_le (cmp (top ++ 48 ∷ []) x.0))) t in
        let w = in_walk e e_walked in
        ap (λ b. b && not (is_le (cmp (top ++ 48 ∷ []) x.0)))
        (le_trans low e.0 x.0 w.1 (le_trans e.0 next x.0 (less_le (cmp e.0 next) e_before) tests.0)) ∙ tests.1

    -- what it leaves out comes before, or lies below the name
    done_out : (x : Entry) → IsAmong x done → inside top next x ≡ false
    done_out x m = ap (λ b. b && not (is_le (cmp (top ++ 48 ∷ []) x.0)))
        (not_le next x.0 (nat_list_cmp_total.trans x.0 e.0 next (before_it e done later walk_sorted x m) e_before))

    later_out : (x : Entry) → IsAmong x (e ∷ later) → inside top next x ≡ false →
        listed_at (slot rows x.1) dir size x.0 ≡ None
    later_out x m f =
        let w = in_walk x (subst (IsAmong x) split (among_right x done (e ∷ later) m)) in
        let not_next : is_le (cmp next x.0) ≡ false = and_first (is_le (cmp next x.0)) _ f (ap not w.2) in
        let from_front : is_le (cmp (past.front ++ 47 ∷ []) x.0) ≡ true = le_trans (past.front ++ 47 ∷ []) e.0 x.0
        (ap (λ l. is_le (cmp (past.front ++ 47 ∷ []) l)) past.path_is ∙ from_slash past.front past.rest)
        (from_it e done later walk_sorted x m) in
        let below = in_between past.front x.0 from_front (ap (λ l. is_le (cmp l x.0)) (sym past.next_is) ∙ not_next) in
        no_name x past.front below.0 w.0 front_on below.1
      where
        and_first : (a b : Bool) → (a && b) ≡ false → b ≡ true → a ≡ false
        and_first true b f t = absurd (not_both t f)
        and_first false b f t = refl

    next_walk : filter (inside top next) walked ≡ paths_from top next (entries keys)
    next_walk = filter_twice (inside top next) (inside top low) (entries keys) later_within

    pub names_next : listed_of rows dir size (e ∷ later) ≡ names_from rows dir top keys next
    names_next = listed_same rows dir size (inside top next) (e ∷ later) later_out
        ∙ ap (λ l. listed_of rows dir size (l ++ filter (inside top next) (e ∷ later)))
        (sym (filter_none (inside top next) done done_out))
        ∙ ap (listed_of rows dir size) (sym (filter-append (inside top next) done (e ∷ later))
        ∙ ap (filter (inside top next)) split ∙ next_walk)

    pub goes_on : GoesOn top next
    goes_on = (
      front_on.0 ++ 48 ∷ [],
      past.next_is ∙ ap (λ l. l ++ 48 ∷ []) front_on.1 ∙ append_assoc top (47 ∷ front_on.0) (48 ∷ []),
    )

    pub fewer : length (paths_from top next (entries keys)) < length walked
    fewer = subst (λ l. length l < length walked) next_walk (fewer_left (inside top next) walked e e_walked
        (ap (λ b. b && not (is_le (cmp (top ++ 48 ∷ []) e.0))) (not_le next e.0 e_before)))

    pub lists_on : (old new : List Listed) → map pair new ++ listed_of rows dir size (e ∷ later)
        ≡ map pair old ++ names_from rows dir top keys low →
        ListsFrom dir top keys rows low old (Some next) new
    lists_on old new is = record {
      listed = ap (λ l. map pair new ++ l) (sym names_next) ∙ is;
      later = goes_on;
      fewer = fewer;
    }

  -- nothing is left
  pub lists_all : (old new : List Listed) → map pair new ++ listed_of rows dir size []
      ≡ map pair old ++ names_from rows dir top keys low →
      ListsFrom dir top keys rows low old None new
  lists_all old new is = record { listed = is; later = tt; fewer = tt }
