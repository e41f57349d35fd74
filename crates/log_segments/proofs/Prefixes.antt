-- The keys that begin with a prefix stand together in their order, so a walk from the prefix on finds all of them.
use Rattle.std.proofs.Common.{inl, inr, ◌≡◌, ◌⊎◌, ◌++◌, ◌<◌, ◌∙◌, ℕ, Bool, true, false, not, ◌&&◌, cond, List, [], ◌∷◌, Some, None, refl, sym, ap, subst}
use Rattle.std.proofs.lemmas.List.Elements.{All-head, All-tail, All-weaker}
use Rattle.std.proofs.lemmas.List.Kept.{IsStrictlySortedBy-filter}
use Rattle.std.proofs.lemmas.Map.Entries.{lookup-filter-keys}
use Rattle.std.proofs.lemmas.Map.Keys.{sorted_head, sorted_tail}
use Rattle.std.proofs.lemmas.Map.Text.{is_eq-slice_cmp}
use Rattle.std.proofs.lemmas.Slice.Eq.{bytes_eq-Decides}
use Rattle.std.specs.BTreeMap.{BTreeMap, IsOrdered}
use Rattle.std.specs.BTreeMap.Range.{IsEntryInRange, entries_between, range_contains}
use Rattle.std.specs.BTreeSet.{BTreeSet, contains}
use Rattle.std.specs.Cmp.{nat_cmp_is, ranked}
use Rattle.std.specs.Cmp.Lexicographic.{nat_list_cmp_total, slice_cmp}
use Rattle.std.specs.FinMap as map
use Rattle.std.specs.FinMap.{FinMap, from_entries}
use Rattle.std.specs.List.{All, AllByRecursion, filter}
use Rattle.std.specs.List.Sorted.{IsStrictlySortedBy}
use Rattle.std.specs.Map.{keys_of, lookup}
use Rattle.std.specs.Ordering.{eq_by_cmp, is_eq, is_gt, is_le, nat_cmp, ordering_then}
use Rattle.std.specs.declared.cmp.Ordering.{Ordering}
use Rattle.std.specs.declared.cmp.Ordering.TheVariants.{Less, Equal, Greater}
use Rattle.std.specs.declared.ops.Bound.TheVariants.{Included, Unbounded}
use Rattle.log_segments.specs.Segments.{HasUnder}
use Rattle.log_segments.proofs.MapViews.{get-view}

abbrev pub Entries : Type 0
Entries = List (List ℕ × ℕ)

abbrev pub Places : Type 0
Places = FinMap (slice_cmp nat_cmp) ℕ

abbrev order : List ℕ → List ℕ → Ordering
order a b = slice_cmp nat_cmp a b

-- whether a key is this one
abbrev is : List ℕ → List ℕ → Bool
is q k = eq_by_cmp (slice_cmp nat_cmp) q k

-- THE ORDER OF KEYS

same_key : (q k : List ℕ) → is q k ≡ true → q ≡ k
same_key q k e = (bytes_eq-Decides q k).0 (sym (is_eq-slice_cmp q k) ∙ e)

tied : (x : ℕ) → nat_cmp x x ≡ Equal
tied x = sym (nat_cmp_is x x Equal refl)

-- a beginning comes first
first : (prefix rest : List ℕ) → is_le (order prefix (prefix ++ rest)) ≡ true
first [] [] = refl
first [] (y ∷ rest) = refl
first (x ∷ prefix) rest = ap (λ r. is_le (ordering_then r (order prefix (prefix ++ rest)))) (tied x) ∙ first prefix rest

-- what stands between a prefix and what begins with it begins with it too
between : (prefix k rest : List ℕ) → is_gt (order prefix k) ≡ false → order k (prefix ++ rest) ≡ Less
    → (more : List ℕ) × (k ≡ prefix ++ more)
between [] k rest a b = (k, refl)
between (x ∷ prefix) [] rest a b = absurd (let bad : true ≡ false = a in cc)
between (x ∷ prefix) (y ∷ k) rest a b =
    elim (nat_cmp x y) as (λ r. r ≡ nat_cmp x y → is_gt (ordering_then r (order prefix k)) ≡ false
    → (more : List ℕ) × (y ∷ k ≡ x ∷ (prefix ++ more))) [
      | Less ↦ λ e _.
          let less : x < y = ranked x y Less e in
          let turned : Greater ≡ nat_cmp y x = nat_cmp_is y x Greater less in
          absurd (let bad : Greater ≡ Less = ap (λ r. ordering_then r (order k (prefix ++ rest))) turned ∙ b in cc)
      | Equal ↦ λ e a'.
          let same : x ≡ y = ranked x y Equal e in
          let turned : Equal ≡ nat_cmp y x = nat_cmp_is y x Equal (sym same) in
          let more = between prefix k rest a' (ap (λ r. ordering_then r (order k (prefix ++ rest))) turned ∙ b) in
          (more.0, ap (λ z. z ∷ k) (sym same) ∙ ap (λ l. x ∷ l) more.1)
      | Greater ↦ λ _ a'. absurd (let bad : true ≡ false = a' in cc)
    ] refl a

-- a key that is found among greater ones is greater
found_above : (k q : List ℕ) (es : Entries) (p : ℕ) → AllByRecursion (λ y. order k y ≡ Less) (keys_of es)
    → lookup (is q) es ≡ Some p → order k q ≡ Less
found_above k q [] p above found = absurd (let no : None ≡ Some p = found in cc)
found_above k q (e ∷ es) p above found =
    elim (is q e.0) as (λ b. is q e.0 ≡ b → cond b (Some e.1) (lookup (is q) es) ≡ Some p → order k q ≡ Less) [
      | true ↦ λ same _. subst (λ y. order k y ≡ Less) (sym (same_key q e.0 same)) above.0
      | false ↦ λ _ later. found_above k q es p above.1 later
    ] refl found

keys-filter : (p : List ℕ → Bool) (es : Entries) → keys_of (filter (λ e. p e.0) es) ≡ filter p (keys_of es)
keys-filter p [] = refl
keys-filter p (e ∷ es) =
    elim (p e.0) as (λ b. keys_of (cond b (e ∷ filter (λ e. p e.0) es) (filter (λ e. p e.0) es))
    ≡ cond b (e.0 ∷ filter p (keys_of es)) (filter p (keys_of es))) [
      | true ↦ ap (λ ks. e.0 ∷ ks) (keys-filter p es)
      | false ↦ keys-filter p es
    ]

-- A WALK

-- an entry of the map whose key does not come before the prefix
abbrev IsBehind : Places → List ℕ → List ℕ × ℕ → Type 0
IsBehind m prefix e = (is_gt (order prefix e.0) ≡ false) × (map.get m e.0 ≡ Some e.1)

-- what the set of a walk holds while these entries are left
pub record IsPassed (m : Places) (prefix : List ℕ) (left : Entries) (set : BTreeSet ℕ) : Type 0 where
  pub has : (p : ℕ) → contains nat_cmp set p ≡ true → (rest : List ℕ) × (map.get m (prefix ++ rest) ≡ Some p)
  pub all : (rest : List ℕ) (p : ℕ) → map.get m (prefix ++ rest) ≡ Some p
      → (contains nat_cmp set p ≡ true) ⊎ (lookup (is (prefix ++ rest)) left ≡ Some p)
  pub rising : IsStrictlySortedBy (slice_cmp nat_cmp) (keys_of left)
  pub inside : All (IsBehind m prefix) left

-- it begins with all entries from the prefix on
pub begun : (b : BTreeMap (List ℕ) ℕ) (m : Places) (prefix : List ℕ) (left : Entries) (set : BTreeSet ℕ)
    → from_entries b.entries ≡ m → IsOrdered (slice_cmp nat_cmp) b
    → left ≡ entries_between (slice_cmp nat_cmp) (Included prefix) Unbounded b.entries
    → All (IsEntryInRange (slice_cmp nat_cmp) (Included prefix) Unbounded b) left
    → set.keys ≡ [] → IsPassed m prefix left set
begun b m prefix left set view ordered is_left there none =
    let test = range_contains (slice_cmp nat_cmp) (Included prefix) Unbounded in
    let got : (q : List ℕ) → map.get m q ≡ lookup (is q) b.entries =
    λ q. ap (λ m. map.get m q) (sym view) ∙ get-view nat_list_cmp_total b.entries q in
    record {
      has = λ p is_in. absurd (let no : contains nat_cmp set p ≡ false = rw none refl in cc);
      all = λ rest p at. inr (ap (lookup (is (prefix ++ rest))) is_left
          ∙ (lookup-filter-keys (is (prefix ++ rest)) test true (λ k e.
          ap test (sym (same_key (prefix ++ rest) k e)) ∙ ap (λ b. b && not false) (first prefix rest)) b.entries
          ∙ (sym (got (prefix ++ rest)) ∙ at)));
      rising = subst (IsStrictlySortedBy (slice_cmp nat_cmp)) (sym (ap keys_of is_left ∙ keys-filter test b.entries))
          (IsStrictlySortedBy-filter (slice_cmp nat_cmp) test (keys_of b.entries) ordered);
      inside = All-weaker (IsEntryInRange (slice_cmp nat_cmp) (Included prefix) Unbounded b) (IsBehind m prefix) (λ e h. (h.0.0, got e.0 ∙ h.1)) left there;
    }

module _ (m : Places) (prefix : List ℕ) (e : List ℕ × ℕ) (left : Entries) (set : BTreeSet ℕ)
    (walk : IsPassed m prefix (e ∷ left) set) where
  -- a key with the prefix was passed
  pub passed : (new : BTreeSet ℕ) (more : List ℕ) → e.0 ≡ prefix ++ more
      → ((q : ℕ) → contains nat_cmp new q ≡ cond (is_eq (nat_cmp e.1 q)) true (contains nat_cmp set q))
      → IsPassed m prefix left new
  passed new more key put =
      let here = (All-head (IsBehind m prefix) e left walk.inside).1 in
      let itself : contains nat_cmp new e.1 ≡ true = put e.1
      ∙ ap (λ r. cond (is_eq r) true (contains nat_cmp set e.1)) (tied e.1) in
      let kept : (q : ℕ) → contains nat_cmp set q ≡ true → contains nat_cmp new q ≡ true =
      λ q old. put q ∙ (ap (λ b. cond (is_eq (nat_cmp e.1 q)) true b) old ∙ both (is_eq (nat_cmp e.1 q))) in
      record {
        has = λ p is_in. elim (nat_cmp e.1 p) as (λ r. r ≡ nat_cmp e.1 p
            → cond (is_eq r) true (contains nat_cmp set p) ≡ true
            → (rest : List ℕ) × (map.get m (prefix ++ rest) ≡ Some p)) [
              | Less ↦ λ _ old. walk.has p old
              | Equal ↦ λ s _. (more, ap (map.get m) (sym key) ∙ (here ∙ ap Some (ranked e.1 p Equal s)))
              | Greater ↦ λ _ old. walk.has p old
            ] refl (sym (put p) ∙ is_in);
        all = λ rest p at. elim (walk.all rest p at) [
          | inl old ↦ inl (kept p old)
          | inr found ↦ elim (is (prefix ++ rest) e.0) as (λ b. cond b (Some e.1) (lookup (is (prefix ++ rest)) left)
              ≡ Some p → (contains nat_cmp new p ≡ true) ⊎ (lookup (is (prefix ++ rest)) left ≡ Some p)) [
                | true ↦ λ f. inl (let same : e.1 ≡ p = cc in subst (λ q. contains nat_cmp new q ≡ true) same itself)
                | false ↦ λ f. inr f
              ] found
        ];
        rising = sorted_tail (slice_cmp nat_cmp) e.0 (keys_of left) walk.rising;
        inside = All-tail (IsBehind m prefix) e left walk.inside;
      }
    where
      both : (b : Bool) → cond b true true ≡ true
      both true = refl
      both false = refl

  -- behind a key without the prefix there is none with it
  pub walk_ends : ((more : List ℕ) → e.0 ≡ prefix ++ more → ⊥) → HasUnder m prefix set
  walk_ends other p = (
    λ is_in. walk.has p is_in,
    λ at. elim (walk.all at.0 p at.1) [
      | inl old ↦ old
      | inr found ↦ absurd (elim (is (prefix ++ at.0) e.0) as (λ b. is (prefix ++ at.0) e.0 ≡ b
          → cond b (Some e.1) (lookup (is (prefix ++ at.0)) left) ≡ Some p → ⊥) [
            | true ↦ λ same _. other at.0 (sym (same_key (prefix ++ at.0) e.0 same))
            | false ↦ λ _ later.
                let above = found_above e.0 (prefix ++ at.0) left p
                (sorted_head (slice_cmp nat_cmp) e.0 (keys_of left) walk.rising) later in
                let more = between prefix e.0 at.0 (All-head (IsBehind m prefix) e left walk.inside).0 above in
                other more.0 more.1
          ] refl found)
    ],
  )

-- a walk to the end found all
pub walked : (m : Places) (prefix : List ℕ) (set : BTreeSet ℕ) → IsPassed m prefix [] set → HasUnder m prefix set
walked m prefix set walk p = (
  λ is_in. walk.has p is_in,
  λ at. elim (walk.all at.0 p at.1) [ inl old ↦ old | inr found ↦ absurd (let no : None ≡ Some p = found in cc) ],
)
