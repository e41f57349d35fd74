-- The code's fetch, which walks by digests, is one of the loose Fetches: also by the rule of a true source.
use Rattle.std.proofs.Common.{◌≡◌, ◌≢◌, ℕ, zero, suc, ◌+◌, ◌-◌, ◌^◌, ◌<◌, ◌≤◌, ◌⊎◌, Bool, true, false, cond, List, [], ◌∷◌, ◌++◌, length, take, get_or, refl, sym, ◌∙◌, ap, subst, arith}
use Rattle.std.specs.Prelude.{Some, bytes_eq, not, slice_get}
use Rattle.std.specs.List.{All, Contains}
use Rattle.std.proofs.lemmas.Slice.Eq.{bytes_eq-Decides}
use Rattle.std.proofs.lemmas.List.Elements.{Contains-get_or, All-nil, All-append}
use Rattle.abs_model.specs.declared.Entry.{Entry}
use Rattle.cluster_model.specs.Service.{Service}
use Rattle.cluster_model.specs.Tree.{Item, item_at, text_of, entry_text, digests, digest_at, root}
use Rattle.cluster_model.specs.State.{Condition, Live, Down, Rebuilding, Running, Fetching, Replica}
use Rattle.cluster_model.specs.Moments.{Moment, Faults, gone, replica}
use Rattle.cluster_model.specs.Step.{FetchEnd, Missing, Forgets, Whole, is_target, aimed, items_towards, end_towards}
use Rattle.cluster_model.specs.Fair.{IsKept, IsApartNow, IsArrayIn, IsSavedIn, IsHeldListIn, Known, Saved, OfHeld, OfArray}
use Rattle.cluster_model.specs.Right.{IsSpelled}
use Rattle.cluster_model.specs.Good.{AllGood, IsGoodIn}
use Rattle.cluster_model.specs.Loose.{IsPut, Serves, ServesIn, IsLooseFetch}
use Rattle.cluster_model.specs.Walk.{sought, IsGotAt, IsAllGotAt, IsWalk, IsWholeWalk, IsEnded, IsWalked, IsWalkedFetch}
use Rattle.cluster_model.proofs.Same.{get_or_any}
use Rattle.cluster_model.proofs.Keeps.{IsKnown}
use Rattle.cluster_model.proofs.Premise.{Ready, held_known, held_list, items_known, rebuilding_within}
use Rattle.cluster_model.proofs.RootedWalks.{walk_root}
use Rattle.cluster_model.proofs.Sources.{same_texts, source_rule}

-- With nothing sought nothing is got, and nothing is missing

walk_none : (S : Service) (own : List (List ℕ)) (l : ℕ) (fr : List (ℕ × List ℕ)) (got : List (Item × List ℕ)) →
    sought S own l fr ≡ [] → IsWalk S own l fr got → got ≡ []
walk_none S own zero fr got e w = subst (λ xs. IsGotAt S (λ lower rest. rest ≡ []) 0 xs [] got) e w
walk_none S own (suc l) fr got e w =
    walk_none S own l [] got refl
    (subst (λ xs. IsGotAt S (λ lower rest. IsWalk S own l lower rest) (suc l) xs [] got) e w)

whole_none : (S : Service) (own : List (List ℕ)) (l : ℕ) (fr : List (ℕ × List ℕ)) → sought S own l fr ≡ [] →
    IsWholeWalk S own l fr []
whole_none S own zero fr e = subst (λ xs. IsAllGotAt S (λ lower rest. rest ≡ []) 0 xs [] []) (sym e) refl
whole_none S own (suc l) fr e = subst
    (λ xs. IsAllGotAt S (λ lower rest. IsWholeWalk S own l lower rest) (suc l) xs [] []) (sym e)
    (whole_none S own l [] refl)

nothing_sought : (S : Service) (own : List (List ℕ)) (l : ℕ) (d : List ℕ) → digest_at S own l 0 ≡ d →
    sought S own l ((0, d) ∷ []) ≡ []
nothing_sought S own l d e = by (bytes_eq (digest_at S own l 0) d) ((bytes_eq-Decides (digest_at S own l 0) d).1 e)
  where
    one : List (ℕ × List ℕ)
    one = (0, d) ∷ []

    by : (b : Bool) → b ≡ true → cond (not b) one [] ≡ []
    by true t = refl
    by false t = absurd (cc)

append_none : {X : Type 0} (xs ys : List X) → xs ++ ys ≡ [] → (xs ≡ []) × (ys ≡ [])
append_none [] ys e = (refl, e)
append_none (x ∷ xs) ys e = absurd (cc)

-- What a state keeps, where its arrays are good

module _ (S : Service) (laws : IsSpelled S) (m : Moment) (good : AllGood S m.state) where
  abbrev T : List ℕ → Type 0
  T = IsKept S m.state

  pub known_in : (j : ℕ) → j < length m.state.replicas → (c : Condition) → (replica m.state j).condition ≡ c →
      IsGoodIn S c → IsKnown S T c
  known_in j within (Live l) e g = (
    g,
    λ k d low. (let c = get_or l.holds k d in let has : Contains l.holds c = Contains-get_or l.holds k d low in (
      λ i x low'. (let p = get_or c.saved i x in Saved j within
          (subst (IsSavedIn p.1) (sym e) (p.0, c, has, Contains-get_or c.saved i x low'))),
      λ l' k' item. OfHeld j c.digests l' k' within (subst (IsHeldListIn c.digests) (sym e) (c, has, refl)) item refl,
    )),
  )
  known_in j within Down e g = tt
  known_in j within (Rebuilding b) e g = (
    g,
    λ k d low. (let p = get_or b.got k d in Saved j within
        (subst (IsSavedIn p.1) (sym e) (p.0, Contains-get_or b.got k d low))),
  )

  pub kept_ready : Ready S T m
  kept_ready = (
    (λ t h. Known h),
    (
      good.requests,
      λ k d low. (let same : get_or m.state.replicas k gone ≡ get_or m.state.replicas k d =
          get_or_any m.state.replicas k gone d low in
          subst (λ (x : Replica). IsKnown S T x.condition) same
          (known_in k low (replica m.state k).condition refl (good.arrays k gone low))),
    ),
  )

-- the texts of what a source serves are kept
module _ (S : Service) (laws : IsSpelled S) (m : Moment) (good : AllGood S m.state) (j : ℕ) (c : List Entry)
    (l : Running) (within : j < length m.state.replicas)
    (is_live_there : (replica m.state j).condition ≡ Live l) (serves : Serves S m.state.stable m.state.root l c) where
  known_live : IsKnown S (IsKept S m.state) (Live l)
  known_live = known_in S laws m good j within (Live l) is_live_there
      (subst (IsGoodIn S) is_live_there (good.arrays j gone within))

  pub in_source : (l' k : ℕ) → l' ≤ S.levels → k < 16 ^ (S.levels - l') → IsKept S m.state (item_at S c l' k)
  in_source zero k high low = subst (IsKept S m.state) (serves.texts k)
      (held_known S (IsKept S m.state) m (kept_ready S laws m good) m.state.stable k l.holds (text_of S l.array k)
      (Known (OfArray j l.array (record { level = 0; number = k }) within
      (subst (IsArrayIn l.array) (sym is_live_there) refl) (high, low) refl)) known_live.1)
  in_source (suc l') k high low = held_list S (IsKept S m.state) m (kept_ready S laws m good) m.state.stable
      (digests S c) l.holds serves.listed known_live.1 l' k (high, low)

pub aimed_array : (p : ℕ) (b : Fetching) → (aimed p b).array ≡ b.array
aimed_array p b = by (is_target p b.target)
  where
    by : (t : Bool) → (cond t b (record { array = b.array; target = Some p; got = [] })).array ≡ b.array
    by true = refl
    by false = refl

module _ (S : Service) (laws : IsSpelled S) (faults : Faults) (r n : ℕ) (m : Moment) (b : Fetching)
    (items : List (Item × List ℕ)) (end : FetchEnd)
    (good : AllGood S m.state) (live : (replica m.state r).condition ≡ Rebuilding b)
    (w : IsWalkedFetch S faults r n m b items end) where
  abbrev aim : Fetching
  aim = aimed m.state.stable b

  abbrev K : List ℕ → Type 0
  K = IsKept S m.state

  abbrev got : List (Item × List ℕ)
  got = (aimed m.state.stable b).got ++ items

  good_b : S.good b.array
  good_b = subst (IsGoodIn S) live (good.arrays r gone (rebuilding_within m.state r b live))

  same_aim : aim.array ≡ b.array
  same_aim = aimed_array m.state.stable b

  good_aim : S.good aim.array
  good_aim = subst S.good (sym same_aim) good_b

  whole_is : (a : List Entry) → end ≡ Whole a → S.good a × (root S a ≡ m.state.root) × IsPut S b.array got a
  whole_is a e =
      let f : IsEnded S m.state.root aim.array got (Whole a) = subst
      (IsEnded S m.state.root aim.array got) e w.walked.ended in (
        f.1,
        walk_root S aim.array a m.state.root got (laws.good_size aim.array good_aim) f.2 f.0 w.walked.going.1,
        subst (λ x. IsPut S x got a) same_aim f.2,
      )

  -- nothing to fetch

  none_sought : root S b.array ≡ m.state.root → sought S (digests S aim.array) S.levels ((0, m.state.root) ∷ []) ≡ []
  none_sought same = nothing_sought S (digests S aim.array) S.levels m.state.root (ap (root S) same_aim ∙ same)

  nothing_is : root S b.array ≡ m.state.root → (items ≡ []) × (end ≡ Whole b.array)
  nothing_is same =
      let none : got ≡ [] = walk_none S (digests S aim.array) S.levels ((0, m.state.root) ∷ []) got
      (none_sought same) w.walked.going.0 in
      let all : IsWholeWalk S (digests S aim.array) S.levels ((0, m.state.root) ∷ []) got = subst
      (λ xs. IsWholeWalk S (digests S aim.array) S.levels ((0, m.state.root) ∷ []) xs) (sym none)
      (whole_none S (digests S aim.array) S.levels ((0, m.state.root) ∷ []) (none_sought same)) in
      ((append_none aim.got items none).1, by none all end w.walked.ended ∙ ap Whole same_aim)
    where
      put_none : (got ≡ []) → IsPut S aim.array got aim.array
      put_none none = subst (λ xs. IsPut S aim.array xs aim.array) (sym none)
          (record { as_long = refl; texts = λ i low. refl })

      same_array : (a : List Entry) → S.good a → got ≡ [] → IsPut S aim.array got a → a ≡ aim.array
      same_array a ok none p =
          let q : IsPut S aim.array [] a = subst (λ xs. IsPut S aim.array xs a) none p in
          same_texts S (λ i x y. (slice_get a i ≡ Some x) × (slice_get aim.array i ≡ Some y))
          (λ i x y g e. laws.text_is a aim.array ok good_aim i x y g.0 g.1 e) 0 a aim.array q.as_long
          (λ i x y ex ey. let z : 0 + i ≡ i = omega arith in
          subst (λ k. (slice_get a k ≡ Some x) × (slice_get aim.array k ≡ Some y)) (sym z) (ex, ey))
          (λ i low. let z : i ≡ 0 + i = omega arith in subst
          (λ k. entry_text S k (slice_get a i) ≡ entry_text S k (slice_get aim.array i)) z (q.texts i low))

      by : got ≡ [] → IsWholeWalk S (digests S aim.array) S.levels ((0, m.state.root) ∷ []) got → (e : FetchEnd) →
          IsEnded S m.state.root aim.array got e → e ≡ Whole aim.array
      by none all Missing f = absurd (f all)
      by none all Forgets f = absurd (f.1 aim.array (put_none none) good_aim)
      by none all (Whole a) f = ap Whole (same_array a f.1 none f.2)

  -- a true source

  known_items : All (λ (x : Item × List ℕ). K x.1) items
  known_items = items_known S K m (kept_ready S laws m good) r items w.inside w.given

  known_got : All (λ (x : Item × List ℕ). K x.1) (aimed m.state.stable b).got
  known_got = by (is_target m.state.stable b.target)
    where
      known : All (λ (x : Item × List ℕ). K x.1) b.got
      known = (known_in S laws m good r (rebuilding_within m.state r b live) (Rebuilding b) live good_b).1

      by : (t : Bool) → All (λ (x : Item × List ℕ). K x.1)
          (cond t b (record { array = b.array; target = Some m.state.stable; got = [] })).got
      by true = known
      by false = All-nil (λ (x : Item × List ℕ). K x.1)

  in_aim : (l k : ℕ) → l ≤ S.levels → k < 16 ^ (S.levels - l) → K (item_at S aim.array l k)
  in_aim l k high low = Known
      (OfArray r aim.array (record { level = l; number = k }) (rebuilding_within m.state r b live)
      (subst (IsArrayIn aim.array) (sym live) same_aim) (high, low) refl)

  module _ (j : ℕ) (c : List Entry) (l : Running) (within : j < length m.state.replicas)
      (is_live_there : (replica m.state j).condition ≡ Live l) (serves : Serves S m.state.stable m.state.root l c) where
    source_is : IsApartNow S m.state → (g : ℕ) →
        (length items ≤ g → (n ≡ length items) ⊎ IsWholeWalk S (digests S aim.array) S.levels
        ((0, m.state.root) ∷ []) got) →
        (take (suc g) items ≡ take (suc g) (items_towards S c n aim)) × (length items ≤ g → end ≡ end_towards S c n aim)
    source_is apart g goes_on =
        source_rule S laws aim c n items end K apart (laws.good_size aim.array good_aim)
        (laws.good_size c serves.good) in_aim (in_source S laws m good j c l within is_live_there serves)
        (All-append (λ (x : Item × List ℕ). K x.1) aim.got items known_got known_items) serves.good
        (subst (λ d. IsWalked S d n aim items end) (sym serves.has_root) w.walked) g
        (λ low. subst (λ d. (n ≡ length items) ⊎ IsWholeWalk S (digests S aim.array) S.levels ((0, d) ∷ []) got)
        (sym serves.has_root) (goes_on low))

  true_source_is : IsApartNow S m.state → (j : ℕ) (c : List Entry) → j < length m.state.replicas → j ≢ r →
      (k : Condition) → (replica m.state j).condition ≡ k → ServesIn S m.state.stable m.state.root c k →
      (g : ℕ) → ((stage : ℕ) → stage ≤ g → faults stage j ≡ false) →
      (take (suc g) items ≡ take (suc g) (items_towards S c n aim)) × (length items ≤ g → end ≡ end_towards S c n aim)
  true_source_is apart j c within other (Live l) e serves g free =
      source_is j c l within e serves apart g
      (λ low. w.goes_on apart j c within other (subst (ServesIn S m.state.stable m.state.root c) (sym e) serves)
      (λ stage early. free stage (omega arith)))
  true_source_is apart j c within other Down e serves g free = absurd serves
  true_source_is apart j c within other (Rebuilding b') e serves g free = absurd serves

  pub walked_loose : IsLooseFetch S faults r n m b items end
  walked_loose = record {
    few = w.walked.few;
    given = w.given;
    inside = w.inside;
    whole = whole_is;
    nothing = nothing_is;
    true_source = λ apart j c within other serves g free. true_source_is apart j c within other
        (replica m.state j).condition refl serves g free;
  }
