-- Step's own Fetch is a loose one, where the state is right, fair and steady and Apart holds there: so what a loose
-- Fetch asks can be met.
use Rattle.std.proofs.Common.{◌≡◌, ℕ, zero, suc, ◌+◌, ◌-◌, ◌^◌, ◌<◌, ◌≤◌, Bool, true, false, cond, List, [], ◌∷◌, ◌++◌, map, length, take, drop, refl, sym, ◌∙◌, ap, subst, arith}
use Rattle.std.specs.Prelude.{Option, Some, None, bytes_eq, filter, not, nat_le, slice_get}
use Rattle.std.specs.List.{All, flat_map}
use Rattle.std.proofs.lemmas.Bool.{eqb-true, leb-true, le-leb}
use Rattle.std.proofs.lemmas.List.{take_all}
use Rattle.std.proofs.lemmas.Slice.Eq.{bytes_eq-Decides}
use Rattle.std.proofs.lemmas.List.Elements.{All-head, All-tail, All-nil, All-cons, All-append, All-map, All-filter, All-weaker}
use Rattle.abs_model.specs.declared.Entry.{Entry}
use Rattle.cluster_model.specs.Service.{Service, array_at}
use Rattle.cluster_model.specs.Tree.{Item, children, item_at, item_text, text_of, entry_text, digests, root, differs, need_from, need}
use Rattle.cluster_model.specs.State.{Condition, Live, Down, Rebuilding, Running, Fetching, lookup_item, or_else, held_text}
use Rattle.cluster_model.specs.Moments.{Moment, Faults, gone, replica}
use Rattle.cluster_model.specs.Step.{FetchEnd, Missing, Whole, is_target, aimed, wanted, items_towards, end_towards}
use Rattle.cluster_model.specs.Fair.{IsFair, IsItem, IsKept, IsApartNow, IsArrayIn, Known, OfArray, OfPlace}
use Rattle.cluster_model.specs.Right.{IsRight, IsSpelled}
use Rattle.cluster_model.specs.Good.{IsGoodIn}
use Rattle.cluster_model.specs.Loose.{IsPut, IsGiven, gives, Serves, ServesIn, held_item, text_held, node_held, lie_or, given, IsLooseFetch}
use Rattle.cluster_model.specs.Walk.{IsWalk, IsWalkIn}
use Rattle.cluster_model.specs.Steady.{IsSteady}
use Rattle.cluster_model.proofs.Same.{HasSource, has_source, good_at}
use Rattle.cluster_model.proofs.Premise.{rebuilding_within}
use Rattle.cluster_model.proofs.RightSteps.{end_whole}
use Rattle.cluster_model.proofs.Walking.{children_in, item_digest, All-flat_map, walk_need}
use Rattle.cluster_model.proofs.Putting.{leaf, put_whole}
use Rattle.cluster_model.proofs.Sources.{same_texts}
use Rattle.cluster_model.proofs.Walked.{aimed_array, known_in, in_source}
use Rattle.cluster_model.proofs.Walks.{walk_nil}

-- Arrays with one root are one array, where Apart holds of their texts

module _ (S : Service) (laws : IsSpelled S) (b c : List Entry) (Tx : List ℕ → Type 0)
    (apart : (s t : List ℕ) → Tx s → Tx t → S.digest s ≡ S.digest t → s ≡ t) (good_b : S.good b) (good_c : S.good c)
    (in_b : (l k : ℕ) → l ≤ S.levels → k < 16 ^ (S.levels - l) → Tx (item_at S b l k))
    (in_c : (l k : ℕ) → l ≤ S.levels → k < 16 ^ (S.levels - l) → Tx (item_at S c l k))
    (same : root S b ≡ root S c) where
  one : 0 < 16 ^ (S.levels - S.levels)
  one = (let z : S.levels - S.levels ≡ 0 = omega arith in subst (λ n. 0 < 16 ^ n) (sym z) (omega arith))

  top : item_at S b S.levels 0 ≡ item_at S c S.levels 0
  top = apart (item_at S b S.levels 0) (item_at S c S.levels 0) (in_b S.levels 0 (omega arith) one)
      (in_c S.levels 0 (omega arith) one)
      (sym (item_digest S b (laws.good_size b good_b) S.levels 0 one) ∙ same
      ∙ item_digest S c (laws.good_size c good_c) S.levels 0 one)

  none_from : (l : ℕ) → item_at S b l 0 ≡ item_at S c l 0 → need_from S b c l (0 ∷ []) ≡ []
  none_from zero e = by (bytes_eq (item_at S b 0 0) (item_at S c 0 0))
      ((bytes_eq-Decides (item_at S b 0 0) (item_at S c 0 0)).1 e)
    where
      ks : List ℕ
      ks = 0 ∷ []

      by : (t : Bool) → t ≡ true → map {B = Item} (λ k. record { level = 0; number = k }) (cond (not t) ks []) ≡ []
      by true e = refl
      by false e = absurd (cc)
  none_from (suc l) e = by (bytes_eq (item_at S b (suc l) 0) (item_at S c (suc l) 0))
      ((bytes_eq-Decides (item_at S b (suc l) 0) (item_at S c (suc l) 0)).1 e) (nothing l)
    where
      ks : List ℕ
      ks = 0 ∷ []

      nothing : (j : ℕ) → need_from S b c j [] ≡ []
      nothing zero = refl
      nothing (suc j) = nothing j

      by : (t : Bool) → t ≡ true → need_from S b c l [] ≡ [] →
          map {B = Item} (λ k. record { level = suc l; number = k }) (cond (not t) ks [])
          ++ need_from S b c l (flat_map children (cond (not t) ks [])) ≡ []
      by true e rest = rest
      by false e rest = absurd (cc)

  pub need_none : need S b c ≡ []
  need_none = none_from S.levels top

  pub same_array : b ≡ c
  same_array =
      let size : length b ≡ length c = laws.good_size b good_b ∙ sym (laws.good_size c good_c) in
      same_texts S (λ i x y. (slice_get b i ≡ Some x) × (slice_get c i ≡ Some y))
      (λ i x y g e. laws.text_is b c good_b good_c i x y g.0 g.1 e) 0 b c size
      (λ i x y ex ey. let z : 0 + i ≡ i = omega arith in
      subst (λ k. (slice_get b k ≡ Some x) × (slice_get c k ≡ Some y)) (sym z) (ex, ey))
      (λ i low. let z : i ≡ 0 + i = omega arith in subst
      (λ k. entry_text S k (slice_get b i) ≡ entry_text S k (slice_get c i)) z
      (text i (subst (λ n. i < n) (laws.good_size c good_c) low)))
    where
      text : (i : ℕ) → i < 16 ^ S.levels → text_of S b i ≡ text_of S c i
      text i low =
          let put : or_else (lookup_item (leaf i) (map (λ i. (i, item_text S c i)) (need S b c))) (text_of S b i)
          ≡ text_of S c i =
          put_whole S laws b c Tx apart (laws.good_size b good_b) (laws.good_size c good_c) in_b in_c i low in
          sym (ap (λ (items : List Item). or_else (lookup_item (leaf i) (map (λ i. (i, item_text S c i)) items))
          (text_of S b i)) need_none) ∙ put

-- What is needed lies in the tree

need_inside : (S : Service) (b c : List Entry) (l : ℕ) → l ≤ S.levels → (ks : List ℕ) →
    All (λ k. k < 16 ^ (S.levels - l)) ks → All (IsItem S) (need_from S b c l ks)
need_inside S b c zero high ks h =
    All-map (IsItem S) (λ k. record { level = 0; number = k }) (filter (differs S b c 0) ks)
    (All-weaker (λ k. k < 16 ^ (S.levels - 0)) (λ k. IsItem S (record { level = 0; number = k })) (λ k low. (high, low))
    (filter (differs S b c 0) ks)
    (All-filter (differs S b c 0) (λ k. k < 16 ^ (S.levels - 0)) ks h))
need_inside S b c (suc l) high ks h =
    let fs = filter (differs S b c (suc l)) ks in
    let inside : All (λ k. k < 16 ^ (S.levels - suc l)) fs = All-filter (differs S b c (suc l))
    (λ k. k < 16 ^ (S.levels - suc l)) ks h in
    All-append (IsItem S) (map (λ k. record { level = suc l; number = k }) fs)
    (need_from S b c l (flat_map children fs))
    (All-map (IsItem S) (λ k. record { level = suc l; number = k }) fs
    (All-weaker (λ k. k < 16 ^ (S.levels - suc l)) (λ k. IsItem S (record { level = suc l; number = k }))
    (λ k low. (high, low)) fs inside))
    (need_inside S b c l (omega arith) (flat_map children fs)
    (All-flat_map (λ k. k < 16 ^ (S.levels - l)) children fs
    (All-weaker (λ k. k < 16 ^ (S.levels - suc l)) (λ k. All (λ n. n < 16 ^ (S.levels - l)) (children k))
    (λ k g. children_in S l high k g) fs inside)))

All-drop : {X : Type 0} (P : X → Type 0) (n : ℕ) (xs : List X) → All P xs → All P (drop n xs)
All-drop P zero xs h = h
All-drop P (suc n) [] h = h
All-drop P (suc n) (x ∷ xs) h = All-drop P n xs (All-tail P x xs h)

All-take : {X : Type 0} (P : X → Type 0) (n : ℕ) (xs : List X) → All P xs → All P (take n xs)
All-take P zero xs h = All-nil P
All-take P (suc n) [] h = h
All-take P (suc n) (x ∷ xs) h = All-cons P x (take n xs) (All-head P x xs h) (All-take P n xs (All-tail P x xs h))

length-take-most : {X : Type 0} (n : ℕ) (xs : List X) → length (take n xs) ≤ n
length-take-most zero xs = omega arith
length-take-most (suc n) [] = omega arith
length-take-most (suc n) (x ∷ xs) = (let h : length (take n xs) ≤ n = length-take-most n xs in omega arith)

take_with_rest : {X : Type 0} (n : ℕ) (xs : List X) → take n xs ++ drop n xs ≡ xs
take_with_rest zero xs = refl
take_with_rest (suc n) [] = refl
take_with_rest (suc n) (x ∷ xs) = ap (λ ys. x ∷ ys) (take_with_rest n xs)

drop_nil : {X : Type 0} (n : ℕ) → drop n (let none : List X = [] in none) ≡ []
drop_nil zero = refl
drop_nil (suc n) = refl

take_nil : {X : Type 0} (n : ℕ) → take n (let none : List X = [] in none) ≡ []
take_nil zero = refl
take_nil (suc n) = refl

-- A source gives each item of its array

gives_all : (S : Service) (p : ℕ) (d : List ℕ) (l : Running) (c : List Entry) → Serves S p d l c → (i : Item) →
    given S p l i ≡ Some (item_text S c i)
gives_all S p d l c h i = ap
    (λ (xs : List (Item × List ℕ)). lie_or (lookup_item i xs) (held_item S p l i.level i.number)) h.no_lie ∙ by i.level
  where
    by : (level : ℕ) → held_item S p l level i.number ≡ Some (item_at S c level i.number)
    by zero = ap (λ o. text_held o (held_text S l p i.number)) h.listed ∙ ap Some (h.texts i.number)
    by (suc level) = ap (λ o. node_held S level i.number o) h.listed

module _ (S : Service) (laws : IsSpelled S) (faults : Faults) (r n : ℕ) (m : Moment) (b : Fetching)
    (live : (replica m.state r).condition ≡ Rebuilding b)
    (right : IsRight S m.state) (fair : IsFair S m) (apart : IsApartNow S m.state) (steady : IsSteady S m.state) where
  abbrev aim : Fetching
  aim = aimed m.state.stable b

  abbrev c : List Entry
  c = array_at S m.state.requests m.state.stable

  abbrev K : List ℕ → Type 0
  K = IsKept S m.state

  same_aim : aim.array ≡ b.array
  same_aim = aimed_array m.state.stable b

  good_b : S.good b.array
  good_b = subst (IsGoodIn S) live (steady.good.arrays r gone (rebuilding_within m.state r b live))

  good_aim : S.good aim.array
  good_aim = subst S.good (sym same_aim) good_b

  good_c : S.good c
  good_c = good_at S laws m.state.requests right.fit m.state.stable

  in_aim : (l k : ℕ) → l ≤ S.levels → k < 16 ^ (S.levels - l) → K (item_at S aim.array l k)
  in_aim l k high low = Known
      (OfArray r aim.array (record { level = l; number = k }) (rebuilding_within m.state r b live)
      (subst (IsArrayIn aim.array) (sym live) same_aim) (high, low) refl)

  in_c : (l k : ℕ) → l ≤ S.levels → k < 16 ^ (S.levels - l) → K (item_at S c l k)
  in_c l k high low = Known (OfPlace m.state.stable (record { level = l; number = k }) right.stable (high, low) refl)

  abbrev all : List (Item × List ℕ)
  all = map (λ i. (i, item_text S c i)) (need S aim.array c)

  -- what was got is the beginning of Need

  walk_aim : IsWalk S (digests S aim.array) S.levels ((0, m.state.root) ∷ []) aim.got
  walk_aim = by (is_target m.state.stable b.target) refl
    where
      here : IsWalkIn S m.state (Rebuilding b)
      here = subst (IsWalkIn S m.state) live (steady.walks r gone (rebuilding_within m.state r b live))

      other : Fetching
      other = record { array = b.array; target = Some m.state.stable; got = [] }

      target : is_target m.state.stable b.target ≡ true → b.target ≡ Some m.state.stable
      target e = go b.target e
        where
          go : (o : Option ℕ) → is_target m.state.stable o ≡ true → o ≡ Some m.state.stable
          go None f = absurd (cc)
          go (Some t) f = ap Some (eqb-true t m.state.stable f)

      by : (t : Bool) → is_target m.state.stable b.target ≡ t →
          IsWalk S (digests S (cond t b
          (record { array = b.array; target = Some m.state.stable; got = [] })).array) S.levels
          ((0, m.state.root) ∷ [])
          (cond t b (record { array = b.array; target = Some m.state.stable; got = [] })).got
      by true e = (here.1 (target e)).0
      by false e = walk_nil S (digests S b.array) S.levels ((0, m.state.root) ∷ [])

  known_got : All (λ (x : Item × List ℕ). K x.1) aim.got
  known_got = by (is_target m.state.stable b.target)
    where
      by : (t : Bool) → All (λ (x : Item × List ℕ). K x.1)
          (cond t b (record { array = b.array; target = Some m.state.stable; got = [] })).got
      by true = (known_in S laws m steady.good r (rebuilding_within m.state r b live) (Rebuilding b) live good_b).1
      by false = All-nil (λ (x : Item × List ℕ). K x.1)

  got_front : aim.got ≡ take (length aim.got) all
  got_front = walk_need S laws aim.array c K apart (laws.good_size aim.array good_aim)
      (laws.good_size c good_c) in_aim in_c aim.got known_got
      (subst (λ d. IsWalk S (digests S aim.array) S.levels ((0, d) ∷ []) aim.got) right.stable_root walk_aim)

  abbrev items : List (Item × List ℕ)
  items = items_towards S c n aim

  abbrev end : FetchEnd
  end = end_towards S c n aim

  tree : All (IsItem S) (need S aim.array c)
  tree = (let z : S.levels - S.levels ≡ 0 = omega arith in
      let one : 0 < 16 ^ (S.levels - S.levels) = subst (λ k. 0 < 16 ^ k) (sym z) (omega arith) in
      need_inside S aim.array c S.levels (omega arith) (0 ∷ [])
      (All-cons (λ k. k < 16 ^ (S.levels - S.levels)) 0 [] one (All-nil (λ k. k < 16 ^ (S.levels - S.levels)))))

  inside_is : All (λ (x : Item × List ℕ). IsItem S x.0) items
  inside_is =
      let P : Item × List ℕ → Type 0 = λ x. IsItem S x.0 in
      All-take P n (wanted S c aim)
      (All-drop P (length aim.got) all (All-map P (λ i. (i, item_text S c i)) (need S aim.array c) tree))

  source : HasSource S m.state
  source = has_source S laws m.state right fair

  given_is : All (IsGiven S m.state r) items
  given_is =
      let P : Item × List ℕ → Type 0 = λ x. x.1 ≡ item_text S c x.0 in
      let texts : All P items = All-take P n (wanted S c aim) (All-drop P (length aim.got) all
      (All-map P (λ i. (i, item_text S c i)) (need S aim.array c) (λ k d low. refl))) in
      All-weaker P (IsGiven S m.state r) (λ x e. (
        source.who,
        source.within,
        (λ same. (let f : Rebuilding b ≡ Live source.live = sym live
            ∙ subst (λ j. (replica m.state j).condition ≡ Live source.live) same source.is_live_there in absurd (cc))),
        subst (gives S m.state.stable x) (sym source.is_live_there)
            (gives_all S m.state.stable m.state.root source.live c source.serves x.0 ∙ ap Some (sym e)),
      )) items texts

  whole_all : (a : List Entry) → end ≡ Whole a → aim.got ++ items ≡ all
  whole_all a = by (nat_le (length (wanted S c aim)) n) refl
    where
      by : (t : Bool) → nat_le (length (wanted S c aim)) n ≡ t → cond t (Whole c) Missing ≡ Whole a →
          aim.got ++ items ≡ all
      by true fits e = ap (λ xs. aim.got ++ xs)
          (take_all n (wanted S c aim) (leb-true (length (wanted S c aim)) n fits))
          ∙ ap (λ xs. xs ++ drop (length aim.got) all) got_front ∙ take_with_rest (length aim.got) all
      by false fits e = absurd (cc)

  whole_is : (a : List Entry) → end ≡ Whole a → S.good a × (root S a ≡ m.state.root)
      × IsPut S b.array (aim.got ++ items) a
  whole_is a e =
      let same : a ≡ c = end_whole S c n aim a e in
      let put : IsPut S aim.array all c = record {
        as_long = laws.good_size c good_c ∙ sym (laws.good_size aim.array good_aim);
        texts = λ i low. sym (put_whole S laws aim.array c K apart (laws.good_size aim.array good_aim)
            (laws.good_size c good_c) in_aim in_c i (subst (λ k. i < k) (laws.good_size aim.array good_aim) low));
      } in (
        subst S.good (sym same) good_c,
        ap (root S) same ∙ sym right.stable_root,
        subst (λ x. IsPut S x (aim.got ++ items) a) same_aim
            (subst (λ xs. IsPut S aim.array xs a) (sym (whole_all a e)) (subst (IsPut S aim.array all) (sym same) put)),
      )

  nothing_is : root S b.array ≡ m.state.root → (items ≡ []) × (end ≡ Whole b.array)
  nothing_is same =
      let roots : root S aim.array ≡ root S c = ap (root S) same_aim ∙ same ∙ right.stable_root in
      let none : need S aim.array c ≡ [] = need_none S laws aim.array c K apart good_aim good_c in_aim in_c roots in
      let left : wanted S c aim ≡ [] = ap
      (λ (is : List Item). drop (length aim.got) (map (λ i. (i, item_text S c i)) is)) none
      ∙ drop_nil (length aim.got) in
      let array : aim.array ≡ c = same_array S laws aim.array c K apart good_aim good_c in_aim in_c roots in (
        ap (take n) left ∙ take_nil n,
        ap (λ (xs : List (Item × List ℕ)). cond (nat_le (length xs) n) (Whole c) Missing) left
            ∙ ap (λ t. cond t (Whole c) Missing) (le-leb 0 n (omega arith)) ∙ ap Whole (sym array ∙ same_aim),
      )

  one_source : (j : ℕ) (e : List Entry) → j < length m.state.replicas → (k : Condition) →
      (replica m.state j).condition ≡ k → ServesIn S m.state.stable m.state.root e k → e ≡ c
  one_source j e within (Live l) live_j h =
      same_array S laws e c K apart h.good good_c
      (in_source S laws m steady.good j e l within live_j h) in_c (h.has_root ∙ right.stable_root)
  one_source j e within Down live_j h = absurd h
  one_source j e within (Rebuilding b') live_j h = absurd h

  pub exact_loose : IsLooseFetch S faults r n m b items end
  exact_loose = record {
    few = length-take-most n (wanted S c aim);
    given = given_is;
    inside = inside_is;
    whole = whole_is;
    nothing = nothing_is;
    true_source = λ ap' j e within other serves g free.
        let same : e ≡ c = one_source j e within (replica m.state j).condition refl serves in (
          ap (λ x. take (suc g) (items_towards S x n aim)) (sym same),
          λ low. ap (λ x. end_towards S x n aim) (sym same),
        );
  }
