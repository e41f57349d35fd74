-- From the walk that the code makes to the rule on a true source.
use Rattle.std.proofs.Common.{◌≡◌, ℕ, zero, suc, ◌+◌, ◌-◌, ◌^◌, ◌<◌, ◌≤◌, ◌⊎◌, true, false, cond, List, [], ◌∷◌, ◌++◌, map, length, take, drop, refl, sym, ◌∙◌, ap, subst, inl, inr, ⊎_elim, arith}
use Rattle.std.specs.Prelude.{Some, nat_le, slice_get}
use Rattle.std.specs.List.{All}
use Rattle.std.proofs.lemmas.Bool.{leb-true, le-leb, cases_lt}
use Rattle.std.proofs.lemmas.List.{take_all, length-append}
use Rattle.abs_model.specs.declared.Entry.{Entry}
use Rattle.cluster_model.specs.Service.{Service}
use Rattle.cluster_model.specs.Tree.{Item, item_at, item_text, text_of, entry_text, digests, need, root}
use Rattle.cluster_model.specs.State.{Fetching, lookup_item, or_else}
use Rattle.cluster_model.specs.Step.{nodes_of, objects_of, FetchEnd, Missing, Forgets, Whole, items_towards, end_towards}
use Rattle.cluster_model.specs.Walk.{IsWholeWalk, IsEnded, IsWalked}
use Rattle.cluster_model.specs.Loose.{IsPut}
use Rattle.cluster_model.specs.Right.{IsSpelled}
use Rattle.cluster_model.proofs.Walking.{walk_need, whole_need, walk_or_more}
use Rattle.cluster_model.proofs.Putting.{put_whole, leaf}

-- lists

behind : {X : Type 0} (xs ys zs : List X) → xs ++ ys ≡ take (length (xs ++ ys)) zs →
    ys ≡ take (length ys) (drop (length xs) zs)
behind [] ys zs e = e
behind (x ∷ xs) ys [] e = absurd (cc)
behind (x ∷ xs) ys (z ∷ zs) e = behind xs ys zs (let f : xs ++ ys ≡ take (length (xs ++ ys)) zs = cc in f)

drop_front : {X : Type 0} (xs ys : List X) → drop (length xs) (xs ++ ys) ≡ ys
drop_front [] ys = refl
drop_front (x ∷ xs) ys = drop_front xs ys

take_twice : {X : Type 0} (a k : ℕ) (xs : List X) → a ≤ k → take a (take k xs) ≡ take a xs
take_twice zero k xs h = refl
take_twice (suc a) zero xs h = absurd (omega arith)
take_twice (suc a) (suc k) [] h = refl
take_twice (suc a) (suc k) (x ∷ xs) h = ap (λ ys. x ∷ ys) (take_twice a k xs (omega arith))

length_drop : {X : Type 0} (k : ℕ) (xs : List X) → k ≤ length xs → length (drop k xs) + k ≡ length xs
length_drop zero xs h = omega arith
length_drop (suc k) [] h = absurd (omega arith)
length_drop (suc k) (x ∷ xs) h = let e : length (drop k xs) + k ≡ length xs = length_drop k xs (omega arith) in
    omega arith

-- arrays with the same texts are the same
pub same_texts : (S : Service) (P : ℕ → Entry → Entry → Type 0) →
    ((i : ℕ) (x y : Entry) → P i x y → S.text i x ≡ S.text i y → x ≡ y) → (n : ℕ) (a c : List Entry) →
    length a ≡ length c →
    ((i : ℕ) (x y : Entry) → slice_get a i ≡ Some x → slice_get c i ≡ Some y → P (n + i) x y) →
    ((i : ℕ) → i < length c → entry_text S (n + i) (slice_get a i) ≡ entry_text S (n + i) (slice_get c i)) → a ≡ c
same_texts S P one n [] [] e p h = refl
same_texts S P one n [] (y ∷ c) e p h = absurd (omega arith)
same_texts S P one n (x ∷ a) [] e p h = absurd (omega arith)
same_texts S P one n (x ∷ a) (y ∷ c) e p h =
    let here : x ≡ y = one (n + 0) x y (p 0 x y refl refl) (h 0 (omega arith)) in
    let rest : a ≡ c = same_texts S P one (suc n) a c (omega arith)
    (λ i u v eu ev. let z : n + suc i ≡ suc n + i = omega arith in subst (λ k. P k u v) z (p (suc i) u v eu ev))
    (λ i l. let z : n + suc i ≡ suc n + i = omega arith in
    subst (λ k. entry_text S k (slice_get a i) ≡ entry_text S k (slice_get c i)) z (h (suc i) (omega arith))) in
    cc

module _ (S : Service) (laws : IsSpelled S) (b : Fetching) (c : List Entry) (n : ℕ) (items : List (Item × List ℕ))
    (end : FetchEnd) (Tx : List ℕ → Type 0)
    (apart : (s t : List ℕ) → Tx s → Tx t → S.digest s ≡ S.digest t → s ≡ t)
    (size_b : length b.array ≡ 16 ^ S.levels) (size_c : length c ≡ 16 ^ S.levels)
    (in_b : (l k : ℕ) → l ≤ S.levels → k < 16 ^ (S.levels - l) → Tx (item_at S b.array l k))
    (in_c : (l k : ℕ) → l ≤ S.levels → k < 16 ^ (S.levels - l) → Tx (item_at S c l k))
    (known : All (λ (g : Item × List ℕ). Tx g.1) (b.got ++ items)) (good : S.good c)
    (w : IsWalked S (root S c) n b items end) where
  abbrev pub all : List (Item × List ℕ)
  all = map (λ i. (i, item_text S c i)) (need S b.array c)

  abbrev rest : List (Item × List ℕ)
  rest = drop (length b.got) all

  abbrev pub IsWhole : Type 0
  IsWhole = IsWholeWalk S (digests S b.array) S.levels ((0, root S c) ∷ []) (b.got ++ items)

  prefix : b.got ++ items ≡ take (length (b.got ++ items)) all
  prefix = walk_need S laws b.array c Tx apart size_b size_c in_b in_c (b.got ++ items) known w.going.0

  got_rest : items ≡ take (length items) rest
  got_rest = behind b.got items all prefix

  whole_rest : IsWhole → rest ≡ items
  whole_rest h = ap (drop (length b.got))
      (sym (whole_need S laws b.array c Tx apart size_b size_c in_b in_c (b.got ++ items) known h))
      ∙ drop_front b.got items

  -- at the end either the number is reached or nothing is missing
  at_end : (n ≡ length items) ⊎ IsWhole → items ≡ take n rest
  at_end (inl e) = subst (λ k. items ≡ take k rest) (sym e) got_rest
  at_end (inr h) = sym (ap (take n) (whole_rest h) ∙ take_all n items w.few)

  put_is : IsWhole → IsPut S b.array (b.got ++ items) c
  put_is h = record {
    as_long = size_c ∙ sym size_b;
    texts = λ i low. sym (ap (λ xs. or_else (lookup_item (leaf i) xs) (text_of S b.array i))
        (whole_need S laws b.array c Tx apart size_b size_c in_b in_c (b.got ++ items) known h)
        ∙ put_whole S laws b.array c Tx apart size_b size_c in_b in_c i (subst (λ k. i < k) size_b low));
  }

  put_one : (a : List Entry) → IsWhole → S.good a → IsPut S b.array (b.got ++ items) a → a ≡ c
  put_one a h ok p =
      let q = put_is h in
      same_texts S (λ i x y. (slice_get a i ≡ Some x) × (slice_get c i ≡ Some y))
      (λ i x y g e. laws.text_is a c ok good i x y g.0 g.1 e) 0 a c (p.as_long ∙ sym q.as_long)
      (λ i x y ex ey. let z : 0 + i ≡ i = omega arith in
      subst (λ k. (slice_get a k ≡ Some x) × (slice_get c k ≡ Some y)) (sym z) (ex, ey))
      (λ i low. let z : i ≡ 0 + i = omega arith in let within : i < length b.array = subst (λ k. i < k) q.as_long low in
      subst (λ k. entry_text S k (slice_get a i) ≡ entry_text S k (slice_get c i)) z
      (p.texts i within ∙ sym (q.texts i within)))

  whole_end : IsWhole → end ≡ end_towards S c n b
  whole_end h =
      let fits : nat_le (length rest) n ≡ true = le-leb (length rest) n
      (subst (λ xs. length xs ≤ n) (sym (whole_rest h)) w.few) in
      let goal : Whole c ≡ end_towards S c n b = sym (ap (λ t. cond t (Whole c) Missing) fits) in
      by end w.ended ∙ goal
    where
      by : (e : FetchEnd) → IsEnded S (root S c) b.array (b.got ++ items) e → e ≡ Whole c
      by Missing f = absurd (f h)
      by Forgets f = absurd (f.1 c (put_is h) good)
      by (Whole a) f = ap Whole (put_one a h f.1 f.2)

  missing_end : (IsWhole → ⊥) → end ≡ Missing
  missing_end no' = by end w.ended
    where
      by : (e : FetchEnd) → IsEnded S (root S c) b.array (b.got ++ items) e → e ≡ Missing
      by Missing f = refl
      by Forgets f = absurd (no' f.0)
      by (Whole a) f = absurd (no' f.0)

  end_right : (n ≡ length items) ⊎ IsWhole → end ≡ end_towards S c n b
  end_right (inr h) = whole_end h
  end_right (inl e) = ⊎_elim (λ h. whole_end h)
      (λ more.
      let bound : length b.got ≤ length all = omega (arith, more, length-append b.got items) in
      let size : length rest + length b.got ≡ length all = length_drop (length b.got) all bound in
      let larger : n < length rest = omega (arith, more, length-append b.got items) in
      let no' : nat_le (length rest) n ≡ false = grind (arith, leb-true) in
      missing_end (λ h. (let same : length rest ≡ length items = ap length (whole_rest h) in omega arith))
      ∙ sym (ap (λ t. cond t (Whole c) Missing) no'))
      (walk_or_more S laws b.array c Tx apart size_b size_c in_b in_c (b.got ++ items) known w.going.0)

  -- the rule: what is got next is what Step gets, and the end is Step's
  pub source_rule : (g : ℕ) → (length items ≤ g → (n ≡ length items) ⊎ IsWhole) →
      (take (suc g) items ≡ take (suc g) (items_towards S c n b)) × (length items ≤ g → end ≡ end_towards S c n b)
  source_rule g goes_on = ⊎_elim
      (λ lt.
      let few : length items ≤ n = w.few in (
        ap (take (suc g)) got_rest ∙ take_twice (suc g) (length items) rest (omega arith)
            ∙ sym (take_twice (suc g) n rest (omega arith)),
        λ le. absurd (omega arith),
      ))
      (λ le. (ap (take (suc g)) (at_end (goes_on le)), λ le'. end_right (goes_on le')))
      (cases_lt g (length items))

  -- at the end the counts are those of Need
  pub counts_right : IsWhole → (nodes_of (b.got ++ items) ≡ nodes_of all)
      × (objects_of (b.got ++ items) ≡ objects_of all)
  counts_right h =
      let e = whole_need S laws b.array c Tx apart size_b size_c in_b in_c (b.got ++ items) known h in
      (ap nodes_of e, ap objects_of e)
