-- With the items of Need got, what is put in is the array that was aimed at.
use Rattle.std.proofs.Common.{◌≡◌, ℕ, zero, suc, ◌+◌, ◌-◌, ◌*◌, ◌/◌, ◌%◌, ◌^◌, ◌<◌, ◌≤◌, ◌⊎◌, Bool, true, false, cond, ◌&&◌, ◌||◌, List, [], ◌∷◌, ◌++◌, map, length, refl, sym, ◌∙◌, ap, subst, inl, inr, ⊎_elim, arith}
use Rattle.std.specs.Prelude.{bytes_eq, filter, not, Some, None, ◌==◌}
use Rattle.std.specs.List.{All, flat_map}
use Rattle.std.proofs.lemmas.Bool.{eqb-true, eq-eqb}
use Rattle.std.proofs.lemmas.List.Elements.{All-head, All-tail, All-nil, All-cons, All-weaker, All-filter}
use Rattle.std.proofs.lemmas.Slice.Eq.{bytes_eq-Decides}
use Rattle.std.proofs.Math.Nat.{pow-suc}
use Rattle.abs_model.specs.declared.Entry.{Entry}
use Rattle.cluster_model.specs.Service.{Service}
use Rattle.cluster_model.specs.Tree.{Item, same_item, below, children, digest_at, digests, item_at, item_text, text_of, differs, need_from, need}
use Rattle.cluster_model.specs.State.{lookup_item, or_else}
use Rattle.cluster_model.specs.Right.{IsSpelled, is_told}
use Rattle.cluster_model.proofs.Walking.{item_digest, children_in, children_digests, All-flat_map}
use Rattle.cluster_model.proofs.Same.{told_below}

abbrev pub leaf : ℕ → Item
leaf i = record { level = 0; number = i }

-- the number of the node of a level over leaf i
abbrev pub over : ℕ → ℕ → ℕ
over zero i = i
over (suc l) i = over l i / 16

abbrev with : Service → List Entry → Item → Item × List ℕ
with S c i = (i, item_text S c i)

-- what is looked up among items with their texts
abbrev is_among : Item → List Item → Bool
is_among i [] = false
is_among i (x ∷ xs) = same_item x i || is_among i xs

lookup_with : (S : Service) (c : List Entry) (i : ℕ) (items : List Item) → is_among (leaf i) items ≡ true →
    lookup_item (leaf i) (map (with S c) items) ≡ Some (text_of S c i)
lookup_with S c i [] h = absurd (cc)
lookup_with S c i (x ∷ xs) h = by (lookup_with S c i xs) (x.level == 0) (x.number == i) refl refl h
  where
    by : (is_among (leaf i) xs ≡ true → lookup_item (leaf i) (map (with S c) xs) ≡ Some (text_of S c i)) →
        (a b : Bool) → (x.level == 0) ≡ a → (x.number == i) ≡ b →
        ((a && b) || is_among (leaf i) xs) ≡ true → cond (a && b) (Some (item_text S c x))
        (lookup_item (leaf i) (map (with S c) xs)) ≡ Some (text_of S c i)
    by rest true true ea eb g =
        let el : x.level ≡ 0 = eqb-true x.level 0 ea in
        let en : x.number ≡ i = eqb-true x.number i eb in
        ap Some (ap (λ l. item_at S c l x.number) el ∙ ap (text_of S c) en)
    by rest true false ea eb g = rest g
    by rest false b ea eb g = rest g

among_append : (i : Item) (xs ys : List Item) → is_among i (xs ++ ys) ≡ (is_among i xs || is_among i ys)
among_append i [] ys = refl
among_append i (x ∷ xs) ys = by (same_item x i) (among_append i xs ys)
  where
    by : (b : Bool) → is_among i (xs ++ ys) ≡ (is_among i xs || is_among i ys) →
        (b || is_among i (xs ++ ys)) ≡ ((b || is_among i xs) || is_among i ys)
    by true e = refl
    by false e = e

among_leaves : (i : ℕ) (ks : List ℕ) → is_told i ks ≡ true → is_among (leaf i) (map leaf ks) ≡ true
among_leaves i [] h = absurd (cc)
among_leaves i (k ∷ ks) h = by (k == i) (among_leaves i ks) h
  where
    by : (b : Bool) → (is_told i ks ≡ true → is_among (leaf i) (map leaf ks) ≡ true) → (b || is_told i ks) ≡ true →
        ((true && b) || is_among (leaf i) (map leaf ks)) ≡ true
    by true rest g = refl
    by false rest g = rest g

-- a number in a list is kept by a filter that it passes, and its children are among all the children
told_filter : (f : ℕ → Bool) (i : ℕ) (ks : List ℕ) → f i ≡ true → is_told i ks ≡ true → is_told i (filter f ks) ≡ true
told_filter f i [] p h = h
told_filter f i (k ∷ ks) p h = by (told_filter f i ks p) (k == i) (f k) refl refl h
  where
    by : (is_told i ks ≡ true → is_told i (filter f ks) ≡ true) → (a b : Bool) → (k == i) ≡ a → f k ≡ b →
        (a || is_told i ks) ≡ true → is_told i (cond b (k ∷ filter f ks) (filter f ks)) ≡ true
    by rest true true ea eb g = rw ea refl
    by rest true false ea eb g = absurd (let e : f k ≡ f i = ap f (eqb-true k i ea) in cc)
    by rest false true ea eb g = rw ea (rest g)
    by rest false false ea eb g = rest g

told_append : (j : ℕ) (xs ys : List ℕ) → is_told j (xs ++ ys) ≡ (is_told j xs || is_told j ys)
told_append j [] ys = refl
told_append j (x ∷ xs) ys = by (x == j) (told_append j xs ys)
  where
    by : (b : Bool) → is_told j (xs ++ ys) ≡ (is_told j xs || is_told j ys) →
        (b || is_told j (xs ++ ys)) ≡ ((b || is_told j xs) || is_told j ys)
    by true e = refl
    by false e = e

told_children : (i k : ℕ) (ks : List ℕ) → is_told i (children k) ≡ true → is_told k ks ≡ true →
    is_told i (flat_map children ks) ≡ true
told_children i k [] h g = g
told_children i k (x ∷ ks) h g = by (told_children i k ks h) (x == k) refl g
  where
    or_right : (a b : Bool) → b ≡ true → (a || b) ≡ true
    or_right true b e = refl
    or_right false b e = e

    by : (is_told k ks ≡ true → is_told i (flat_map children ks) ≡ true) → (b : Bool) → (x == k) ≡ b →
        (b || is_told k ks) ≡ true → is_told i (children x ++ flat_map children ks) ≡ true
    by rest true e f =
        let same : x ≡ k = eqb-true x k e in
        told_append i (children x) (flat_map children ks)
        ∙ ap (λ b. b || is_told i (flat_map children ks)) (subst (λ n. is_told i (children n) ≡ true) (sym same) h)
    by rest false e f = told_append i (children x) (flat_map children ks)
        ∙ or_right (is_told i (children x)) (is_told i (flat_map children ks)) (rest f)

told_map : (f : ℕ → ℕ) (j : ℕ) (xs : List ℕ) → is_told j xs ≡ true → is_told (f j) (map f xs) ≡ true
told_map f j [] h = absurd (cc)
told_map f j (x ∷ xs) h = by (x == j) refl (told_map f j xs) h
  where
    by : (b : Bool) → (x == j) ≡ b → (is_told j xs ≡ true → is_told (f j) (map f xs) ≡ true) →
        (b || is_told j xs) ≡ true → ((f x == f j) || is_told (f j) (map f xs)) ≡ true
    by true e rest g = let t : (f x == f j) ≡ true = eq-eqb (f x) (f j) (ap f (eqb-true x j e)) in rw t refl
    by false e rest g = or_right (f x == f j) (rest g)
      where
        or_right : (a : Bool) {b : Bool} → b ≡ true → (a || b) ≡ true
        or_right true e = refl
        or_right false e = e

told_all : (P : ℕ → Type 0) (j : ℕ) (ks : List ℕ) → All P ks → is_told j ks ≡ true → P j
told_all P j [] h g = absurd (cc)
told_all P j (k ∷ ks) h g = by (k == j) refl (told_all P j ks (All-tail P k ks h)) g
  where
    by : (b : Bool) → (k == j) ≡ b → (is_told j ks ≡ true → P j) → (b || is_told j ks) ≡ true → P j
    by true e rest f = subst P (eqb-true k j e) (All-head P k ks h)
    by false e rest f = rest f

map_same : {Y : Type 0} (f g : ℕ → Y) (j : ℕ) (ks : List ℕ) → map f ks ≡ map g ks → is_told j ks ≡ true → f j ≡ g j
map_same f g j [] e h = absurd (cc)
map_same f g j (k ∷ ks) e h = by (k == j) refl (λ t. (let r : map f ks ≡ map g ks = cc in map_same f g j ks r t)) h
  where
    by : (b : Bool) → (k == j) ≡ b → (is_told j ks ≡ true → f j ≡ g j) → (b || is_told j ks) ≡ true → f j ≡ g j
    by true t rest x = let same : k ≡ j = eqb-true k j t in let here : f k ≡ g k = cc in
        subst (λ n. f n ≡ g n) same here
    by false t rest x = rest x

lookup_none : (S : Service) (c : List Entry) (i : ℕ) (items : List Item) → is_among (leaf i) items ≡ false →
    lookup_item (leaf i) (map (with S c) items) ≡ None
lookup_none S c i [] h = refl
lookup_none S c i (x ∷ xs) h = by (same_item x (leaf i)) (lookup_none S c i xs) h
  where
    by : (b : Bool) → (is_among (leaf i) xs ≡ false → lookup_item (leaf i) (map (with S c) xs) ≡ None) →
        (b || is_among (leaf i) xs) ≡ false →
        cond b (Some (item_text S c x)) (lookup_item (leaf i) (map (with S c) xs)) ≡ None
    by true rest g = absurd (cc)
    by false rest g = rest g

-- each leaf stands under the node over it
over_children : (l i : ℕ) → is_told (over l i) (children (over (suc l) i)) ≡ true
over_children l i =
    let n = over l i in
    let e : 16 * (n / 16) + n % 16 ≡ n = omega arith in
    let low : n % 16 < 16 = omega arith in
    subst (λ j. is_told j (children (n / 16)) ≡ true) e
    (told_map (λ j. 16 * (n / 16) + j) (n % 16) (below 16) (told_below (n % 16) 16 low))

over_low : (l n i : ℕ) → i < 16 ^ (n + l) → over l i < 16 ^ n
over_low zero n i h = let e : n + 0 ≡ n = omega arith in subst (λ k. i < 16 ^ k) e h
over_low (suc l) n i h =
    let e : n + suc l ≡ suc n + l = omega arith in
    let rest : over l i < 16 ^ suc n = over_low l (suc n) i (subst (λ k. i < 16 ^ k) e h) in
    let p : 16 ^ suc n ≡ 16 ^ n * 16 = pow-suc 16 n in
    omega arith

module _ (S : Service) (laws : IsSpelled S) (b c : List Entry) (Tx : List ℕ → Type 0)
    (apart : (s t : List ℕ) → Tx s → Tx t → S.digest s ≡ S.digest t → s ≡ t)
    (size_b : length b ≡ 16 ^ S.levels) (size_c : length c ≡ 16 ^ S.levels)
    (in_b : (l k : ℕ) → l ≤ S.levels → k < 16 ^ (S.levels - l) → Tx (item_at S b l k))
    (in_c : (l k : ℕ) → l ≤ S.levels → k < 16 ^ (S.levels - l) → Tx (item_at S c l k)) where
  abbrev Within : ℕ → ℕ → Type 0
  Within l k = k < 16 ^ (S.levels - l)

  -- below equal nodes all entries are equal
  same_under : (l k : ℕ) → l ≤ S.levels → Within l k → item_at S b l k ≡ item_at S c l k → (i : ℕ) → over l i ≡ k →
      text_of S b i ≡ text_of S c i
  same_under zero k high low e i at = subst (λ n. text_of S b n ≡ text_of S c n) (sym at) e
  same_under (suc l) k high low e i at =
      let fb = digest_at S (digests S b) l in
      let fc = digest_at S (digests S c) l in
      let ks = children k in
      let lists : map fb ks ≡ map fc ks = sym
      (laws.parts_node (suc l) k (map fb ks) refl (children_digests S laws b size_b l k high low)) ∙ ap S.parts e
      ∙ laws.parts_node (suc l) k (map fc ks) refl (children_digests S laws c size_c l k high low) in
      let j = over l i in
      let told : is_told j ks ≡ true = subst (λ n. is_told j (children n) ≡ true) at (over_children l i) in
      let inside : Within l j = told_all (λ n. n < 16 ^ (S.levels - l)) j ks (children_in S l high k low) told in
      let here : fb j ≡ fc j = map_same fb fc j ks lists told in
      let high' : l ≤ S.levels = omega arith in
      let text : item_at S b l j ≡ item_at S c l j = apart (item_at S b l j) (item_at S c l j) (in_b l j high' inside)
      (in_c l j high' inside)
      (sym (item_digest S b size_b l j inside) ∙ here ∙ item_digest S c size_c l j inside) in
      same_under l j high' inside text i refl

  -- each entry under these numbers is among what is needed, or is equal
  pub needed_or_same : (l : ℕ) → l ≤ S.levels → (ks : List ℕ) → All (λ k. k < 16 ^ (S.levels - l)) ks → (i : ℕ) →
      is_told (over l i) ks ≡ true →
      (is_among (leaf i) (need_from S b c l ks) ≡ true) ⊎ (text_of S b i ≡ text_of S c i)
  needed_or_same zero high ks h i told = by (bytes_eq (text_of S b i) (text_of S c i)) refl
    where
      by : (t : Bool) → bytes_eq (text_of S b i) (text_of S c i) ≡ t →
          (is_among (leaf i) (need_from S b c 0 ks) ≡ true) ⊎ (text_of S b i ≡ text_of S c i)
      by true e = inr ((bytes_eq-Decides (text_of S b i) (text_of S c i)).0 e)
      by false e = inl (among_leaves i (filter (differs S b c 0) ks)
          (told_filter (differs S b c 0) i ks (ap not e) told))
  needed_or_same (suc l) high ks h i told =
      let k = over (suc l) i in
      let fs = filter (differs S b c (suc l)) ks in
      by (λ e. needed_or_same l (omega arith) (flat_map children fs)
      (All-flat_map (λ n. n < 16 ^ (S.levels - l)) children fs
      (All-weaker (λ n. n < 16 ^ (S.levels - suc l)) (λ n. All (λ n. n < 16 ^ (S.levels - l)) (children n))
      (λ n g. children_in S l high n g) fs
      (All-filter (differs S b c (suc l)) (λ n. n < 16 ^ (S.levels - suc l)) ks h))) i
      (told_children (over l i) k fs (over_children l i) (told_filter (differs S b c (suc l)) k ks (ap not e) told)))
      (bytes_eq (item_at S b (suc l) k) (item_at S c (suc l) k)) refl
    where
      below_all : List Item
      below_all = need_from S b c l (flat_map children (filter (differs S b c (suc l)) ks))

      here_all : List Item
      here_all = map (λ k. record { level = suc l; number = k }) (filter (differs S b c (suc l)) ks)

      or_right : (a : Bool) (t : Bool) → t ≡ true → (a || t) ≡ true
      or_right true t e = refl
      or_right false t e = e

      by : (bytes_eq (item_at S b (suc l) (over (suc l) i)) (item_at S c (suc l) (over (suc l) i)) ≡ false →
          (is_among (leaf i) below_all ≡ true) ⊎ (text_of S b i ≡ text_of S c i)) →
          (t : Bool) → bytes_eq (item_at S b (suc l) (over (suc l) i)) (item_at S c (suc l) (over (suc l) i)) ≡ t →
          (is_among (leaf i) (here_all ++ below_all) ≡ true) ⊎ (text_of S b i ≡ text_of S c i)
      by rest true e = inr (same_under (suc l) (over (suc l) i) high
          (told_all (λ n. n < 16 ^ (S.levels - suc l)) (over (suc l) i) ks h told)
          ((bytes_eq-Decides (item_at S b (suc l) (over (suc l) i)) (item_at S c (suc l) (over (suc l) i))).0 e) i refl)
      by rest false e = ⊎_elim
          (λ g. inl (among_append (leaf i) here_all below_all
          ∙ or_right (is_among (leaf i) here_all) (is_among (leaf i) below_all) g)) (λ g. inr g) (rest e)

  -- what is got of Need, put into b, is c
  pub put_whole : (i : ℕ) → i < 16 ^ S.levels → or_else (lookup_item (leaf i) (map (with S c) (need S b c)))
      (text_of S b i) ≡ text_of S c i
  put_whole i h =
      let z : S.levels - S.levels ≡ 0 = omega arith in
      let one : 0 < 16 ^ (S.levels - S.levels) = subst (λ n. 0 < 16 ^ n) (sym z) (omega arith) in
      let low : over S.levels i < 16 ^ 0 = over_low S.levels 0 i
      (let e : S.levels ≡ 0 + S.levels = omega arith in subst (λ n. i < 16 ^ n) e h) in
      let top : 0 ≡ over S.levels i = omega arith in
      let told : is_told (over S.levels i) (0 ∷ []) ≡ true =
      (let t : (0 == over S.levels i) ≡ true = eq-eqb 0 (over S.levels i) top in rw t refl) in
      by (needed_or_same S.levels (omega arith) (0 ∷ [])
      (All-cons (λ k. k < 16 ^ (S.levels - S.levels)) 0 [] one
      (All-nil (λ k. k < 16 ^ (S.levels - S.levels)))) i told)
      (is_among (leaf i) (need S b c)) refl
    where
      by : ((is_among (leaf i) (need S b c) ≡ true) ⊎ (text_of S b i ≡ text_of S c i)) → (t : Bool) →
          is_among (leaf i) (need S b c) ≡ t →
          or_else (lookup_item (leaf i) (map (with S c) (need S b c))) (text_of S b i) ≡ text_of S c i
      by g true e = ap (λ o. or_else o (text_of S b i)) (lookup_with S c i (need S b c) e)
      by (inl g) false e = absurd (cc)
      by (inr g) false e = ap (λ o. or_else o (text_of S b i)) (lookup_none S c i (need S b c) e) ∙ g
