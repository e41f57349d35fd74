-- What a whole walk got, put in, has the root that the walk began with, where the node texts got are of the grammar. No
-- Apart is needed.
use Rattle.std.proofs.Common.{◌≡◌, ℕ, zero, suc, ◌+◌, ◌*◌, ◌/◌, ◌^◌, ◌<◌, ◌⊎◌, Bool, true, false, cond, ◌||◌, ◌&&◌, List, [], ◌∷◌, ◌++◌, map, length, refl, sym, ◌∙◌, ap, subst, inl, inr, ⊎_elim, arith}
use Rattle.std.specs.Prelude.{filter, zip, ◌==◌, slice_index_or}
use Rattle.std.specs.List.{All}
use Rattle.std.proofs.lemmas.Bool.{eqb-true, eq-eqb}
use Rattle.std.proofs.lemmas.List.Elements.{All-head, All-tail, All-nil, All-push, All-map, All-weaker}
use Rattle.cluster_model.specs.Service.{Service}
use Rattle.cluster_model.specs.Tree.{below, children, digest_at, digests}
use Rattle.cluster_model.specs.Right.{is_told}
use Rattle.cluster_model.proofs.Growing.{fun_ext}
use Rattle.cluster_model.proofs.Putting.{leaf, over}

-- Pairs of a number and what is expected there

abbrev pub Pair : Type 0
Pair = ℕ × List ℕ

abbrev pub In : Pair → List Pair → Type 0
In x [] = ⊥
In x (y ∷ ys) = (x ≡ y) ⊎ In x ys

abbrev pub nums : List Pair → List ℕ
nums xs = map (λ (x : Pair). x.0) xs

abbrev pub NoTwo : List Pair → Type 0
NoTwo [] = Unit {0}
NoTwo (x ∷ xs) = (is_told x.0 (nums xs) ≡ false) × NoTwo xs

pub in_told : (x : Pair) (xs : List Pair) → In x xs → is_told x.0 (nums xs) ≡ true
in_told x [] h = absurd h
in_told x (y ∷ ys) (inl e) =
    (let t : (y.0 == x.0) ≡ true = eq-eqb y.0 x.0 (ap (λ (z : Pair). z.0) (sym e)) in
    ap (λ b. b || is_told x.0 (nums ys)) t)
in_told x (y ∷ ys) (inr h) = or_right (y.0 == x.0) (in_told x ys h)
  where
    or_right : (a : Bool) {b : Bool} → b ≡ true → (a || b) ≡ true
    or_right true e = refl
    or_right false e = e

pub told_in : (k : ℕ) (xs : List Pair) → is_told k (nums xs) ≡ true → (x : Pair) × In x xs × (x.0 ≡ k)
told_in k [] h = absurd (cc)
told_in k (y ∷ ys) h = by (y.0 == k) refl h (told_in k ys)
  where
    by : (b : Bool) → (y.0 == k) ≡ b → (b || is_told k (nums ys)) ≡ true →
        (is_told k (nums ys) ≡ true → (x : Pair) × In x ys × (x.0 ≡ k)) → (x : Pair) × In x (y ∷ ys) × (x.0 ≡ k)
    by true e g rest = (y, inl refl, eqb-true y.0 k e)
    by false e g rest = (let f = rest g in (f.0, inr f.1, f.2))

pub only_one : (xs : List Pair) → NoTwo xs → (x y : Pair) → In x xs → In y xs → x.0 ≡ y.0 → x ≡ y
only_one [] h x y p q e = absurd p
only_one (z ∷ zs) h x y (inl p) (inl q) e = p ∙ sym q
only_one (z ∷ zs) h x y (inl p) (inr q) e = absurd
    (let t : is_told y.0 (nums zs) ≡ true = in_told y zs q in
    let f : is_told z.0 (nums zs) ≡ true = subst (λ k. is_told k (nums zs) ≡ true)
    (sym e ∙ ap (λ (w : Pair). w.0) p) t in let g = h.0 in cc)
only_one (z ∷ zs) h x y (inr p) (inl q) e = absurd
    (let t : is_told x.0 (nums zs) ≡ true = in_told x zs p in
    let f : is_told z.0 (nums zs) ≡ true = subst (λ k. is_told k (nums zs) ≡ true) (e ∙ ap (λ (w : Pair). w.0) q) t in
    let g = h.0 in cc)
only_one (z ∷ zs) h x y (inr p) (inr q) e = only_one zs h.1 x y p q e

module _ (p : Pair → Bool) where
  pub in_kept : (x : Pair) (xs : List Pair) → In x xs → p x ≡ true → In x (filter p xs)
  in_kept x [] h e = absurd h
  in_kept x (y ∷ ys) h e = by (p y) refl h (λ g. in_kept x ys g e)
    where
      by : (b : Bool) → p y ≡ b → In x (y ∷ ys) → (In x ys → In x (filter p ys)) →
          In x (cond b (y ∷ filter p ys) (filter p ys))
      by true t (inl g) rest = inl g
      by true t (inr g) rest = inr (rest g)
      by false t (inl g) rest = absurd (let f : p x ≡ p y = ap p g in cc)
      by false t (inr g) rest = rest g

  pub kept_in : (x : Pair) (xs : List Pair) → In x (filter p xs) → In x xs × (p x ≡ true)
  kept_in x [] h = absurd h
  kept_in x (y ∷ ys) h = by (p y) refl h (kept_in x ys)
    where
      by : (b : Bool) → p y ≡ b → In x (cond b (y ∷ filter p ys) (filter p ys)) →
          (In x (filter p ys) → In x ys × (p x ≡ true)) → In x (y ∷ ys) × (p x ≡ true)
      by true t (inl g) rest = (inl g, ap p g ∙ t)
      by true t (inr g) rest = (let f = rest g in (inr f.0, f.1))
      by false t g rest = (let f = rest g in (inr f.0, f.1))

  kept_none : (k : ℕ) (xs : List Pair) → is_told k (nums xs) ≡ false → is_told k (nums (filter p xs)) ≡ false
  kept_none k [] h = h
  kept_none k (y ∷ ys) h = by (p y) (y.0 == k) h (kept_none k ys)
    where
      by : (b c : Bool) → (c || is_told k (nums ys)) ≡ false →
          (is_told k (nums ys) ≡ false → is_told k (nums (filter p ys)) ≡ false) →
          is_told k (nums (cond b (y ∷ filter p ys) (filter p ys))) ≡ false
      by true c g rest = both (y.0 == k) refl
        where
          tail : (c : Bool) → (c || is_told k (nums ys)) ≡ false → is_told k (nums ys) ≡ false
          tail true f = absurd (cc)
          tail false f = f

          both : (d : Bool) → (y.0 == k) ≡ d → (d || is_told k (nums (filter p ys))) ≡ false
          both true e = absurd (let t : is_told k (nums (y ∷ ys)) ≡ true = ap (λ b. b || is_told k (nums ys)) e in
              let f = h in cc)
          both false e = rest (tail c g)
      by false true g rest = absurd (cc)
      by false false g rest = rest g

  pub kept_one : (xs : List Pair) → NoTwo xs → NoTwo (filter p xs)
  kept_one [] h = h
  kept_one (y ∷ ys) h = by (p y) (kept_one ys h.1)
    where
      by : (b : Bool) → NoTwo (filter p ys) → NoTwo (cond b (y ∷ filter p ys) (filter p ys))
      by true g = (kept_none y.0 ys h.0, g)
      by false g = g

pub in_append : (x : Pair) (xs ys : List Pair) → In x (xs ++ ys) → In x xs ⊎ In x ys
in_append x [] ys h = inr h
in_append x (y ∷ xs) ys (inl e) = inl (inl e)
in_append x (y ∷ xs) ys (inr h) = ⊎_elim (λ g. inl (inr g)) (λ g. inr g) (in_append x xs ys h)

pub in_front : (x : Pair) (xs ys : List Pair) → In x xs → In x (xs ++ ys)
in_front x [] ys h = absurd h
in_front x (y ∷ xs) ys (inl e) = inl e
in_front x (y ∷ xs) ys (inr h) = inr (in_front x xs ys h)

pub in_behind : (x : Pair) (xs ys : List Pair) → In x ys → In x (xs ++ ys)
in_behind x [] ys h = h
in_behind x (y ∷ xs) ys h = inr (in_behind x xs ys h)

not_told : (k : ℕ) (xs : List Pair) → ((x : Pair) → In x xs → x.0 ≡ k → ⊥) → is_told k (nums xs) ≡ false
not_told k xs h = by (is_told k (nums xs)) refl
  where
    by : (b : Bool) → is_told k (nums xs) ≡ b → b ≡ false
    by true e = absurd (let f = told_in k xs e in h f.0 f.1 f.2)
    by false e = refl

pub told_not : (k : ℕ) (xs : List Pair) → is_told k (nums xs) ≡ false → (x : Pair) → In x xs → x.0 ≡ k → ⊥
told_not k xs h x g e =
    (let t : is_told k (nums xs) ≡ true = subst (λ j. is_told j (nums xs) ≡ true) e (in_told x xs g) in absurd (cc))

pub append_one : (xs ys : List Pair) → NoTwo xs → NoTwo ys → ((x y : Pair) → In x xs → In y ys → x.0 ≡ y.0 → ⊥) →
    NoTwo (xs ++ ys)
append_one [] ys h g apart = g
append_one (x ∷ xs) ys h g apart = (
  not_told x.0 (xs ++ ys)
      (λ y k e. ⊎_elim (λ l. told_not x.0 xs h.0 y l e) (λ r. apart x y (inl refl) r (sym e)) (in_append y xs ys k)),
  append_one xs ys h.1 g (λ u v k l. apart u v (inr k) l),
)

-- The sixteen numbers below one, each once

abbrev AllOnce : List ℕ → Type 0
AllOnce [] = Unit {0}
AllOnce (k ∷ ks) = (is_told k ks ≡ false) × AllOnce ks

pub zip_one : (ks : List ℕ) (ds : List (List ℕ)) → AllOnce ks → NoTwo (zip ks ds)
zip_one [] ds h = tt
zip_one (k ∷ ks) [] h = tt
zip_one (k ∷ ks) (d ∷ ds) h = (fewer k ks ds h.0, zip_one ks ds h.1)
  where
    fewer : (k : ℕ) (ks : List ℕ) (ds : List (List ℕ)) → is_told k ks ≡ false → is_told k (nums (zip ks ds)) ≡ false
    fewer k [] ds e = refl
    fewer k (j ∷ ks) [] e = refl
    fewer k (j ∷ ks) (d ∷ ds) e = by (j == k) e (fewer k ks ds)
      where
        by : (b : Bool) → (b || is_told k ks) ≡ false → (is_told k ks ≡ false → is_told k (nums (zip ks ds)) ≡ false) →
            (b || is_told k (nums (zip ks ds))) ≡ false
        by true f rest = absurd (cc)
        by false f rest = rest f

pub in_zip : (P : ℕ → Type 0) (x : Pair) (ks : List ℕ) (ds : List (List ℕ)) → All P ks → In x (zip ks ds) → P x.0
in_zip P x [] ds h g = absurd g
in_zip P x (k ∷ ks) [] h g = absurd g
in_zip P x (k ∷ ks) (d ∷ ds) h (inl e) = subst P (ap (λ (z : Pair). z.0) (sym e)) (All-head P k ks h)
in_zip P x (k ∷ ks) (d ∷ ds) h (inr g) = in_zip P x ks ds (All-tail P k ks h) g

pub children_once : (k : ℕ) → AllOnce (children k)
children_once k = by 16
  where
    told_push : (j : ℕ) (xs : List ℕ) (n : ℕ) → is_told j (map (λ i. 16 * k + i) (xs ++ n ∷ [])) ≡
        (is_told j (map (λ i. 16 * k + i) xs) || (16 * k + n == j))
    told_push j [] n = or_none (16 * k + n == j)
      where
        or_none : (b : Bool) → (b || false) ≡ b
        or_none true = refl
        or_none false = refl
    told_push j (x ∷ xs) n = by (16 * k + x == j) (told_push j xs n)
      where
        by : (b : Bool) → is_told j (map (λ i. 16 * k + i) (xs ++ n ∷ [])) ≡
            (is_told j (map (λ i. 16 * k + i) xs) || (16 * k + n == j)) →
            (b || is_told j (map (λ i. 16 * k + i) (xs ++ n ∷ []))) ≡
            ((b || is_told j (map (λ i. 16 * k + i) xs)) || (16 * k + n == j))
        by true e = refl
        by false e = e

    push : (xs : List ℕ) (n : ℕ) → All (λ x. x < n) xs → AllOnce (map (λ i. 16 * k + i) xs) →
        AllOnce (map (λ i. 16 * k + i) (xs ++ n ∷ []))
    push [] n low h = (refl, tt)
    push (x ∷ xs) n low h =
        let small : x < n = All-head (λ x. x < n) x xs low in (
          told_push (16 * k + x) xs n ∙ both (16 * k + n == 16 * k + x) refl h.0 small,
          push xs n (All-tail (λ x. x < n) x xs low) h.1,
        )
      where
        both : (b : Bool) → (16 * k + n == 16 * k + x) ≡ b → is_told (16 * k + x) (map (λ i. 16 * k + i) xs) ≡ false →
            x < n → (is_told (16 * k + x) (map (λ i. 16 * k + i) xs) || b) ≡ false
        both true e f small = absurd
            (let same : 16 * k + n ≡ 16 * k + x = eqb-true (16 * k + n) (16 * k + x) e in omega arith)
        both false e f small = ap (λ b. b || false) f

    low : (n : ℕ) → All (λ x. x < n) (below n)
    low zero = All-nil (λ x. x < 0)
    low (suc n) = All-push (λ x. x < suc n) (below n) n
        (All-weaker (λ x. x < n) (λ x. x < suc n) (λ x h. omega arith) (below n) (low n)) (omega arith)

    by : (n : ℕ) → AllOnce (map (λ i. 16 * k + i) (below n))
    by zero = tt
    by (suc n) = push (below n) n (low n) (by n)

pub children_over : (k : ℕ) → All (λ j. j / 16 ≡ k) (children k)
children_over k = All-map (λ j. j / 16 ≡ k) (λ j. 16 * k + j) (below 16)
    (All-weaker (λ j. j < 16) (λ j. (16 * k + j) / 16 ≡ k) (λ j h. omega arith) (below 16) (low 16))
  where
    low : (n : ℕ) → All (λ x. x < n) (below n)
    low zero = All-nil (λ x. x < 0)
    low (suc n) = All-push (λ x. x < suc n) (below n) n
        (All-weaker (λ x. x < n) (λ x. x < suc n) (λ x h. omega arith) (below n) (low n)) (omega arith)

-- The digests over a list of leaf digests

abbrev pub dig : Service → (ℕ → List ℕ) → ℕ → ℕ → List ℕ
dig S u zero k = u k
dig S u (suc l) k = S.digest (S.node (suc l) k (map (dig S u l) (children k)))

pub same_dig : (S : Service) (ds : List (List ℕ)) (l : ℕ) → digest_at S ds l ≡ dig S (λ i. slice_index_or ds i []) l
same_dig S ds zero = fun_ext (λ k. refl)
same_dig S ds (suc l) = fun_ext (λ k. ap (λ f. S.digest (S.node (suc l) k (map f (children k)))) (same_dig S ds l))

map_all : (f g : ℕ → List ℕ) (ks : List ℕ) → All (λ k. f k ≡ g k) ks → map f ks ≡ map g ks
map_all f g [] h = refl
map_all f g (k ∷ ks) h =
    let P : ℕ → Type 0 = λ k. f k ≡ g k in
    cc (All-head P k ks h, map_all f g ks (All-tail P k ks h))

-- it depends on the leaves below alone
pub dig_under : (S : Service) (u v : ℕ → List ℕ) (l k : ℕ) → ((i : ℕ) → over l i ≡ k → u i ≡ v i) →
    dig S u l k ≡ dig S v l k
dig_under S u v zero k h = h k refl
dig_under S u v (suc l) k h = ap (λ ds. S.digest (S.node (suc l) k ds)) (map_all (dig S u l) (dig S v l) (children k)
    (All-weaker (λ j. j / 16 ≡ k) (λ j. dig S u l j ≡ dig S v l j)
    (λ j e. dig_under S u v l j (λ i at. h i (ap (λ n. n / 16) at ∙ e))) (children k) (children_over k)))

pub zip_map : (f : ℕ → List ℕ) (ks : List ℕ) (ds : List (List ℕ)) → length ds ≡ length ks →
    ((y : Pair) → In y (zip ks ds) → f y.0 ≡ y.1) → map f ks ≡ ds
zip_map f [] [] e h = refl
zip_map f [] (d ∷ ds) e h = absurd (omega arith)
zip_map f (k ∷ ks) [] e h = absurd (omega arith)
zip_map f (k ∷ ks) (d ∷ ds) e h =
    let here : f k ≡ d = h (k, d) (inl refl) in
    cc (here, zip_map f ks ds (omega arith) (λ y g. h y (inr g)))
