-- Under Apart the walk by digests gets the items of Need, with their texts, in its order.
use Rattle.std.proofs.Common.{◌⊎◌, inl, inr, ⊎_elim, ◌≡◌, ℕ, zero, suc, ◌+◌, ◌-◌, ◌*◌, ◌^◌, ◌<◌, ◌≤◌, Bool, true, false, cond, List, [], ◌∷◌, ◌++◌, map, length, take, refl, sym, ◌∙◌, ap, subst, arith}
use Rattle.std.specs.Prelude.{bytes_eq, filter, not, zip, slice_get}
use Rattle.std.specs.List.{All, flat_map}
use Rattle.std.specs.Bool.{one_answer}
use Rattle.std.proofs.Math.Nat.{pow-suc}
use Rattle.std.proofs.lemmas.Slice.Eq.{bytes_eq-Decides}
use Rattle.std.proofs.lemmas.List.Elements.{All-head, All-tail, All-nil, All-cons, All-append, All-map, All-filter, All-push, All-weaker}
use Rattle.abs_model.specs.declared.Entry.{Entry}
use Rattle.cluster_model.specs.Service.{Service}
use Rattle.cluster_model.specs.Tree.{Item, below, children, digest_at, digests, item_at, item_text, entry_text, differs, need_from, need, root}
use Rattle.cluster_model.specs.Walk.{sought, IsGotAt, IsWalk, IsAllGotAt, IsWholeWalk}
use Rattle.cluster_model.specs.Right.{IsSpelled}
use Rattle.cluster_model.proofs.Passing.{digests_at}

-- Lists

zip-map : {X Y : Type 0} (f : X → Y) (xs : List X) → zip xs (map f xs) ≡ map (λ x. (x, f x)) xs
zip-map f [] = refl
zip-map f (x ∷ xs) = ap (λ ys. (x, f x) ∷ ys) (zip-map f xs)

pub map-++ : {X Y : Type 0} (f : X → Y) (xs ys : List X) → map f (xs ++ ys) ≡ map f xs ++ map f ys
map-++ f [] ys = refl
map-++ f (x ∷ xs) ys = ap (λ zs. f x ∷ zs) (map-++ f xs ys)

++-nil : {X : Type 0} (xs : List X) → xs ++ [] ≡ xs
++-nil [] = refl
++-nil (x ∷ xs) = ap (λ ys. x ∷ ys) (++-nil xs)

pub ++-assoc : {X : Type 0} (xs ys zs : List X) → (xs ++ ys) ++ zs ≡ xs ++ (ys ++ zs)
++-assoc [] ys zs = refl
++-assoc (x ∷ xs) ys zs = ap (λ ws. x ∷ ws) (++-assoc xs ys zs)

map-twice : {X Y Z : Type 0} (f : X → Y) (g : Y → Z) (xs : List X) → map g (map f xs) ≡ map (λ x. g (f x)) xs
map-twice f g [] = refl
map-twice f g (x ∷ xs) = ap (λ ys. g (f x) ∷ ys) (map-twice f g xs)

All-below : (n : ℕ) → All (λ j. j < n) (below n)
All-below zero = All-nil (λ j. j < 0)
All-below (suc n) = All-push (λ j. j < suc n) (below n) n
    (All-weaker (λ j. j < n) (λ j. j < suc n) (λ j h. omega arith) (below n) (All-below n)) (omega arith)

pub All-flat_map : {X Y : Type 0} (P : Y → Type 0) (f : X → List Y) (xs : List X) → All (λ x. All P (f x)) xs →
    All P (flat_map f xs)
All-flat_map P f [] h = All-nil P
All-flat_map {X} P f (x ∷ xs) h =
    let Q : X → Type 0 = λ y. All P (f y) in
    All-append P (f x) (flat_map f xs) (All-head Q x xs h) (All-flat_map P f xs (All-tail Q x xs h))

pub item_digest : (S : Service) (a : List Entry) → length a ≡ 16 ^ S.levels → (l k : ℕ) → k < 16 ^ (S.levels - l) →
    digest_at S (digests S a) l k ≡ S.digest (item_at S a l k)
item_digest S a size zero k h =
    let e : S.levels - 0 ≡ S.levels = omega arith in
    let within : k < length a = subst (λ n. k < n) (sym size) (subst (λ n. k < 16 ^ n) e h) in
    digests_at S 0 a k within
    ∙ (let z : 0 + k ≡ k = omega arith in ap (λ n. S.digest (entry_text S n (slice_get a k))) z)
item_digest S a size (suc l) k h = refl

pub children_in : (S : Service) (l : ℕ) → suc l ≤ S.levels → (k : ℕ) → k < 16 ^ (S.levels - suc l) →
    All (λ n. n < 16 ^ (S.levels - l)) (children k)
children_in S l high k h =
    let e : S.levels - l ≡ suc (S.levels - suc l) = omega arith in
    let m = 16 ^ (S.levels - suc l) in
    let p : 16 ^ (S.levels - l) ≡ m * 16 = ap (λ n. 16 ^ n) e ∙ pow-suc 16 (S.levels - suc l) in
    All-map (λ n. n < 16 ^ (S.levels - l)) (λ j. 16 * k + j) (below 16)
    (All-weaker (λ j. j < 16) (λ j. 16 * k + j < 16 ^ (S.levels - l)) (λ j low. rw p (omega arith)) (below 16)
    (All-below 16))

-- the digests that stand in a node of the tree are digests
pub children_digests : (S : Service) → IsSpelled S → (a : List Entry) → length a ≡ 16 ^ S.levels → (l k : ℕ) →
    suc l ≤ S.levels → k < 16 ^ (S.levels - suc l) →
    All (λ d. length d ≡ 32) (map (digest_at S (digests S a) l) (children k))
children_digests S laws a size l k high low =
    All-map (λ d. length d ≡ 32) (digest_at S (digests S a) l) (children k)
    (All-weaker (λ n. n < 16 ^ (S.levels - l)) (λ n. length (digest_at S (digests S a) l n) ≡ 32)
    (λ n h. ap length (item_digest S a size l n h) ∙ laws.digest_size (item_at S a l n)) (children k)
    (children_in S l high k low))

module _ (S : Service) (laws : IsSpelled S) (b c : List Entry) (Tx : List ℕ → Type 0)
    (apart : (s t : List ℕ) → Tx s → Tx t → S.digest s ≡ S.digest t → s ≡ t)
    (size_b : length b ≡ 16 ^ S.levels) (size_c : length c ≡ 16 ^ S.levels)
    (in_b : (l k : ℕ) → l ≤ S.levels → k < 16 ^ (S.levels - l) → Tx (item_at S b l k))
    (in_c : (l k : ℕ) → l ≤ S.levels → k < 16 ^ (S.levels - l) → Tx (item_at S c l k)) where
  same_test : (l k : ℕ) → l ≤ S.levels → k < 16 ^ (S.levels - l) →
      bytes_eq (digest_at S (digests S b) l k) (digest_at S (digests S c) l k) ≡ bytes_eq (item_at S b l k)
      (item_at S c l k)
  same_test l k high h =
      let eb = item_digest S b size_b l k h in
      let ec = item_digest S c size_c l k h in
      let d = bytes_eq-Decides (digest_at S (digests S b) l k) (digest_at S (digests S c) l k) in
      one_answer {P = item_at S b l k ≡ item_at S c l k}
      (bytes_eq (digest_at S (digests S b) l k) (digest_at S (digests S c) l k))
      (bytes_eq (item_at S b l k) (item_at S c l k)) (
        λ t. apart (item_at S b l k) (item_at S c l k) (in_b l k high h) (in_c l k high h) (sym eb ∙ d.0 t ∙ ec),
        λ e. d.1 (eb ∙ ap S.digest e ∙ sym ec),
      )
      (bytes_eq-Decides (item_at S b l k) (item_at S c l k))

  -- what is expected at these numbers of a level, and the items there
  abbrev expect : ℕ → List ℕ → List (ℕ × List ℕ)
  expect l ks = map (λ k. (k, digest_at S (digests S c) l k)) ks

  abbrev texts : ℕ → List ℕ → List (Item × List ℕ)
  texts l ks = map (λ k. (record { level = l; number = k }, item_at S c l k)) ks

  abbrev InTree : ℕ → List ℕ → Type 0
  InTree l ks = All (λ k. k < 16 ^ (S.levels - l)) ks

  sought_is : (l : ℕ) → l ≤ S.levels → (ks : List ℕ) → InTree l ks →
      sought S (digests S b) l (expect l ks) ≡ expect l (filter (differs S b c l) ks)
  sought_is l high [] h = refl
  sought_is l high (k ∷ ks) h =
      let P : ℕ → Type 0 = λ n. n < 16 ^ (S.levels - l) in
      let rest : sought S (digests S b) l (expect l ks) ≡ expect l (filter (differs S b c l) ks) = sought_is l high ks
      (All-tail P k ks h) in
      by (bytes_eq (digest_at S (digests S b) l k) (digest_at S (digests S c) l k))
      (bytes_eq (item_at S b l k) (item_at S c l k))
      (same_test l k high (All-head P k ks h)) rest
    where
      x : ℕ × List ℕ
      x = (k, digest_at S (digests S c) l k)

      by : (t u : Bool) → t ≡ u → sought S (digests S b) l (expect l ks) ≡ expect l (filter (differs S b c l) ks) →
          cond (not t) ((k, digest_at S (digests S c) l k) ∷ sought S (digests S b) l (expect l ks))
          (sought S (digests S b) l (expect l ks))
          ≡ expect l (cond (not u) (k ∷ filter (differs S b c l) ks) (filter (differs S b c l) ks))
      by true true e rest = rest
      by false false e rest = ap (λ ys. (k, digest_at S (digests S c) l k) ∷ ys) rest
      by true false e rest = absurd (cc)
      by false true e rest = absurd (cc)

  parts_are : (l k : ℕ) → suc l ≤ S.levels → k < 16 ^ (S.levels - suc l) →
      zip (children k) (S.parts (item_at S c (suc l) k)) ≡ expect l (children k)
  parts_are l k high low =
      let ds = map (digest_at S (digests S c) l) (children k) in
      let e : S.parts (item_at S c (suc l) k) ≡ ds = laws.parts_node (suc l) k ds refl
      (children_digests S laws c size_c l k high low) in
      ap (zip (children k)) e ∙ zip-map (digest_at S (digests S c) l) (children k)

  abbrev AllKnown : List (Item × List ℕ) → Type 0
  AllKnown got = All (λ (g : Item × List ℕ). Tx g.1) got

  -- a text that was got is the item's
  got_text : (l k : ℕ) → l ≤ S.levels → k < 16 ^ (S.levels - l) → (g : Item × List ℕ) → Tx g.1 →
      g.0 ≡ record { level = l; number = k } → S.digest g.1 ≡ digest_at S (digests S c) l k →
      g ≡ (record { level = l; number = k }, item_at S c l k)
  got_text l k high h g known item same =
      let text : g.1 ≡ item_at S c l k = apart g.1 (item_at S c l k) known (in_c l k high h)
      (same ∙ item_digest S c size_c l k h) in
      let here : Item = record { level = l; number = k } in
      let one : (g.0, g.1) ≡ (here, g.1) = ap (λ (i : Item). (i, g.1)) item in
      let two : (here, g.1) ≡ (here, item_at S c l k) = ap (λ (t : List ℕ). (here, t)) text in
      one ∙ two

  got_level : (l : ℕ) → suc l ≤ S.levels → (then : List (ℕ × List ℕ) → List (Item × List ℕ) → Type 0)
      (more : List (Item × List ℕ)) →
      (ks : List ℕ) → InTree (suc l) ks → (lower : List (ℕ × List ℕ)) →
      ((rest : List (Item × List ℕ)) → AllKnown rest → then (lower ++ expect l (flat_map children ks)) rest →
      rest ≡ take (length rest) more) →
      (got : List (Item × List ℕ)) → AllKnown got → IsGotAt S then (suc l) (expect (suc l) ks) lower got →
      got ≡ take (length got) (texts (suc l) ks ++ more)
  got_level l high then more [] h lower go got known w = go got known (subst (λ lo. then lo got) (sym (++-nil lower)) w)
  got_level l high then more (k ∷ ks) h lower go [] known w = refl
  got_level l high then more (k ∷ ks) h lower go (g ∷ got) known w =
      let P : ℕ → Type 0 = λ n. n < 16 ^ (S.levels - suc l) in
      let Q : Item × List ℕ → Type 0 = λ g. Tx g.1 in
      let here : g ≡ (record { level = suc l; number = k }, item_at S c (suc l) k) = got_text (suc l) k high
      (All-head P k ks h) g (All-head Q g got known) w.0 w.1 in
      let kids : zip (children k) (S.parts g.1) ≡ expect l (children k) = ap
      (λ (x : Item × List ℕ). zip (children k) (S.parts x.1)) here ∙ parts_are l k high (All-head P k ks h) in
      let lower' = lower ++ zip (children k) (S.parts g.1) in
      let same : lower' ++ expect l (flat_map children ks) ≡ lower ++ expect l (children k ++ flat_map children ks) =
      ap (λ zs. (lower ++ zs) ++ expect l (flat_map children ks)) kids
      ∙ ++-assoc lower (expect l (children k)) (expect l (flat_map children ks))
      ∙ ap (λ zs. lower ++ zs)
      (sym (map-++ (λ k. (k, digest_at S (digests S c) l k)) (children k) (flat_map children ks))) in
      let rest : got ≡ take (length got) (texts (suc l) ks ++ more) =
      got_level l high then more ks (All-tail P k ks h) lower'
      (λ rest known' w'. go rest known' (subst (λ lo. then lo rest) same w')) got (All-tail Q g got known) w.2 in
      cc (here, rest)

  got_last : (ks : List ℕ) → InTree 0 ks → (lower : List (ℕ × List ℕ)) (got : List (Item × List ℕ)) → AllKnown got →
      IsGotAt S (λ lower rest. rest ≡ []) 0 (expect 0 ks) lower got → got ≡ take (length got) (texts 0 ks)
  got_last [] h lower got known w = w ∙ sym (ap (λ (g : List (Item × List ℕ)). take (length g) (texts 0 [])) w)
  got_last (k ∷ ks) h lower [] known w = refl
  got_last (k ∷ ks) h lower (g ∷ got) known w =
      let P : ℕ → Type 0 = λ n. n < 16 ^ (S.levels - 0) in
      let Q : Item × List ℕ → Type 0 = λ g. Tx g.1 in
      let here : g ≡ (record { level = 0; number = k }, item_at S c 0 k) = got_text 0 k (omega arith)
      (All-head P k ks h) g (All-head Q g got known) w.0 w.1 in
      let rest : got ≡ take (length got) (texts 0 ks) = got_last ks (All-tail P k ks h)
      (lower ++ zip (children k) (S.parts g.1)) got (All-tail Q g got known) w.2 in
      cc (here, rest)

  abbrev with_text : Item → Item × List ℕ
  with_text i = (i, item_text S c i)

  walk_from : (l : ℕ) → l ≤ S.levels → (ks : List ℕ) → InTree l ks → (got : List (Item × List ℕ)) → AllKnown got →
      IsWalk S (digests S b) l (expect l ks) got → got ≡ take (length got) (map with_text (need_from S b c l ks))
  walk_from zero high ks h got known w =
      let fs = filter (differs S b c 0) ks in
      let inside : InTree 0 fs = All-filter (differs S b c 0) (λ k. k < 16 ^ (S.levels - 0)) ks h in
      let w' = subst (λ fr. IsGotAt S (λ lower rest. rest ≡ []) 0 fr [] got) (sought_is 0 high ks h) w in
      got_last fs inside [] got known w' ∙ ap (take (length got))
      (sym (map-twice (λ k. record { level = 0; number = k }) with_text fs))
  walk_from (suc l) high ks h got known w =
      let fs = filter (differs S b c (suc l)) ks in
      let inside : InTree (suc l) fs = All-filter (differs S b c (suc l)) (λ k. k < 16 ^ (S.levels - suc l)) ks h in
      let w' = subst (λ fr. IsGotAt S (λ lower rest. IsWalk S (digests S b) l lower rest) (suc l) fr [] got)
      (sought_is (suc l) high ks h) w in
      let kids : InTree l (flat_map children fs) = All-flat_map (λ k. k < 16 ^ (S.levels - l)) children fs
      (All-weaker (λ k. k < 16 ^ (S.levels - suc l)) (λ k. InTree l (children k))
      (λ k g. children_in S l high k g) fs inside) in
      let more = map with_text (need_from S b c l (flat_map children fs)) in
      let one : got ≡ take (length got) (texts (suc l) fs ++ more) =
      got_level l high (λ lower rest. IsWalk S (digests S b) l lower rest) more fs inside []
      (λ rest known' g. walk_from l (omega arith) (flat_map children fs) kids rest known' g) got known w' in
      one ∙ ap (take (length got))
      (ap (λ xs. xs ++ more) (sym (map-twice (λ k. record { level = suc l; number = k }) with_text fs))
      ∙ sym (map-++ with_text (map (λ k. record { level = suc l; number = k }) fs)
      (need_from S b c l (flat_map children fs))))

  -- what a walk from the root of c got is the beginning of Need with the texts of c
  pub walk_need : (got : List (Item × List ℕ)) → AllKnown got →
      IsWalk S (digests S b) S.levels ((0, root S c) ∷ []) got →
      got ≡ take (length got) (map with_text (need S b c))
  walk_need got known w =
      let e : S.levels - S.levels ≡ 0 = omega arith in
      let one : 0 < 16 ^ (S.levels - S.levels) = subst (λ n. 0 < 16 ^ n) (sym e) (omega arith) in
      walk_from S.levels (omega arith) (0 ∷ [])
      (All-cons (λ k. k < 16 ^ (S.levels - S.levels)) 0 [] one
      (All-nil (λ k. k < 16 ^ (S.levels - S.levels)))) got known w

  all_level : (l : ℕ) → suc l ≤ S.levels → (then : List (ℕ × List ℕ) → List (Item × List ℕ) → Type 0)
      (more : List (Item × List ℕ)) →
      (ks : List ℕ) → InTree (suc l) ks → (lower : List (ℕ × List ℕ)) →
      ((rest : List (Item × List ℕ)) → AllKnown rest → then (lower ++ expect l (flat_map children ks)) rest →
      rest ≡ more) →
      (got : List (Item × List ℕ)) → AllKnown got → IsAllGotAt S then (suc l) (expect (suc l) ks) lower got →
      got ≡ texts (suc l) ks ++ more
  all_level l high then more [] h lower go got known w = go got known (subst (λ lo. then lo got) (sym (++-nil lower)) w)
  all_level l high then more (k ∷ ks) h lower go [] known w = absurd w
  all_level l high then more (k ∷ ks) h lower go (g ∷ got) known w =
      let P : ℕ → Type 0 = λ n. n < 16 ^ (S.levels - suc l) in
      let Q : Item × List ℕ → Type 0 = λ g. Tx g.1 in
      let here : g ≡ (record { level = suc l; number = k }, item_at S c (suc l) k) = got_text (suc l) k high
      (All-head P k ks h) g (All-head Q g got known) w.0 w.1 in
      let kids : zip (children k) (S.parts g.1) ≡ expect l (children k) = ap
      (λ (x : Item × List ℕ). zip (children k) (S.parts x.1)) here ∙ parts_are l k high (All-head P k ks h) in
      let lower' = lower ++ zip (children k) (S.parts g.1) in
      let same : lower' ++ expect l (flat_map children ks) ≡ lower ++ expect l (children k ++ flat_map children ks) =
      ap (λ zs. (lower ++ zs) ++ expect l (flat_map children ks)) kids
      ∙ ++-assoc lower (expect l (children k)) (expect l (flat_map children ks))
      ∙ ap (λ zs. lower ++ zs)
      (sym (map-++ (λ k. (k, digest_at S (digests S c) l k)) (children k) (flat_map children ks))) in
      let rest : got ≡ texts (suc l) ks ++ more =
      all_level l high then more ks (All-tail P k ks h) lower'
      (λ rest known' w'. go rest known' (subst (λ lo. then lo rest) same w')) got (All-tail Q g got known) w.2 in
      cc (here, rest)

  all_last : (ks : List ℕ) → InTree 0 ks → (lower : List (ℕ × List ℕ)) (got : List (Item × List ℕ)) → AllKnown got →
      IsAllGotAt S (λ lower rest. rest ≡ []) 0 (expect 0 ks) lower got → got ≡ texts 0 ks
  all_last [] h lower got known w = w
  all_last (k ∷ ks) h lower [] known w = absurd w
  all_last (k ∷ ks) h lower (g ∷ got) known w =
      let P : ℕ → Type 0 = λ n. n < 16 ^ (S.levels - 0) in
      let Q : Item × List ℕ → Type 0 = λ g. Tx g.1 in
      let here : g ≡ (record { level = 0; number = k }, item_at S c 0 k) = got_text 0 k (omega arith)
      (All-head P k ks h) g (All-head Q g got known) w.0 w.1 in
      let rest : got ≡ texts 0 ks = all_last ks (All-tail P k ks h) (lower ++ zip (children k) (S.parts g.1)) got
      (All-tail Q g got known) w.2 in
      cc (here, rest)

  whole_from : (l : ℕ) → l ≤ S.levels → (ks : List ℕ) → InTree l ks → (got : List (Item × List ℕ)) → AllKnown got →
      IsWholeWalk S (digests S b) l (expect l ks) got → got ≡ map with_text (need_from S b c l ks)
  whole_from zero high ks h got known w =
      let fs = filter (differs S b c 0) ks in
      let inside : InTree 0 fs = All-filter (differs S b c 0) (λ k. k < 16 ^ (S.levels - 0)) ks h in
      let w' = subst (λ fr. IsAllGotAt S (λ lower rest. rest ≡ []) 0 fr [] got) (sought_is 0 high ks h) w in
      all_last fs inside [] got known w' ∙ sym (map-twice (λ k. record { level = 0; number = k }) with_text fs)
  whole_from (suc l) high ks h got known w =
      let fs = filter (differs S b c (suc l)) ks in
      let inside : InTree (suc l) fs = All-filter (differs S b c (suc l)) (λ k. k < 16 ^ (S.levels - suc l)) ks h in
      let w' = subst (λ fr. IsAllGotAt S (λ lower rest. IsWholeWalk S (digests S b) l lower rest) (suc l) fr [] got)
      (sought_is (suc l) high ks h) w in
      let kids : InTree l (flat_map children fs) = All-flat_map (λ k. k < 16 ^ (S.levels - l)) children fs
      (All-weaker (λ k. k < 16 ^ (S.levels - suc l)) (λ k. InTree l (children k))
      (λ k g. children_in S l high k g) fs inside) in
      let more = map with_text (need_from S b c l (flat_map children fs)) in
      let one : got ≡ texts (suc l) fs ++ more =
      all_level l high (λ lower rest. IsWholeWalk S (digests S b) l lower rest) more fs inside []
      (λ rest known' g. whole_from l (omega arith) (flat_map children fs) kids rest known' g) got known w' in
      one ∙
      (ap (λ xs. xs ++ more) (sym (map-twice (λ k. record { level = suc l; number = k }) with_text fs))
      ∙ sym (map-++ with_text (map (λ k. record { level = suc l; number = k }) fs)
      (need_from S b c l (flat_map children fs))))

  -- what a walk that came to its end got is Need with the texts of c
  pub whole_need : (got : List (Item × List ℕ)) → AllKnown got →
      IsWholeWalk S (digests S b) S.levels ((0, root S c) ∷ []) got →
      got ≡ map with_text (need S b c)
  whole_need got known w =
      let e : S.levels - S.levels ≡ 0 = omega arith in
      let one : 0 < 16 ^ (S.levels - S.levels) = subst (λ n. 0 < 16 ^ n) (sym e) (omega arith) in
      whole_from S.levels (omega arith) (0 ∷ [])
      (All-cons (λ k. k < 16 ^ (S.levels - S.levels)) 0 [] one
      (All-nil (λ k. k < 16 ^ (S.levels - S.levels)))) got known w

  -- a walk came to its end, or something of Need is missing

  more_level : (l : ℕ) → suc l ≤ S.levels → (then whole : List (ℕ × List ℕ) → List (Item × List ℕ) → Type 0)
      (more : List (Item × List ℕ)) → (ks : List ℕ) → InTree (suc l) ks →
      (lower : List (ℕ × List ℕ)) →
      ((rest : List (Item × List ℕ)) → AllKnown rest → then (lower ++ expect l (flat_map children ks)) rest →
      whole (lower ++ expect l (flat_map children ks)) rest ⊎ (length rest < length more)) →
      (got : List (Item × List ℕ)) → AllKnown got → IsGotAt S then (suc l) (expect (suc l) ks) lower got →
      IsAllGotAt S whole (suc l) (expect (suc l) ks) lower got ⊎ (length got < length (texts (suc l) ks ++ more))
  more_level l high then whole more [] h lower go got known w = ⊎_elim
      (λ a. inl (subst (λ lo. whole lo got) (++-nil lower) a)) (λ a. inr a)
      (go got known (subst (λ lo. then lo got) (sym (++-nil lower)) w))
  more_level l high then whole more (k ∷ ks) h lower go [] known w = inr (omega arith)
  more_level l high then whole more (k ∷ ks) h lower go (g ∷ got) known w =
      let P : ℕ → Type 0 = λ n. n < 16 ^ (S.levels - suc l) in
      let R : Item × List ℕ → Type 0 = λ g. Tx g.1 in
      let here : g ≡ (record { level = suc l; number = k }, item_at S c (suc l) k) = got_text (suc l) k high
      (All-head P k ks h) g (All-head R g got known) w.0 w.1 in
      let kids : zip (children k) (S.parts g.1) ≡ expect l (children k) = ap
      (λ (x : Item × List ℕ). zip (children k) (S.parts x.1)) here ∙ parts_are l k high (All-head P k ks h) in
      let lower' = lower ++ zip (children k) (S.parts g.1) in
      let same : lower' ++ expect l (flat_map children ks) ≡ lower ++ expect l (children k ++ flat_map children ks) =
      ap (λ zs. (lower ++ zs) ++ expect l (flat_map children ks)) kids
      ∙ ++-assoc lower (expect l (children k)) (expect l (flat_map children ks))
      ∙ ap (λ zs. lower ++ zs)
      (sym (map-++ (λ k. (k, digest_at S (digests S c) l k)) (children k) (flat_map children ks))) in
      ⊎_elim (λ a. inl (w.0, w.1, a)) (λ a. inr (omega arith))
      (more_level l high then whole more ks (All-tail P k ks h) lower'
      (λ rest known' w'. ⊎_elim (λ a. inl (subst (λ lo. whole lo rest) (sym same) a)) (λ a. inr a)
      (go rest known' (subst (λ lo. then lo rest) same w')))
      got (All-tail R g got known) w.2)

  more_last : (ks : List ℕ) (lower : List (ℕ × List ℕ)) (got : List (Item × List ℕ)) →
      IsGotAt S (λ lower rest. rest ≡ []) 0 (expect 0 ks) lower got →
      IsAllGotAt S (λ lower rest. rest ≡ []) 0 (expect 0 ks) lower got ⊎ (length got < length (texts 0 ks))
  more_last [] lower got w = inl w
  more_last (k ∷ ks) lower [] w = inr (omega arith)
  more_last (k ∷ ks) lower (g ∷ got) w = ⊎_elim (λ a. inl (w.0, w.1, a)) (λ a. inr (omega arith))
      (more_last ks (lower ++ zip (children k) (S.parts g.1)) got w.2)

  more_from : (l : ℕ) → l ≤ S.levels → (ks : List ℕ) → InTree l ks → (got : List (Item × List ℕ)) → AllKnown got →
      IsWalk S (digests S b) l (expect l ks) got → IsWholeWalk S (digests S b) l (expect l ks) got ⊎
      (length got < length (map with_text (need_from S b c l ks)))
  more_from zero high ks h got known w =
      let fs = filter (differs S b c 0) ks in
      let same = sought_is 0 high ks h in
      let w' = subst (λ fr. IsGotAt S (λ lower rest. rest ≡ []) 0 fr [] got) same w in
      ⊎_elim (λ a. inl (subst (λ fr. IsAllGotAt S (λ lower rest. rest ≡ []) 0 fr [] got) (sym same) a))
      (λ a. inr (subst (λ xs. length got < length xs)
      (sym (map-twice (λ k. record { level = 0; number = k }) with_text fs)) a))
      (more_last fs [] got w')
  more_from (suc l) high ks h got known w =
      let fs = filter (differs S b c (suc l)) ks in
      let same = sought_is (suc l) high ks h in
      let inside : InTree (suc l) fs = All-filter (differs S b c (suc l)) (λ k. k < 16 ^ (S.levels - suc l)) ks h in
      let w' = subst (λ fr. IsGotAt S (λ lower rest. IsWalk S (digests S b) l lower rest) (suc l) fr [] got) same w in
      let kids : InTree l (flat_map children fs) = All-flat_map (λ k. k < 16 ^ (S.levels - l)) children fs
      (All-weaker (λ k. k < 16 ^ (S.levels - suc l)) (λ k. InTree l (children k))
      (λ k g. children_in S l high k g) fs inside) in
      let more = map with_text (need_from S b c l (flat_map children fs)) in
      let all : texts (suc l) fs ++ more ≡ map with_text
      (map (λ k. record { level = suc l; number = k }) fs ++ need_from S b c l (flat_map children fs)) =
      ap (λ xs. xs ++ more) (sym (map-twice (λ k. record { level = suc l; number = k }) with_text fs))
      ∙ sym (map-++ with_text (map (λ k. record { level = suc l; number = k }) fs)
      (need_from S b c l (flat_map children fs))) in
      ⊎_elim (λ a. inl (subst
      (λ fr. IsAllGotAt S (λ lower rest. IsWholeWalk S (digests S b) l lower rest) (suc l) fr [] got) (sym same) a))
      (λ a. inr (subst (λ xs. length got < length xs) all a))
      (more_level l high (λ lower rest. IsWalk S (digests S b) l lower rest)
      (λ lower rest. IsWholeWalk S (digests S b) l lower rest) more fs inside []
      (λ rest known' g. more_from l (omega arith) (flat_map children fs) kids rest known' g) got known w')

  pub walk_or_more : (got : List (Item × List ℕ)) → AllKnown got →
      IsWalk S (digests S b) S.levels ((0, root S c) ∷ []) got →
      IsWholeWalk S (digests S b) S.levels ((0, root S c) ∷ []) got ⊎ (length got < length (map with_text (need S b c)))
  walk_or_more got known w =
      let e : S.levels - S.levels ≡ 0 = omega arith in
      let one : 0 < 16 ^ (S.levels - S.levels) = subst (λ n. 0 < 16 ^ n) (sym e) (omega arith) in
      more_from S.levels (omega arith) (0 ∷ [])
      (All-cons (λ k. k < 16 ^ (S.levels - S.levels)) 0 [] one
      (All-nil (λ k. k < 16 ^ (S.levels - S.levels)))) got known w
