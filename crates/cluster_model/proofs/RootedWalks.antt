-- What a whole walk got, put in, has the root that the walk began with.
use Rattle.std.proofs.Common.{◌≡◌, ℕ, zero, suc, ◌+◌, ◌*◌, ◌/◌, ◌^◌, ◌<◌, ◌⊎◌, Bool, true, false, cond, ◌||◌, ◌&&◌, List, [], ◌∷◌, ◌++◌, map, length, refl, sym, ◌∙◌, ap, subst, inl, inr, ⊎_elim, arith}
use Rattle.std.specs.Prelude.{Option, Some, None, bytes_eq, not, zip, ◌==◌, slice_index_or, slice_get}
use Rattle.std.specs.List.{All}
use Rattle.std.proofs.Math.Nat.{pow-suc, mul_assoc, mul_comm}
use Rattle.std.proofs.lemmas.Bool.{eqb-true, eq-eqb}
use Rattle.std.proofs.lemmas.Slice.Eq.{bytes_eq-Decides}
use Rattle.std.proofs.lemmas.List.{append-nil, append_assoc}
use Rattle.std.proofs.lemmas.List.Elements.{All-head, All-tail, All-nil, All-cons}
use Rattle.abs_model.specs.declared.Entry.{Entry}
use Rattle.cluster_model.specs.Service.{Service}
use Rattle.cluster_model.specs.Tree.{Item, below, children, digest_at, digests, root, text_of, entry_text}
use Rattle.cluster_model.specs.State.{lookup_item, or_else, has}
use Rattle.cluster_model.specs.Loose.{IsPut}
use Rattle.cluster_model.specs.Right.{is_told}
use Rattle.cluster_model.specs.Walk.{sought, IsAllGotAt, IsWholeWalk, IsFormed}
use Rattle.cluster_model.proofs.Growing.{fun_ext}
use Rattle.cluster_model.proofs.Passing.{digests_at}
use Rattle.cluster_model.proofs.Putting.{leaf, over}
use Rattle.cluster_model.proofs.Rooted.{In, NoTwo, Pair, append_one, children_once, children_over, dig, dig_under, in_append, in_behind, in_front, in_kept, in_told, in_zip, kept_in, kept_one, nums, only_one, same_dig, told_in, told_not, zip_map, zip_one}

-- A level of a whole walk

abbrev got_items : ℕ → List Pair → List (List ℕ) → List (Item × List ℕ)
got_items l [] ts = []
got_items l (x ∷ fr) [] = []
got_items l (x ∷ fr) (t ∷ ts) = (record { level = l; number = x.0 }, t) ∷ got_items l fr ts

abbrev kids : Service → List Pair → List (List ℕ) → List Pair
kids S [] ts = []
kids S (x ∷ fr) [] = []
kids S (x ∷ fr) (t ∷ ts) = zip (children x.0) (S.parts t) ++ kids S fr ts

abbrev Match : Service → List Pair → List (List ℕ) → Type 0
Match S [] [] = Unit {0}
Match S [] (t ∷ ts) = ⊥
Match S (x ∷ fr) [] = ⊥
Match S (x ∷ fr) (t ∷ ts) = (S.digest t ≡ x.1) × Match S fr ts

record Level (S : Service) (then : List Pair → List (Item × List ℕ) → Type 0) (l : ℕ) (fr lower : List Pair)
    (got : List (Item × List ℕ)) : Type 0 where
  ts : List (List ℕ)
  rest : List (Item × List ℕ)
  parts_are : got ≡ got_items l fr ts ++ rest
  match : Match S fr ts
  goes : then (lower ++ kids S fr ts) rest

level_of : (S : Service) (then : List Pair → List (Item × List ℕ) → Type 0) (l : ℕ) (fr lower : List Pair)
    (got : List (Item × List ℕ)) → IsAllGotAt S then l fr lower got → Level S then l fr lower got
level_of S then l [] lower got w =
    record {
      ts = [];
      rest = got;
      parts_are = refl;
      match = tt;
      goes = subst (λ xs. then xs got) (sym (append-nil lower)) w;
    }
level_of S then l (x ∷ fr) lower [] w = absurd w
level_of S then l (x ∷ fr) lower (g ∷ got) w =
    let f = level_of S then l fr (lower ++ zip (children x.0) (S.parts g.1)) got w.2 in
    let here : g ≡ (record { level = l; number = x.0 }, g.1) =
    (let i : Item = record { level = l; number = x.0 } in ap (λ (j : Item). (j, g.1)) w.0) in
    record {
      ts = g.1 ∷ f.ts;
      rest = f.rest;
      parts_are = ap (λ z. z ∷ got) here ∙ ap (λ zs. (record { level = l; number = x.0 }, g.1) ∷ zs) f.parts_are;
      match = (w.1, f.match);
      goes = subst (λ zs. then zs f.rest)
          (append_assoc lower (zip (children x.0) (S.parts g.1)) (kids S fr f.ts)) f.goes;
    }

module _ (S : Service) (b : List Entry) where
  own : List (List ℕ)
  own = digests S b

  -- the leaf digests of the replica's own, and with what was got
  abbrev old : ℕ → List ℕ
  old i = slice_index_or (digests S b) i []

  abbrev leaf_digest : Option (List ℕ) → List ℕ → List ℕ
  leaf_digest None d = d
  leaf_digest (Some t) d = S.digest t

  abbrev new : List (Item × List ℕ) → ℕ → List ℕ
  new got i = leaf_digest (lookup_item (leaf i) got) (old i)

  abbrev is_sought : ℕ → Pair → Bool
  is_sought l x = not (bytes_eq (digest_at S (digests S b) l x.0) x.1)

  -- nodes are no leaves
  past_nodes : (i l : ℕ) (fr : List Pair) (ts : List (List ℕ)) (rest : List (Item × List ℕ)) →
      lookup_item (leaf i) (got_items (suc l) fr ts ++ rest) ≡ lookup_item (leaf i) rest
  past_nodes i l [] ts rest = refl
  past_nodes i l (x ∷ fr) [] rest = refl
  past_nodes i l (x ∷ fr) (t ∷ ts) rest = ap
      (λ c. cond (c && (x.0 == i)) (Some t) (lookup_item (leaf i) (got_items (suc l) fr ts ++ rest)))
      (not_zero (suc l == 0) refl) ∙ past_nodes i l fr ts rest
    where
      not_zero : (c : Bool) → (suc l == 0) ≡ c → (suc l == 0) ≡ false
      not_zero true e = absurd (let z : suc l ≡ 0 = eqb-true (suc l) 0 e in omega arith)
      not_zero false e = e

  -- at the leaves
  found : (fr : List Pair) (ts : List (List ℕ)) → NoTwo fr → Match S fr ts → (x : Pair) → In x fr → (d : List ℕ) →
      leaf_digest (lookup_item (leaf x.0) (got_items 0 fr ts)) d ≡ x.1
  found [] ts one m x h d = absurd h
  found (y ∷ fr) [] one m x h d = absurd m
  found (y ∷ fr) (t ∷ ts) one m x (inl e) d =
      let yes : (y.0 == x.0) ≡ true = eq-eqb y.0 x.0 (ap (λ (z : Pair). z.0) (sym e)) in
      ap (λ c. leaf_digest (cond (true && c) (Some t) (lookup_item (leaf x.0) (got_items 0 fr ts))) d) yes ∙ m.0
      ∙ ap (λ (z : Pair). z.1) (sym e)
  found (y ∷ fr) (t ∷ ts) one m x (inr g) d = by (y.0 == x.0) refl (found fr ts one.1 m.1 x g d)
    where
      by : (c : Bool) → (y.0 == x.0) ≡ c → leaf_digest (lookup_item (leaf x.0) (got_items 0 fr ts)) d ≡ x.1 →
          leaf_digest (cond (true && c) (Some t) (lookup_item (leaf x.0) (got_items 0 fr ts))) d ≡ x.1
      by true e rest = absurd (told_not y.0 fr one.0 x g (sym (eqb-true y.0 x.0 e)))
      by false e rest = rest

  leaf_told : (i : ℕ) (fr : List Pair) (ts : List (List ℕ)) → has (lookup_item (leaf i) (got_items 0 fr ts)) ≡ true →
      is_told i (nums fr) ≡ true
  leaf_told i [] ts h = absurd (cc)
  leaf_told i (y ∷ fr) [] h = absurd (cc)
  leaf_told i (y ∷ fr) (t ∷ ts) h = by (y.0 == i) h (leaf_told i fr ts)
    where
      by : (c : Bool) → has (cond (true && c) (Some t) (lookup_item (leaf i) (got_items 0 fr ts))) ≡ true →
          (has (lookup_item (leaf i) (got_items 0 fr ts)) ≡ true → is_told i (nums fr) ≡ true) →
          (c || is_told i (nums fr)) ≡ true
      by true g rest = refl
      by false g rest = rest g

  -- at a node: its text is of the grammar, and all below it is among what is expected lower down
  record Node (l : ℕ) (x : Pair) (lower : List Pair) : Type 0 where
    text : List ℕ
    digest_is : S.digest text ≡ x.1
    sixteen : length (S.parts text) ≡ 16
    formed : S.node (suc l) x.0 (S.parts text) ≡ text
    below_it : (y : Pair) → In y (zip (children x.0) (S.parts text)) → In y lower

  node_at : (l : ℕ) (fr : List Pair) (ts : List (List ℕ)) → Match S fr ts → All (IsFormed S) (got_items (suc l) fr ts) →
      (x : Pair) → In x fr → Node l x (kids S fr ts)
  node_at l [] ts m f x h = absurd h
  node_at l (y ∷ fr) [] m f x h = absurd m
  node_at l (y ∷ fr) (t ∷ ts) m f x (inl e) =
      let form = All-head (IsFormed S) (record { level = suc l; number = y.0 }, t) (got_items (suc l) fr ts) f l refl in
      let n : y.0 ≡ x.0 = ap (λ (z : Pair). z.0) (sym e) in
      record {
        text = t;
        digest_is = m.0 ∙ ap (λ (z : Pair). z.1) (sym e);
        sixteen = form.0;
        formed = subst (λ k. S.node (suc l) k (S.parts t) ≡ t) n form.1;
        below_it = λ z g. in_front z (zip (children y.0) (S.parts t)) (kids S fr ts)
            (subst (λ k. In z (zip (children k) (S.parts t))) (sym n) g);
      }
  node_at l (y ∷ fr) (t ∷ ts) m f x (inr h) =
      let g = node_at l fr ts m.1
      (All-tail (IsFormed S) (record { level = suc l; number = y.0 }, t) (got_items (suc l) fr ts) f) x h in
      record {
        text = g.text;
        digest_is = g.digest_is;
        sixteen = g.sixteen;
        formed = g.formed;
        below_it = λ z k. in_behind z (zip (children y.0) (S.parts t)) (kids S fr ts) (g.below_it z k);
      }

  kids_over : (fr : List Pair) (ts : List (List ℕ)) (y : Pair) → In y (kids S fr ts) →
      is_told (y.0 / 16) (nums fr) ≡ true
  kids_over [] ts y h = absurd h
  kids_over (x ∷ fr) [] y h = absurd h
  kids_over (x ∷ fr) (t ∷ ts) y h = ⊎_elim
      (λ g. (let e : y.0 / 16 ≡ x.0 = in_zip (λ j. j / 16 ≡ x.0) y (children x.0) (S.parts t) (children_over x.0) g in
      let yes : (x.0 == y.0 / 16) ≡ true = eq-eqb x.0 (y.0 / 16) (sym e) in
      ap (λ c. c || is_told (y.0 / 16) (nums fr)) yes))
      (λ g. or_right (x.0 == y.0 / 16) (kids_over fr ts y g))
      (in_append y (zip (children x.0) (S.parts t)) (kids S fr ts) h)
    where
      or_right : (a : Bool) {c : Bool} → c ≡ true → (a || c) ≡ true
      or_right true e = refl
      or_right false e = e

  kids_one : (fr : List Pair) (ts : List (List ℕ)) → NoTwo fr → NoTwo (kids S fr ts)
  kids_one [] ts one = tt
  kids_one (x ∷ fr) [] one = tt
  kids_one (x ∷ fr) (t ∷ ts) one = append_one (zip (children x.0) (S.parts t)) (kids S fr ts)
      (zip_one (children x.0) (S.parts t) (children_once x.0)) (kids_one fr ts one.1)
      (λ y z g h e.
      let a : y.0 / 16 ≡ x.0 = in_zip (λ j. j / 16 ≡ x.0) y (children x.0) (S.parts t) (children_over x.0) g in
      let told : is_told (z.0 / 16) (nums fr) ≡ true = kids_over fr ts z h in
      let same : z.0 / 16 ≡ x.0 = ap (λ n. n / 16) (sym e) ∙ a in
      let f = told_in (z.0 / 16) fr told in
      told_not x.0 fr one.0 f.0 f.1 (f.2 ∙ same))

  -- what holds of the numbers that a walk begins with at a level
  record Reached (l : ℕ) (fr : List Pair) (got : List (Item × List ℕ)) : Type 0 where
    has_digest : (x : Pair) → In x fr → dig S (new got) l x.0 ≡ x.1
    leaves : (i : ℕ) → has (lookup_item (leaf i) got) ≡ true → is_told (over l i) (nums fr) ≡ true

  own_is : (l k : ℕ) → digest_at S (digests S b) l k ≡ dig S old l k
  own_is l k = ap (λ (f : ℕ → List ℕ). f k) (same_dig S (digests S b) l)

  -- what is not sought is the replica's own, and nothing below it was got
  kept_own : (l : ℕ) (fr : List Pair) (got : List (Item × List ℕ)) → NoTwo fr →
      ((i : ℕ) → has (lookup_item (leaf i) got) ≡ true →
      is_told (over l i) (nums (sought S (digests S b) l fr)) ≡ true) →
      (x : Pair) → In x fr → is_sought l x ≡ false → dig S (new got) l x.0 ≡ x.1
  kept_own l fr got one leaves x h e =
      dig_under S (new got) old l x.0 (λ i at. none i at (lookup_item (leaf i) got) refl) ∙ sym (own_is l x.0)
      ∙ same (bytes_eq (digest_at S (digests S b) l x.0) x.1) refl e
    where
      same : (c : Bool) → bytes_eq (digest_at S (digests S b) l x.0) x.1 ≡ c → not c ≡ false →
          digest_at S (digests S b) l x.0 ≡ x.1
      same true t f = (bytes_eq-Decides (digest_at S (digests S b) l x.0) x.1).0 t
      same false t f = absurd (cc)

      none : (i : ℕ) → over l i ≡ x.0 → (o : Option (List ℕ)) → lookup_item (leaf i) got ≡ o →
          leaf_digest o (old i) ≡ old i
      none i at None g = refl
      none i at (Some t) g = absurd (
          let told = leaves i (ap has g) in
          let y = told_in (over l i) (sought S (digests S b) l fr) told in
          let z = kept_in (is_sought l) y.0 fr y.1 in
          let twin : y.0 ≡ x = only_one fr one y.0 x z.0 h (y.2 ∙ at) in
          let t : is_sought l x ≡ true = subst (λ w. is_sought l w ≡ true) twin z.1 in cc)

  reached : (l : ℕ) (fr : List Pair) (got : List (Item × List ℕ)) → NoTwo fr → IsWholeWalk S (digests S b) l fr got →
      All (IsFormed S) got → Reached l fr got
  reached zero fr got one w forms =
      let fs = sought S (digests S b) 0 fr in
      let v = level_of S (λ lower rest. rest ≡ []) 0 fs [] got w in
      let is : got ≡ got_items 0 fs v.ts = v.parts_are ∙ ap (λ zs. got_items 0 fs v.ts ++ zs) v.goes
      ∙ append-nil (got_items 0 fs v.ts) in
      let one' : NoTwo fs = kept_one (is_sought 0) fr one in
      let leaves : (i : ℕ) → has (lookup_item (leaf i) got) ≡ true →
      is_told i (nums fs) ≡ true = λ i h. leaf_told i fs v.ts
      (subst (λ g. has (lookup_item (leaf i) g) ≡ true) is h) in
      record {
        has_digest = λ x h. by x h (is_sought 0 x) refl
            (λ e. subst (λ g. leaf_digest (lookup_item (leaf x.0) g) (old x.0) ≡ x.1) (sym is)
            (found fs v.ts one' v.match x (in_kept (is_sought 0) x fr h e) (old x.0)))
            (λ e. kept_own 0 fr got one leaves x h e);
        leaves = λ i h. (let y = told_in i fs (leaves i h) in let z = kept_in (is_sought 0) y.0 fr y.1 in
            subst (λ k. is_told k (nums fr) ≡ true) y.2 (in_told y.0 fr z.0));
      }
    where
      by : (x : Pair) → In x fr → (c : Bool) → is_sought 0 x ≡ c → (is_sought 0 x ≡ true → new got x.0 ≡ x.1) →
          (is_sought 0 x ≡ false → new got x.0 ≡ x.1) → new got x.0 ≡ x.1
      by x h true e f g = f e
      by x h false e f g = g e
  reached (suc l) fr got one w forms =
      let fs = sought S (digests S b) (suc l) fr in
      let v = level_of S (λ lower rest. IsWholeWalk S (digests S b) l lower rest) (suc l) fs [] got w in
      let one' : NoTwo fs = kept_one (is_sought (suc l)) fr one in
      let lower = kids S fs v.ts in
      let all : All (IsFormed S) (got_items (suc l) fs v.ts ++ v.rest) = subst (All (IsFormed S)) v.parts_are forms in
      let here : All (IsFormed S) (got_items (suc l) fs v.ts) = front_all (got_items (suc l) fs v.ts) v.rest all in
      let there : All (IsFormed S) v.rest = behind_all (got_items (suc l) fs v.ts) v.rest all in
      let down = reached l lower v.rest (kids_one fs v.ts one') v.goes there in
      let same : (i : ℕ) → lookup_item (leaf i) got ≡ lookup_item (leaf i) v.rest = λ i. ap
      (lookup_item (leaf i)) v.parts_are ∙ past_nodes i l fs v.ts v.rest in
      let news : new got ≡ new v.rest = fun_ext (λ i. ap (λ o. leaf_digest o (old i)) (same i)) in
      let leaves : (i : ℕ) → has (lookup_item (leaf i) got) ≡ true → is_told (over (suc l) i) (nums fs) ≡ true = λ i h.
      (let y = told_in (over l i) lower (down.leaves i (subst (λ o. has o ≡ true) (same i) h)) in
      subst (λ k. is_told (k / 16) (nums fs) ≡ true) y.2 (kids_over fs v.ts y.0 y.1)) in
      record {
        has_digest = λ x h. by x (is_sought (suc l) x) refl
            (λ e.
            let n = node_at l fs v.ts v.match here x (in_kept (is_sought (suc l)) x fr h e) in
            let each : map (dig S (new v.rest) l) (children x.0) ≡ S.parts n.text = zip_map (dig S (new v.rest) l)
            (children x.0) (S.parts n.text) n.sixteen (λ y g. down.has_digest y (n.below_it y g)) in
            ap (λ u. dig S u (suc l) x.0) news ∙ ap (λ ds. S.digest (S.node (suc l) x.0 ds)) each ∙ ap S.digest n.formed
            ∙ n.digest_is)
            (λ e. kept_own (suc l) fr got one leaves x h e);
        leaves = λ i h. (let y = told_in (over (suc l) i) fs (leaves i h) in
            let z = kept_in (is_sought (suc l)) y.0 fr y.1 in
            subst (λ k. is_told k (nums fr) ≡ true) y.2 (in_told y.0 fr z.0));
      }
    where
      by : (x : Pair) → (c : Bool) → is_sought (suc l) x ≡ c →
          (is_sought (suc l) x ≡ true → dig S (new got) (suc l) x.0 ≡ x.1) →
          (is_sought (suc l) x ≡ false → dig S (new got) (suc l) x.0 ≡ x.1) → dig S (new got) (suc l) x.0 ≡ x.1
      by x true e f g = f e
      by x false e f g = g e

      front_all : (xs ys : List (Item × List ℕ)) → All (IsFormed S) (xs ++ ys) → All (IsFormed S) xs
      front_all [] ys h = All-nil (IsFormed S)
      front_all (x ∷ xs) ys h = All-cons (IsFormed S) x xs (All-head (IsFormed S) x (xs ++ ys) h)
          (front_all xs ys (All-tail (IsFormed S) x (xs ++ ys) h))

      behind_all : (xs ys : List (Item × List ℕ)) → All (IsFormed S) (xs ++ ys) → All (IsFormed S) ys
      behind_all [] ys h = h
      behind_all (x ∷ xs) ys h = behind_all xs ys (All-tail (IsFormed S) x (xs ++ ys) h)

-- a leaf under a node of the tree lies in the tree
under_low : (l n i : ℕ) → over l i < n → i < n * 16 ^ l
under_low zero n i h = omega arith
under_low (suc l) n i h =
    let low : over l i < n * 16 = omega arith in
    let rest : i < (n * 16) * 16 ^ l = under_low l (n * 16) i low in
    let p : 16 ^ suc l ≡ 16 ^ l * 16 = pow-suc 16 l in
    let q : (n * 16) * 16 ^ l ≡ n * (16 ^ l * 16) = mul_assoc n 16 (16 ^ l) ∙ ap (λ m. n * m) (mul_comm 16 (16 ^ l)) in
    subst (λ m. i < n * m) (sym p) (subst (λ m. i < m) q rest)

-- the array that a whole walk from the root d gives has the root d
pub walk_root : (S : Service) (b a : List Entry) (d : List ℕ) (got : List (Item × List ℕ)) → length b ≡ 16 ^ S.levels →
    IsPut S b got a →
    IsWholeWalk S (digests S b) S.levels ((0, d) ∷ []) got → All (IsFormed S) got → root S a ≡ d
walk_root S b a d got size put w forms =
    let r = reached S b S.levels ((0, d) ∷ []) got (refl, tt) w forms in
    let top : dig S (new S b got) S.levels 0 ≡ d = r.has_digest (0, d) (inl refl) in
    let mine : root S a ≡ dig S (λ i. slice_index_or (digests S a) i []) S.levels 0 = ap (λ (f : ℕ → List ℕ). f 0)
    (same_dig S (digests S a) S.levels) in
    mine ∙ dig_under S (λ i. slice_index_or (digests S a) i []) (new S b got) S.levels 0
    (λ i at. leaf_is i (within i at)) ∙ top
  where
    within : (i : ℕ) → over S.levels i ≡ 0 → i < 16 ^ S.levels
    within i at = (let low : i < 1 * 16 ^ S.levels = under_low S.levels 1 i (omega arith) in omega arith)

    at_index : (c : List Entry) (i : ℕ) → i < length c → slice_index_or (digests S c) i [] ≡ S.digest (text_of S c i)
    at_index c i low = digests_at S 0 c i low
        ∙ (let z : 0 + i ≡ i = omega arith in ap (λ k. S.digest (entry_text S k (slice_get c i))) z)

    leaf_is : (i : ℕ) → i < 16 ^ S.levels → slice_index_or (digests S a) i [] ≡ new S b got i
    leaf_is i low =
        let lb : i < length b = subst (λ n. i < n) (sym size) low in
        let la : i < length a = subst (λ n. i < n) (sym put.as_long) lb in
        at_index a i la ∙ ap S.digest (put.texts i lb) ∙ by (lookup_item (leaf i) got) (at_index b i lb)
      where
        by : (o : Option (List ℕ)) → slice_index_or (digests S b) i [] ≡ S.digest (text_of S b i) →
            S.digest (or_else o (text_of S b i)) ≡ leaf_digest S b o (slice_index_or (digests S b) i [])
        by None e = sym e
        by (Some t) e = refl
