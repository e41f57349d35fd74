-- What a fetch wants is wanted with the digests of an array that has the root aimed at, as long as what it got are that
-- array's texts; and these texts are taken.
use Rattle.std.proofs.Common.{◌≡◌, ℕ, zero, suc, ◌+◌, ◌-◌, ◌*◌, ◌^◌, ◌<◌, ◌≤◌, Bool, true, false, cond, List, [], ◌∷◌, ◌++◌, length, map, All, refl, sym, ap, subst, ◌∙◌, arith}
use Rattle.std.specs.Prelude.{not, bytes_eq, zip}
use Rattle.std.specs.List.{flat_map}
use Rattle.std.proofs.lemmas.List.{length-append}
use Rattle.std.proofs.lemmas.List.Elements.{All-head, All-tail}
use Rattle.sha2.specs.Sha256.{sha256}
use Rattle.xdr_core.specs.Items.{spell_word}
use Rattle.xdr_core.specs.Grammar.{Spells}
use Rattle.abs_model.specs.declared.Entry.{Entry}
use Rattle.abs_text.specs.Text.{node_text, node_parts}
use Rattle.abs_text.specs.Node.{IsNodeText}
use Rattle.abs_text.specs.Forms.{entry_form}
use Rattle.cluster_model.specs.Service.{Service}
use Rattle.cluster_model.specs.Tree as tree
use Rattle.cluster_model.specs.Tree.{Item, item, item_at, text_of, digests, children}
use Rattle.cluster_model.specs.Right.{IsSpelled}
use Rattle.cluster_model.proofs.Walking.{item_digest, children_in, children_digests}
use Rattle.state_transfer.specs.Stand.{Own, Stand, differing, expected, settled, begins, goes_on, after}
use Rattle.state_transfer.specs.Fetch.{HasForm, Fits}
use Rattle.state_transfer.specs.Got.{IsReal}
use Rattle.state_transfer.proofs.Reals.{expected_is}
use Rattle.state_transfer.proofs.Walks.{Pair, Gots, HasRun}

module _ (S : Service) (laws : IsSpelled S) (real : IsReal S) (leaves : List (List ℕ)) (own : Own) (c : List Entry)
    (size : length c ≡ 16 ^ S.levels) where
  abbrev digest_of : ℕ → ℕ → List ℕ
  digest_of l k = tree.digest_at S (digests S c) l k

  -- each of these numbers lies in the tree, and is wanted with the digest that the array has there
  abbrev pub Wanted : ℕ → List Pair → Type 0
  Wanted l [] = Unit {0}
  Wanted l (x ∷ xs) = (x.0 < 16 ^ (S.levels - l)) × (x.1 ≡ digest_of l x.0) × Wanted l xs

  record WantedStand (s : Stand) : Type 0 where
    inside : s.level ≤ S.levels
    rest : Wanted s.level s.rest
    lower : (m : ℕ) → s.level ≡ suc m → Wanted m s.lower

  wanted_append : (l : ℕ) (xs ys : List Pair) → Wanted l xs → Wanted l ys → Wanted l (xs ++ ys)
  wanted_append l [] ys h g = g
  wanted_append l (x ∷ xs) ys h g = (h.0, h.1, wanted_append l xs ys h.2 g)

  wanted_differing : (l : ℕ) (xs : List Pair) → Wanted l xs → Wanted l (differing own l xs)
  wanted_differing l [] h = tt
  wanted_differing l (x ∷ xs) h = by (not (bytes_eq (own l x.0) x.1)) (wanted_differing l xs h.2)
    where
      by : (t : Bool) → Wanted l (differing own l xs) → Wanted l (cond t (x ∷ differing own l xs) (differing own l xs))
      by true g = (h.0, h.1, g)
      by false g = g

  settled_wanted : (l : ℕ) (rest lower : List Pair) → l ≤ S.levels → Wanted l rest →
      ((m : ℕ) → l ≡ suc m → Wanted m lower) → WantedStand (settled l rest lower)
  settled_wanted zero rest lower i w v = record { inside = i; rest = w; lower = λ m e. tt }
  settled_wanted (suc l) [] lower i w v = settled_wanted l lower [] (omega (arith, i)) (v l refl) (λ m e. tt)
  settled_wanted (suc l) (x ∷ xs) lower i w v = record { inside = i; rest = w; lower = v }

  -- what a node's text says of the sixteen below it

  wanted_row : (l : ℕ) (ks : List ℕ) → All (λ n. n < 16 ^ (S.levels - l)) ks → Wanted l (zip ks (map (digest_of l) ks))
  wanted_row l [] h = tt
  wanted_row l (k ∷ ks) h =
      let P : ℕ → Type 0 = λ n. n < 16 ^ (S.levels - l) in
      (All-head P k ks h, refl, wanted_row l ks (All-tail P k ks h))

  below_is : (l k : ℕ) → suc l ≤ S.levels → k < 16 ^ (S.levels - suc l) →
      expected k (item_at S c (suc l) k) ≡ zip (children k) (map (digest_of l) (children k))
  below_is l k high low =
      sym (expected_is S real leaves k (item_at S c (suc l) k))
      ∙ ap (zip (children k)) (laws.parts_node (suc l) k (map (digest_of l) (children k)) refl
      (children_digests S laws c size l k high low))

  wanted_below : (l k : ℕ) → suc l ≤ S.levels → k < 16 ^ (S.levels - suc l) →
      Wanted l (expected k (item_at S c (suc l) k))
  wanted_below l k high low =
      subst (Wanted l) (sym (below_is l k high low)) (wanted_row l (children k) (children_in S l high k low))

  -- one text more

  goes_wanted : (l : ℕ) (x : Pair) (xs lower : List Pair) → l ≤ S.levels → Wanted l (x ∷ xs) →
      ((m : ℕ) → l ≡ suc m → Wanted m lower) → WantedStand (goes_on own l x.0 xs lower (item_at S c l x.0))
  goes_wanted zero x xs lower i w v = record { inside = i; rest = w.2; lower = λ m e. tt }
  goes_wanted (suc l) x xs lower i w v =
      settled_wanted (suc l) xs (lower ++ differing own l (expected x.0 (item_at S c (suc l) x.0))) i w.2
      (λ m e. (let same : l ≡ m = omega (arith, e) in
      subst (λ n. Wanted n (lower ++ differing own l (expected x.0 (item_at S c (suc l) x.0)))) same
      (wanted_append l lower (differing own l (expected x.0 (item_at S c (suc l) x.0))) (v l refl)
      (wanted_differing l (expected x.0 (item_at S c (suc l) x.0)) (wanted_below l x.0 i w.0)))))

  after_is : (s : Stand) (x : Pair) (xs : List Pair) (t : List ℕ) → s.rest ≡ x ∷ xs →
      after own s t ≡ goes_on own s.level x.0 xs s.lower t
  after_is s x xs t e = ap (λ (r : List Pair). elim r [ [] ↦ s | x ∷ xs ↦ goes_on own s.level x.0 xs s.lower t ]) e

  after_wanted : (s : Stand) (x : Pair) (xs : List Pair) → s.rest ≡ x ∷ xs → WantedStand s →
      WantedStand (after own s (item_at S c s.level x.0))
  after_wanted s x xs e w = subst WantedStand (sym (after_is s x xs (item_at S c s.level x.0) e))
      (goes_wanted s.level x xs s.lower w.inside (subst (Wanted s.level) e w.rest) w.lower)

  -- at the beginning the top node is wanted with the root
  begins_wanted : (root : List ℕ) → root ≡ digest_of S.levels 0 → WantedStand (begins own S.levels root)
  begins_wanted root e =
      let none : S.levels - S.levels ≡ 0 = omega arith in
      let low : 0 < 16 ^ (S.levels - S.levels) = subst (λ n. 0 < 16 ^ n) (sym none) (omega arith) in
      settled_wanted S.levels (differing own S.levels ((0, root) ∷ [])) [] (omega arith)
      (wanted_differing S.levels ((0, root) ∷ []) (low, e, tt)) (λ m h. tt)

  -- texts that share a digest with one of the array are that one

  abbrev Apart : Item × List ℕ → Type 0
  Apart g = (l k : ℕ) → l ≤ S.levels → k < 16 ^ (S.levels - l) → S.digest g.1 ≡ S.digest (item_at S c l k) →
      g.1 ≡ item_at S c l k

  run_wanted : (s : Stand) (got : Gots) (end : Stand) → HasRun own s got end → All Apart got → WantedStand s →
      WantedStand end
  run_wanted s [] end h a w = subst WantedStand (sym h) w
  run_wanted s (g ∷ got) end h a w =
      let x = h.0 in
      let xs = h.1 in
      let wx = subst (Wanted s.level) h.2 w.rest in
      let digest : S.digest g.1 ≡ S.digest (item_at S c s.level x.0)
      = real.digest g.1 ∙ h.4.digest ∙ wx.1 ∙ item_digest S c size s.level x.0 wx.0 in
      let same : g.1 ≡ item_at S c s.level x.0 = All-head Apart g got a s.level x.0 w.inside wx.0 digest in
      run_wanted (after own s g.1) got end h.5 (All-tail Apart g got a)
      (subst (λ t. WantedStand (after own s t)) (sym same) (after_wanted s x xs h.2 w))

  -- The array's text for the item that is next is taken

  -- so many digests, each of 32 bytes
  flat_length : (ds : List (List ℕ)) → All (λ d. length d ≡ 32) ds → length (flat_map (λ (d : List ℕ). d) ds)
      ≡ 32 * length ds
  flat_length [] h = refl
  flat_length (d ∷ ds) h =
      let P : List ℕ → Type 0 = λ d. length d ≡ 32 in
      let here : length d ≡ 32 = All-head P d ds h in
      let rest = flat_length ds (All-tail P d ds h) in
      let both = length-append d (flat_map (λ (d : List ℕ). d) ds) in
      omega (arith, here, rest, both)

  word_length : (n : ℕ) → length (spell_word n) ≡ 4
  unfolding spell_word
  word_length n = refl

  node_length : (l k : ℕ) (ds : List (List ℕ)) → length (node_text l k ds)
      ≡ 12 + length (flat_map (λ (d : List ℕ). d) ds)
  node_length l k ds =
      let flat = flat_map (λ (d : List ℕ). d) ds in
      let first = length-append (spell_word 1) (spell_word l ++ (spell_word k ++ flat)) in
      let second = length-append (spell_word l) (spell_word k ++ flat) in
      let third = length-append (spell_word k) flat in
      omega (arith, first, second, third, word_length 1, word_length l, word_length k)

  node_form : (l k : ℕ) → suc l ≤ S.levels → k < 16 ^ (S.levels - suc l) → IsNodeText (suc l) k (item_at S c (suc l) k)
  node_form l k high low =
      let ds = map (digest_of l) (children k) in
      let sizes = children_digests S laws c size l k high low in
      let text : item_at S c (suc l) k ≡ node_text (suc l) k ds = real.node (suc l) k ds in
      let many : length ds ≡ 16 = refl in
      let long = node_length (suc l) k ds in
      let flat = flat_length ds sizes in
      record {
        size = ap length text ∙ (omega (arith, many, long, flat));
        spelled = ap (node_text (suc l) k) (sym (real.parts (item_at S c (suc l) k))
            ∙ laws.parts_node (suc l) k ds refl sizes) ∙ sym text;
      }

  module _ (spelled : (k : ℕ) → k < length c → (e : Entry) × Spells entry_form (k, e) (text_of S c k)) where
    form_of : (l k : ℕ) → l ≤ S.levels → k < 16 ^ (S.levels - l) → HasForm l k (item_at S c l k)
    form_of zero k high low =
        let all : S.levels - 0 ≡ S.levels = omega arith in
        spelled k (subst (λ n. k < n) (sym size) (subst (λ n. k < 16 ^ n) all low))
    form_of (suc l) k high low = node_form l k high low

    pub next_fits : (root : List ℕ) (got : Gots) (end : Stand) → HasRun own (begins own S.levels root) got end →
        root ≡ digest_of S.levels 0 → All Apart got → (x : Pair) (xs : List Pair) → end.rest ≡ x ∷ xs →
        Fits end.level x (item_at S c end.level x.0)
    next_fits root got end run e apart x xs rest =
        let w = run_wanted (begins own S.levels root) got end run apart (begins_wanted root e) in
        let wx = subst (Wanted end.level) rest w.rest in
        record {
          digest = sym (real.digest (item_at S c end.level x.0))
              ∙ sym (item_digest S c size end.level x.0 wx.0) ∙ sym wx.1;
          form = form_of end.level x.0 w.inside wx.0;
        }
