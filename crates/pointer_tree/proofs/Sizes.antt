-- How many blocks trees take, and so how many are free.
use Rattle.std.proofs.Common.{◌≡◌, ◌≢◌, ℕ, zero, suc, ◌+◌, ◌-◌, ◌*◌, ◌/◌, ◌^◌, ◌<◌, ◌≤◌, List, [], ◌∷◌, Bool, true, false, length, refl, sym, ap, subst, ◌∙◌, inl, inr, arith}
use Rattle.std.specs.Prelude.{◌==◌}
use Rattle.std.proofs.lemmas.Bool.{cases_eq, cases_lt, ne_eqb}
use Rattle.std.proofs.Math.Nat.{pow-suc}
use Rattle.block_alloc.specs.Free.{free_count, one_if as block_one}
use Rattle.pointer_tree.specs.Tree.{Content, one_if, sum_to, pointer, uses}
use Rattle.pointer_tree.specs.Changes.{free, IsTop}
use Rattle.pointer_tree.specs.Size.{weight, is_tight}
use Rattle.pointer_tree.specs.declared.node.Area.{Area}
use Rattle.pointer_tree.proofs.Sums.{one_same, one_other, sum_same, sum_zero}
use Rattle.pointer_tree.proofs.Trees.{uses-none, uses-leaf, uses-node, pow_pos_128}
use Rattle.pointer_tree.proofs.Words.{pointer_is}
use Rattle.pointer_tree.proofs.Tight.{tight_leaf, tight_node, tight_child}

-- SUMS OF SUMS

sum_plus : (n : ℕ) (f g : ℕ → ℕ) → sum_to n (λ b. f b + g b) ≡ sum_to n f + sum_to n g
unfolding sum_to
sum_plus zero f g = refl
sum_plus (suc n) f g = let ih = sum_plus n f g in omega (arith, ih)

sum_swap : (n k : ℕ) (f : ℕ → ℕ → ℕ) → sum_to n (λ b. sum_to k (λ j. f j b)) ≡ sum_to k (λ j. sum_to n (f j))
unfolding sum_to
sum_swap zero k f = sym (sum_zero k (λ j. 0) (λ j l. refl))
sum_swap (suc n) k f =
    let ih = sum_swap n k f in
    let p = sum_plus k (λ (j : ℕ). sum_to n (f j)) (λ (j : ℕ). f j n) in
    omega (arith, ih, p)

sum_one : (n p : ℕ) → p < n → sum_to n (λ b. one_if (p == b)) ≡ 1
unfolding sum_to
sum_one zero p l = absurd (omega arith)
sum_one (suc n) p l = elim (cases_eq p n) [
  | inl e ↦
      let before = sum_zero n (λ (b : ℕ). one_if (p == b)) (λ b lb. one_other p b (omega arith)) in
      let last : one_if (p == n) ≡ 1 = ap (λ (x : ℕ). one_if (p == x)) (sym e) ∙ one_same p in
      omega (arith, before, last)
  | inr ne ↦ let ih = sum_one n p (omega arith) in let last = one_other p n ne in omega (arith, ih, last)
]

weight-none : (area : Area) (c : Content) (d : ℕ) → weight area c d 0 ≡ 0
unfolding weight
weight-none area c zero = refl
weight-none area c (suc d) = refl

weight-leaf : (area : Area) (c : Content) (top : ℕ) → top ≢ 0 → weight area c 0 top ≡ 1
unfolding weight
weight-leaf area c top ne = rw (ne_eqb top 0 ne) refl

weight-node : (area : Area) (c : Content) (d top : ℕ) → top ≢ 0 → weight area c (suc d) top ≡ 1 + sum_to 128
    (λ j. weight area c d (pointer area (c top) j))
unfolding weight
weight-node area c d top ne = rw (ne_eqb top 0 ne) refl

below_end : (area : Area) (top : ℕ) → IsTop area top → top ≢ 0 → top < area.end
below_end area top (inl e) ne = absurd (ne e)
below_end area top (inr b) ne = b.1

-- the uses of all blocks are as many as the tree has
pub weight_is : (area : Area) (c : Content) (d top : ℕ) → IsTop area top → sum_to area.end (λ b. uses area c d top b)
    ≡ weight area c d top
weight_is area c zero top is = elim (cases_eq top 0) [
  | inl e ↦ subst (λ (x : ℕ). sum_to area.end (λ b. uses area c 0 x b) ≡ weight area c 0 x) (sym e)
      (sum_zero area.end (λ (b : ℕ). uses area c 0 0 b) (λ b l. uses-none area c 0 b) ∙ sym (weight-none area c 0))
  | inr ne ↦ sum_same area.end _ _ (λ b l. uses-leaf area c top b ne) ∙ sum_one area.end top
      (below_end area top is ne) ∙ sym (weight-leaf area c top ne)
]
weight_is area c (suc d) top is = elim (cases_eq top 0) [
  | inl e ↦ subst (λ (x : ℕ). sum_to area.end (λ b. uses area c (suc d) x b) ≡ weight area c (suc d) x) (sym e)
      (sum_zero area.end (λ (b : ℕ). uses area c (suc d) 0 b) (λ b l. uses-none area c (suc d) b)
      ∙ sym (weight-none area c (suc d)))
  | inr ne ↦
      let each : (j : ℕ) → j < 128 → sum_to area.end (λ b. uses area c d (pointer area (c top) j) b) ≡ weight area c d
      (pointer area (c top) j) =
      λ j l. weight_is area c d (pointer area (c top) j) (pointer_is area (c top) j) in
      sum_same area.end _ _ (λ b l. uses-node area c d top b ne)
      ∙ sum_plus area.end (λ b. one_if (top == b)) (λ b. sum_to 128 (λ j. uses area c d (pointer area (c top) j) b))
      ∙ ap (λ (s : ℕ). s + sum_to area.end (λ b. sum_to 128 (λ j. uses area c d (pointer area (c top) j) b)))
      (sum_one area.end top (below_end area top is ne))
      ∙ ap (λ (s : ℕ). 1 + s) (sum_swap area.end 128 (λ j b. uses area c d (pointer area (c top) j) b)
      ∙ sum_same 128 _ _ each)
      ∙ sym (weight-node area c d top ne)
]

-- HOW MANY THAT IS

sum_most : (n k : ℕ) (f : ℕ → ℕ) → ((j : ℕ) → j < n → 127 * f j + 1 ≤ k) → 127 * sum_to n f + n ≤ n * k
unfolding sum_to
sum_most zero k f h = omega arith
sum_most (suc n) k f h =
    let ih = sum_most n k f (λ j l. h j (omega arith)) in
    let last = h n (omega arith) in
    omega (arith, ih, last)

-- no tree has more than a full one
pub weight_full : (area : Area) (c : Content) (d top : ℕ) → 127 * weight area c d top + 1 ≤ 128 * 128 ^ d
weight_full area c zero top = elim (cases_eq top 0) [
  | inl e ↦ let w = ap (weight area c 0) e ∙ weight-none area c 0 in let one : 128 ^ 0 ≡ 1 = refl in
      omega (arith, w, one)
  | inr ne ↦ let w = weight-leaf area c top ne in let one : 128 ^ 0 ≡ 1 = refl in omega (arith, w, one)
]
weight_full area c (suc d) top = elim (cases_eq top 0) [
  | inl e ↦ let w = ap (weight area c (suc d)) e ∙ weight-none area c (suc d) in let p = pow_pos_128 (suc d) in
      omega (arith, w, p)
  | inr ne ↦
      let w = weight-node area c d top ne in
      let s = sum_most 128 (128 * 128 ^ d) (λ (j : ℕ). weight area c d (pointer area (c top) j))
      (λ j l. weight_full area c d (pointer area (c top) j)) in
      let p = pow-suc 128 d in
      omega (arith, w, s, p)
]

-- the children of a tight node, up to the J-th
record UpTo (s n d total j : ℕ) : Type 0 where
  within : j * s ≤ n → 127 * total ≤ 128 * (j * s)
  past : n < j * s → 127 * total ≤ 128 * n + 127 * d

sum_tight : (s n d : ℕ) (f : ℕ → ℕ) (j : ℕ) → ((i : ℕ) → i < j → 127 * f i ≤ 128 * s) →
    ((i : ℕ) → i < j → 127 * f i ≤ 128 * (n - i * s) + 127 * d) → ((i : ℕ) → i < j → n - i * s ≡ 0 → f i ≡ 0) →
    UpTo s n d (sum_to j f) j
unfolding sum_to
sum_tight s n d f zero full tight none = record { within = λ _. omega arith; past = λ h. absurd (omega arith) }
sum_tight s n d f (suc j) full tight none =
    let ih = sum_tight s n d f j (λ i l. full i (omega arith)) (λ i l. tight i (omega arith))
    (λ i l. none i (omega arith)) in
    let e : suc j * s ≡ j * s + s = omega arith in
    let a = full j (omega arith) in
    let b = tight j (omega arith) in
    record {
      within = λ h. let w = ih.within (omega (arith, h, e)) in omega (arith, w, a, e);
      past = λ h. elim (cases_lt n (j * s)) [
        | inl l ↦ let z = none j (omega arith) (omega arith) in let p = ih.past l in omega (arith, z, p)
        | inr l ↦ let w = ih.within l in omega (arith, w, b, l)
      ];
    }

-- TIGHT TREES

-- a tight tree of no blocks is none
pub weight_nothing : (area : Area) (c : Content) (d top n : ℕ) → is_tight area c d top n ≡ true → n ≡ 0 →
    weight area c d top ≡ 0
weight_nothing area c zero top n h z = elim (cases_eq top 0) [
  | inl e ↦ ap (weight area c 0) e ∙ weight-none area c 0
  | inr ne ↦ absurd (let t = tight_leaf area c top n ne h in omega (arith, t, z))
]
weight_nothing area c (suc d) top n h z = elim (cases_eq top 0) [
  | inl e ↦ ap (weight area c (suc d)) e ∙ weight-none area c (suc d)
  | inr ne ↦ absurd (let t = tight_node area c d top n ne h in omega (arith, t, z))
]

-- the blocks that a tight tree of n blocks has beside these n: a node for 127 of them, and one more at each depth
pub weight_tight : (area : Area) (c : Content) (d top n : ℕ) → is_tight area c d top n ≡ true → 127 * weight area c d
    top ≤ 128 * n + 127 * d
weight_tight area c zero top n h = elim (cases_eq top 0) [
  | inl e ↦ let w = ap (weight area c 0) e ∙ weight-none area c 0 in omega (arith, w)
  | inr ne ↦ let w = weight-leaf area c top ne in let t = tight_leaf area c top n ne h in omega (arith, w, t)
]
weight_tight area c (suc d) top n h = elim (cases_eq top 0) [
  | inl e ↦ let w = ap (weight area c (suc d)) e ∙ weight-none area c (suc d) in omega (arith, w)
  | inr ne ↦
      let child : ℕ → ℕ = λ j. pointer area (c top) j in
      let w = weight-node area c d top ne in
      let up = sum_tight (128 ^ d) n d (λ (j : ℕ). weight area c d (child j)) 128
      (λ j l. omega (arith, weight_full area c d (child j)))
      (λ j l. weight_tight area c d (child j) (n - j * 128 ^ d) (tight_child area c d top n ne h j l))
      (λ j l z. weight_nothing area c d (child j) (n - j * 128 ^ d) (tight_child area c d top n ne h j l) z) in
      elim (cases_lt n (128 * 128 ^ d)) [
        | inl l ↦ let p = up.past l in omega (arith, w, p)
        | inr l ↦ let p = up.within l in omega (arith, w, p, l)
      ]
]

-- THE FREE BLOCKS

sum_first : (n : ℕ) (f : ℕ → ℕ) → sum_to (suc n) f ≡ f 0 + sum_to n (λ b. f (suc b))
unfolding sum_to
sum_first zero f = omega arith
sum_first (suc n) f = let ih = sum_first n f in omega (arith, ih)

free_none : 0 ≡ sum_to 0 (free [])
unfolding sum_to
free_none = refl

same_one : (x : Bool) → block_one x ≡ one_if x
same_one true = refl
same_one false = refl

pub free_count_is : (m : List Bool) → free_count m ≡ sum_to (length m) (free m)
free_count_is [] = free_none
free_count_is (x ∷ xs) = let ih = free_count_is xs in let s = sum_first (length xs) (free (x ∷ xs)) in
    let e = same_one x in omega (arith, ih, s, e)

sum_from : (first end : ℕ) (f : ℕ → ℕ) → ((b : ℕ) → b < first → f b ≡ 0) → ((b : ℕ) → first ≤ b → b < end → f b ≡ 1) →
    sum_to end f ≡ end - first
unfolding sum_to
sum_from first zero f lo hi = omega arith
sum_from first (suc n) f lo hi =
    let ih = sum_from first n f lo (λ b l h. hi b l (omega arith)) in
    elim (cases_lt n first) [
      | inl l ↦ let z = lo n l in omega (arith, ih, z, l)
      | inr l ↦ let o = hi n l (omega arith) in omega (arith, ih, o, l)
    ]

-- where each block of the area is used once or free, and none before it, the free ones are those that the trees leave
pub free_left : (area : Area) (c : Content) (m : List Bool) (n : ℕ) (ds tops : ℕ → ℕ) →
    ((i : ℕ) → i < n → IsTop area (tops i)) → length m ≡ area.end
    → ((b : ℕ) → b < area.first → sum_to n (λ i. uses area c (ds i) (tops i) b) + free m b ≡ 0)
    → ((b : ℕ) → area.first ≤ b → b < area.end → sum_to n (λ i. uses area c (ds i) (tops i) b) + free m b ≡ 1)
    → sum_to n (λ i. weight area c (ds i) (tops i)) + free_count m ≡ area.end - area.first
free_left area c m n ds tops is len lo hi =
    let all = sum_from area.first area.end (λ (b : ℕ). sum_to n (λ i. uses area c (ds i) (tops i) b) + free m b) lo hi
    in
    let split = sum_plus area.end (λ (b : ℕ). sum_to n (λ i. uses area c (ds i) (tops i) b)) (free m) in
    let swap = sum_swap area.end n (λ (i : ℕ) (b : ℕ). uses area c (ds i) (tops i) b) in
    let each = sum_same n (λ (i : ℕ). sum_to area.end (λ b. uses area c (ds i) (tops i) b)) (λ (i : ℕ). weight area c
    (ds i) (tops i)) (λ i l. weight_is area c (ds i) (tops i) (is i l)) in
    let count = free_count_is m ∙ ap (λ (k : ℕ). sum_to k (free m)) len in
    omega (arith, all, split, swap, each, count)

-- The blocks suffice: N inodes of n data blocks together, for B bytes, leave room for a block and the nodes above it.
pub enough : (nodes bytes blocks weight : ℕ) → 127 * weight ≤ 128 * blocks + 381 * nodes → 512 * blocks ≤ bytes + 511
    * nodes → weight + 4 ≤ (64 + 8 * nodes + bytes / 256) - (1 + nodes)
enough nodes bytes blocks weight h g = omega arith

-- the same while a call has a few blocks more than its end leaves
pub enough_within : (nodes bytes blocks weight : ℕ) → 127 * weight ≤ 128 * blocks + 381 * nodes →
    512 * blocks ≤ bytes + 8192 + 511 * nodes → weight + 32 ≤ (64 + 8 * nodes + bytes / 256) - (1 + nodes)
enough_within nodes bytes blocks weight h g = omega arith
