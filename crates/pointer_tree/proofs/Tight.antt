-- Trees with no block past their first n, and no node above none.
use Rattle.std.proofs.Common.{◌≡◌, ◌≢◌, ℕ, zero, suc, ◌-◌, ◌*◌, ◌/◌, ◌%◌, ◌^◌, ◌<◌, ◌≤◌, List, Bool, true, false, refl, ap, ◌∙◌, inl, inr, arith}
use Rattle.std.specs.Prelude.{◌==◌, ◌&&◌, ◌||◌, nat_lt}
use Rattle.std.proofs.lemmas.Bool.{cases_eq, ne_eqb, ltb-true, lt-ltb}
use Rattle.std.proofs.Math.Nat.{pow-suc}
use Rattle.std.proofs.lemmas.Nat.{mul-le, div-add-mod'}
use Rattle.pointer_tree.specs.Tree.{Content, zeros, pointer, block, uses}
use Rattle.pointer_tree.specs.Size.{all_to, is_tight}
use Rattle.pointer_tree.specs.declared.node.Area.{Area}
use Rattle.pointer_tree.proofs.Trees.{uses_top, uses_child, pow_pos_128, block-none, block-node, remainder, quotient}

or_true : (a b : Bool) → a ≡ false → (a || b) ≡ true → b ≡ true
or_true true b e h = absurd (let bad : true ≡ false = e in cc)
or_true false b e h = h

and_first : (a b : Bool) → (a && b) ≡ true → a ≡ true
and_first true b h = refl
and_first false b h = absurd (let bad : false ≡ true = h in cc)

and_second : (a b : Bool) → (a && b) ≡ true → b ≡ true
and_second true b h = h
and_second false b h = absurd (let bad : false ≡ true = h in cc)

pub all_to_at : (n : ℕ) (p : ℕ → Bool) → all_to n p ≡ true → (j : ℕ) → j < n → p j ≡ true
unfolding all_to
all_to_at zero p h j l = absurd (omega arith)
all_to_at (suc n) p h j l = elim (cases_eq j n) [
  | inl e ↦ ap p e ∙ and_second (all_to n p) (p n) h
  | inr ne ↦ all_to_at n p (and_first (all_to n p) (p n) h) j (omega arith)
]

pub tight_leaf : (area : Area) (c : Content) (top n : ℕ) → top ≢ 0 → is_tight area c 0 top n ≡ true → 0 < n
unfolding is_tight
tight_leaf area c top n ne h = ltb-true 0 n (or_true (top == 0) (nat_lt 0 n) (ne_eqb top 0 ne) h)

pub tight_node : (area : Area) (c : Content) (d top n : ℕ) → top ≢ 0 → is_tight area c (suc d) top n ≡ true → 0 < n
unfolding is_tight
tight_node area c d top n ne h = ltb-true 0 n (and_first (nat_lt 0 n) _ (or_true (top == 0) _ (ne_eqb top 0 ne) h))

pub tight_child : (area : Area) (c : Content) (d top n : ℕ) → top ≢ 0 → is_tight area c (suc d) top n ≡ true →
    (j : ℕ) → j < 128 → is_tight area c d (pointer area (c top) j) (n - j * 128 ^ d) ≡ true
unfolding is_tight
tight_child area c d top n ne h j l =
    all_to_at 128 (λ (i : ℕ). is_tight area c d (pointer area (c top) i) (n - i * 128 ^ d)) (and_second (nat_lt 0 n) _
    (or_true (top == 0) _ (ne_eqb top 0 ne) h)) j l

or_second : (a b : Bool) → b ≡ true → (a || b) ≡ true
or_second true b h = refl
or_second false b h = h

both : (a b : Bool) → a ≡ true → b ≡ true → (a && b) ≡ true
both true b e h = h
both false b e h = absurd (let bad : false ≡ true = e in cc)

pub all_to_all : (n : ℕ) (p : ℕ → Bool) → ((j : ℕ) → j < n → p j ≡ true) → all_to n p ≡ true
unfolding all_to
all_to_all zero p h = refl
all_to_all (suc n) p h = both (all_to n p) (p n) (all_to_all n p (λ j l. h j (omega arith))) (h n (omega arith))

pub tight_none : (area : Area) (c : Content) (d n : ℕ) → is_tight area c d 0 n ≡ true
unfolding is_tight
tight_none area c zero n = refl
tight_none area c (suc d) n = refl

pub leaf_tight : (area : Area) (c : Content) (top n : ℕ) → 0 < n → is_tight area c 0 top n ≡ true
unfolding is_tight
leaf_tight area c top n l = or_second (top == 0) (nat_lt 0 n) (lt-ltb 0 n l)

pub node_tight : (area : Area) (c : Content) (d top n : ℕ) → 0 < n → ((j : ℕ) → j < 128 → is_tight area c d
    (pointer area (c top) j) (n - j * 128 ^ d) ≡ true) → is_tight area c (suc d) top n ≡ true
unfolding is_tight
node_tight area c d top n l h = or_second (top == 0) _ (both (nat_lt 0 n) _ (lt-ltb 0 n l)
    (all_to_all 128 (λ (j : ℕ). is_tight area c d (pointer area (c top) j) (n - j * 128 ^ d)) h))

pub tight_more : (area : Area) (c : Content) (d top n n' : ℕ) → is_tight area c d top n ≡ true → n ≤ n' →
    is_tight area c d top n' ≡ true
tight_more area c zero top n n' h l = elim (cases_eq top 0) [
  | inl e ↦ ap (λ (x : ℕ). is_tight area c 0 x n') e ∙ tight_none area c 0 n'
  | inr ne ↦ let t = tight_leaf area c top n ne h in leaf_tight area c top n' (omega (arith, t, l))
]
tight_more area c (suc d) top n n' h l = elim (cases_eq top 0) [
  | inl e ↦ ap (λ (x : ℕ). is_tight area c (suc d) x n') e ∙ tight_none area c (suc d) n'
  | inr ne ↦
      let t = tight_node area c d top n ne h in
      node_tight area c d top n' (omega (arith, t, l))
      (λ j lj. tight_more area c d (pointer area (c top) j) (n - j * 128 ^ d) (n' - j * 128 ^ d)
      (tight_child area c d top n ne h j lj) (omega arith))
]

room : (s n j : ℕ) → j < 128 → 128 * s ≤ n → s ≤ n - j * s
room s n j l h = let m : suc j * s ≤ 128 * s = mul-le (suc j) s 128 s (omega arith) (omega arith) in omega (arith, m, h)

pub tight_full : (area : Area) (c : Content) (d top n : ℕ) → 128 ^ d ≤ n → is_tight area c d top n ≡ true
tight_full area c zero top n h = leaf_tight area c top n (let one : 128 ^ 0 ≡ 1 = refl in omega (arith, h, one))
tight_full area c (suc d) top n h =
    let p = pow-suc 128 d in
    node_tight area c d top n (let q = pow_pos_128 (suc d) in omega (arith, h, q))
    (λ j l. tight_full area c d (pointer area (c top) j) (n - j * 128 ^ d) (room (128 ^ d) n j l (omega (arith, h, p))))

pub same_tight : (area : Area) (c c' : Content) (d top n : ℕ) → ((q : ℕ) → 1 ≤ uses area c d top q → c' q ≡ c q) →
    is_tight area c d top n ≡ true → is_tight area c' d top n ≡ true
same_tight area c c' zero top n h t = elim (cases_eq top 0) [
  | inl e ↦ ap (λ (x : ℕ). is_tight area c' 0 x n) e ∙ tight_none area c' 0 n
  | inr ne ↦ leaf_tight area c' top n (tight_leaf area c top n ne t)
]
same_tight area c c' (suc d) top n h t = elim (cases_eq top 0) [
  | inl e ↦ ap (λ (x : ℕ). is_tight area c' (suc d) x n) e ∙ tight_none area c' (suc d) n
  | inr ne ↦
      let here : c' top ≡ c top = h top (uses_top area c (suc d) top ne) in
      node_tight area c' d top n (tight_node area c d top n ne t)
      (λ j l. ap (λ (xs : List ℕ). is_tight area c' d (pointer area xs j) (n - j * 128 ^ d)) here
      ∙ same_tight area c c' d (pointer area (c top) j) (n - j * 128 ^ d)
      (λ q u. h q (let b = uses_child area c d top j q ne l in omega (arith, u, b))) (tight_child area c d top n
      ne t j l))
]

-- a tree without blocks past its first n reads as zeros there
pub tight_zeros : (area : Area) (c : Content) (d top n : ℕ) → is_tight area c d top n ≡ true → (k : ℕ) → n ≤ k →
    k < 128 ^ d → block area c d top k ≡ zeros
tight_zeros area c zero top n t k l h = elim (cases_eq top 0) [
  | inl e ↦ ap (λ (p : ℕ). block area c 0 p k) e ∙ block-none area c 0 k
  | inr ne ↦ absurd (let some = tight_leaf area c top n ne t in let one : 128 ^ 0 ≡ 1 = refl in
      omega (arith, some, l, h, one))
]
tight_zeros area c (suc d) top n t k l h = elim (cases_eq top 0) [
  | inl e ↦ ap (λ (p : ℕ). block area c (suc d) p k) e ∙ block-none area c (suc d) k
  | inr ne ↦
      let j = k / 128 ^ d in
      let whole = div-add-mod' k (128 ^ d) in
      block-node area c d top k ne
      ∙ tight_zeros area c d (pointer area (c top) j) (n - j * 128 ^ d)
      (tight_child area c d top n ne t j (quotient d k h)) (k % 128 ^ d) (omega (arith, whole, l)) (remainder d k)
]
