-- A tree depends on its own blocks alone.
use Rattle.std.proofs.Common.{◌≡◌, ◌≢◌, ℕ, zero, suc, ◌+◌, ◌/◌, ◌%◌, ◌^◌, ◌<◌, ◌≤◌, List, refl, sym, ap, ◌∙◌, inl, inr, arith, lit<}
use Rattle.std.specs.Prelude.{◌==◌}
use Rattle.std.proofs.lemmas.Bool.{cases_eq, ne_eqb}
use Rattle.std.proofs.lemmas.Nat.{mod_below, div_below}
use Rattle.std.proofs.Math.Nat.{pow-suc}
use Rattle.pointer_tree.specs.Tree.{Content, one_if, sum_to, zeros, pointer, block, uses}
use Rattle.pointer_tree.specs.declared.node.Area.{Area}
use Rattle.pointer_tree.proofs.Sums.{one_same, sum_same, sum_term}

pub pow_pos_128 : (d : ℕ) → 0 < 128 ^ d
pow_pos_128 zero = lit< tt
pow_pos_128 (suc d) = let ih = pow_pos_128 d in let e = pow-suc 128 d in omega (arith, e, ih)

-- an index below 128 ^ (d + 1) as a child's number and an index in the child
pub remainder : (d k : ℕ) → k % 128 ^ d < 128 ^ d
remainder d k = mod_below k (128 ^ d) (pow_pos_128 d)

pub quotient : (d k : ℕ) → k < 128 ^ suc d → k / 128 ^ d < 128
quotient d k l = div_below k (128 ^ d) 128 (pow_pos_128 d) (let e = pow-suc 128 d in omega (arith, e, l))

pub uses-none : (area : Area) (c : Content) (d b : ℕ) → uses area c d 0 b ≡ 0
unfolding uses
uses-none area c zero b = refl
uses-none area c (suc d) b = refl

pub uses-leaf : (area : Area) (c : Content) (top b : ℕ) → top ≢ 0 → uses area c zero top b ≡ one_if (top == b)
unfolding uses
uses-leaf area c top b ne = rw (ne_eqb top 0 ne) refl

pub uses-node : (area : Area) (c : Content) (d top b : ℕ) → top ≢ 0 → uses area c (suc d) top b ≡ one_if (top == b) +
    sum_to 128 (λ j. uses area c d (pointer area (c top) j) b)
unfolding uses
uses-node area c d top b ne = rw (ne_eqb top 0 ne) refl

pub block-none : (area : Area) (c : Content) (d k : ℕ) → block area c d 0 k ≡ zeros
unfolding block
block-none area c zero k = refl
block-none area c (suc d) k = refl

pub block-leaf : (area : Area) (c : Content) (top k : ℕ) → top ≢ 0 → block area c zero top k ≡ c top
unfolding block
block-leaf area c top k ne = rw (ne_eqb top 0 ne) refl

pub block-node : (area : Area) (c : Content) (d top k : ℕ) → top ≢ 0 → block area c (suc d) top k ≡ block area c d
    (pointer area (c top) (k / 128 ^ d)) (k % 128 ^ d)
unfolding block
block-node area c d top k ne = rw (ne_eqb top 0 ne) refl

-- a tree uses its top
pub uses_top : (area : Area) (c : Content) (d top : ℕ) → top ≢ 0 → 1 ≤ uses area c d top top
uses_top area c zero top ne = let e = uses-leaf area c top top ne in omega (arith, e, one_same top)
uses_top area c (suc d) top ne = let e = uses-node area c d top top ne in omega (arith, e, one_same top)

-- and what a child uses
pub uses_child : (area : Area) (c : Content) (d top j b : ℕ) → top ≢ 0 → j < 128 → uses area c d
    (pointer area (c top) j) b + one_if (top == b) ≤ uses area c (suc d) top b
uses_child area c d top j b ne l =
    let e = uses-node area c d top b ne in
    let t = sum_term 128 (λ (i : ℕ). uses area c d (pointer area (c top) i) b) j l in
    omega (arith, e, t)

-- where the blocks that a tree uses are the same, so is what it uses
pub same_uses : (area : Area) (c c' : Content) (d top : ℕ) → ((q : ℕ) → 1 ≤ uses area c d top q → c' q ≡ c q) →
    (b : ℕ) → uses area c' d top b ≡ uses area c d top b
same_uses area c c' zero top h b = elim (cases_eq top 0) [
  | inl e ↦ rw e (uses-none area c' 0 b ∙ sym (uses-none area c 0 b))
  | inr ne ↦ uses-leaf area c' top b ne ∙ sym (uses-leaf area c top b ne)
]
same_uses area c c' (suc d) top h b = elim (cases_eq top 0) [
  | inl e ↦ rw e (uses-none area c' (suc d) b ∙ sym (uses-none area c (suc d) b))
  | inr ne ↦
      let here : c' top ≡ c top = h top (uses_top area c (suc d) top ne) in
      let each : (j : ℕ) → j < 128 → uses area c' d (pointer area (c' top) j) b ≡ uses area c d
      (pointer area (c top) j) b =
      λ j l. ap (λ (bytes : List ℕ). uses area c' d (pointer area bytes j) b) here
      ∙ same_uses area c c' d (pointer area (c top) j) (λ q u. h q (let t = uses_child area c d top j q ne l in
      omega (arith, u, t))) b in
      uses-node area c' d top b ne
      ∙ ap (λ (s : ℕ). one_if (top == b) + s) (sum_same 128 _ _ each)
      ∙ sym (uses-node area c d top b ne)
]

-- and so are its bytes, below its end
pub same_block : (area : Area) (c c' : Content) (d top : ℕ) → ((q : ℕ) → 1 ≤ uses area c d top q → c' q ≡ c q) →
    (k : ℕ) → k < 128 ^ d → block area c' d top k ≡ block area c d top k
same_block area c c' zero top h k l = elim (cases_eq top 0) [
  | inl e ↦ rw e (block-none area c' 0 k ∙ sym (block-none area c 0 k))
  | inr ne ↦ block-leaf area c' top k ne ∙ h top (uses_top area c 0 top ne) ∙ sym (block-leaf area c top k ne)
]
same_block area c c' (suc d) top h k l = elim (cases_eq top 0) [
  | inl e ↦ rw e (block-none area c' (suc d) k ∙ sym (block-none area c (suc d) k))
  | inr ne ↦
      let here : c' top ≡ c top = h top (uses_top area c (suc d) top ne) in
      let j = k / 128 ^ d in
      block-node area c' d top k ne
      ∙ ap (λ (bytes : List ℕ). block area c' d (pointer area bytes j) (k % 128 ^ d)) here
      ∙ same_block area c c' d (pointer area (c top) j) (λ q u. h q (let t = uses_child area c d top j q ne
      (quotient d k l) in omega (arith, u, t))) (k % 128 ^ d) (remainder d k)
      ∙ sym (block-node area c d top k ne)
]
