-- A tree uses blocks of the area alone, and bytes of the same blocks are the same.
use Rattle.std.proofs.Common.{◌≡◌, ℕ, zero, suc, ◌*◌, ◌/◌, ◌%◌, ◌<◌, ◌≤◌, List, get_or, map, sym, ap, subst, ◌∙◌, inl, inr, arith}
use Rattle.std.specs.List.{range_with_len}
use Rattle.std.proofs.lemmas.Bool.{cases_eq}
use Rattle.std.proofs.lemmas.List.{same_lists}
use Rattle.std.proofs.lemmas.List.FromFn.{length-map-range_with_len, get_or-map-range_with_len}
use Rattle.pointer_tree.specs.Tree.{Content, IsBlock, sum_to, pointer, uses}
use Rattle.pointer_tree.specs.Changes.{IsTop}
use Rattle.pointer_tree.specs.Bytes.{byte_at, bytes_from}
use Rattle.pointer_tree.specs.declared.node.Area.{Area}
use Rattle.pointer_tree.proofs.Sums.{one_other}
use Rattle.pointer_tree.proofs.Trees.{uses-none, uses-leaf, uses-node}
use Rattle.pointer_tree.proofs.Words.{pointer_is}

-- some term of a sum that is not zero is not zero
sum_some : (n : ℕ) (f : ℕ → ℕ) → 1 ≤ sum_to n f → (j : ℕ) × (j < n) × (1 ≤ f j)
unfolding sum_to
sum_some zero f h = absurd (omega arith)
sum_some (suc n) f h = elim (cases_eq (f n) 0) [
  | inl z ↦ let s = sum_some n f (omega (arith, h, z)) in (s.0, omega (arith, s.1), s.2)
  | inr nz ↦ (n, omega arith, omega arith)
]

-- a tree uses blocks of the area alone
pub uses_within : (area : Area) (c : Content) (d top b : ℕ) → IsTop area top → 1 ≤ uses area c d top b → IsBlock area b
uses_within area c zero top b (inl e) u = absurd (let z = ap (λ (p : ℕ). uses area c 0 p b) e ∙ uses-none area c 0 b
    in omega (arith, u, z))
uses_within area c (suc d) top b (inl e) u = absurd (let z = ap (λ (p : ℕ). uses area c (suc d) p b) e
    ∙ uses-none area c (suc d) b in omega (arith, u, z))
uses_within area c zero top b (inr is) u = elim (cases_eq top b) [
  | inl e ↦ subst (λ (x : ℕ). IsBlock area x) e is
  | inr nb ↦ elim (cases_eq top 0) [
    | inl z ↦ absurd (let y = ap (λ (p : ℕ). uses area c 0 p b) z ∙ uses-none area c 0 b in omega (arith, u, y))
    | inr ne ↦ absurd (let l = uses-leaf area c top b ne in omega (arith, u, l, one_other top b nb))
  ]
]
uses_within area c (suc d) top b (inr is) u = elim (cases_eq top b) [
  | inl e ↦ subst (λ (x : ℕ). IsBlock area x) e is
  | inr nb ↦ elim (cases_eq top 0) [
    | inl z ↦ absurd (let y = ap (λ (p : ℕ). uses area c (suc d) p b) z ∙ uses-none area c (suc d) b in
        omega (arith, u, y))
    | inr ne ↦
        let n = uses-node area c d top b ne in
        let s = sum_some 128 (λ (j : ℕ). uses area c d (pointer area (c top) j) b)
        (omega (arith, u, n, one_other top b nb)) in
        uses_within area c d (pointer area (c top) s.0) b (pointer_is area (c top) s.0) s.2
  ]
]

-- bytes of the same blocks are the same
pub bytes_same : (f g : ℕ → List ℕ) (n size : ℕ) → size ≤ 512 * n → ((k : ℕ) → k < n → f k ≡ g k) → bytes_from f 0
    size ≡ bytes_from g 0 size
unfolding bytes_from
bytes_same f g n size h same =
    let left = length-map-range_with_len (byte_at f) 0 size in
    let right = length-map-range_with_len (byte_at g) 0 size in
    same_lists _ _ (left ∙ sym right) (λ p e l.
    let lp : p < size = subst (λ (x : ℕ). p < x) left l in
    let x : get_or (map (byte_at f) (range_with_len 0 size)) p e ≡ byte_at f p = get_or-map-range_with_len (byte_at f)
    0 size p p e lp (omega arith) in
    let y : get_or (map (byte_at g) (range_with_len 0 size)) p e ≡ byte_at g p = get_or-map-range_with_len (byte_at g)
    0 size p p e lp (omega arith) in
    x ∙ ap (λ (xs : List ℕ). get_or xs (p % 512) 0) (same (p / 512) (omega arith)) ∙ sym y)
