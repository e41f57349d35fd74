-- A tree under one more node.
use Rattle.std.proofs.Common.{◌≡◌, ◌≢◌, ℕ, zero, suc, ◌+◌, ◌-◌, ◌*◌, ◌/◌, ◌%◌, ◌^◌, ◌<◌, ◌≤◌, List, Bool, true, false, set, get_or, refl, sym, ap, subst, ◌∙◌, inl, inr, arith}
use Rattle.std.specs.Prelude.{◌==◌}
use Rattle.std.proofs.lemmas.Bool.{cases_eq}
use Rattle.std.proofs.lemmas.Nat.{div-add-mod', div_below}
use Rattle.std.proofs.lemmas.List.{get_or-set_same, get_or-set_other}
use Rattle.pointer_tree.specs.Tree.{Content, IsBlock, one_if, pointer, block, uses}
use Rattle.pointer_tree.specs.Size.{is_tight}
use Rattle.pointer_tree.specs.Changes.{free, Fits, Stands, Raises}
use Rattle.pointer_tree.specs.declared.node.Area.{Area}
use Rattle.pointer_tree.proofs.Sums.{one_same, one_other, sum_zero, sum_change}
use Rattle.pointer_tree.proofs.Trees.{uses-none, uses-node, block-none, block-node, same_uses, same_block, remainder}
use Rattle.pointer_tree.proofs.Tight.{tight_none, tight_leaf, tight_node, node_tight, same_tight}
use Rattle.pointer_tree.proofs.Steps.{free_in}

tight_some : (area : Area) (c : Content) (d top n : ℕ) → top ≢ 0 → is_tight area c d top n ≡ true → 0 < n
tight_some area c zero top n ne t = tight_leaf area c top n ne t
tight_some area c (suc d) top n ne t = tight_node area c d top n ne t

small : (s k : ℕ) → k < s → k / s ≡ 0
small s k l =
    let b = div_below k s 1 (omega arith) (omega arith) in
    omega (arith, b)

pub raise_none : (area : Area) (d top : ℕ) (c : Content) (m : List Bool) → top ≡ 0 → Raises area d top c m 0 c m
raise_none area d top c m e = record {
  moves = record {
    kept = λ b. let x = uses-none area c (suc d) b in let y = ap (λ (p : ℕ). uses area c d p b) e ∙ uses-none area c d
        b in omega (arith, x, y);
    frame = λ b h. refl;
  };
  same = λ k l. block-none area c (suc d) k ∙ sym (ap (λ (p : ℕ). block area c d p k) e ∙ block-none area c d k);
  past = λ k h l. block-none area c (suc d) k;
  top_is = inl refl;
  tight = λ n t. tight_none area c (suc d) n;
}

module _ (area : Area) (size d top b : ℕ) (c c2 : Content) (m m2 : List Bool)
    (fits : Fits area size m) (stands : Stands area d top c m) (ne : top ≢ 0) (was : get_or m b false ≡ true)
    (e : m2 ≡ set m b false)
    (first : pointer area (c2 b) 0 ≡ top) (later : (j : ℕ) → j ≢ 0 → pointer area (c2 b) j ≡ 0) (rest : (q : ℕ) →
    q ≢ b → c2 q ≡ c q) where
  one : free m b ≡ 1
  one = ap one_if was

  is_block : IsBlock area b
  is_block = fits.within b (omega (arith, one))

  b_ne : b ≢ 0
  b_ne = omega (arith, fits.not_zero, is_block.0)

  tree_kept : (q : ℕ) → 1 ≤ uses area c d top q → c2 q ≡ c q
  tree_kept q u = rest q (λ s. let k = ap (λ (x : ℕ). uses area c d top x) s in
      absurd (omega (arith, u, k, one, stands.once b)))

  raised_uses : (q : ℕ) → uses area c2 (suc d) b q ≡ one_if (b == q) + uses area c d top q
  raised_uses q =
      let f : ℕ → ℕ = λ j. uses area c2 d (pointer area (c2 b) j) q in
      let zero_at : (j : ℕ) → j ≢ 0 → f j ≡ 0 = λ j nj. ap (λ (p : ℕ). uses area c2 d p q) (later j nj)
      ∙ uses-none area c2 d q in
      let n = uses-node area c2 d b q b_ne in
      let change = sum_change 128 f (λ _. 0) 0 (omega arith) (λ j l nj. zero_at j nj) in
      let none = sum_zero 128 (λ _. 0) (λ j l. refl) in
      let at : f 0 ≡ uses area c d top q = ap (λ (p : ℕ). uses area c2 d p q) first ∙ same_uses area c c2 d top
      tree_kept q in
      omega (arith, n, change, none, at)

  raised_kept : (q : ℕ) → uses area c2 (suc d) b q + free m2 q ≡ uses area c d top q + free m q
  raised_kept q = elim (cases_eq q b) [
    | inl s ↦
        let gone : free m2 b ≡ 0 = ap (λ (xs : List Bool). free xs b) e ∙ ap one_if (get_or-set_same m b false false
        (free_in m b was)) in
        let k : uses area c2 (suc d) b b + free m2 b ≡ uses area c d top b + free m b = omega (
          arith,
          raised_uses b,
          gone,
          one,
          one_same b,
        ) in
        subst (λ (x : ℕ). uses area c2 (suc d) b x + free m2 x ≡ uses area c d top x + free m x) (sym s) k
    | inr nq ↦
        let after : free m2 q ≡ free m q = ap (λ (xs : List Bool). free xs q) e
        ∙ ap one_if (get_or-set_other m b q false false nq) in
        omega (arith, raised_uses q, after, one_other b q (λ x. nq (sym x)))
  ]

  raised_same : (k : ℕ) → k < 128 ^ d → block area c2 (suc d) b k ≡ block area c d top k
  raised_same k l =
      let whole = div-add-mod' k (128 ^ d) in
      let q0 : k / 128 ^ d ≡ 0 = small (128 ^ d) k l in
      let r : k % 128 ^ d ≡ k = (let z = ap (λ (x : ℕ). x * 128 ^ d) q0 in omega (arith, whole, z)) in
      block-node area c2 d b k b_ne
      ∙ ap (λ (x : ℕ). block area c2 d (pointer area (c2 b) x) (k % 128 ^ d)) q0
      ∙ ap (λ (p : ℕ). block area c2 d p (k % 128 ^ d)) first
      ∙ ap (λ (x : ℕ). block area c2 d top x) r
      ∙ same_block area c c2 d top tree_kept k l

  pub raise_some : Raises area d top c m b c2 m2
  raise_some = record {
    moves = record {
      kept = raised_kept;
      frame = λ q h. rest q (λ s. let k = ap (free m) s in
          absurd (omega (arith, h, k, one)));
    };
    same = raised_same;
    past = λ k h l.
        let nz : k / 128 ^ d ≢ 0 = λ z. (let whole = div-add-mod' k (128 ^ d) in let y = ap (λ (x : ℕ). x * 128 ^ d) z
        in let r = remainder d k in absurd (omega (arith, whole, y, r, h))) in
        block-node area c2 d b k b_ne
        ∙ ap (λ (p : ℕ). block area c2 d p (k % 128 ^ d)) (later (k / 128 ^ d) nz)
        ∙ block-none area c2 d (k % 128 ^ d);
    top_is = inr is_block;
    tight = λ n t. node_tight area c2 d b n (tight_some area c d top n ne t) (λ j l. elim (cases_eq j 0) [
      | inl z ↦
          let zs : n - j * 128 ^ d ≡ n = (let y = ap (λ (x : ℕ). x * 128 ^ d) z in omega (arith, y)) in
          ap (λ (x : ℕ). is_tight area c2 d (pointer area (c2 b) j) x) zs
          ∙ ap (λ (x : ℕ). is_tight area c2 d (pointer area (c2 b) x) n) z
          ∙ ap (λ (p : ℕ). is_tight area c2 d p n) first ∙ same_tight area c c2 d top n tree_kept t
      | inr nz ↦ ap (λ (p : ℕ). is_tight area c2 d p (n - j * 128 ^ d)) (later j nz) ∙ tight_none area c2 d
          (n - j * 128 ^ d)
    ]);
  }
