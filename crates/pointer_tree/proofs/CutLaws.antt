-- Cutting a tree, child by child.
use Rattle.std.proofs.Common.{◌≡◌, ◌≢◌, ℕ, suc, ◌+◌, ◌-◌, ◌*◌, ◌/◌, ◌%◌, ◌^◌, ◌<◌, ◌≤◌, ◌⊎◌, List, Bool, true, false, length, set, get_or, refl, sym, ap, subst, ◌∙◌, inl, inr, arith}
use Rattle.std.specs.Prelude.{◌==◌}
use Rattle.std.proofs.lemmas.Bool.{cases_eq}
use Rattle.std.proofs.lemmas.Nat.{div-add-mod'}
use Rattle.std.proofs.lemmas.List.{get_or-set_same, get_or-set_other}
use Rattle.pointer_tree.specs.Tree.{Content, one_if, sum_to, zeros, pointer, block, uses}
use Rattle.pointer_tree.specs.Changes.{free, IsTop, Stands, Cuts}
use Rattle.pointer_tree.specs.declared.node.Area.{Area}
use Rattle.pointer_tree.proofs.Sums.{one_same, one_other, sum_same, sum_zero, sum_term}
use Rattle.pointer_tree.proofs.Trees.{uses-none, uses-leaf, uses-node, block-none, block-node, same_uses, same_block, remainder, quotient}
use Rattle.pointer_tree.specs.Size.{is_tight}
use Rattle.pointer_tree.proofs.Tight.{tight_none, node_tight, tight_full, same_tight}
use Rattle.pointer_tree.proofs.Forest.{other_kept, other_block, all_kept}

-- a block given back
pub freed : (m m2 : List Bool) (top : ℕ) → top < length m → m2 ≡ set m top true → free m top ≡ 0 → (b : ℕ) →
    free m2 b ≡ one_if (top == b) + free m b
freed m m2 top l e taken b = elim (cases_eq b top) [
  | inl s ↦
      let now : free m2 top ≡ 1 = ap (λ (xs : List Bool). free xs top) e ∙ ap one_if (get_or-set_same m top true false
      l) in
      let k : free m2 top ≡ one_if (top == top) + free m top = omega (arith, now, taken, one_same top) in
      subst (λ (x : ℕ). free m2 x ≡ one_if (top == x) + free m x) (sym s) k
  | inr nb ↦
      let now : free m2 b ≡ free m b = ap (λ (xs : List Bool). free xs b) e ∙ ap one_if (get_or-set_other m top b true
      false nb) in
      omega (arith, now, one_other top b (λ x. nb (sym x)))
]

pub not_free : (m : List Bool) (b : ℕ) → free m b ≡ 0 → get_or m b false ≡ false
not_free m b h = elim (get_or m b false) as (λ x. one_if x ≡ 0 → x ≡ false)
    [ true ↦ λ q. absurd (let bad : 1 ≡ 0 = q in omega (arith, bad)) | false ↦ λ _. refl ] h

-- The children below j are cut, and those from j on are as they were. `node` has their tops.
pub record Cutting (area : Area) (d top keep : ℕ) (c : Content) (m : List Bool) (j : ℕ) (c' : Content)
    (m' : List Bool) (node : List ℕ) : Type 0 where
  pub kept : (b : ℕ) → one_if (top == b) + sum_to 128 (λ i. uses area c' d (pointer area node i) b) + free m' b ≡ uses
      area c (suc d) top b + free m b
  pub frame : (b : ℕ) → uses area c (suc d) top b + free m b ≡ 0 → c' b ≡ c b
  pub below : (i : ℕ) → i < j → (k : ℕ) → k < 128 ^ d → k + i * 128 ^ d < keep → block area c' d (pointer area node i)
      k ≡ block area c d (pointer area (c top) i) k
  pub above : (i : ℕ) → i < j → (k : ℕ) → k < 128 ^ d → keep ≤ k + i * 128 ^ d → block area c' d (pointer area node i)
      k ≡ zeros
  pub ahead : (i : ℕ) → j ≤ i → pointer area node i ≡ pointer area (c top) i
  pub ahead_kept : (i : ℕ) → j ≤ i → i < 128 → (q : ℕ) → 1 ≤ uses area c d (pointer area (c top) i) q → c' q ≡ c q
  pub gone : keep ≡ 0 → (i : ℕ) → i < j → pointer area node i ≡ 0
  pub tight : (i : ℕ) → i < j → (n : ℕ) → keep - i * 128 ^ d ≤ n → is_tight area c' d (pointer area node i) n ≡ true

pub cut_start : (area : Area) (d top keep : ℕ) (c : Content) (m : List Bool) (node : List ℕ) → top ≢ 0 → node ≡ c top
    → Cutting area d top keep c m 0 c m node
cut_start area d top keep c m node ne e = record {
  kept = λ b.
      let n = uses-node area c d top b ne in
      let s : sum_to 128 (λ i. uses area c d (pointer area node i) b) ≡ sum_to 128
      (λ i. uses area c d (pointer area (c top) i) b) =
      ap (λ (xs : List ℕ). sum_to 128 (λ i. uses area c d (pointer area xs i) b)) e in
      omega (arith, n, s);
  frame = λ b h. refl;
  below = λ i l k lk h. absurd (omega arith);
  above = λ i l k lk h. absurd (omega arith);
  ahead = λ i l. ap (λ (xs : List ℕ). pointer area xs i) e;
  ahead_kept = λ i l li q u. refl;
  gone = λ z i l. absurd (omega arith);
  tight = λ i l n h. absurd (omega arith);
}

module _ (area : Area) (d top keep : ℕ) (c : Content) (m : List Bool) (j : ℕ) (c' : Content) (m' : List Bool)
    (node : List ℕ)
    (ne : top ≢ 0) (stands : Stands area (suc d) top c m) (state : Cutting area d top keep c m j c' m' node) where
  apart : (b : ℕ) → sum_to 128 (λ i. uses area c' d (pointer area node i) b) + free m' b ≤ 1
  apart b = omega (arith, state.kept b, stands.once b)

  -- what the call for a child needs
  pub child_stands : j < 128 → IsTop area (pointer area node j) → Stands area d (pointer area node j) c' m'
  child_stands l is = record {
    once = λ b. let t = sum_term 128 (λ (i : ℕ). uses area c' d (pointer area node i) b) j l in
        omega (arith, t, apart b);
    top_is = is;
  }

  ahead_uses : (i : ℕ) → j ≤ i → i < 128 → (q : ℕ) → uses area c' d (pointer area node i) q ≡ uses area c d
      (pointer area (c top) i) q
  ahead_uses i l li q = ap (λ (p : ℕ). uses area c' d p q) (state.ahead i l) ∙ same_uses area c c' d
      (pointer area (c top) i) (state.ahead_kept i l li) q

  module _ (left : ℕ) (c1 : Content) (m1 : List Bool) (node1 : List ℕ) (l : j < 128)
      (cuts : Cuts area d (pointer area node j) (keep - j * 128 ^ d) c' m' left c1 m1)
      (here : pointer area node1 j ≡ left)
      (there : (i : ℕ) → i ≢ j → pointer area node1 i ≡ pointer area node i) where
    others : (i : ℕ) → i < 128 → i ≢ j → (q : ℕ) → 1 ≤ uses area c' d (pointer area node i) q → c1 q ≡ c' q
    others = other_kept area 128 (λ _. d) (λ i. pointer area node i) c' c1 m' m1 j d left apart l cuts.moves

    other_same : (i : ℕ) → i < 128 → i ≢ j → (k : ℕ) → k < 128 ^ d → block area c1 d (pointer area node1 i) k ≡ block
        area c' d (pointer area node i) k
    other_same i li ni k lk =
        ap (λ (p : ℕ). block area c1 d p k) (there i ni)
        ∙ other_block area 128 (λ _. d) (λ i. pointer area node i) c' c1 m' m1 j d left apart l cuts.moves i li ni k lk

    step_kept : (b : ℕ) → one_if (top == b) + sum_to 128 (λ i. uses area c1 d (pointer area node1 i) b) + free m1
        b ≡ uses area c (suc d) top b + free m b
    step_kept b =
        let all = all_kept area 128 (λ _. d) (λ i. pointer area node i) c' c1 m' m1 j d left apart l cuts.moves
        (λ _. d) (λ i. pointer area node1 i) refl here (λ _ _. refl) there b in
        omega (arith, all, state.kept b)

    step_frame : (b : ℕ) → uses area c (suc d) top b + free m b ≡ 0 → c1 b ≡ c b
    step_frame b h =
        let t = sum_term 128 (λ (i : ℕ). uses area c' d (pointer area node i) b) j l in
        cuts.moves.frame b (omega (arith, t, state.kept b, h)) ∙ state.frame b h

    step_below : (i : ℕ) → i < j + 1 → (k : ℕ) → k < 128 ^ d → k + i * 128 ^ d < keep → block area c1 d
        (pointer area node1 i) k ≡ block area c d (pointer area (c top) i) k
    step_below i li k lk h = elim (cases_eq i j) [
      | inr ni ↦ other_same i (omega arith) ni k lk ∙ state.below i (omega arith) k lk h
      | inl e ↦
          let h' : k + j * 128 ^ d < keep = subst (λ (x : ℕ). k + x * 128 ^ d < keep) e h in
          let whole : block area c1 d (pointer area node1 j) k ≡ block area c d (pointer area (c top) j) k =
          ap (λ (p : ℕ). block area c1 d p k) here
          ∙ cuts.below k lk (omega arith)
          ∙ ap (λ (p : ℕ). block area c' d p k) (state.ahead j (omega arith))
          ∙ same_block area c c' d (pointer area (c top) j) (state.ahead_kept j (omega arith) l) k lk in
          subst (λ (x : ℕ). block area c1 d (pointer area node1 x) k ≡ block area c d (pointer area (c top) x) k)
          (sym e) whole
    ]

    step_above : (i : ℕ) → i < j + 1 → (k : ℕ) → k < 128 ^ d → keep ≤ k + i * 128 ^ d → block area c1 d
        (pointer area node1 i) k ≡ zeros
    step_above i li k lk h = elim (cases_eq i j) [
      | inr ni ↦ other_same i (omega arith) ni k lk ∙ state.above i (omega arith) k lk h
      | inl e ↦
          let h' : keep ≤ k + j * 128 ^ d = subst (λ (x : ℕ). keep ≤ k + x * 128 ^ d) e h in
          let whole : block area c1 d (pointer area node1 j) k ≡ zeros = ap (λ (p : ℕ). block area c1 d p k) here
          ∙ cuts.above k lk (omega arith) in
          subst (λ (x : ℕ). block area c1 d (pointer area node1 x) k ≡ zeros) (sym e) whole
    ]

    step_gone : keep ≡ 0 → (i : ℕ) → i < j + 1 → pointer area node1 i ≡ 0
    step_gone z i li = elim (cases_eq i j) [
      | inr ni ↦ there i ni ∙ state.gone z i (omega arith)
      | inl e ↦ ap (λ (x : ℕ). pointer area node1 x) e ∙ here ∙ cuts.gone (omega arith)
    ]

    step_tight : (i : ℕ) → i < j + 1 → (n : ℕ) → keep - i * 128 ^ d ≤ n → is_tight area c1 d (pointer area node1 i)
        n ≡ true
    step_tight i li n h = elim (cases_eq i j) [
      | inr ni ↦
          ap (λ (p : ℕ). is_tight area c1 d p n) (there i ni)
          ∙ same_tight area c' c1 d (pointer area node i) n (others i (omega arith) ni) (state.tight i (omega arith) n
          h)
      | inl e ↦
          let h' : keep - j * 128 ^ d ≤ n = subst (λ (x : ℕ). keep - x * 128 ^ d ≤ n) e h in
          let whole : is_tight area c1 d (pointer area node1 j) n ≡ true = ap (λ (p : ℕ). is_tight area c1 d p n) here
          ∙ cuts.tight n h' in
          subst (λ (x : ℕ). is_tight area c1 d (pointer area node1 x) n ≡ true) (sym e) whole
    ]

    pub cut_step : Cutting area d top keep c m (j + 1) c1 m1 node1
    cut_step = record {
      kept = step_kept;
      frame = step_frame;
      below = step_below;
      above = step_above;
      ahead = λ i li. let ni : i ≢ j = omega arith in there i ni ∙ state.ahead i (omega arith);
      ahead_kept = λ i li l128 q u.
          let ni : i ≢ j = omega arith in
          let lj : j ≤ i = omega arith in
          others i l128 ni q (omega (arith, u, ahead_uses i lj l128 q)) ∙ state.ahead_kept i lj l128 q u;
      gone = step_gone;
      tight = step_tight;
    }

-- THE END

module _ (area : Area) (d top keep : ℕ) (c : Content) (m : List Bool) (c' : Content) (m' : List Bool) (node : List ℕ)
    (ne : top ≢ 0) (stands : Stands area (suc d) top c m) (state : Cutting area d top keep c m 128 c' m' node) where
  top_free : sum_to 128 (λ i. uses area c' d (pointer area node i) top) + free m' top ≡ 0
  top_free = omega (arith, state.kept top, stands.once top, one_same top)

  -- the node is written again
  module _ (c2 : Content) (some : keep ≢ 0) (here : c2 top ≡ node) (rest : (q : ℕ) → q ≢ top → c2 q ≡ c' q) where
    child_kept : (i : ℕ) → i < 128 → (q : ℕ) → 1 ≤ uses area c' d (pointer area node i) q → c2 q ≡ c' q
    child_kept i l q u = rest q (λ e.
        let s = ap (λ (x : ℕ). uses area c' d (pointer area node i) x) e in
        let t = sum_term 128 (λ (j : ℕ). uses area c' d (pointer area node j) top) i l in
        absurd (omega (arith, u, s, t, top_free)))

    end_kept : (b : ℕ) → uses area c2 (suc d) top b + free m' b ≡ uses area c (suc d) top b + free m b
    end_kept b =
        let n = uses-node area c2 d top b ne in
        let s : sum_to 128 (λ i. uses area c2 d (pointer area (c2 top) i) b) ≡ sum_to 128
        (λ i. uses area c' d (pointer area node i) b) =
        sum_same 128 _ _ (λ i l. ap (λ (xs : List ℕ). uses area c2 d (pointer area xs i) b) here ∙ same_uses area c'
        c2 d (pointer area node i) (child_kept i l) b) in
        omega (arith, n, s, state.kept b)

    end_block : (k : ℕ) → k < 128 ^ suc d → block area c2 (suc d) top k ≡ block area c' d
        (pointer area node (k / 128 ^ d)) (k % 128 ^ d)
    end_block k l =
        block-node area c2 d top k ne
        ∙ ap (λ (xs : List ℕ). block area c2 d (pointer area xs (k / 128 ^ d)) (k % 128 ^ d)) here
        ∙ same_block area c' c2 d (pointer area node (k / 128 ^ d)) (child_kept (k / 128 ^ d) (quotient d k l))
        (k % 128 ^ d) (remainder d k)

    pub cut_written : Cuts area (suc d) top keep c m top c2 m'
    cut_written = record {
      moves = record {
        kept = end_kept;
        frame = λ b h.
            let n = uses-node area c d top b ne in
            rest b (λ e. let s = ap (λ (x : ℕ). one_if (top == x)) e in absurd (omega (arith, n, h, s, one_same top)))
            ∙ state.frame b h;
      };
      below = λ k l h. end_block k l
          ∙ state.below (k / 128 ^ d) (quotient d k l) (k % 128 ^ d) (remainder d k) (let e = div-add-mod' k (128 ^ d)
          in omega (arith, e, h))
          ∙ sym (block-node area c d top k ne);
      above = λ k l h. end_block k l
          ∙ state.above (k / 128 ^ d) (quotient d k l) (k % 128 ^ d) (remainder d k) (let e = div-add-mod' k (128 ^ d)
          in omega (arith, e, h));
      top_is = stands.top_is;
      gone = λ z. absurd (some z);
      tight = λ n l. node_tight area c2 d top n (omega arith) (λ j lj.
          ap (λ (xs : List ℕ). is_tight area c2 d (pointer area xs j) (n - j * 128 ^ d)) here
          ∙ same_tight area c' c2 d (pointer area node j) (n - j * 128 ^ d) (child_kept j lj)
          (state.tight j lj (n - j * 128 ^ d) (omega arith)));
    }

  -- the node is given back
  pub cut_given : (m2 : List Bool) → keep ≡ 0 → top < length m' → m2 ≡ set m' top true → Cuts area (suc d) top keep c
      m 0 c' m2
  cut_given m2 z l e = record {
    moves = record {
      kept = λ b.
          let none = uses-none area c' (suc d) b in
          let empty = sum_zero 128 (λ (i : ℕ). uses area c' d (pointer area node i) b)
          (λ i li. ap (λ (p : ℕ). uses area c' d p b) (state.gone z i li) ∙ uses-none area c' d b) in
          let f = freed m' m2 top l e (omega (arith, top_free)) b in
          omega (arith, none, empty, f, state.kept b);
      frame = state.frame;
    };
    below = λ k lk h. absurd (omega arith);
    above = λ k lk h. block-none area c' (suc d) k;
    top_is = inl refl;
    gone = λ _. refl;
    tight = λ n l. tight_none area c' (suc d) n;
  }

-- a tree of no blocks, or one that is kept whole
pub cut_nothing : (area : Area) (d top keep : ℕ) (c : Content) (m : List Bool) → IsTop area top →
    (top ≡ 0) ⊎ (128 ^ d ≤ keep) → (keep ≡ 0 → top ≡ 0) → Cuts area d top keep c m top c m
cut_nothing area d top keep c m is h g = record {
  moves = record { kept = λ b. refl; frame = λ b z. refl };
  below = λ k l lk. refl;
  above = λ k l lk. elim h [
    | inl e ↦ ap (λ (p : ℕ). block area c d p k) e ∙ block-none area c d k
    | inr w ↦ absurd (omega arith)
  ];
  top_is = is;
  gone = g;
  tight = λ n l. elim h [
    | inl e ↦ ap (λ (p : ℕ). is_tight area c d p n) e ∙ tight_none area c d n
    | inr w ↦ tight_full area c d top n (omega arith)
  ];
}

-- a leaf is given back
pub cut_leaf : (area : Area) (top keep : ℕ) (c : Content) (m m2 : List Bool) → top ≢ 0 → keep ≡ 0 → Stands area 0 top
    c m → top < length m → m2 ≡ set m top true → Cuts area 0 top keep c m 0 c m2
cut_leaf area top keep c m m2 ne z stands l e = record {
  moves = record {
    kept = λ b.
        let none = uses-none area c 0 b in
        let u = uses-leaf area c top b ne in
        let ut = uses-leaf area c top top ne in
        let f = freed m m2 top l e (omega (arith, ut, one_same top, stands.once top)) b in
        omega (arith, none, u, f);
    frame = λ b h. refl;
  };
  below = λ k lk h. absurd (omega arith);
  above = λ k lk h. block-none area c 0 k;
  top_is = inl refl;
  gone = λ _. refl;
  tight = λ n l. tight_none area c 0 n;
}
