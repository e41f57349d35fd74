-- The blocks of a tree are claimed, child by child.
use Rattle.std.proofs.Common.{◌≡◌, ◌≢◌, ℕ, suc, ◌+◌, ◌<◌, ◌≤◌, List, Bool, false, length, set, refl, sym, ap, ◌∙◌, inl, inr, arith}
use Rattle.std.specs.Prelude.{◌==◌}
use Rattle.std.proofs.lemmas.Bool.{cases_eq}
use Rattle.std.proofs.lemmas.List.{get_or-set_same, get_or-set_other}
use Rattle.pointer_tree.specs.Tree.{Content, one_if, sum_to, pointer, uses}
use Rattle.pointer_tree.specs.Changes.{free, IsTop, Lies, Claims}
use Rattle.pointer_tree.specs.declared.node.Area.{Area}
use Rattle.pointer_tree.proofs.Sums.{one_same, one_other}
use Rattle.pointer_tree.proofs.Trees.{uses-none, uses-leaf, uses-node}

-- a node and its children below j are claimed
pub record Claiming (area : Area) (d top : ℕ) (c : Content) (m m' : List Bool) (j : ℕ) : Type 0 where
  pub used : (b : ℕ) → 1 ≤ one_if (top == b) + sum_to j (λ i. uses area c d (pointer area (c top) i) b) → free m' b ≡ 0
  pub others : (b : ℕ) → one_if (top == b) + sum_to j (λ i. uses area c d (pointer area (c top) i) b) ≡ 0 →
      free m' b ≡ free m b

pub free_claimed : (m m' : List Bool) (top b : ℕ) → top < length m → m' ≡ set m top false → b ≡ top → free m' b ≡ 0
free_claimed m m' top b l e at = ap (λ (i : ℕ). free m' i) at ∙ ap (λ (xs : List Bool). free xs top) e
    ∙ ap one_if (get_or-set_same m top false false l)

pub free_other : (m m' : List Bool) (top b : ℕ) → m' ≡ set m top false → b ≢ top → free m' b ≡ free m b
free_other m m' top b e ne = ap (λ (xs : List Bool). free xs b) e ∙ ap one_if (get_or-set_other m top b false false ne)

-- a test of equal numbers
same_of : (top b : ℕ) → 1 ≤ one_if (top == b) → b ≡ top
same_of top b h = elim (cases_eq b top) [
  | inl e ↦ e
  | inr ne ↦ absurd (let o = one_other top b (λ e. ne (sym e)) in omega (arith, o, h))
]

other_of : (top b : ℕ) → one_if (top == b) ≡ 0 → b ≢ top
other_of top b z e = let o = ap (λ (i : ℕ). one_if (top == i)) e ∙ one_same top in omega (arith, o, z)

pub claims_none : (area : Area) (d top : ℕ) (c : Content) (m : List Bool) → top ≡ 0 → Claims area d top c m m
claims_none area d top c m e = record {
  used = λ b h. absurd (let z = ap (λ (p : ℕ). uses area c d p b) e ∙ uses-none area c d b in omega (arith, z, h));
  others = λ b z. refl;
}

pub claims_leaf : (area : Area) (d top : ℕ) (c : Content) (m m' : List Bool) → d ≡ 0 → top ≢ 0 → top < length m →
    m' ≡ set m top false → Claims area d top c m m'
claims_leaf area d top c m m' z ne l e = record {
  used = λ b h.
      let u = ap (λ (x : ℕ). uses area c x top b) z ∙ uses-leaf area c top b ne in
      free_claimed m m' top b l e (same_of top b (omega (arith, u, h)));
  others = λ b h.
      let u = ap (λ (x : ℕ). uses area c x top b) z ∙ uses-leaf area c top b ne in
      free_other m m' top b e (other_of top b (omega (arith, u, h)));
}

pub claiming_first : (area : Area) (d top : ℕ) (c : Content) (m m' : List Bool) → top < length m →
    m' ≡ set m top false → Claiming area d top c m m' 0
unfolding sum_to
claiming_first area d top c m m' l e = record {
  used = λ b h. free_claimed m m' top b l e (same_of top b (omega (arith, h)));
  others = λ b h. free_other m m' top b e (other_of top b (omega (arith, h)));
}

pub claiming_more : (area : Area) (d top : ℕ) (c : Content) (m m' m'' : List Bool) (j : ℕ) →
    Claiming area d top c m m' j → Claims area d (pointer area (c top) j) c m' m'' →
    Claiming area d top c m m'' (suc j)
unfolding sum_to
claiming_more area d top c m m' m'' j before child = record {
  used = λ b h. elim (cases_eq (uses area c d (pointer area (c top) j) b) 0) [
    | inl z ↦ child.others b z ∙ before.used b (omega (arith, h, z))
    | inr nz ↦ child.used b (omega (arith, nz))
  ];
  others = λ b h. child.others b (omega (arith, h)) ∙ before.others b (omega (arith, h));
}

pub claims_node : (area : Area) (depth d top : ℕ) (c : Content) (m m' : List Bool) → depth ≡ suc d → top ≢ 0 →
    Claiming area d top c m m' 128 → Claims area depth top c m m'
claims_node area depth d top c m m' ed ne all = record {
  used = λ b h.
      let u = ap (λ (x : ℕ). uses area c x top b) ed ∙ uses-node area c d top b ne in
      all.used b (omega (arith, u, h));
  others = λ b h.
      let u = ap (λ (x : ℕ). uses area c x top b) ed ∙ uses-node area c d top b ne in
      all.others b (omega (arith, u, h));
}

pub top_within : (area : Area) (size top : ℕ) (m : List Bool) → Lies area size m → IsTop area top → top ≢ 0 →
    top < length m
top_within area size top m lies (inl e) ne = absurd (ne e)
top_within area size top m lies (inr b) ne = let l = b.1 in let i = lies.in_map in omega (arith, l, i)
