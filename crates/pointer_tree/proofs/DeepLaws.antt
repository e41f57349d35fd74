-- A tree gets deeper, node by node.
use Rattle.std.proofs.Common.{◌≡◌, ℕ, zero, suc, ◌+◌, ◌^◌, ◌<◌, ◌≤◌, List, Bool, refl, ap, ◌∙◌, inl, inr, arith}
use Rattle.std.proofs.lemmas.Bool.{cases_eq, cases_lt}
use Rattle.std.proofs.Math.Nat.{pow-suc}
use Rattle.pointer_tree.specs.Tree.{Content}
use Rattle.pointer_tree.specs.Changes.{free, IsTop, Fits, Stands, Moves, Raises, Deepens}
use Rattle.pointer_tree.specs.declared.node.Area.{Area}
use Rattle.pointer_tree.proofs.TreeUses.{uses_within}

pub pow-mono : (d e : ℕ) → d ≤ e → 128 ^ d ≤ 128 ^ e
pow-mono d zero l = let z : d ≡ 0 = omega arith in rw z (omega arith)
pow-mono d (suc e) l = elim (cases_eq d (suc e)) [
  | inl same ↦ rw same (omega arith)
  | inr other ↦ let below = pow-mono d e (omega arith) in let more = pow-suc 128 e in omega (arith, below, more)
]

-- what stands after blocks moved between a tree and the free ones
pub stands_moved : (area : Area) (d top d' top' : ℕ) (c c' : Content) (m m' : List Bool) → Stands area d top c m →
    Moves area d top c m d' top' c' m' → IsTop area top' → Stands area d' top' c' m'
stands_moved area d top d' top' c c' m m' s moves is = record {
  once = λ b. let once = s.once b in let kept = moves.kept b in omega (arith, once, kept);
  top_is = is;
}

pub fits_moved : (area : Area) (size d top d' top' : ℕ) (c c' : Content) (m m' : List Bool) → Fits area size m →
    IsTop area top → Moves area d top c m d' top' c' m' → Fits area size m'
fits_moved area size d top d' top' c c' m m' f is moves = record {
  within = λ b h. elim (cases_eq (free m b) 0) [
    | inl none ↦ let kept = moves.kept b in uses_within area c d top b is (omega (arith, kept, none, h))
    | inr some ↦ f.within b (omega (arith, some))
  ];
  not_zero = f.not_zero;
  on_medium = f.on_medium;
  small = f.small;
}

pub deepens_not : (area : Area) (d top : ℕ) (c : Content) (m : List Bool) → IsTop area top →
    Deepens area d top c m d top c m
deepens_not area d top c m is = record {
  moves = record { kept = λ b. refl; frame = λ b h. refl };
  deeper = omega arith;
  same = λ k l. refl;
  past = λ k l h. absurd (omega arith);
  top_is = is;
  tight = λ n t. t;
}

pub deepens_more : (area : Area) (d0 top0 d top at : ℕ) (c0 c c1 : Content) (m0 m m1 : List Bool) →
    Deepens area d0 top0 c0 m0 d top c m → Raises area d top c m at c1 m1 →
    Deepens area d0 top0 c0 m0 (suc d) at c1 m1
deepens_more area d0 top0 d top at c0 c c1 m0 m m1 p r = record {
  moves = record {
    kept = λ b. r.moves.kept b ∙ p.moves.kept b;
    frame = λ b h. r.moves.frame b (p.moves.kept b ∙ h) ∙ p.moves.frame b h;
  };
  deeper = let l = p.deeper in omega (arith, l);
  same = λ k l. r.same k (let up = pow-mono d0 d p.deeper in omega (arith, l, up)) ∙ p.same k l;
  past = λ k l h. elim (cases_lt k (128 ^ d)) [
    | inl under ↦ r.same k under ∙ p.past k l under
    | inr over ↦ r.past k over h
  ];
  top_is = r.top_is;
  tight = λ n t. r.tight n (p.tight n t);
}

-- a tree without a place for the block is not the deepest
pub deeper_in : (d s index : ℕ) → d ≤ 3 → s ≡ 128 ^ d → s ≤ index → index < 128 ^ 3 → d + 1 ≤ 3
deeper_in d s index l is past h = elim (cases_eq d 3) [
  | inl e ↦ absurd (let whole : s ≡ 128 ^ 3 = is ∙ ap (λ (x : ℕ). 128 ^ x) e in omega (arith, whole, past, h))
  | inr ne ↦ omega (arith, ne)
]
