-- A map of free blocks, where the trees of some inodes are claimed.
use Rattle.std.proofs.Common.{◌≡◌, ℕ, suc, ◌+◌, ◌^◌, ◌<◌, ◌≤◌, List, Bool, true, false, length, Option, Some, None, refl, sym, ap, subst, ◌∙◌, inl, inr, arith}
use Rattle.std.proofs.lemmas.Bool.{cases_eq}
use Rattle.std.proofs.lemmas.List.{get_or_past}
use Rattle.block_alloc.specs.Free.{is_free}
use Rattle.pointer_tree.specs.Tree.{Content, IsBlock, one_if, sum_to, uses}
use Rattle.pointer_tree.specs.Changes.{free, Claims}
use Rattle.pointer_tree.specs.declared.node.Area.{Area}
use Rattle.pointer_tree.proofs.ClaimLaws.{claims_none}
use Rattle.pointer_tree.proofs.Sums.{sum_zero}
use Rattle.pointer_tree.proofs.TreeUses.{uses_within}
use Rattle.inode_store.specs.Inodes.{inode_at, depth_of, top_of, IsWhole}
use Rattle.inode_store.specs.Keeps.{all_uses, Keeps}
use Rattle.inode_store.specs.declared.inode.Inode.{Inode}
use Rattle.inode_store.proofs.ChangeLaws.{depths, tops, top_is}

-- the trees of the first k inodes are claimed, and every other block of the area is free
pub record ClaimedTo (area : Area) (c : Content) (k : ℕ) (m : List Bool) : Type 0 where
  pub size : length m ≡ area.end
  pub low : (b : ℕ) → b < area.first → free m b ≡ 0
  pub used : (b : ℕ) → 1 ≤ all_uses area c k b → free m b ≡ 0
  pub others : (b : ℕ) → area.first ≤ b → b < area.end → all_uses area c k b ≡ 0 → free m b ≡ 1

pub claimed_none : (area : Area) (c : Content) (m : List Bool) → length m ≡ area.end →
    ((b : ℕ) → b < area.first → is_free m b ≡ false) →
    ((b : ℕ) → area.first ≤ b → b < area.end → is_free m b ≡ true) → ClaimedTo area c 0 m
unfolding sum_to
claimed_none area c m size low all = record {
  size = size;
  low = λ b l. ap one_if (low b l);
  used = λ b h. absurd (omega (arith, h));
  others = λ b l h z. ap one_if (all b l h);
}

pub claimed_more : (area : Area) (c : Content) (k : ℕ) (m m' : List Bool) → ClaimedTo area c k m →
    Claims area (depths area c k) (tops area c k) c m m' → length m' ≡ length m → ClaimedTo area c (suc k) m'
unfolding sum_to
claimed_more area c k m m' before claims len = record {
  size = len ∙ before.size;
  low = λ b l. elim (cases_eq (uses area c (depths area c k) (tops area c k) b) 0) [
    | inl z ↦ claims.others b z ∙ before.low b l
    | inr nz ↦ claims.used b (omega (arith, nz))
  ];
  used = λ b h. elim (cases_eq (uses area c (depths area c k) (tops area c k) b) 0) [
    | inl z ↦ claims.others b z ∙ before.used b (omega (arith, h, z))
    | inr nz ↦ claims.used b (omega (arith, nz))
  ];
  others = λ b l h z. claims.others b (omega (arith, z)) ∙ before.others b l h (omega (arith, z));
}

-- no tree uses a block that is none of the area
no_uses : (area : Area) (c : Content) (n b : ℕ) → (IsBlock area b → ⊥) → all_uses area c n b ≡ 0
no_uses area c n b out = sum_zero n _ (λ i l. elim (cases_eq (uses area c (depths area c i) (tops area c i) b) 0) [
  | inl z ↦ z
  | inr nz ↦ absurd (out (uses_within area c (depths area c i) (tops area c i) b (top_is area c i)
      (omega (arith, nz))))
])

-- all trees are claimed
pub claimed_all : (area : Area) (n size : ℕ) (c : Content) (m : List Bool) → area.first ≡ 1 + n →
    area.first ≤ area.end → area.end ≤ size → size < 2 ^ 32 →
    ((i : ℕ) (x : Inode) → i < n → inode_at area c i ≡ Some x → IsWhole area c x) →
    ((b : ℕ) → all_uses area c n b ≤ 1) → ClaimedTo area c n m → Keeps area n c size m
claimed_all area n size c m first ordered on_medium small whole once claimed = record {
  first = first;
  ordered = ordered;
  on_medium = on_medium;
  small = small;
  in_map = claimed.size;
  whole = whole;
  low = λ b l.
      let none = no_uses area c n b (λ is. let f = is.0 in omega (arith, f, l)) in
      let taken = claimed.low b l in
      omega (arith, none, taken);
  past = λ b l.
      let none = no_uses area c n b (λ is. let e = is.1 in omega (arith, e, l)) in
      let taken : free m b ≡ 0 = ap one_if (get_or_past m b false (let s = claimed.size in omega (arith, s, l))) in
      omega (arith, none, taken);
  all = λ b l h. elim (cases_eq (all_uses area c n b) 0) [
    | inl z ↦ let o = claimed.others b l h z in omega (arith, z, o)
    | inr nz ↦ let u = claimed.used b (omega (arith, nz)) in let most = once b in omega (arith, nz, u, most)
  ];
}

-- a free inode has no tree
pub claims_free : (area : Area) (c : Content) (i : ℕ) (m : List Bool) → inode_at area c i ≡ None →
    Claims area (depths area c i) (tops area c i) c m m
claims_free area c i m e = subst (λ (o : Option Inode). Claims area (depth_of o) (top_of o) c m m) (sym e)
    (claims_none area 0 0 c m refl)

-- a used inode's tree, as it was claimed after its inode was read
pub claims_used : (area area' : Area) (c c' : Content) (i : ℕ) (x : Inode) (m m' m1 : List Bool) →
    inode_at area c i ≡ Some x → area' ≡ area → c' ≡ c → m' ≡ m → Claims area' x.depth x.top c' m' m1 →
    Claims area (depths area c i) (tops area c i) c m m1
claims_used area area' c c' i x m m' m1 e ea ec em claims =
    let here : Claims area x.depth x.top c m m1 = rw (← ea, ← ec, ← em) claims in
    subst (λ (o : Option Inode). Claims area (depth_of o) (top_of o) c m m1) (sym e) here

-- the same of equal things
pub claims_on : (area area' : Area) (c c' : Content) (i : ℕ) (m m1 : List Bool) → area' ≡ area → c' ≡ c →
    Claims area' (depths area' c' i) (tops area' c' i) c' m m1 → Claims area (depths area c i) (tops area c i) c m m1
claims_on area area' c c' i m m1 ea ec claims = rw (← ea, ← ec) claims

pub keeps_on : (area area' : Area) (n n' size size' : ℕ) (c c' : Content) (m : List Bool) → area' ≡ area → n' ≡ n →
    size' ≡ size → c' ≡ c → Keeps area n c size m → Keeps area' n' c' size' m
keeps_on area area' n n' size size' c c' m ea en es ec k = rw (ea, en, es, ec) k
