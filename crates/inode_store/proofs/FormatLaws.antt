-- A medium of one directory without names.
use Rattle.std.proofs.Common.{◌≡◌, ◌≢◌, ℕ, zero, suc, ◌+◌, ◌^◌, ◌<◌, ◌≤◌, List, Bool, true, false, length, get_or, set, replicate, Option, Some, None, ap, subst, ◌∙◌, inl, inr, arith, lit≤}
use Rattle.std.specs.Option.{option_map}
use Rattle.std.proofs.lemmas.Bool.{cases_eq}
use Rattle.std.proofs.lemmas.List.{length-set, get_or-set_same, get_or-set_other, get_or-replicate, length-replicate, get_or_past}
use Rattle.server_trait.proofs.TreeLaws.{some_none, some_same}
use Rattle.pointer_tree.specs.Tree.{Content, one_if, uses}
use Rattle.pointer_tree.specs.Changes.{free}
use Rattle.pointer_tree.specs.declared.node.Area.{Area}
use Rattle.pointer_tree.proofs.Sums.{sum_zero}
use Rattle.pointer_tree.proofs.Trees.{uses-none}
use Rattle.pointer_tree.proofs.Tight.{tight_none}
use Rattle.inode_store.specs.Inodes.{inode_in, inode_at, depth_of, top_of, file_of, file_at, IsWhole}
use Rattle.inode_store.specs.Keeps.{all_uses, Keeps}
use Rattle.inode_store.specs.declared.inode.Inode.{Inode}
use Rattle.inode_store.proofs.ChangeLaws.{depths, tops}

-- THE FREE BLOCKS

-- so many blocks are claimed, and the others are free
pub record Claimed (m : List Bool) (k end : ℕ) : Type 0 where
  pub size : length m ≡ end
  pub low : (b : ℕ) → b < k → get_or m b false ≡ false
  pub all : (b : ℕ) → k ≤ b → b < end → get_or m b false ≡ true

pub claimed_none : (m : List Bool) (end : ℕ) → m ≡ replicate end true → Claimed m 0 end
claimed_none m end e = record {
  size = ap length e ∙ length-replicate end true;
  low = λ b l. absurd (omega arith);
  all = λ b l h. ap (λ (xs : List Bool). get_or xs b false) e ∙ get_or-replicate end b true false h;
}

pub claimed_more : (m m' : List Bool) (k end : ℕ) → Claimed m k end → k < end → m' ≡ set m k false →
    Claimed m' (k + 1) end
claimed_more m m' k end c l e = record {
  size = ap length e ∙ length-set m k false ∙ c.size;
  low = λ b h. ap (λ (xs : List Bool). get_or xs b false) e ∙ elim (cases_eq b k) [
    | inl at ↦
        let inside : k < length m = (let s = c.size in omega (arith, s, l)) in
        ap (λ (i : ℕ). get_or (set m k false) i false) at ∙ get_or-set_same m k false false inside
    | inr ne ↦ get_or-set_other m k b false false ne ∙ c.low b (omega arith)
  ];
  all = λ b h u.
      let ne : b ≢ k = omega arith in
      ap (λ (xs : List Bool). get_or xs b false) e ∙ get_or-set_other m k b false false ne ∙ c.all b (omega arith) u;
}

pub claimed_as : (m m' : List Bool) (k k' end end' : ℕ) → m' ≡ m → k' ≡ k → end' ≡ end → Claimed m k end →
    Claimed m' k' end'
claimed_as m m' k k' end end' em ek ee c = rw (em, ek, ee) c

-- INODES

pub at_same : (area : Area) (c c' : Content) (i : ℕ) → c' (1 + i) ≡ c (1 + i) → inode_at area c' i ≡ inode_at area c i
at_same area c c' i e = ap (inode_in area) e

pub free_more : (area : Area) (c c' : Content) (k : ℕ) → ((i : ℕ) → 1 ≤ i → i < k → inode_at area c i ≡ None) →
    inode_at area c' k ≡ None → ((q : ℕ) → q ≢ 1 + k → c' q ≡ c q) → (i : ℕ) → 1 ≤ i → i < k + 1 →
    inode_at area c' i ≡ None
free_more area c c' k before here rest i l h = elim (cases_eq i k) [
  | inl at ↦ ap (inode_at area c') at ∙ here
  | inr ne ↦
      let other : 1 + i ≢ 1 + k = omega arith in
      at_same area c c' i (rest (1 + i) other) ∙ before i l (omega arith)
]

module _ (area : Area) (n size : ℕ) (c : Content) (m : List Bool) (y : Inode) (root : inode_at area c 0 ≡ Some y)
    (top : y.top ≡ 0) (depth : y.depth ≡ 0) (none : y.size ≡ 0)
    (others : (i : ℕ) → 1 ≤ i → i < n → inode_at area c i ≡ None) where
  no_uses : (b i : ℕ) → i < n → uses area c (depths area c i) (tops area c i) b ≡ 0
  no_uses b zero l =
      ap (λ (o : Option Inode). uses area c (depth_of o) (top_of o) b) root
      ∙ ap (λ (p : ℕ). uses area c y.depth p b) top ∙ uses-none area c y.depth b
  no_uses b (suc i) l =
      ap (λ (o : Option Inode). uses area c (depth_of o) (top_of o) b) (others (suc i) (omega arith) l)
      ∙ uses-none area c 0 b

  all_none : (b : ℕ) → all_uses area c n b ≡ 0
  all_none b = sum_zero n (λ (i : ℕ). uses area c (depths area c i) (tops area c i) b) (no_uses b)

  root_whole : IsWhole area c y
  root_whole = record {
    depth_in = omega (arith, depth);
    fits = rw (none, depth) (lit≤ tt);
    tight = rw (none, depth, top) (tight_none area c 0 0);
  }

  whole_of : (i : ℕ) (x : Inode) → i < n → inode_at area c i ≡ Some x → IsWhole area c x
  whole_of zero x l is = subst (λ (z : Inode). IsWhole area c z) (some_same root is) root_whole
  whole_of (suc i) x l is = absurd (some_none is (others (suc i) (omega arith) l))

  pub keeps_root : area.first ≡ 1 + n → area.first ≤ area.end → area.end ≤ size → size < 2 ^ 32 →
      Claimed m area.first area.end → Keeps area n c size m
  keeps_root first ordered on_medium small claimed = record {
    first = first;
    ordered = ordered;
    on_medium = on_medium;
    small = small;
    in_map = claimed.size;
    whole = whole_of;
    low = λ b l. let u = all_none b in let f : free m b ≡ 0 = ap one_if (claimed.low b l) in omega (arith, u, f);
    past = λ b l.
        let u = all_none b in
        let f : free m b ≡ 0 = ap one_if (get_or_past m b false (let s = claimed.size in omega (arith, s, l))) in
        omega (arith, u, f);
    all = λ b l h. let u = all_none b in let f : free m b ≡ 1 = ap one_if (claimed.all b l h) in omega (arith, u, f);
  }

  pub file_root : file_at area c 0 ≡ Some (file_of area c y)
  unfolding file_at
  file_root = ap (option_map (file_of area c)) root

  pub file_none : (i : ℕ) → 1 ≤ i → i < n → file_at area c i ≡ None
  unfolding file_at
  file_none i l h = ap (option_map (file_of area c)) (others i l h)

-- what stands after the inodes were cleared, the root was written, and then block 0
pub root_written : (area : Area) (c1 c2 : Content) (y : Inode) → inode_at area c1 0 ≡ Some y →
    ((q : ℕ) → q ≢ 0 → c2 q ≡ c1 q) → inode_at area c2 0 ≡ Some y
root_written area c1 c2 y is rest = at_same area c1 c2 0 (let ne : 1 + 0 ≢ 0 = omega arith in rest (1 + 0) ne) ∙ is

pub others_written : (area area' : Area) (n n' : ℕ) (c0 c1 c2 : Content) → area ≡ area' → n ≡ n' →
    ((i : ℕ) → 1 ≤ i → i < n' → inode_at area' c0 i ≡ None) → ((q : ℕ) → q ≢ 1 + 0 → c1 q ≡ c0 q) →
    ((q : ℕ) → q ≢ 0 → c2 q ≡ c1 q) → (i : ℕ) → 1 ≤ i → i < n → inode_at area c2 i ≡ None
others_written area area' n n' c0 c1 c2 ea en free root rest i l h =
    let here : 1 + i ≢ 0 = omega arith in
    let other : 1 + i ≢ 1 + 0 = omega arith in
    at_same area c1 c2 i (rest (1 + i) here) ∙ at_same area c0 c1 i (root (1 + i) other)
    ∙ ap (λ (a : Area). inode_at a c0 i) ea ∙ free i l (omega (arith, h, en))
