-- What a write below a node does to the node's tree.
use Rattle.std.proofs.Common.{◌≡◌, ◌≢◌, ℕ, zero, suc, ◌+◌, ◌-◌, ◌*◌, ◌/◌, ◌%◌, ◌^◌, ◌<◌, ◌≤◌, List, Bool, true, false, length, set, get_or, refl, sym, ap, subst, ◌∙◌, inl, inr, arith}
use Rattle.std.specs.Prelude.{◌==◌}
use Rattle.std.proofs.lemmas.Bool.{cases_eq, cases_lt}
use Rattle.std.proofs.lemmas.List.{get_or_past, get_or-set_same, get_or-set_other}
use Rattle.std.proofs.lemmas.Nat.{div-add-mod'}
use Rattle.pointer_tree.specs.Tree.{Content, IsBlock, one_if, zeros, pointer, block, uses}
use Rattle.pointer_tree.specs.Changes.{free, IsTop, Fits, Stands, Grows, Roots, Puts}
use Rattle.pointer_tree.specs.declared.node.Area.{Area}
use Rattle.pointer_tree.proofs.Sums.{one_same, one_other, sum_two, sum_change, sum_zero}
use Rattle.pointer_tree.proofs.Trees.{uses-none, uses-leaf, uses-node, block-none, block-leaf, block-node, uses_child, same_uses, same_block, remainder, quotient, pow_pos_128}
use Rattle.pointer_tree.specs.Size.{is_tight}
use Rattle.pointer_tree.proofs.Tight.{tight_none, leaf_tight, node_tight, tight_child, tight_more, same_tight}
use Rattle.pointer_tree.proofs.Words.{pointer-zeros, pointer_is}

-- a number is given by its quotient and its remainder
place : (s k i : ℕ) → 0 < s → k / s ≡ i / s → k % s ≡ i % s → k ≡ i
place s k i pos e r =
    let left = div-add-mod' k s in
    let right = div-add-mod' i s in
    let same : k / s * s + k % s ≡ i / s * s + i % s = ap (λ (q : ℕ). q * s + k % s) e ∙ ap (λ (x : ℕ). i / s * s + x)
    r in
    sym left ∙ same ∙ right

-- One pointer of a node may be written again, after a write below it.
module _ (area : Area) (d at index next : ℕ) (bytes : List ℕ) (c c1 c2 : Content) (m m1 : List Bool)
    (ne : at ≢ 0) (low : index < 128 ^ suc d) (stands : Stands area (suc d) at c m)
    (puts : Puts area d (pointer area (c at) (index / 128 ^ d)) (index % 128 ^ d) bytes c m next c1 m1)
    (rest : (q : ℕ) → q ≢ at → c2 q ≡ c1 q)
    (here : pointer area (c2 at) (index / 128 ^ d) ≡ next)
    (there : (j : ℕ) → j ≢ index / 128 ^ d → pointer area (c2 at) j ≡ pointer area (c at) j) where
  child_once : (q : ℕ) → uses area c d (pointer area (c at) (index / 128 ^ d)) q + one_if (at == q) + free m q ≤ 1
  child_once q =
      let t = uses_child area c d at (index / 128 ^ d) q ne (quotient d index low) in
      omega (arith, t, stands.once q)

  not_in_next : uses area c1 d next at ≡ 0
  not_in_next = omega (arith, puts.grows.kept at, child_once at, one_same at)

  next_kept : (q : ℕ) → 1 ≤ uses area c1 d next q → c2 q ≡ c1 q
  next_kept q u = rest q (λ e. let s = ap (λ (x : ℕ). uses area c1 d next x) e in
      absurd (omega (arith, u, s, not_in_next)))

  other_kept : (j : ℕ) → j < 128 → j ≢ index / 128 ^ d → (q : ℕ) → 1 ≤ uses area c d (pointer area (c at) j) q →
      c2 q ≡ c q
  other_kept j l nj q u =
      let n = uses-node area c d at q ne in
      let f : ℕ → ℕ = λ i. uses area c d (pointer area (c at) i) q in
      let two = sum_two 128 f (index / 128 ^ d) j (quotient d index low) l (λ e. nj (sym e)) in
      let once = stands.once q in
      let away : q ≢ at = λ e.
      let s = ap (λ (x : ℕ). one_if (at == x)) e in
      absurd (omega (arith, u, two, n, once, s, one_same at)) in
      rest q away ∙ puts.grows.frame q (omega (arith, u, two, n, once))

  node_uses : (b : ℕ) → uses area c2 (suc d) at b + free m1 b ≡ uses area c (suc d) at b + free m b
  node_uses b =
      let f : ℕ → ℕ = λ j. uses area c2 d (pointer area (c2 at) j) b in
      let g : ℕ → ℕ = λ j. uses area c d (pointer area (c at) j) b in
      let others : (j : ℕ) → j < 128 → j ≢ index / 128 ^ d → f j ≡ g j =
      λ j l nj. ap (λ (p : ℕ). uses area c2 d p b) (there j nj) ∙ same_uses area c c2 d (pointer area (c at) j)
      (other_kept j l nj) b in
      let changed = sum_change 128 f g (index / 128 ^ d) (quotient d index low) others in
      let child : f (index / 128 ^ d) ≡ uses area c1 d next b =
      ap (λ (p : ℕ). uses area c2 d p b) here ∙ same_uses area c1 c2 d next next_kept b in
      let after = uses-node area c2 d at b ne in
      let before = uses-node area c d at b ne in
      omega (arith, changed, child, after, before, puts.grows.kept b)

  node_frame : (b : ℕ) → uses area c (suc d) at b + free m b ≡ 0 → c2 b ≡ c b
  node_frame b h =
      let n = uses-node area c d at b ne in
      let t = uses_child area c d at (index / 128 ^ d) b ne (quotient d index low) in
      let away : b ≢ at = λ e.
      let s = ap (λ (x : ℕ). one_if (at == x)) e in
      absurd (omega (arith, n, h, s, one_same at)) in
      rest b away ∙ puts.grows.frame b (omega (arith, t, h))

  node_put : block area c2 (suc d) at index ≡ bytes
  node_put =
      block-node area c2 d at index ne
      ∙ ap (λ (p : ℕ). block area c2 d p (index % 128 ^ d)) here
      ∙ same_block area c1 c2 d next next_kept (index % 128 ^ d) (remainder d index)
      ∙ puts.put

  node_others : (k : ℕ) → k < 128 ^ suc d → k ≢ index → block area c2 (suc d) at k ≡ block area c (suc d) at k
  node_others k l nk = elim (cases_eq (k / 128 ^ d) (index / 128 ^ d)) [
    | inl e ↦
        let other : k % 128 ^ d ≢ index % 128 ^ d = λ r. nk (place (128 ^ d) k index (pow_pos_128 d) e r) in
        block-node area c2 d at k ne
        ∙ ap (λ (j : ℕ). block area c2 d (pointer area (c2 at) j) (k % 128 ^ d)) e
        ∙ ap (λ (p : ℕ). block area c2 d p (k % 128 ^ d)) here
        ∙ same_block area c1 c2 d next next_kept (k % 128 ^ d) (remainder d k)
        ∙ puts.others (k % 128 ^ d) (remainder d k) other
        ∙ ap (λ (j : ℕ). block area c d (pointer area (c at) j) (k % 128 ^ d)) (sym e)
        ∙ sym (block-node area c d at k ne)
    | inr nj ↦
        block-node area c2 d at k ne
        ∙ ap (λ (p : ℕ). block area c2 d p (k % 128 ^ d)) (there (k / 128 ^ d) nj)
        ∙ same_block area c c2 d (pointer area (c at) (k / 128 ^ d)) (other_kept (k / 128 ^ d) (quotient d k l) nj)
        (k % 128 ^ d) (remainder d k)
        ∙ sym (block-node area c d at k ne)
  ]

  node_tightness : (n n' : ℕ) → is_tight area c (suc d) at n ≡ true → n ≤ n' → index < n' → is_tight area c2 (suc d)
      at n' ≡ true
  node_tightness n n' t l k = node_tight area c2 d at n' (omega arith) (λ j lj. elim (cases_eq j (index / 128 ^ d)) [
    | inr nj ↦
        ap (λ (p : ℕ). is_tight area c2 d p (n' - j * 128 ^ d)) (there j nj)
        ∙ tight_more area c2 d (pointer area (c at) j) (n - j * 128 ^ d) (n' - j * 128 ^ d)
        (same_tight area c c2 d (pointer area (c at) j) (n - j * 128 ^ d) (other_kept j lj nj)
        (tight_child area c d at n ne t j lj)) (omega arith)
    | inl e ↦
        let j0 = index / 128 ^ d in
        let low_in : index % 128 ^ d < n' - j0 * 128 ^ d = (let whole = div-add-mod' index (128 ^ d) in
        omega (arith, whole, k)) in
        let below : is_tight area c1 d next (n' - j0 * 128 ^ d) ≡ true =
        puts.tight (n - j0 * 128 ^ d) (n' - j0 * 128 ^ d) (tight_child area c d at n ne t j0 (quotient d index low))
        (omega arith) low_in in
        let whole : is_tight area c2 d (pointer area (c2 at) j0) (n' - j0 * 128 ^ d) ≡ true =
        ap (λ (p : ℕ). is_tight area c2 d p (n' - j0 * 128 ^ d)) here ∙ same_tight area c1 c2 d next
        (n' - j0 * 128 ^ d) next_kept below in
        subst (λ (x : ℕ). is_tight area c2 d (pointer area (c2 at) x) (n' - x * 128 ^ d) ≡ true) (sym e) whole
  ])

  pub node_step : IsBlock area at → Puts area (suc d) at index bytes c m at c2 m1
  node_step is = record {
    grows = record { there = is; kept = node_uses; fewer = puts.grows.fewer; frame = node_frame };
    put = node_put;
    others = node_others;
    tight = node_tightness;
  }

-- a leaf is written
pub leaf_step : (area : Area) (at : ℕ) (bytes : List ℕ) (c c2 : Content) (m : List Bool) → at ≢ 0 → IsBlock area at →
    ((q : ℕ) → q ≢ at → c2 q ≡ c q) → c2 at ≡ bytes → Puts area 0 at 0 bytes c m at c2 m
leaf_step area at bytes c c2 m ne is rest here = record {
  grows = record {
    there = is;
    kept = λ b. let e = uses-leaf area c2 at b ne in let f = uses-leaf area c at b ne in omega (arith, e, f);
    fewer = λ b. omega arith;
    frame = λ b h.
        let e = uses-leaf area c at b ne in
        rest b (λ q. let s = ap (λ (x : ℕ). one_if (at == x)) q in absurd (omega (arith, h, e, s, one_same at)));
  };
  put = block-leaf area c2 at 0 ne ∙ here;
  others = λ k l nk. absurd (nk (let low : k < 1 = l in omega arith));
  tight = λ n n' t l k. leaf_tight area c2 at n' k;
}

-- Blocks that moved stand apart as before.
pub stands_on : (area : Area) (d top at : ℕ) (c c1 : Content) (m m1 : List Bool) → Stands area d top c m →
    Grows area d top c m at c1 m1 → Stands area d at c1 m1
stands_on area d top at c c1 m m1 s g = record {
  once = λ b. omega (arith, s.once b, g.kept b);
  top_is = inr g.there;
}

pub fits_on : (area : Area) (d top at size : ℕ) (c c1 : Content) (m m1 : List Bool) → Fits area size m → Grows area d
    top c m at c1 m1 → Fits area size m1
fits_on area d top at size c c1 m m1 f g = record {
  within = λ b h. f.within b (omega (arith, h, g.fewer b));
  not_zero = f.not_zero;
  on_medium = f.on_medium;
  small = f.small;
}

-- a child stands apart where its node does
pub stands_child : (area : Area) (d at j : ℕ) (c : Content) (m : List Bool) → at ≢ 0 → j < 128 →
    IsTop area (pointer area (c at) j) → Stands area (suc d) at c m → Stands area d (pointer area (c at) j) c m
stands_child area d at j c m ne l is s = record {
  once = λ b. let t = uses_child area c d at j b ne l in omega (arith, t, s.once b);
  top_is = is;
}

-- a write after the tree got its top
pub puts_after : (area : Area) (d top at index next : ℕ) (bytes : List ℕ) (c c1 c2 : Content) (m m1 m2 : List Bool) →
    Roots area d top c m at c1 m1 → Puts area d at index bytes c1 m1 next c2 m2 → Puts area d top index bytes c m next
    c2 m2
puts_after area d top at index next bytes c c1 c2 m m1 m2 r p = record {
  grows = record {
    there = p.grows.there;
    kept = λ b. p.grows.kept b ∙ r.grows.kept b;
    fewer = λ b. omega (arith, p.grows.fewer b, r.grows.fewer b);
    frame = λ b h. p.grows.frame b (r.grows.kept b ∙ h) ∙ r.grows.frame b h;
  };
  put = p.put;
  others = λ k l nk. p.others k l nk ∙ r.same k;
  tight = λ n n' t l k. p.tight n' n' (r.tight n n' t l (omega arith)) (omega arith) k;
}

-- FRESH BLOCKS

pub free_in : (m : List Bool) (b : ℕ) → get_or m b false ≡ true → b < length m
free_in m b h = elim (cases_lt b (length m)) [
  | inl l ↦ l
  | inr l ↦ absurd (let bad : false ≡ true = sym (get_or_past m b false l) ∙ h in cc)
]

fresh_uses : (area : Area) (c : Content) (d top q : ℕ) → top ≢ 0 → c top ≡ zeros → uses area c d top q ≡ one_if
    (top == q)
fresh_uses area c zero top q ne z = uses-leaf area c top q ne
fresh_uses area c (suc d) top q ne z =
    let none : (j : ℕ) → j < 128 → uses area c d (pointer area (c top) j) q ≡ 0 =
    λ j l. ap (λ (bytes : List ℕ). uses area c d (pointer area bytes j) q) z ∙ ap (λ (p : ℕ). uses area c d p q)
    (pointer-zeros area j) ∙ uses-none area c d q in
    let s = sum_zero 128 (λ (j : ℕ). uses area c d (pointer area (c top) j) q) none in
    let n = uses-node area c d top q ne in
    omega (arith, s, n)

fresh_block : (area : Area) (c : Content) (d top k : ℕ) → top ≢ 0 → c top ≡ zeros → block area c d top k ≡ zeros
fresh_block area c zero top k ne z = block-leaf area c top k ne ∙ z
fresh_block area c (suc d) top k ne z =
    block-node area c d top k ne
    ∙ ap (λ (bytes : List ℕ). block area c d (pointer area bytes (k / 128 ^ d)) (k % 128 ^ d)) z
    ∙ ap (λ (p : ℕ). block area c d p (k % 128 ^ d)) (pointer-zeros area (k / 128 ^ d))
    ∙ block-none area c d (k % 128 ^ d)

fresh_tight : (area : Area) (c : Content) (d top n : ℕ) → c top ≡ zeros → 0 < n → is_tight area c d top n ≡ true
fresh_tight area c zero top n z l = leaf_tight area c top n l
fresh_tight area c (suc d) top n z l = node_tight area c d top n l (λ j lj.
    ap (λ (bytes : List ℕ). is_tight area c d (pointer area bytes j) (n - j * 128 ^ d)) z
    ∙ ap (λ (p : ℕ). is_tight area c d p (n - j * 128 ^ d)) (pointer-zeros area j)
    ∙ tight_none area c d (n - j * 128 ^ d))

-- a tree that has a top keeps it
pub roots_same : (area : Area) (d top : ℕ) (c : Content) (m : List Bool) → IsTop area top → top ≢ 0 → Roots area d top
    c m top c m
roots_same area d top c m is ne = record {
  grows = record {
    there = elim is [ inl e ↦ absurd (ne e) | inr b ↦ b ];
    kept = λ b. refl;
    fewer = λ b. omega arith;
    frame = λ b h. refl;
  };
  same = λ k. refl;
  tight = λ n n' t l k. tight_more area c d top n n' t l;
}

-- a block that was free is the top of an empty tree
pub roots_new : (area : Area) (size top b : ℕ) (c c2 : Content) (m m2 : List Bool) → Fits area size m → top ≡ 0 →
    get_or m b false ≡ true → m2 ≡ set m b false → c2 b ≡ zeros → ((q : ℕ) → q ≢ b → c2 q ≡ c q) → (d : ℕ) →
    Roots area d top c m b c2 m2
roots_new area size top b c c2 m m2 fits none is e z rest d =
    let one : free m b ≡ 1 = ap one_if is in
    let is_block : IsBlock area b = fits.within b (omega (arith, one)) in
    let ne : b ≢ 0 = omega (arith, fits.not_zero, is_block.0) in
    let empty : (q : ℕ) → uses area c d top q ≡ 0 = λ q. ap (λ (p : ℕ). uses area c d p q) none ∙ uses-none area c d q
    in
    let after : (q : ℕ) → q ≢ b → free m2 q ≡ free m q = λ q nq. ap (λ (xs : List Bool). free xs q) e
    ∙ ap one_if (get_or-set_other m b q false false nq) in
    let gone : free m2 b ≡ 0 = ap (λ (xs : List Bool). free xs b) e ∙ ap one_if (get_or-set_same m b false false
    (free_in m b is)) in
    record {
      grows = record {
        there = is_block;
        kept = λ q. elim (cases_eq q b) [
          | inl s ↦
              let u = fresh_uses area c2 d b b ne z in
              let k : uses area c2 d b b + free m2 b ≡ uses area c d top b + free m b = omega (
                arith,
                u,
                one_same b,
                gone,
                one,
                empty b,
              ) in
              subst (λ (x : ℕ). uses area c2 d b x + free m2 x ≡ uses area c d top x + free m x) (sym s) k
          | inr nq ↦
              let u = fresh_uses area c2 d b q ne z in
              let o = one_other b q (λ x. nq (sym x)) in
              omega (arith, u, o, after q nq, empty q)
        ];
        fewer = λ q. elim (cases_eq q b) [
          | inl s ↦ let k : free m2 b ≤ free m b = omega (arith, gone) in subst (λ (x : ℕ). free m2 x ≤ free m x)
              (sym s) k
          | inr nq ↦ omega (arith, after q nq)
        ];
        frame = λ q h. rest q (λ s. let k = ap (free m) s in absurd (omega (arith, h, k, one)));
      };
      tight = λ n n' t l k. fresh_tight area c2 d b n' z k;
      same = λ k. fresh_block area c2 d b k ne z ∙ sym (ap (λ (p : ℕ). block area c d p k) none ∙ block-none area c d
          k);
    }

-- THE WHOLE WRITE, as the code goes

-- reading through a node
pub block_below : (area : Area) (c c1 : Content) (depth d top index child j r : ℕ) (node : List ℕ) → depth ≡ suc d →
    top ≢ 0 → j ≡ index / 128 ^ d → r ≡ index % 128 ^ d → c1 ≡ c → node ≡ c top → child ≡ pointer area node j →
    block area c1 d child r ≡ block area c depth top index
block_below area c c1 depth d top index child j r node ed ne ej er ec en ech =
    let child_is : child ≡ pointer area (c top) (index / 128 ^ d) = ech ∙ ap (λ (x : ℕ). pointer area node x) ej
    ∙ ap (λ (bytes : List ℕ). pointer area bytes (index / 128 ^ d)) en in
    ap (λ (x : Content). block area x d child r) ec
    ∙ ap (λ (p : ℕ). block area c d p r) child_is
    ∙ ap (λ (x : ℕ). block area c d (pointer area (c top) (index / 128 ^ d)) x) er
    ∙ sym (block-node area c d top index ne)
    ∙ ap (λ (x : ℕ). block area c x top index) (sym ed)

module _ (area : Area) (size depth d top at index next child j r : ℕ) (bytes node : List ℕ) (c c1 c1' c2 : Content)
    (m m1 m2 : List Bool)
    (ed : depth ≡ suc d) (ej : j ≡ index / 128 ^ d) (er : r ≡ index % 128 ^ d) (low : index < 128 ^ depth)
    (ec : c1' ≡ c1) (en : node ≡ c1 at) (ech : child ≡ pointer area node j)
    (fits : Fits area size m) (stands : Stands area depth top c m) (roots : Roots area depth top c m at c1 m1) where
  at_ne : at ≢ 0
  at_ne = omega (arith, roots.grows.there.0, fits.not_zero)

  low' : index < 128 ^ suc d
  low' = subst (λ (x : ℕ). index < 128 ^ x) ed low

  child_is : child ≡ pointer area (c1 at) (index / 128 ^ d)
  child_is = ech ∙ ap (λ (x : ℕ). pointer area node x) ej ∙ ap (λ (xs : List ℕ). pointer area xs (index / 128 ^ d)) en

  after : Stands area (suc d) at c1 m1
  after = subst (λ (x : ℕ). Stands area x at c1 m1) ed (stands_on area depth top at c c1 m m1 stands roots.grows)

  -- what the call below needs
  pub below_fits : Fits area size m1
  below_fits = fits_on area depth top at size c c1 m m1 fits roots.grows

  pub below_stands : Stands area d child c1' m1
  below_stands =
      subst (λ (x : Content). Stands area d child x m1) (sym ec)
      (subst (λ (p : ℕ). Stands area d p c1 m1) (sym child_is)
      (stands_child area d at (index / 128 ^ d) c1 m1 at_ne (quotient d index low') (pointer_is area (c1 at)
      (index / 128 ^ d)) after))

  puts_at : Puts area d child r bytes c1' m1 next c2 m2 → Puts area d (pointer area (c1 at) (index / 128 ^ d))
      (index % 128 ^ d) bytes c1 m1 next c2 m2
  puts_at p =
      subst (λ (x : Content). Puts area d (pointer area (c1 at) (index / 128 ^ d)) (index % 128 ^ d) bytes x m1 next
      c2 m2) ec
      (subst (λ (x : ℕ). Puts area d (pointer area (c1 at) (index / 128 ^ d)) x bytes c1' m1 next c2 m2) er
      (subst (λ (x : ℕ). Puts area d x r bytes c1' m1 next c2 m2) child_is p))

  -- and what its answer gives, where the node's pointer was written again
  pub relinked : (c3 : Content) → Puts area d child r bytes c1' m1 next c2 m2 → ((q : ℕ) → q ≢ at → c3 q ≡ c2 q) →
      pointer area (c3 at) j ≡ next → ((i : ℕ) → i ≢ j → pointer area (c3 at) i ≡ pointer area node i) →
      Puts area depth top index bytes c m at c3 m2
  relinked c3 p rest here there =
      let here' : pointer area (c3 at) (index / 128 ^ d) ≡ next = ap (λ (x : ℕ). pointer area (c3 at) x) (sym ej)
      ∙ here in
      let there' : (i : ℕ) → i ≢ index / 128 ^ d → pointer area (c3 at) i ≡ pointer area (c1 at) i =
      λ i ni. there i (λ e. ni (e ∙ ej)) ∙ ap (λ (xs : List ℕ). pointer area xs i) en in
      let step = node_step area d at index next bytes c1 c2 c3 m1 m2 at_ne low' after (puts_at p) rest here' there'
      roots.grows.there in
      puts_after area depth top at index at bytes c c1 c3 m m1 m2 roots
      (subst (λ (x : ℕ). Puts area x at index bytes c1 m1 at c3 m2) (sym ed) step)

  -- or stays
  pub not_relinked : next ≡ child → Puts area d child r bytes c1' m1 next c2 m2 → Puts area depth top index bytes c m
      at c2 m2
  not_relinked en' p =
      let free_at : uses area c1 d (pointer area (c1 at) (index / 128 ^ d)) at + free m1 at ≡ 0 =
      (let t = uses_child area c1 d at (index / 128 ^ d) at at_ne (quotient d index low') in
      omega (arith, t, one_same at, after.once at)) in
      let node_kept : c2 at ≡ c1 at = (puts_at p).grows.frame at free_at in
      relinked c2 p (λ q nq. refl)
      (ap (λ (xs : List ℕ). pointer area xs j) (node_kept ∙ sym en) ∙ sym ech ∙ sym en')
      (λ i ni. ap (λ (xs : List ℕ). pointer area xs i) (node_kept ∙ sym en))

-- the whole write at depth 0
pub leaf_whole : (area : Area) (size depth top at index : ℕ) (bytes : List ℕ) (c c1 c2 : Content) (m m1 : List Bool) →
    depth ≡ 0 → index < 128 ^ depth → Fits area size m → Roots area depth top c m at c1 m1 →
    ((q : ℕ) → q ≢ at → c2 q ≡ c1 q) → c2 at ≡ bytes → Puts area depth top index bytes c m at c2 m1
leaf_whole area size depth top at index bytes c c1 c2 m m1 ed low fits roots rest here =
    let ne : at ≢ 0 = omega (arith, roots.grows.there.0, fits.not_zero) in
    let l : index < 1 = subst (λ (x : ℕ). index < 128 ^ x) ed low in
    let first : 0 ≡ index = omega arith in
    let leaf = leaf_step area at bytes c1 c2 m1 ne roots.grows.there rest here in
    puts_after area depth top at index at bytes c c1 c2 m m1 m1 roots
    (subst (λ (i : ℕ). Puts area depth at i bytes c1 m1 at c2 m1) first
    (subst (λ (x : ℕ). Puts area x at 0 bytes c1 m1 at c2 m1) (sym ed) leaf))
