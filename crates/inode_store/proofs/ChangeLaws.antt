-- One inode changes, with the tree of its bytes: what stands then, of it and of all others.
use Rattle.std.proofs.Common.{◌≡◌, ◌≢◌, ℕ, ◌+◌, ◌^◌, ◌<◌, ◌≤◌, List, Bool, length, Option, Some, None, refl, sym, ap, subst, ◌∙◌, inl, inr, arith}
use Rattle.std.specs.Option.{option_map}
use Rattle.std.proofs.lemmas.Bool.{cases_eq, cases_lt}
use Rattle.nfs2_types.specs.declared.fattr.Kind.{Kind}
use Rattle.pointer_tree.specs.Tree.{Content, sum_to, word_at, as_pointer, uses}
use Rattle.pointer_tree.specs.Changes.{free, IsTop, Fits, Stands, Lies, Moves}
use Rattle.pointer_tree.specs.declared.node.Area.{Area}
use Rattle.pointer_tree.proofs.Sums.{sum_same, sum_term, sum_change}
use Rattle.pointer_tree.proofs.Trees.{same_uses, same_block}
use Rattle.pointer_tree.proofs.Tight.{same_tight}
use Rattle.pointer_tree.proofs.Words.{as_pointer_is}
use Rattle.pointer_tree.proofs.Forest.{other_kept, other_uses}
use Rattle.inode_dirs.specs.Files.{File}
use Rattle.inode_store.specs.Kinds.{kind_in}
use Rattle.inode_store.specs.Inodes.{inode_in, inode_at, depth_of, top_of, blocks_in, bytes_of, file_of, file_at, IsWhole}
use Rattle.inode_store.specs.Keeps.{all_uses, Keeps, Changes}
use Rattle.inode_store.specs.declared.inode.Inode.{Inode}
use Rattle.pointer_tree.proofs.TreeUses.{uses_within, bytes_same}

-- THE TOP OF AN INODE

module _ (area : Area) (b : List ℕ) where
  read : Kind → Inode
  read kind = record {
    kind = kind;
    mode = word_at b 4;
    uid = word_at b 8;
    gid = word_at b 12;
    size = word_at b 16;
    depth = word_at b 20;
    top = as_pointer area (word_at b 24);
  }

  top_if : (o : Option Kind) → IsTop area (top_of (option_map read o))
  unfolding read
  top_if None = inl refl
  top_if (Some k) = as_pointer_is area (word_at b 24)

  pub top_in : IsTop area (top_of (inode_in area b))
  unfolding inode_in read top_if
  top_in = top_if (kind_in (word_at b 0))

-- each inode's depth and top
abbrev pub depths : Area → Content → ℕ → ℕ
depths area c i = depth_of (inode_at area c i)

abbrev pub tops : Area → Content → ℕ → ℕ
tops area c i = top_of (inode_at area c i)

pub top_is : (area : Area) (c : Content) (i : ℕ) → IsTop area (tops area c i)
top_is area c i = top_in area (c (1 + i))

pub top_at : (area : Area) (c : Content) (i : ℕ) (x : Inode) → inode_at area c i ≡ Some x → IsTop area x.top
top_at area c i x e = subst (λ (o : Option Inode). IsTop area (top_of o)) e (top_is area c i)

-- ONE TREE BESIDE THE OTHERS

module _ (area : Area) (n size : ℕ) (c : Content) (m : List Bool) (keeps : Keeps area n c size m) where
  pub once : (b : ℕ) → all_uses area c n b + free m b ≤ 1
  once b = elim (cases_lt b area.first) [
    | inl l ↦ let z = keeps.low b l in omega (arith, z)
    | inr h ↦ elim (cases_lt b area.end) [
      | inl l ↦ let o = keeps.all b h l in omega (arith, o)
      | inr p ↦ let z = keeps.past b p in omega (arith, z)
    ]
  ]

  -- what the calls of a tree need
  pub stands_at : (i : ℕ) → i < n → Stands area (depths area c i) (tops area c i) c m
  stands_at i l = record {
    once = λ b.
        let t = sum_term n (λ (j : ℕ). uses area c (depths area c j) (tops area c j) b) i l in
        omega (arith, t, once b);
    top_is = top_is area c i;
  }

  pub fits_of : Fits area size m
  fits_of = record {
    within = λ b h. elim (cases_lt b area.first) [
      | inl l ↦ absurd (let z = keeps.low b l in omega (arith, z, h))
      | inr f ↦ elim (cases_lt b area.end) [
        | inl l ↦ (f, l)
        | inr p ↦ absurd (let z = keeps.past b p in omega (arith, z, h))
      ]
    ];
    not_zero = omega (arith, keeps.first);
    on_medium = keeps.on_medium;
    small = keeps.small;
  }

  pub lies_of : Lies area size m
  lies_of = record {
    not_zero = omega (arith, keeps.first);
    on_medium = keeps.on_medium;
    in_map = omega (arith, keeps.in_map);
  }

-- files of the same bytes are the same
module _ (area : Area) (c c' : Content) where
  file_with : (x : Inode) → bytes_of area c' x ≡ bytes_of area c x → file_of area c' x ≡ file_of area c x
  file_with x e = ap (λ (b : List ℕ). let f : File = record {
    kind = x.kind;
    mode = x.mode;
    uid = x.uid;
    gid = x.gid;
    bytes = b;
  } in f) e

  same_file : (o : Option Inode) → ((x : Inode) → o ≡ Some x → bytes_of area c' x ≡ bytes_of area c x) →
      option_map (file_of area c') o ≡ option_map (file_of area c) o
  same_file None h = refl
  same_file (Some x) h = ap Some (file_with x (h x refl))

-- A TREE CHANGES, AND THEN THE BLOCK OF ITS INODE

module _ (area : Area) (n size i d1 top1 : ℕ) (c c1 c2 : Content) (m m1 : List Bool) (keeps : Keeps area n c size m)
    (there : i < n) (moves : Moves area (depths area c i) (tops area c i) c m d1 top1 c1 m1)
    (len : length m1 ≡ length m) (rest : (q : ℕ) → q ≢ 1 + i → c2 q ≡ c1 q) (after : Option Inode)
    (is : inode_at area c2 i ≡ after) (depth : depth_of after ≡ d1) (top : top_of after ≡ top1)
    (whole : (x : Inode) → after ≡ Some x → IsWhole area c1 x) where
  -- the blocks before the area were not written, but for that of the inode
  table_kept : (q : ℕ) → q < area.first → c1 q ≡ c q
  table_kept q l = moves.frame q (
      let z = keeps.low q l in
      let t = sum_term n (λ (j : ℕ). uses area c (depths area c j) (tops area c j) q) i there in
      omega (arith, z, t))

  pub other_inode : (j : ℕ) → j < n → j ≢ i → inode_at area c2 j ≡ inode_at area c j
  other_inode j l ne = ap (inode_in area) (rest (1 + j) (omega arith) ∙ table_kept (1 + j) (omega (arith, keeps.first)))

  -- a block of a tree is none of the table's
  not_table : (d p q : ℕ) → IsTop area p → 1 ≤ uses area c1 d p q → q ≢ 1 + i
  not_table d p q is_top u e = let w = uses_within area c1 d p q is_top u in omega (arith, w.0, keeps.first, e, there)

  other_blocks : (j : ℕ) → j < n → j ≢ i → (q : ℕ) → 1 ≤ uses area c (depths area c j) (tops area c j) q → c2 q ≡ c q
  other_blocks j l ne q u =
      let w = uses_within area c (depths area c j) (tops area c j) q (top_is area c j) u in
      rest q (omega (arith, w.0, keeps.first, there))
      ∙ other_kept area n (depths area c) (tops area c) c c1 m m1 i d1 top1 (once area n size c m keeps) there moves
      j l ne q u

  -- the inode's own top
  top_of_it : (x : Inode) → after ≡ Some x → IsTop area x.top
  top_of_it x e = subst (λ (p : ℕ). IsTop area p) (ap top_of (is ∙ e)) (top_is area c2 i)

  used_by : (j : ℕ) (x : Inode) → inode_at area c j ≡ Some x → (q : ℕ) → 1 ≤ uses area c x.depth x.top q →
      1 ≤ uses area c (depths area c j) (tops area c j) q
  used_by j x e q u = subst (λ (o : Option Inode). 1 ≤ uses area c (depth_of o) (top_of o) q) (sym e) u

  -- the trees of all inodes, before the inode's block was written and after
  top_here : IsTop area top1
  top_here = subst (λ (p : ℕ). IsTop area p) (ap top_of is ∙ top) (top_is area c2 i)

  tree_same : (j : ℕ) → j < n → (b : ℕ) →
      uses area c2 (depths area c2 j) (tops area c2 j) b ≡ uses area c1 (depths area c2 j) (tops area c2 j) b
  tree_same j l b = same_uses area c1 c2 (depths area c2 j) (tops area c2 j)
      (λ q u. rest q (not_table (depths area c2 j) (tops area c2 j) q (top_is area c2 j) u)) b

  pub conserved : (b : ℕ) → all_uses area c2 n b + free m1 b ≡ all_uses area c n b + free m b
  conserved b =
      let f : ℕ → ℕ = λ j. uses area c1 (depths area c2 j) (tops area c2 j) b in
      let g : ℕ → ℕ = λ j. uses area c (depths area c j) (tops area c j) b in
      let written : all_uses area c2 n b ≡ sum_to n f = sum_same n _ f (λ j l. tree_same j l b) in
      let others : (j : ℕ) → j < n → j ≢ i → f j ≡ g j =
      λ j l ne. ap (λ (o : Option Inode). uses area c1 (depth_of o) (top_of o) b) (other_inode j l ne)
      ∙ other_uses area n (depths area c) (tops area c) c c1 m m1 i d1 top1 (once area n size c m keeps) there moves
      j l ne b in
      let changed = sum_change n f g i there others in
      let here : f i ≡ uses area c1 d1 top1 b =
      ap (λ (o : Option Inode). uses area c1 (depth_of o) (top_of o) b) is
      ∙ ap (λ (d : ℕ). uses area c1 d (top_of after) b) depth ∙ ap (λ (p : ℕ). uses area c1 d1 p b) top in
      let kept = moves.kept b in
      omega (arith, written, changed, here, kept)

  -- an inode's bytes, once its block is written
  bytes_here : (x : Inode) → after ≡ Some x → bytes_of area c2 x ≡ bytes_of area c1 x
  unfolding bytes_of
  bytes_here x e =
      let w = whole x e in
      bytes_same _ _ (128 ^ x.depth) x.size (let f = w.fits in omega (arith, f)) (λ k lk.
      same_block area c1 c2 x.depth x.top (λ q u. rest q (not_table x.depth x.top q (top_of_it x e) u)) k lk)

  bytes_other : (j : ℕ) (x : Inode) → j < n → j ≢ i → inode_at area c j ≡ Some x → bytes_of area c2 x ≡ bytes_of area
      c x
  unfolding bytes_of
  bytes_other j x l ne e =
      let w = keeps.whole j x l e in
      bytes_same _ _ (128 ^ x.depth) x.size (let f = w.fits in omega (arith, f)) (λ k lk.
      same_block area c c2 x.depth x.top (λ q u. other_blocks j l ne q (used_by j x e q u)) k lk)

  whole_here : (x : Inode) → after ≡ Some x → IsWhole area c2 x
  whole_here x e =
      let w = whole x e in
      record {
        depth_in = w.depth_in;
        fits = w.fits;
        tight = same_tight area c1 c2 x.depth x.top (blocks_in x.size)
            (λ q u. rest q (not_table x.depth x.top q (top_of_it x e) u)) w.tight;
      }

  whole_other : (j : ℕ) (x : Inode) → j < n → j ≢ i → inode_at area c j ≡ Some x → IsWhole area c2 x
  whole_other j x l ne e =
      let w = keeps.whole j x l e in
      record {
        depth_in = w.depth_in;
        fits = w.fits;
        tight = same_tight area c c2 x.depth x.top (blocks_in x.size)
            (λ q u. other_blocks j l ne q (used_by j x e q u)) w.tight;
      }

  pub kept_after : Keeps area n c2 size m1
  kept_after = record {
    first = keeps.first;
    ordered = keeps.ordered;
    on_medium = keeps.on_medium;
    small = keeps.small;
    in_map = len ∙ keeps.in_map;
    whole = λ j x l e. elim (cases_eq j i) [
      | inl at ↦ whole_here x (sym is ∙ ap (inode_at area c2) (sym at) ∙ e)
      | inr ne ↦ whole_other j x l ne (sym (other_inode j l ne) ∙ e)
    ];
    low = λ b l. conserved b ∙ keeps.low b l;
    past = λ b l. conserved b ∙ keeps.past b l;
    all = λ b l h. conserved b ∙ keeps.all b l h;
  }

  pub changes_after : Changes area n i (option_map (file_of area c1) after) c c2
  unfolding file_at
  changes_after = record {
    here = ap (option_map (file_of area c2)) is ∙ same_file area c1 c2 after (λ x e. bytes_here x e);
    others = λ j l ne. ap (option_map (file_of area c2)) (other_inode j l ne)
        ∙ same_file area c c2 (inode_at area c j) (λ x e. bytes_other j x l ne e);
    first = rest 0 (omega arith) ∙ table_kept 0 (omega (arith, keeps.first));
  }
