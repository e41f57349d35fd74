-- How many blocks are free, from the sizes of the inodes alone.
use Rattle.std.proofs.Common.{◌≡◌, ℕ, zero, suc, ◌+◌, ◌-◌, ◌*◌, ◌/◌, ◌<◌, ◌≤◌, List, Bool, Option, Some, None, refl, arith}
use Rattle.block_alloc.specs.Free.{free_count}
use Rattle.pointer_tree.specs.Tree.{Content, sum_to}
use Rattle.pointer_tree.specs.Size.{weight}
use Rattle.pointer_tree.specs.declared.node.Area.{Area}
use Rattle.pointer_tree.proofs.Tight.{tight_none}
use Rattle.pointer_tree.proofs.Sizes.{weight_tight, free_left, enough_within}
use Rattle.inode_store.specs.Inodes.{inode_at, depth_of, top_of, blocks_in}
use Rattle.inode_store.specs.Keeps.{Keeps}
use Rattle.inode_store.specs.declared.inode.Inode.{Inode}
use Rattle.inode_store.proofs.ChangeLaws.{depths, tops, top_is}

-- the bytes of an inode, by its size
abbrev pub size_at : Option Inode → ℕ
size_at None = 0
size_at (Some x) = x.size

sum_most : (n : ℕ) (f g : ℕ → ℕ) → ((i : ℕ) → i < n → 127 * f i ≤ 128 * g i + 381) →
    127 * sum_to n f ≤ 128 * sum_to n g + 381 * n
unfolding sum_to
sum_most zero f g h = omega arith
sum_most (suc n) f g h =
    let rest = sum_most n f g (λ i l. h i (omega arith)) in
    let last = h n (omega arith) in
    omega (arith, rest, last)

-- a size of so many bytes takes at most a block more than its bytes fill
sum_blocks : (n : ℕ) (s : ℕ → ℕ) → 512 * sum_to n (λ i. blocks_in (s i)) ≤ sum_to n s + 511 * n
unfolding sum_to
sum_blocks zero s = omega arith
sum_blocks (suc n) s = let rest = sum_blocks n s in omega (arith, rest)

module _ (area : Area) (n size : ℕ) (c : Content) (m : List Bool) (keeps : Keeps area n c size m) where
  abbrev weights : ℕ → ℕ
  weights i = weight area c (depths area c i) (tops area c i)

  abbrev blocks : ℕ → ℕ
  blocks i = blocks_in (size_at (inode_at area c i))

  one : (i : ℕ) → i < n → (o : Option Inode) → inode_at area c i ≡ o →
      127 * weight area c (depth_of o) (top_of o) ≤ 128 * blocks_in (size_at o) + 381
  one i l None e = let w = weight_tight area c 0 0 0 (tight_none area c 0 0) in omega (arith, w)
  one i l (Some x) e =
      let whole = keeps.whole i x l e in
      let w = weight_tight area c x.depth x.top (blocks_in x.size) whole.tight in
      let d = whole.depth_in in
      omega (arith, w, d)

  -- what is free is what the trees leave of the area
  left : sum_to n weights + free_count m ≡ area.end - area.first
  left = free_left area c m n (depths area c) (tops area c) (λ i l. top_is area c i) keeps.in_map keeps.low keeps.all

  -- Where the area is as large as limits of so many nodes and bytes ask for, and the inodes have at most these bytes
  -- and
  -- 8,192 more, each call has the free blocks that it needs.
  pub room : (bytes : ℕ) → area.end ≡ 64 + 8 * n + bytes / 256 →
      sum_to n (λ i. size_at (inode_at area c i)) ≤ bytes + 8192 → 32 ≤ free_count m
  room bytes end within =
      let all = left in
      let most = sum_most n weights blocks (λ i l. one i l (inode_at area c i) refl) in
      let filled = sum_blocks n (λ (i : ℕ). size_at (inode_at area c i)) in
      let first = keeps.first in
      let fits = enough_within n bytes (sum_to n blocks) (sum_to n weights) most (omega (arith, filled, within)) in
      omega (arith, all, fits, end, first)
