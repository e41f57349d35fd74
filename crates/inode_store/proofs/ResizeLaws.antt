-- The bytes of an inode are cut, or filled with zeros.
use Rattle.std.proofs.Common.{◌≡◌, ◌≢◌, ℕ, ◌+◌, ◌-◌, ◌/◌, ◌%◌, ◌^◌, ◌<◌, ◌≤◌, min, max, take, replicate, List, Bool, length, get_or, refl, ap, ◌∙◌, inl, inr, arith}
use Rattle.std.proofs.lemmas.Bool.{cases_lt}
use Rattle.std.proofs.lemmas.List.{take-replicate, length-replicate}
use Rattle.nfs2_types.specs.Bytes.{resized, overwritten}
use Rattle.pointer_tree.specs.Tree.{Content, zeros, block}
use Rattle.pointer_tree.specs.Changes.{Cuts, Deepens}
use Rattle.pointer_tree.specs.declared.node.Area.{Area}
use Rattle.pointer_tree.proofs.Tight.{tight_more, tight_zeros}
use Rattle.pointer_tree.proofs.Words.{zeros_at}
use Rattle.inode_store.specs.Inodes.{blocks_in, bytes_of, IsWhole}
use Rattle.inode_store.specs.Written.{Rewrites}
use Rattle.inode_store.specs.declared.inode.Inode.{Inode}
use Rattle.inode_store.proofs.ByteLaws.{length-bytes_from, bytes_from-resized, overwritten-filled, resized-filled}

-- CUT

module _ (area : Area) (x : Inode) (size keep left : ℕ) (c c1 : Content) (m m1 : List Bool)
    (cuts : Cuts area x.depth x.top keep c m left c1 m1) (w : IsWhole area c x) (less : size ≤ x.size)
    (keep_is : keep ≡ blocks_in size) where
  cut_bytes : bytes_of area c1 (record x { size = size; top = left }) ≡ resized size (bytes_of area c x)
  unfolding bytes_of
  cut_bytes = bytes_from-resized (block area c x.depth x.top) (block area c1 x.depth left) x.size size
      (λ p l u. ap (λ (b : List ℕ). get_or b (p % 512) 0)
      (cuts.below (p / 512) (let f = w.fits in omega (arith, f, u)) (omega (arith, keep_is, l))))
      (λ p l u. absurd (omega (arith, l, u, less)))

  pub cut_rewrites : Rewrites area x (resized size) c m (record x { size = size; top = left }) c1 m1
  cut_rewrites = record {
    moves = cuts.moves;
    bytes = cut_bytes;
    whole = record {
      depth_in = w.depth_in;
      fits = let f = w.fits in omega (arith, f, less);
      tight = cuts.tight (blocks_in size) (omega (arith, keep_is));
    };
    top_is = cuts.top_is;
    same = refl;
  }

-- FILLED WITH ZEROS

module _ (area : Area) (x : Inode) (size d t1 last : ℕ) (c c1 : Content) (m m1 : List Bool)
    (deepens : Deepens area x.depth x.top c m d t1 c1 m1) (w : IsWhole area c x) (place : last < 128 ^ d)
    (depth_in : d ≤ 3) (more : x.size < size) (ends : x.size % 512 ≡ 0) (last_is : last ≡ (size - 1) / 512) where
  -- past the blocks of the old bytes there are zeros
  past : (k : ℕ) → blocks_in x.size ≤ k → k < 128 ^ d → block area c1 d t1 k ≡ zeros
  past k l h = elim (cases_lt k (128 ^ x.depth)) [
    | inl u ↦ deepens.same k u ∙ tight_zeros area c x.depth x.top (blocks_in x.size) w.tight k l u
    | inr u ↦ deepens.past k u h
  ]

  long_bytes : bytes_of area c1 (record x { size = size; depth = d; top = t1 }) ≡ resized size (bytes_of area c x)
  unfolding bytes_of
  long_bytes = bytes_from-resized (block area c x.depth x.top) (block area c1 d t1) x.size size
      (λ p l u. ap (λ (b : List ℕ). get_or b (p % 512) 0)
      (deepens.same (p / 512) (let f = w.fits in omega (arith, f, u))))
      (λ p l u. ap (λ (b : List ℕ). get_or b (p % 512) 0)
      (past (p / 512) (omega (arith, u, ends)) (omega (arith, l, last_is, place))) ∙ zeros_at (p % 512))

  pub long_rewrites : Rewrites area x (resized size) c m (record x { size = size; depth = d; top = t1 }) c1 m1
  long_rewrites = record {
    moves = deepens.moves;
    bytes = long_bytes;
    whole = record {
      depth_in = depth_in;
      fits = omega (arith, last_is, place, more);
      tight = tight_more area c1 d t1 (blocks_in x.size) (blocks_in size)
          (deepens.tight (blocks_in x.size) w.tight) (omega (arith, more));
    };
    top_is = deepens.top_is;
    same = refl;
  }

-- one change after another
pub rewrites_then : (area : Area) (x y z : Inode) (first second : List ℕ → List ℕ) (c c1 c2 : Content)
    (m m1 m2 : List Bool) → Rewrites area x first c m y c1 m1 → Rewrites area y second c1 m1 z c2 m2 →
    Rewrites area x (λ b. second (first b)) c m z c2 m2
rewrites_then area x y z first second c c1 c2 m m1 m2 p q = record {
  moves = record {
    kept = λ b. q.moves.kept b ∙ p.moves.kept b;
    frame = λ b h. q.moves.frame b (p.moves.kept b ∙ h) ∙ p.moves.frame b h;
  };
  bytes = q.bytes ∙ ap second p.bytes;
  whole = q.whole;
  top_is = q.top_is;
  same = q.same ∙ ap (λ (w : Inode). record w { size = z.size; depth = z.depth; top = z.top }) p.same;
}

pub rewrites_as : (area : Area) (x y : Inode) (first second : List ℕ → List ℕ) (c c1 : Content) (m m1 : List Bool) →
    first (bytes_of area c x) ≡ second (bytes_of area c x) → Rewrites area x first c m y c1 m1 →
    Rewrites area x second c m y c1 m1
rewrites_as area x y first second c c1 m m1 e p = record {
  moves = p.moves;
  bytes = p.bytes ∙ e;
  whole = p.whole;
  top_is = p.top_is;
  same = p.same;
}

pub length-bytes_of : (area : Area) (c : Content) (x : Inode) → length (bytes_of area c x) ≡ x.size
unfolding bytes_of
length-bytes_of area c x = length-bytes_from (block area c x.depth x.top) 0 x.size

-- where the zeros end that fill the last block
pub record FillsBlock (old start count size now : ℕ) : Type 0 where
  pub within : old + count ≤ size
  pub last : now ≡ size → old + count ≡ size
  pub more : now ≢ size → now < size
  pub block : now ≢ size → now % 512 ≡ 0

pub fills_block : (old start count size now : ℕ) → start ≡ old % 512 → count ≡ min (512 - start) (size - old) →
    now ≡ max old (old + count) → old < size → FillsBlock old start count size now
fills_block old start count size now es ec en l = record {
  within = omega (arith, es, ec, l);
  last = λ e. omega (arith, es, ec, en, l, e);
  more = λ ne. omega (arith, es, ec, en, l, ne);
  block = λ ne. omega (arith, es, ec, en, l, ne);
}

-- zeros up to the end of a block, which may be all of them or not
pub fill_done : (area : Area) (x y : Inode) (part : List ℕ) (count size : ℕ) (c c1 : Content) (m m1 : List Bool) →
    part ≡ replicate count 0 → x.size + count ≡ size →
    Rewrites area x (overwritten x.size part) c m y c1 m1 → Rewrites area x (resized size) c m y c1 m1
fill_done area x y part count size c c1 m m1 ep e w = rewrites_as area x y (overwritten x.size part) (resized size)
    c c1 m m1
    (ap (λ (p : List ℕ). overwritten x.size p (bytes_of area c x)) ep
    ∙ overwritten-filled x.size count size (bytes_of area c x) (length-bytes_of area c x) e) w

pub fill_more : (area : Area) (x y z : Inode) (part : List ℕ) (count size : ℕ) (c c1 c2 : Content)
    (m m1 m2 : List Bool) → part ≡ replicate count 0 → x.size + count ≤ size →
    Rewrites area x (overwritten x.size part) c m y c1 m1 → Rewrites area y (resized size) c1 m1 z c2 m2 →
    Rewrites area x (resized size) c m z c2 m2
fill_more area x y z part count size c c1 c2 m m1 m2 ep l w v =
    rewrites_as area x z (λ b. resized size (overwritten x.size part b)) (resized size) c c2 m m2
    (ap (λ (p : List ℕ). resized size (overwritten x.size p (bytes_of area c x))) ep
    ∙ resized-filled x.size count size (bytes_of area c x) (length-bytes_of area c x) l)
    (rewrites_then area x y z (overwritten x.size part) (resized size) c c1 c2 m m1 m2 w v)

-- a part of a block of zeros
pub zeros_part : (count : ℕ) → count ≤ 512 → take {A = ℕ} count (replicate 512 0) ≡ replicate count 0
zeros_part count l = take-replicate count 512 0 l

pub length-zeros_part : (count : ℕ) → count ≤ 512 → length (take {A = ℕ} count (replicate 512 0)) ≡ count
length-zeros_part count l = ap length (zeros_part count l) ∙ length-replicate count 0
