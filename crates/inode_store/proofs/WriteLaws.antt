-- A part of one block of an inode is written.
use Rattle.std.proofs.Common.{◌≡◌, ◌⊎◌, ℕ, ◌+◌, ◌-◌, ◌*◌, ◌/◌, ◌%◌, ◌^◌, ◌<◌, ◌≤◌, max, List, Bool, length, get_or, Option, Some, refl, sym, ap, ◌∙◌, inr, arith}
use Rattle.std.specs.Option.{option_map}
use Rattle.nfs2_types.specs.Bytes.{overwritten}
use Rattle.pointer_tree.specs.Tree.{Content, block, uses}
use Rattle.pointer_tree.specs.Bytes.{bytes_from}
use Rattle.pointer_tree.specs.Changes.{Moves, Deepens, Puts}
use Rattle.pointer_tree.specs.declared.node.Area.{Area}
use Rattle.pointer_tree.proofs.Sums.{sum_term}
use Rattle.pointer_tree.proofs.DeepLaws.{pow-mono}
use Rattle.inode_dirs.specs.Files.{File}
use Rattle.inode_store.specs.Files.{with_bytes}
use Rattle.inode_store.specs.Inodes.{inode_in, inode_at, depth_of, top_of, blocks_in, bytes_of, file_of, file_at, IsWhole}
use Rattle.inode_store.specs.Keeps.{Keeps}
use Rattle.inode_store.specs.Written.{Rewrites}
use Rattle.inode_store.specs.declared.inode.Inode.{Inode}
use Rattle.inode_store.proofs.ChangeLaws.{depths, tops}
use Rattle.inode_store.proofs.ByteLaws.{bytes_from-written}

module _ (area : Area) (x : Inode) (offset : ℕ) (part : List ℕ) (c c1 : Content) (m m1 : List Bool)
    (d t1 t2 index end : ℕ)
    (deepens : Deepens area x.depth x.top c m d t1 c1 m1) (place : index < 128 ^ d) (depth_in : d ≤ 3)
    (node node' : List ℕ) (got : node ≡ block area c1 d t1 index) (c2 : Content) (m2 : List Bool)
    (puts : Puts area d t1 index node' c1 m1 t2 c2 m2) (w : IsWhole area c x) (inside : offset ≤ x.size)
    (some : 1 ≤ length part) (within : offset % 512 + length part ≤ 512) (index_is : index ≡ offset / 512)
    (end_is : end ≡ max x.size (offset + length part))
    (here : (r : ℕ) → offset % 512 ≤ r → r < offset % 512 + length part → get_or node' r 0 ≡ get_or part
    (r - offset % 512) 0)
    (there : (r : ℕ) → (r < offset % 512) ⊎ (offset % 512 + length part ≤ r) → get_or node' r 0 ≡ get_or node r 0) where
  y : Inode
  y = record x { size = end; depth = d; top = t2 }

  abbrev old : ℕ → List ℕ
  old k = block area c x.depth x.top k

  abbrev new : ℕ → List ℕ
  new k = block area c2 d t2 k

  -- a block that has bytes of the inode has a place in its tree
  placed : (k : ℕ) → 512 * k < x.size → k < 128 ^ x.depth
  placed k l = let f = w.fits in omega (arith, f, l)

  new_here : new (offset / 512) ≡ node'
  new_here = ap new (sym index_is) ∙ puts.put

  old_here : 512 * (offset / 512) < x.size → node ≡ old (offset / 512)
  old_here l = got ∙ ap (block area c1 d t1) index_is ∙ deepens.same (offset / 512) (placed (offset / 512) l)

  written : bytes_of area c2 y ≡ overwritten offset part (bytes_of area c x)
  unfolding bytes_of y
  written =
      ap (λ (n : ℕ). bytes_from new 0 n) end_is
      ∙ bytes_from-written old new x.size offset part inside within
      (λ k l ne.
      let in_old : k < 128 ^ x.depth = placed k l in
      let up = pow-mono x.depth d deepens.deeper in
      puts.others k (omega (arith, in_old, up)) (λ e. ne (e ∙ index_is)) ∙ deepens.same k in_old)
      (λ r l h. ap (λ (b : List ℕ). get_or b r 0) new_here ∙ here r l h)
      (λ r l apart. ap (λ (b : List ℕ). get_or b r 0) new_here ∙ there r apart
      ∙ ap (λ (b : List ℕ). get_or b r 0) (old_here (omega arith)))

  whole_now : IsWhole area c2 y
  unfolding y
  whole_now = record {
    depth_in = depth_in;
    fits =
        let f = w.fits in
        let up = pow-mono x.depth d deepens.deeper in
        omega (arith, f, up, place, index_is, end_is, within, inside);
    tight = puts.tight (blocks_in x.size) (blocks_in end) (deepens.tight (blocks_in x.size) w.tight)
        (omega (arith, end_is)) (omega (arith, end_is, index_is, some));
  }

  pub part_written : Rewrites area x (overwritten offset part) c m (record x { size = end; depth = d; top = t2 }) c2 m2
  unfolding y
  part_written = record {
    moves = record {
      kept = λ b. puts.grows.kept b ∙ deepens.moves.kept b;
      frame = λ b h. puts.grows.frame b (deepens.moves.kept b ∙ h) ∙ deepens.moves.frame b h;
    };
    bytes = written;
    whole = whole_now;
    top_is = inr puts.grows.there;
    same = refl;
  }

-- the same of equal things
pub writes_on : (area area' : Area) (x : Inode) (change : List ℕ → List ℕ) (c c' : Content) (m m' : List Bool)
    (y : Inode) (c1 : Content) (m1 : List Bool) → area' ≡ area → c' ≡ c → m' ≡ m →
    Rewrites area' x change c' m' y c1 m1 → Rewrites area x change c m y c1 m1
writes_on area area' x change c c' m m' y c1 m1 ea ec em w = rw (← ea, ← ec, ← em) w

-- what moves between a tree and the free blocks leaves the block of its inode
pub inode_kept : (area : Area) (n size i : ℕ) (c c1 : Content) (m m1 : List Bool) (x : Inode) (d1 t1 : ℕ) →
    Keeps area n c size m → i < n → inode_at area c i ≡ Some x → Moves area x.depth x.top c m d1 t1 c1 m1 →
    inode_at area c1 i ≡ Some x
inode_kept area n size i c c1 m m1 x d1 t1 keeps there is moves =
    let low = keeps.low (1 + i) (let f = keeps.first in omega (arith, f, there)) in
    let part = sum_term n (λ (j : ℕ). uses area c (depths area c j) (tops area c j) (1 + i)) i there in
    let here : uses area c (depths area c i) (tops area c i) (1 + i) ≡ uses area c x.depth x.top (1 + i) =
    ap (λ (o : Option Inode). uses area c (depth_of o) (top_of o) (1 + i)) is in
    ap (inode_in area) (moves.frame (1 + i) (omega (arith, low, part, here))) ∙ is

-- the file that was written
pub file_wrote : (area : Area) (i : ℕ) (change : List ℕ → List ℕ) (c c1 : Content) (m m1 : List Bool) (x y : Inode) →
    inode_at area c i ≡ Some x → Rewrites area x change c m y c1 m1 →
    option_map (with_bytes change) (file_at area c i) ≡ Some (file_of area c1 y)
unfolding file_at
file_wrote area i change c c1 m m1 x y is w =
    ap (λ (o : Option Inode). option_map (with_bytes change) (option_map (file_of area c) o)) is
    ∙ ap (λ (b : List ℕ). let f : File = record { kind = x.kind; mode = x.mode; uid = x.uid; gid = x.gid; bytes = b }
    in Some f)
    (sym w.bytes)
    ∙ ap (λ (z : Inode). let f : File = record {
      kind = z.kind;
      mode = z.mode;
      uid = z.uid;
      gid = z.gid;
      bytes =
          bytes_of area c1 y;
    } in Some f)
    (sym w.same)
