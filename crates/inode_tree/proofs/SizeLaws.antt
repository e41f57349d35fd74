-- How many nodes a table holds and how many bytes they use, and that the blocks suffice.
use Rattle.std.proofs.Common.{inl, inr, ◌≡◌, ◌⊎◌, ℕ, zero, suc, ◌+◌, ◌/◌, ◌<◌, ◌≤◌, arith, Bool, List, [], ◌∷◌, length, slice_get, Option, Some, None, IsSome, refl, sym, ap, ◌∙◌, subst}
use Rattle.std.specs.Prelude.{sum_by}
use Rattle.std.specs.Option.{option_map}
use Rattle.std.specs.FinMap.{len}
use Rattle.std.proofs.lemmas.List.Sums.{sum_by-cons}
use Rattle.nfs2_types.specs.declared.fattr.Kind.{Kind}
use Rattle.nfs2_types.specs.declared.fattr.Kind.TheVariants.{File as AFile, Dir, Link}
use Rattle.block_alloc.specs.Free.{free_count}
use Rattle.pointer_tree.specs.Tree.{Content, sum_to}
use Rattle.pointer_tree.specs.declared.node.Area.{Area}
use Rattle.server_trait.specs.Sums.{total}
use Rattle.server_trait.specs.Tree.{Node, used, used_by, node_at}
use Rattle.server_trait.specs.declared.server.ServerLimits.{ServerLimits}
use Rattle.server_trait.proofs.TreeLaws.{some_none, some_same, is_some_and}
use Rattle.server_trait.proofs.SumLaws.{total-ones}
use Rattle.server_trait.proofs.KeyedSums.{IsListed, total-listed}
use Rattle.inode_dirs.specs.Slots.{names_of}
use Rattle.inode_dirs.specs.SlotBytes.{slots_in}
use Rattle.inode_dirs.specs.Table.{content_of, node_of}
use Rattle.inode_dirs.specs.Files.{File, body_of, entry_of, table_of}
use Rattle.inode_dirs.proofs.TableLaws.{node-from}
use Rattle.inode_store.specs.Inodes.{inode_at, file_at, file_of, bytes_of}
use Rattle.inode_store.specs.Held.{files_of}
use Rattle.inode_store.specs.declared.inode.Inode.{Inode}
use Rattle.inode_store.proofs.ByteLaws.{length-bytes_from}
use Rattle.inode_store.proofs.HeldLaws.{files_of-within}
use Rattle.inode_store.proofs.RoomLaws.{size_at, room}
use Rattle.inode_tree.specs.Tables.{Tables}
use Rattle.inode_tree.specs.Sound.{IsTied, IsSound, the_tree}
use Rattle.inode_tree.proofs.TiedLaws.{some_of, file_of_entry, apart, node-file, index-dir, len-names, length-pieces}

-- NUMBERS

-- the numbers below n, the greatest first
abbrev numbers : ℕ → List ℕ
numbers zero = []
numbers (suc n) = n ∷ numbers n

number_at : (n k i : ℕ) → slice_get (numbers n) k ≡ Some i → i + suc k ≡ n
number_at zero k i at = absurd (some_none at refl)
number_at (suc n) zero i at = let same : n ≡ i = some_same refl at in omega (arith, same)
number_at (suc n) (suc k) i at = let rest = number_at n k i at in omega (arith, rest)

pub last_or : (n i : ℕ) → i < suc n → (i ≡ n) ⊎ (i < n)
last_or zero zero l = inl refl
last_or zero (suc i) l = absurd (omega (arith, l))
last_or (suc n) zero l = inr (omega arith)
last_or (suc n) (suc i) l = elim (last_or n i (omega (arith, l))) as (λ _. (suc i ≡ suc n) ⊎ (suc i < suc n)) [
  | inl e ↦ inl (ap suc e)
  | inr l ↦ inr (omega (arith, l))
]

at_number : (n i : ℕ) → i < n → (k : ℕ) × (slice_get (numbers n) k ≡ Some i)
at_number zero i l = absurd (omega (arith, l))
at_number (suc n) i l = by (at_number n i) (last_or n i l)
  where
    by : (i < n → (k : ℕ) × (slice_get (numbers n) k ≡ Some i)) → (i ≡ n) ⊎ (i < n) →
        (k : ℕ) × (slice_get (n ∷ numbers n) k ≡ Some i)
    by below (inl e) = (0, ap Some (sym e))
    by below (inr l) = (let rest = below l in (suc rest.0, rest.1))

sums_most : (n : ℕ) (f g : ℕ → ℕ) → ((i : ℕ) → i < n → f i ≤ g i) → sum_to n f ≤ sum_by g (numbers n)
unfolding sum_to
sums_most zero f g most = omega arith
sums_most (suc n) f g most =
    let rest = sums_most n f g (λ i l. most i (omega (arith, l))) in
    let here = most n (omega arith) in
    let sum = sum_by-cons g n (numbers n) in
    omega (arith, rest, here, sum)

sums_ones : (n : ℕ) (g : ℕ → ℕ) → ((i : ℕ) → i < n → g i ≡ 1) → sum_by g (numbers n) ≡ n
sums_ones zero g one = refl
sums_ones (suc n) g one =
    let rest = sums_ones n g (λ i l. one i (omega (arith, l))) in
    let here = one n (omega arith) in
    let sum = sum_by-cons g n (numbers n) in
    omega (arith, rest, here, sum)

-- THE NODES OF A TABLE

module _ (n : ℕ) (files : ℕ → Option File) (t : Tables) (tied : IsTied n files t) where
  abbrev key : ℕ → Option (List ℕ)
  key i = option_map (λ (f : File). t.handle i) (files i)

  -- what counts nothing for a free inode, and for a used one as much as its node
  abbrev counting : (Node → ℕ) → ℕ → ℕ
  counting f i = elim (files i) as (λ _. ℕ) [ None ↦ 0 | Some x ↦ f (node_of t.handle i (entry_of x)) ]

  key_of : (i : ℕ) (h : List ℕ) → key i ≡ Some h → (x : File) × (files i ≡ Some x) × (t.handle i ≡ h)
  key_of i h is = by (files i) is
    where
      by : (o : Option File) → option_map (λ (f : File). t.handle i) o ≡ Some h →
          (x : File) × (o ≡ Some x) × (t.handle i ≡ h)
      by None bad = absurd (some_none bad refl)
      by (Some x) is = (x, refl, some_same refl is)

  counting-some : (f : Node → ℕ) (i : ℕ) (x : File) → files i ≡ Some x → counting f i ≡ f (node_of t.handle i (entry_of x))
  counting-some f i x is = ap (λ (o : Option File). elim o as (λ _. ℕ)
      [ None ↦ 0 | Some x ↦ f (node_of t.handle i (entry_of x)) ]) is

  listed : (f : Node → ℕ) → IsListed key f (counting f) (the_tree n files t).nodes (numbers n) (numbers n)
  listed f = record {
    size = refl;
    once = λ i j x y h at_i at_j kx ky.
        let a = number_at n i x at_i in
        let b = number_at n j y at_j in
        let used_x = key_of x h kx in
        let used_y = key_of y h ky in
        let same = tied.apart x y (omega (arith, a)) (omega (arith, b)) (used_x.2 ∙ sym used_y.2) in
        omega (arith, a, b, same);
    covers = λ q v here.
        let r = node-from t.handle n (table_of files) (apart n files t tied) q v here in
        let g = file_of_entry files r.0 r.1 r.2 in
        let k = at_number n r.0 (tied.few r.0 (subst (λ o. IsSome o) (sym g.1) refl)) in
        (k.0, r.0, k.1, ap (option_map (λ (f : File). t.handle r.0)) g.1 ∙ ap Some r.3);
    none = λ i x y at_i at_j no_key.
        let same : x ≡ y = some_same at_i at_j in
        ap (counting f) (sym same) ∙ zero_of f x (files x) refl no_key;
    some = λ i x y h at_i at_j kx.
        let same : x ≡ y = some_same at_i at_j in
        let g = key_of x h kx in
        is_some_and (λ v. f v ≡ counting f y) (ap (node_at (the_tree n files t)) (sym g.2) ∙ node-file n files t tied x
        g.0 g.1) (sym (ap (counting f) (sym same) ∙ counting-some f x g.0 g.1));
  }
    where
      zero_of : (f : Node → ℕ) (x : ℕ) (o : Option File) → files x ≡ o →
          option_map (λ (f : File). t.handle x) o ≡ None → counting f x ≡ 0
      zero_of f x None is no_key = ap (λ (o : Option File). elim o as (λ _. ℕ)
          [ None ↦ 0 | Some g ↦ f (node_of t.handle x (entry_of g)) ]) is
      zero_of f x (Some g) is no_key = absurd (some_none refl no_key)

  pub total-nodes : (f : Node → ℕ) → total f (the_tree n files t).nodes ≡ sum_by (counting f) (numbers n)
  total-nodes f = total-listed key f (counting f) (the_tree n files t).nodes (numbers n) (numbers n) (listed f)

  -- where each inode is used there are as many nodes
  pub all-used : ((i : ℕ) → i < n → IsSome (files i)) → len (the_tree n files t).nodes ≡ n
  all-used used = sym (total-ones (the_tree n files t).nodes) ∙ total-nodes (λ _. 1)
      ∙ sums_ones n (counting (λ _. 1)) (λ i l. let x = some_of (files i) (used i l) in counting-some (λ _. 1) i x.0 x.1)

  -- a directory has as many names as slots
  pub names-dir : (i : ℕ) (x : File) → files i ≡ Some x → x.kind ≡ Dir →
      len (names_of t.handle (slots_in (length x.bytes / 288) x.bytes)) ≡ length x.bytes / 288
  names-dir i x is is_dir = len-names t.handle (t.place i) (slots_in (length x.bytes / 288) x.bytes)
      (index-dir n files t tied i x is is_dir) ∙ length-pieces (length x.bytes / 288) x.bytes

  -- a node uses no fewer bytes than its inode has
  pub bytes-most : (i : ℕ) (x : File) → files i ≡ Some x →
      length x.bytes ≤ used_by (content_of t.handle (body_of x.kind x.bytes))
  bytes-most i x is = by x.kind refl
    where
      by : (k : Kind) → x.kind ≡ k → length x.bytes ≤ used_by (content_of t.handle (body_of x.kind x.bytes))
      by AFile e = subst (λ k. length x.bytes ≤ used_by (content_of t.handle (body_of k x.bytes))) (sym e) (omega arith)
      by Link e = subst (λ k. length x.bytes ≤ used_by (content_of t.handle (body_of k x.bytes))) (sym e) (omega arith)
      by Dir e = subst (λ k. length x.bytes ≤ used_by (content_of t.handle (body_of k x.bytes))) (sym e)
          (let names = names-dir i x is e in
          let whole = tied.filled i x is e in
          omega (arith, names, whole))

  unfolding_used : used (the_tree n files t) ≡ total (λ (x : Node). used_by x.content) (the_tree n files t).nodes
  unfolding used
  unfolding_used = refl

  -- all inodes have no more bytes than the tree uses
  pub bytes-used : (s : ℕ → ℕ) → ((i : ℕ) → i < n → files i ≡ None → s i ≡ 0) →
      ((i : ℕ) (x : File) → i < n → files i ≡ Some x → s i ≡ length x.bytes) → sum_to n s ≤ t.counts.used
  bytes-used s free used_size =
      let all = unfolding_used in
      let sum = total-nodes (λ (x : Node). used_by x.content) in
      let most = sums_most n s (counting (λ (x : Node). used_by x.content)) (λ i l. by i l (files i) refl) in
      let counted = tied.counted.used_is in
      omega (arith, all, sum, most, counted)
    where
      by : (i : ℕ) → i < n → (o : Option File) → files i ≡ o → s i ≤ counting (λ (x : Node). used_by x.content) i
      by i l None is = let none = free i l is in omega (arith, none)
      by i l (Some x) is =
          let size = used_size i x l is in
          let most = bytes-most i x is in
          let here = counting-some (λ (x : Node). used_by x.content) i x is in
          omega (arith, size, most, here)

-- THE BLOCKS SUFFICE

size_none : (area : Area) (c : Content) (i : ℕ) → file_at area c i ≡ None → size_at (inode_at area c i) ≡ 0
unfolding file_at
size_none area c i none = by (inode_at area c i) none
  where
    by : (o : Option Inode) → option_map (file_of area c) o ≡ None → size_at o ≡ 0
    by None h = refl
    by (Some x) bad = absurd (some_none refl bad)

pub size_some : (area : Area) (c : Content) (i : ℕ) (f : File) → file_at area c i ≡ Some f →
    size_at (inode_at area c i) ≡ length f.bytes
unfolding file_at bytes_of
size_some area c i f some = by (inode_at area c i) some
  where
    by : (o : Option Inode) → option_map (file_of area c) o ≡ Some f → size_at o ≡ length f.bytes
    by None bad = absurd (some_none bad refl)
    by (Some x) is = sym (ap (λ (f : File). length f.bytes) (sym (some_same refl is)) ∙ length-bytes_from _ 0 x.size)

-- a sound tree always has the free blocks that a call needs
pub has-room : (limits : ServerLimits) (area : Area) (n : ℕ) (c : Content) (size : ℕ) (m : List Bool) (t : Tables) →
    IsSound limits area n c size m t → 32 ≤ free_count m
has-room limits area n c size m t sound =
    let within = sound.within in
    let used = bytes-used n (files_of area n c) t sound.tied (λ i. size_at (inode_at area c i))
    (λ i l none. size_none area c i (sym (files_of-within area n i c l) ∙ none))
    (λ i x l some. size_some area c i x (sym (files_of-within area n i c l) ∙ some)) in
    room area n size c m sound.keeps limits.bytes sound.blocks (omega (arith, within, used))
