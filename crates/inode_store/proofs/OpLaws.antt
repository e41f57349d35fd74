-- What each call on one inode leaves.
use Rattle.std.proofs.Common.{◌≡◌, ◌≢◌, ℕ, ◌+◌, ◌-◌, ◌<◌, min, take, drop, List, [], Bool, length, Option, Some, None, replicate, refl, sym, ap, subst, ◌∙◌, arith, lit≤, IsSome, true, false}
use Rattle.std.specs.Option.{option_map}
use Rattle.nfs2_types.specs.declared.fattr.Kind.{Kind}
use Rattle.pointer_tree.specs.Tree.{Content, block, uses}
use Rattle.pointer_tree.specs.Bytes.{bytes_from}
use Rattle.pointer_tree.specs.Changes.{Stands, Moves, Cuts}
use Rattle.pointer_tree.specs.declared.node.Area.{Area}
use Rattle.pointer_tree.proofs.Trees.{uses-none}
use Rattle.pointer_tree.proofs.Tight.{tight_none}
use Rattle.inode_dirs.specs.Files.{File}
use Rattle.inode_store.specs.Files.{new_file, with_attr}
use Rattle.inode_store.specs.Inodes.{inode_in, inode_at, depth_of, top_of, bytes_of, file_of, file_at, IsWhole}
use Rattle.inode_store.specs.Keeps.{Keeps, Changes, Becomes}
use Rattle.inode_store.specs.declared.inode.Inode.{Inode}
use Rattle.inode_store.proofs.ByteLaws.{part_of_bytes}
use Rattle.inode_store.proofs.ChangeLaws.{depths, tops, stands_at, kept_after, changes_after}

-- an inode's block lies on the medium
pub inode_on : (area : Area) (n size i : ℕ) (c : Content) (m : List Bool) → Keeps area n c size m → i < n → 1 + i < size
inode_on area n size i c m k l = omega (arith, k.first, k.ordered, k.on_medium)

-- the same of equal things
pub becomes_on : (area area' : Area) (n n' size size' i : ℕ) (file file' : Option File) (c c' : Content)
    (m m' : List Bool) → area' ≡ area → n' ≡ n → size' ≡ size → m' ≡ m → file' ≡ file →
    Becomes area n size i file c c' m → Becomes area' n' size' i file' c c' m'
becomes_on area area' n n' size size' i file file' c c' m m' ea en es em ef b = rw (ea, en, es, em, ef) b

-- nothing moved
pub stay : (area : Area) (d top : ℕ) (c : Content) (m : List Bool) → Moves area d top c m d top c m
stay area d top c m = record { kept = λ b. refl; frame = λ b h. refl }

-- A USED INODE BECOMES ANOTHER

module _ (area : Area) (n size i : ℕ) (c c1 c2 : Content) (m m1 : List Bool) (keeps : Keeps area n c size m)
    (there : i < n) (x y : Inode) (old : inode_at area c i ≡ Some x)
    (moves : Moves area x.depth x.top c m y.depth y.top c1 m1) (len : length m1 ≡ length m)
    (rest : (q : ℕ) → q ≢ 1 + i → c2 q ≡ c1 q) (here : inode_at area c2 i ≡ Some y) (whole : IsWhole area c1 y) where
  moves_at : Moves area (depths area c i) (tops area c i) c m y.depth y.top c1 m1
  moves_at = subst (λ (o : Option Inode). Moves area (depth_of o) (top_of o) c m y.depth y.top c1 m1) (sym old) moves

  whole_at : (z : Inode) → Some y ≡ Some z → IsWhole area c1 z
  whole_at z e = subst (λ (w : Inode). IsWhole area c1 w) (let same : y ≡ z = cc in same) whole

  kept_edited : Keeps area n c2 size m1
  kept_edited = kept_after area n size i y.depth y.top c c1 c2 m m1 keeps there moves_at len rest (Some y) here refl
      refl whole_at

  changes_edited : Changes area n i (Some (file_of area c1 y)) c c2
  changes_edited = changes_after area n size i y.depth y.top c c1 c2 m m1 keeps there moves_at len rest (Some y) here
      refl refl whole_at

  pub edited : Becomes area n size i (Some (file_of area c1 y)) c c2 m1
  edited = record { kept = kept_edited; changes = changes_edited }

-- A FREE INODE IS TAKEN

module _ (area : Area) (n size i : ℕ) (c c2 : Content) (m : List Bool) (keeps : Keeps area n c size m) (there : i < n)
    (y : Inode) (old : inode_at area c i ≡ None) (top : y.top ≡ 0) (depth : y.depth ≡ 0) (none : y.size ≡ 0)
    (rest : (q : ℕ) → q ≢ 1 + i → c2 q ≡ c q) (here : inode_at area c2 i ≡ Some y) where
  moves_none : Moves area (depths area c i) (tops area c i) c m y.depth y.top c m
  moves_none =
      subst (λ (o : Option Inode). Moves area (depth_of o) (top_of o) c m y.depth y.top c m) (sym old)
      (subst (λ (d : ℕ). Moves area 0 0 c m d y.top c m) (sym depth)
      (subst (λ (p : ℕ). Moves area 0 0 c m 0 p c m) (sym top) (stay area 0 0 c m)))

  whole_none : (z : Inode) → Some y ≡ Some z → IsWhole area c z
  whole_none z e = subst (λ (w : Inode). IsWhole area c w) (let same : y ≡ z = cc in same) (record {
    depth_in = omega (arith, depth);
    fits = rw (none, depth) (lit≤ tt);
    tight = rw (none, depth, top) (tight_none area c 0 0);
  })

  kept_taken : Keeps area n c2 size m
  kept_taken = kept_after area n size i y.depth y.top c c c2 m m keeps there moves_none refl rest (Some y) here refl
      refl whole_none

  changes_taken : Changes area n i (Some (file_of area c y)) c c2
  changes_taken = changes_after area n size i y.depth y.top c c c2 m m keeps there moves_none refl rest (Some y) here
      refl refl whole_none

  pub taken : Becomes area n size i (Some (file_of area c y)) c c2 m
  taken = record { kept = kept_taken; changes = changes_taken }

-- A USED INODE IS GIVEN BACK

module _ (area : Area) (n size i left : ℕ) (c c1 c2 : Content) (m m1 : List Bool) (keeps : Keeps area n c size m)
    (there : i < n) (x : Inode) (old : inode_at area c i ≡ Some x)
    (cuts : Cuts area x.depth x.top 0 c m left c1 m1) (len : length m1 ≡ length m)
    (rest : (q : ℕ) → q ≢ 1 + i → c2 q ≡ c1 q) (here : inode_at area c2 i ≡ None) where
  moves_gone : Moves area (depths area c i) (tops area c i) c m 0 0 c1 m1
  moves_gone =
      subst (λ (o : Option Inode). Moves area (depth_of o) (top_of o) c m 0 0 c1 m1) (sym old) (record {
        kept = λ b.
            let none : uses area c1 x.depth left b ≡ 0 =
            ap (λ (p : ℕ). uses area c1 x.depth p b) (cuts.gone refl) ∙ uses-none area c1 x.depth b in
            let nothing = uses-none area c1 0 b in
            let kept = cuts.moves.kept b in
            omega (arith, none, nothing, kept);
        frame = cuts.moves.frame;
      })

  no_whole : (z : Inode) → None ≡ Some z → IsWhole area c1 z
  no_whole z e = absurd (let bad : None ≡ Some z = e in cc)

  kept_given : Keeps area n c2 size m1
  kept_given = kept_after area n size i 0 0 c c1 c2 m m1 keeps there moves_gone len rest None here refl refl no_whole

  changes_given : Changes area n i None c c2
  changes_given = changes_after area n size i 0 0 c c1 c2 m m1 keeps there moves_gone len rest None here refl refl
      no_whole

  pub given : Becomes area n size i None c c2 m1
  given = record { kept = kept_given; changes = changes_given }

-- WHAT FILES ARE THEN

-- bytes of size 0 are none
bytes_none : (area : Area) (c : Content) (y : Inode) → y.size ≡ 0 → bytes_of area c y ≡ []
unfolding bytes_of bytes_from
bytes_none area c y e = rw e refl

pub file_new : (area : Area) (c : Content) (kind : Kind) → file_of area c (record {
  kind = kind;
  mode = 0;
  uid = 0;
  gid = 0;
  size = 0;
  depth = 0;
  top = 0;
}) ≡ new_file kind
file_new area c kind = ap (λ (b : List ℕ). let f : File = record {
  kind = kind;
  mode = 0;
  uid = 0;
  gid = 0;
  bytes = b;
} in f) (bytes_none area c _ refl)

-- an inode with other attributes has the same bytes
pub file_attr : (area : Area) (c : Content) (i mode uid gid : ℕ) (x : Inode) → inode_at area c i ≡ Some x →
    Some (file_of area c (record x { mode = mode; uid = uid; gid = gid })) ≡ option_map (with_attr mode uid gid)
    (file_at area c i)
unfolding file_at bytes_of
file_attr area c i mode uid gid x e =
    sym (ap (λ (o : Option Inode). option_map (with_attr mode uid gid) (option_map (file_of area c) o)) e)

pub whole_attr : (area : Area) (c : Content) (x : Inode) (mode uid gid : ℕ) → IsWhole area c x →
    IsWhole area c (record x { mode = mode; uid = uid; gid = gid })
whole_attr area c x mode uid gid w = record { depth_in = w.depth_in; fits = w.fits; tight = w.tight }

-- WHAT WAS READ AND WRITTEN

-- what a write of an inode's block leaves, after reads
pub rest_of : (c c1 c2 : Content) (i : ℕ) → c1 ≡ c → ((q : ℕ) → q ≢ 1 + i → c2 q ≡ c1 q) → (q : ℕ) → q ≢ 1 + i →
    c2 q ≡ c q
rest_of c c1 c2 i same rest q ne = rest q ne ∙ ap (λ (f : Content). f q) same

pub here_of : (area : Area) (c2 : Content) (i : ℕ) (b : List ℕ) (o : Option Inode) → c2 (1 + i) ≡ b →
    inode_in area b ≡ o → inode_at area c2 i ≡ o
here_of area c2 i b o written is = ap (inode_in area) written ∙ is

-- a block of zeros is a free inode
pub inode_in-zeros : (area : Area) → inode_in area (replicate 512 0) ≡ None
unfolding inode_in
inode_in-zeros area = refl

-- what a call of a tree needs and gives, after an inode was read
pub stands_on : (area area' : Area) (n size i : ℕ) (c c' : Content) (m m' : List Bool) (x : Inode) →
    Keeps area n c size m → i < n → inode_at area c i ≡ Some x → area' ≡ area → c' ≡ c → m' ≡ m →
    Stands area' x.depth x.top c' m'
stands_on area area' n size i c c' m m' x keeps l is ea ec em =
    let here : Stands area x.depth x.top c m =
    subst (λ (o : Option Inode). Stands area (depth_of o) (top_of o) c m) is (stands_at area n size c m keeps i l) in
    rw (ea, ec, em) here

pub cuts_on : (area area' : Area) (d top keep : ℕ) (c c' : Content) (m m' : List Bool) (left : ℕ) (c1 : Content)
    (m1 : List Bool) → area' ≡ area → c' ≡ c → m' ≡ m → Cuts area' d top keep c' m' left c1 m1 →
    Cuts area d top keep c m left c1 m1
cuts_on area area' d top keep c c' m m' left c1 m1 ea ec em cuts = rw (← ea, ← ec, ← em) cuts

-- a part of a file's bytes, as it was read from its tree
pub file_part : (area area' : Area) (c c' : Content) (i : ℕ) (x : Inode) (from count first last : ℕ) (bytes : List ℕ) →
    inode_at area c i ≡ Some x → area' ≡ area → c' ≡ c → first ≡ min from x.size →
    last ≡ first + min count (x.size - first) →
    bytes ≡ bytes_from (block area' c' x.depth x.top) first (last - first) →
    option_map (λ (f : File). take count (drop from f.bytes)) (file_at area c i) ≡ Some bytes
unfolding file_at bytes_of
file_part area area' c c' i x from count first last bytes is ea ec ef el e =
    ap (λ (o : Option Inode). option_map (λ (f : File). take count (drop from f.bytes)) (option_map (file_of area c)
    o)) is
    ∙ ap (λ (b : List ℕ). Some b) (part_of_bytes (block area c x.depth x.top) x.size from count first last ef el
    ∙ ap (λ (a : Area). bytes_from (block a c x.depth x.top) first (last - first)) (sym ea)
    ∙ ap (λ (f : Content). bytes_from (block area' f x.depth x.top) first (last - first)) (sym ec) ∙ sym e)

-- an inode is used where it has a file
pub inode_none : (area : Area) (c : Content) (i : ℕ) → file_at area c i ≡ None → inode_at area c i ≡ None
unfolding file_at
inode_none area c i e = by (inode_at area c i) e
  where
    by : (o : Option Inode) → option_map (file_of area c) o ≡ None → o ≡ None
    by None h = refl
    by (Some x) h = absurd (let bad : Some (file_of area c x) ≡ None = h in cc)

pub inode_used : (area : Area) (c : Content) (i : ℕ) → IsSome (file_at area c i) → inode_at area c i ≢ None
unfolding file_at
inode_used area c i some none = by (inode_at area c i) some none
  where
    by : (o : Option Inode) → IsSome (option_map (file_of area c) o) → o ≡ None → ⊥
    by None h e = (let bad : false ≡ true = h in cc)
    by (Some x) h e = (let bad : Some x ≡ None = e in cc)

pub file_is : (area : Area) (c : Content) (i : ℕ) (x : Inode) → inode_at area c i ≡ Some x →
    file_at area c i ≡ Some (file_of area c x)
unfolding file_at
file_is area c i x e = ap (option_map (file_of area c)) e
