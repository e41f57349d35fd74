-- What a change of a directory's bytes leaves in a store.
use Rattle.std.proofs.Common.{◌≡◌, ℕ, ◌+◌, ◌-◌, ◌*◌, ◌/◌, ◌^◌, ◌<◌, ◌≤◌, List, [], ◌∷◌, Bool, ◌++◌, length, take, drop, slice_get, Option, Some, None, refl, sym, ap, subst, ◌∙◌, arith}
use Rattle.std.specs.Prelude.{IsSomeAnd}
use Rattle.std.specs.Option.{option_map}
use Rattle.pointer_tree.specs.Tree.{Content}
use Rattle.pointer_tree.specs.declared.node.Area.{Area}
use Rattle.pointer_tree.proofs.DeepLaws.{pow-mono}
use Rattle.nfs2_types.specs.Bytes.{overwritten}
use Rattle.server_trait.proofs.TreeLaws.{some_same}
use Rattle.std.proofs.lemmas.List.{length-take, length-drop, take_all}
use Rattle.inode_store.proofs.ByteLaws.{length-overwritten}
use Rattle.inode_dirs.specs.Files.{File, IsDirectory, slots_of, slots_at}
use Rattle.inode_dirs.specs.SlotBytes.{with_piece, slot_in, slot_bytes}
use Rattle.inode_dirs.specs.Slots.{IsDropped}
use Rattle.inode_dirs.proofs.DirectoryLaws.{length-slots_of, slots_of-get, slots_of-more, directory-more, slots_of-less, directory-less}
use Rattle.inode_dirs.proofs.SlotBytesLaws.{length-slot_bytes}
use Rattle.inode_store.specs.Files.{with_bytes}
use Rattle.inode_store.specs.Inodes.{inode_at, bytes_of, file_of, file_at}
use Rattle.inode_store.specs.Keeps.{Keeps, Becomes}
use Rattle.inode_store.specs.declared.inode.Inode.{Inode}
use Rattle.inode_store.proofs.OpLaws.{file_is}
use Rattle.inode_store.proofs.ResizeLaws.{length-bytes_of}
use Rattle.inode_slots.specs.Directory.{with_slot, without_slot}
use Rattle.inode_slots.proofs.OverwriteLaws.{resized-cut, overwritten-slot}

-- A STORE THAT WAS READ

pub kept_on : (area area' : Area) (n n' : ℕ) (c c' : Content) (size size' : ℕ) (m m' : List Bool) → area' ≡ area →
    n' ≡ n → c' ≡ c → size' ≡ size → m' ≡ m → Keeps area n c size m → Keeps area' n' c' size' m'
kept_on area area' n n' c c' size size' m m' ea en ec es em k = rw (ea, en, ec, es, em) k

pub file_on : (area area' : Area) (c c' : Content) (i : ℕ) → area' ≡ area → c' ≡ c →
    file_at area' c' i ≡ file_at area c i
file_on area area' c c' i ea ec = ap (λ (a : Area). file_at a c' i) ea ∙ ap (λ (d : Content). file_at area d i) ec

-- SIZES

-- how many slots an inode has, by its size
pub count_of : (area : Area) (c : Content) (i : ℕ) (x : Inode) → inode_at area c i ≡ Some x →
    x.size / 288 ≡ length (slots_at (file_at area c i))
count_of area c i x e = sym (ap (λ (o : Option File). length (slots_at o)) (file_is area c i x e)
    ∙ length-slots_of (file_of area c x) ∙ ap (λ (n : ℕ). n / 288) (length-bytes_of area c x))

module _ (area : Area) (n size i : ℕ) (c : Content) (m : List Bool) (keeps : Keeps area n c size m) (there : i < n)
  where
    -- no file is longer than its tree has room
    pub size_in : (f : File) → file_at area c i ≡ Some f → length f.bytes ≤ 512 * 128 ^ 3
    unfolding file_at
    size_in f e = by (inode_at area c i) refl e
      where
        by : (o : Option Inode) → inode_at area c i ≡ o → option_map (file_of area c) o ≡ Some f →
            length f.bytes ≤ 512 * 128 ^ 3
        by None is got = absurd (let bad : None ≡ Some f = got in cc)
        by (Some x) is got =
            let w = keeps.whole i x there is in
            let fits = w.fits in
            let up = pow-mono x.depth 3 w.depth_in in
            let same : file_of area c x ≡ f = some_same refl got in
            let long : length (bytes_of area c x) ≡ length f.bytes = ap (λ (g : File). length g.bytes) same in
            let size = length-bytes_of area c x in
            omega (arith, fits, up, long, size)

    -- each slot ends within it
    pub slot_end : (k : ℕ) → k < length (slots_at (file_at area c i)) → 288 * k + 288 ≤ 512 * 128 ^ 3
    slot_end k l = by (file_at area c i) refl l
      where
        by : (o : Option File) → file_at area c i ≡ o → k < length (slots_at o) → 288 * k + 288 ≤ 512 * 128 ^ 3
        by None is l = absurd (omega (arith, l))
        by (Some f) is l =
            let s = size_in f is in
            let n = length-slots_of f in
            omega (arith, s, n, l)

-- ONE SLOT

-- the bytes of slot k
abbrev pub slot_of : ℕ → Option File → Option (List ℕ)
slot_of k o = option_map (λ (f : File). take 288 (drop (288 * k) f.bytes)) o

pub slot_length : (o : Option File) (k : ℕ) (b : List ℕ) → k < length (slots_at o) → slot_of k o ≡ Some b →
    length b ≡ 288
slot_length None k b l e = absurd (omega (arith, l))
slot_length (Some f) k b l e =
    let same : take 288 (drop (288 * k) f.bytes) ≡ b = some_same refl e in
    let n = length-slots_of f in
    let rest = length-drop (288 * k) f.bytes in
    let front = length-take 288 (drop (288 * k) f.bytes) in
    let size = ap length same in
    omega (arith, n, rest, front, size, l)

pub slot_got : (o : Option File) (k : ℕ) (b name : List ℕ) (inode : ℕ) → k < length (slots_at o) →
    slot_of k o ≡ Some b → slot_in b ≡ (name, inode) → slice_get (slots_at o) k ≡ Some (name, inode)
slot_got None k b name inode l e reads = absurd (omega (arith, l))
slot_got (Some f) k b name inode l e reads =
    let same : take 288 (drop (288 * k) f.bytes) ≡ b = some_same refl e in
    slots_of-get f k l ∙ ap (λ (x : List ℕ). Some (slot_in x)) same ∙ ap Some reads

-- THE SLOTS AFTER A CHANGE

-- a directory whose file is changed so
module _ (o o' : Option File) (dir : IsSomeAnd o IsDirectory) where
  -- a slot more
  pub slots_more : (name : List ℕ) (inode : ℕ) → length name ≤ 255 → inode < 2 ^ 32 →
      o' ≡ option_map (with_bytes (with_slot name inode)) o →
      (slots_at o' ≡ slots_at o ++ (name, inode) ∷ []) × IsSomeAnd o' IsDirectory
  slots_more name inode short word e = by o dir e
    where
      by : (o : Option File) → IsSomeAnd o IsDirectory → o' ≡ option_map (with_bytes (with_slot name inode)) o →
          (slots_at o' ≡ slots_at o ++ (name, inode) ∷ []) × IsSomeAnd o' IsDirectory
      by None d e = absurd d
      by (Some f) d e =
          let g : File = with_bytes (with_slot name inode) f in
          let fits = length-slot_bytes name inode (omega (arith, short)) in
          let is : o' ≡ Some g = e in (
            ap slots_at is ∙ slots_of-more f d g name inode fits word refl,
            subst (λ (x : Option File). IsSomeAnd x IsDirectory) (sym is)
                (directory-more f d g (slot_bytes name inode) fits refl refl),
          )

  -- where the slots end
  pub slots_end : (x : File) → o ≡ Some x → 288 * length (slots_at o) ≡ length x.bytes
  slots_end x is =
      let d : IsDirectory x = subst (λ (y : Option File). IsSomeAnd y IsDirectory) is dir in
      let n = ap (λ (y : Option File). length (slots_at y)) is ∙ length-slots_of x in
      let whole = d.whole in
      omega (arith, n, whole)

  -- the bytes of the last slot
  pub last_slot : (b : List ℕ) → 0 < length (slots_at o) → slot_of (length (slots_at o) - 1) o ≡ Some b →
      (x : File) → o ≡ Some x → drop (length x.bytes - 288) x.bytes ≡ b
  last_slot b some got x is =
      let all = slots_end x is in
      let at : 288 * (length (slots_at o) - 1) ≡ length x.bytes - 288 = omega (arith, all, some) in
      let size = length-drop (length x.bytes - 288) x.bytes in
      sym (take_all 288 (drop (length x.bytes - 288) x.bytes) (omega (arith, size, all)))
      ∙ ap (λ (n : ℕ). take 288 (drop n x.bytes)) (sym at)
      ∙ some_same refl (sym (ap (slot_of (length (slots_at o) - 1)) is) ∙ got)

  -- a slot less
  pub slots_less : (k : ℕ) (b name : List ℕ) (inode : ℕ) → k < length (slots_at o) →
      slot_of (length (slots_at o) - 1) o ≡ Some b → slot_in b ≡ (name, inode) →
      o' ≡ option_map (with_bytes (without_slot k)) o →
      IsDropped (slots_at o) k name inode (slots_at o') × IsSomeAnd o' IsDirectory
  slots_less k b name inode l got reads e = by o refl dir e
    where
      by : (p : Option File) → o ≡ p → IsSomeAnd p IsDirectory → o' ≡ option_map (with_bytes (without_slot k)) p →
          IsDropped (slots_at o) k name inode (slots_at o') × IsSomeAnd o' IsDirectory
      by None is d e = absurd d
      by (Some f) is d e =
          let g : File = with_bytes (without_slot k) f in
          let after : o' ≡ Some g = e in
          let n = length-slots_of f in
          let whole = d.whole in
          let last : List ℕ = drop (length f.bytes - 288) f.bytes in
          let there : k < length (slots_of f) =
          subst (λ (y : Option File). k < length (slots_at y)) is l in
          let long : length last ≡ 288 =
          (let r = length-drop (length f.bytes - 288) f.bytes in omega (arith, r, n, whole, there)) in
          let same : last ≡ b = last_slot b (omega (arith, l)) got f is in
          let put = overwritten-slot k last f.bytes long (omega (arith, n, there)) in
          let bytes : g.bytes ≡ take (length f.bytes - 288) (with_piece 288 slot_in k last f.bytes) =
          resized-cut (length f.bytes - 288) (overwritten (288 * k) last f.bytes)
          (let w = length-overwritten (288 * k) last f.bytes (omega (arith, n, there)) in omega (arith, w))
          ∙ ap (take (length f.bytes - 288)) put in
          let dropped = slots_of-less f d g k there last refl bytes name inode (ap slot_in same ∙ reads) in (
            subst (λ (x : Option File). IsDropped (slots_at o) k name inode (slots_at x)) (sym after)
                (subst (λ (x : Option File). IsDropped (slots_at x) k name inode (slots_of g)) (sym is) dropped),
            subst (λ (x : Option File). IsSomeAnd x IsDirectory) (sym after)
                (directory-less f d g k there last refl bytes refl),
          )

-- TWO CHANGES OF ONE INODE

-- a file whose bytes are changed twice
pub bytes_twice : (f g h : List ℕ → List ℕ) (o : Option File) → ((x : File) → o ≡ Some x → g (f x.bytes) ≡ h x.bytes) →
    option_map (with_bytes g) (option_map (with_bytes f) o) ≡ option_map (with_bytes h) o
bytes_twice f g h None e = refl
bytes_twice f g h (Some x) e = ap (λ (b : List ℕ). Some (let y : File = record x { bytes = b } in y)) (e x refl)

pub becomes_twice : (area area1 area2 : Area) (n1 n2 size1 size2 i : ℕ) (f g h : List ℕ → List ℕ)
    (c c1 c2 : Content) (m1 m2 : List Bool) →
    Becomes area1 n1 size1 i (option_map (with_bytes f) (file_at area c i)) c c1 m1 →
    Becomes area2 n2 size2 i (option_map (with_bytes g) (file_at area1 c1 i)) c1 c2 m2 →
    area2 ≡ area1 → n2 ≡ n1 →
    ((x : File) → file_at area c i ≡ Some x → g (f x.bytes) ≡ h x.bytes) →
    Becomes area2 n2 size2 i (option_map (with_bytes h) (file_at area c i)) c c2 m2
becomes_twice area area1 area2 n1 n2 size1 size2 i f g h c c1 c2 m1 m2 first second ea2 en2 e = record {
  kept = second.kept;
  changes = record {
    here = second.changes.here ∙ ap (option_map (with_bytes g)) first.changes.here
        ∙ bytes_twice f g h (file_at area c i) e;
    others = λ j l ne.
        second.changes.others j l ne
        ∙ ap (λ (a : Area). file_at a c1 j) ea2
        ∙ first.changes.others j (omega (arith, l, en2)) ne
        ∙ ap (λ (a : Area). file_at a c j) (sym ea2);
    first = second.changes.first ∙ first.changes.first;
  };
}

-- the same change in other words
pub becomes_same : (area : Area) (n size i : ℕ) (file file' : Option File) (c c' : Content) (m' : List Bool) →
    Becomes area n size i file c c' m' → file ≡ file' → Becomes area n size i file' c c' m'
becomes_same area n size i file file' c c' m' b e = subst (λ (f : Option File). Becomes area n size i f c c' m') e b

-- a part that was written lies within the bytes
pub long_enough : (o o' : Option File) (offset : ℕ) (p : List ℕ) →
    o' ≡ option_map (with_bytes (overwritten offset p)) o → ((f : File) → o ≡ Some f → offset ≤ length f.bytes) →
    (f : File) → o' ≡ Some f → offset + length p ≤ length f.bytes
long_enough None o' offset p e inside f is = absurd (let bad : None ≡ Some f = sym e ∙ is in cc)
long_enough (Some x) o' offset p e inside f is =
    let same : with_bytes (overwritten offset p) x ≡ f = some_same e is in
    let long : length (overwritten offset p x.bytes) ≡ length f.bytes = ap (λ (g : File). length g.bytes) same in
    let size = length-overwritten offset p x.bytes (inside x refl) in
    omega (arith, long, size)

pub bytes_by : (f h : List ℕ → List ℕ) (o : Option File) → ((x : File) → o ≡ Some x → f x.bytes ≡ h x.bytes) →
    option_map (with_bytes f) o ≡ option_map (with_bytes h) o
bytes_by f h None e = refl
bytes_by f h (Some x) e = ap (λ (b : List ℕ). Some (let y : File = record x { bytes = b } in y)) (e x refl)

-- the same change, after reads
pub becomes_from : (area a a' : Area) (n size i : ℕ) (f h : List ℕ → List ℕ) (c c' c2 : Content) (m2 : List Bool) →
    a' ≡ a → c' ≡ c → Becomes area n size i (option_map (with_bytes f) (file_at a' c' i)) c' c2 m2 →
    ((x : File) → file_at a c i ≡ Some x → f x.bytes ≡ h x.bytes) →
    Becomes area n size i (option_map (with_bytes h) (file_at a c i)) c c2 m2
becomes_from area a a' n size i f h c c' c2 m2 ea ec b e =
    let now : Becomes area n size i (option_map (with_bytes f) (file_at a c i)) c c2 m2 = rw (← ea, ← ec) b in
    becomes_same area n size i _ _ c c2 m2 now (bytes_by f h (file_at a c i) e)
