-- A medium whose inodes a server keeps tables of holds a tree.
use Rattle.std.proofs.Common.{◌≡◌, ◌≢◌, ℕ, zero, suc, ◌<◌, ◌≤◌, List, [], ◌∷◌, Bool, slice_get, Option, None, Some, refl, sym, ap, subst, ◌∙◌, inl, inr, arith}
use Rattle.std.specs.Prelude.{bytes_eq, sum_by}
use Rattle.std.specs.Option.{option_map}
use Rattle.std.specs.FinMap.{get, remove}
use Rattle.std.proofs.lemmas.List.Sums.{sum_by-cons}
use Rattle.std.proofs.lemmas.Slice.Eq.{bytes_eq-Decides}
use Rattle.nfs2_types.specs.declared.fattr.Kind.{Kind}
use Rattle.nfs2_types.specs.declared.fattr.Kind.TheVariants.{File as AFile, Dir, Link}
use Rattle.pointer_tree.specs.Tree.{Content, sum_to}
use Rattle.pointer_tree.specs.declared.node.Area.{Area}
use Rattle.server_trait.specs.Sums.{total}
use Rattle.server_trait.specs.Tree.{Tree, Node, Names, used, NamesOf, node_at, names_in, links, one_if, unnamed, with_names, used_by}
use Rattle.server_trait.specs.declared.server.ServerLimits.{ServerLimits}
use Rattle.server_trait.proofs.TreeLaws.{bytes_or_not, some_none, some_same, target-node, links-some, get-remove_other, node_at-edited_same}
use Rattle.tree_laws.proofs.CountChanges.{links-unnamed}
use Rattle.inode_dirs.specs.Files.{File, body_of, entry_of, slots_of}
use Rattle.inode_dirs.specs.Slots.{Slots, names_of}
use Rattle.inode_dirs.specs.Table.{content_of, node_of}
use Rattle.inode_dirs.specs.declared.index.Place.{Place}
use Rattle.inode_dirs.proofs.DirectoryLaws.{length-slots_of}
use Rattle.inode_dirs.proofs.SlotLaws.{names-indexed}
use Rattle.inode_store.specs.Held.{files_of}
use Rattle.inode_store.specs.Layout.{superblock, IsDir, names_at, used_at, AreSound, HoldsTree}
use Rattle.inode_store.proofs.ChangeLaws.{once}
use Rattle.inode_tree.specs.Tables.{Tables}
use Rattle.inode_tree.specs.Sound.{IsTied, IsSound, the_tree}
use Rattle.inode_tree.proofs.TiedLaws.{node-file, index-dir, kind-file, led-place, linked-place, some_entry}
use Rattle.inode_tree.proofs.SizeLaws.{names-dir, total-nodes}
use Rattle.inode_mount.proofs.UsedLaws.{uses_as, used-as}

bytes_same : (a : List ℕ) → one_if (bytes_eq a a) ≡ 1
bytes_same a = ap one_if ((bytes_eq-Decides a a).1 refl)

-- the numbers below n, the greatest first
abbrev numbers : ℕ → List ℕ
numbers zero = []
numbers (suc n) = n ∷ numbers n

sums_same : (n : ℕ) (f g : ℕ → ℕ) → ((i : ℕ) → i < n → f i ≡ g i) → sum_to n f ≡ sum_by g (numbers n)
unfolding sum_to
sums_same zero f g same = refl
sums_same (suc n) f g same =
    let rest = sums_same n f g (λ i l. same i (omega (arith, l))) in
    let here = same n (omega arith) in
    let sum = sum_by-cons g n (numbers n) in
    omega (arith, rest, here, sum)

module _ (n : ℕ) (files : ℕ → Option File) (t : Tables) (tied : IsTied n files t) where
  abbrev tree : Tree
  tree = the_tree n files t

  -- a slot of a directory
  record AtSlot (i k : ℕ) (name : List ℕ) (j : ℕ) : Type 0 where
    file : File
    is : files i ≡ Some file
    kind : file.kind ≡ Dir
    slot : slice_get (slots_of file) k ≡ Some (name, j)

  at_slot : (i k : ℕ) (name : List ℕ) (j : ℕ) → slice_get (names_at (files i)) k ≡ Some (name, j) → AtSlot i k name j
  at_slot i k name j at = by (files i) refl at
    where
      in_kind : (f : File) (kind : Kind) → f.kind ≡ kind →
          slice_get (elim kind as (λ _. Slots) [ AFile ↦ [] | Dir ↦ slots_of f | Link ↦ [] ]) k ≡ Some (name, j) →
          (f.kind ≡ Dir) × (slice_get (slots_of f) k ≡ Some (name, j))
      in_kind f AFile e at = absurd (some_none at refl)
      in_kind f Dir e at = (e, at)
      in_kind f Link e at = absurd (some_none at refl)

      by : (o : Option File) → files i ≡ o → slice_get (names_at o) k ≡ Some (name, j) → AtSlot i k name j
      by None is at = absurd (some_none at refl)
      by (Some f) is at =
          let d = in_kind f f.kind refl at in
          record { file = f; is = is; kind = d.0; slot = d.1 }

  -- the index has it
  placed : (i k : ℕ) (name : List ℕ) (j : ℕ) → AtSlot i k name j →
      t.place i name ≡ Some (record { slot = k; inode = j })
  placed i k name j s =
      let p : Place = record { slot = k; inode = j } in
      (index-dir n files t tied i s.file s.is s.kind name p).1 s.slot

  dir_kind : (i : ℕ) → IsDir (files i) → t.kind i ≡ Some Dir
  dir_kind i dir = by (files i) refl dir
    where
      by : (o : Option File) → files i ≡ o → IsDir o → t.kind i ≡ Some Dir
      by None is d = absurd d
      by (Some f) is d = kind-file n files t tied i f is ∙ ap Some d

  slot_kind : (i k : ℕ) (name : List ℕ) (j : ℕ) → AtSlot i k name j → t.kind i ≡ Some Dir
  slot_kind i k name j s = kind-file n files t tied i s.file s.is ∙ ap Some s.kind

  -- a name of a directory leads
  leads : (i k : ℕ) (name : List ℕ) (j : ℕ) (s : AtSlot i k name j) →
      get (names_of t.handle (slots_of s.file)) name ≡ Some (t.handle j)
  leads i k name j s =
      names-indexed t.handle (t.place i) (slots_of s.file) (index-dir n files t tied i s.file s.is s.kind) name
      ∙ ap (option_map (λ (p : Place). t.handle p.inode)) (placed i k name j s)

  -- two names of one directory that lead to one inode are two of its links
  two_names : (i : ℕ) (f : File) → files i ≡ Some f → f.kind ≡ Dir → (a b x : List ℕ) → a ≢ b →
      get (names_of t.handle (slots_of f)) a ≡ Some x → get (names_of t.handle (slots_of f)) b ≡ Some x →
      2 ≤ links tree x
  two_names i f is is_dir a b x ne leads_a leads_b =
      let m : Names = names_of t.handle (slots_of f) in
      let node : Node = node_of t.handle i (entry_of f) in
      let at : node_at tree (t.handle i) ≡ Some node = node-file n files t tied i f is in
      let has : node.content ≡ NamesOf m = ap (λ (k : Kind). content_of t.handle (body_of k f.bytes)) is_dir in
      let less = links-unnamed tree (t.handle i) a x node m x at has leads_a in
      let after = node_at-edited_same tree (t.handle i) (with_names (λ m. remove m a)) node at in
      let has' : names_in (with_names (λ m. remove m a) node).content ≡ Some (remove m a) =
      ap (λ c. names_in (with_names (λ m. remove m a) (let y : Node = record node { content = c } in y)).content) has in
      let other : b ≢ a = λ e. ne (sym e) in
      let some = links-some (unnamed tree (t.handle i) a) x (t.handle i) b
      (target-node (unnamed tree (t.handle i) a) (t.handle i) (with_names (λ m. remove m a) node) (remove m a) b after
      has' ∙ get-remove_other m a b other ∙ leads_b) in
      omega (arith, less, some, bytes_same x)

  one_slot : (i k l : ℕ) (a b : List ℕ) (j : ℕ) → AtSlot i k a j → AtSlot i l b j → t.kind j ≡ Some Dir → k ≡ l
  one_slot i k l a b j s r dir = elim (bytes_or_not a b) as (λ _. k ≡ l) [
    | inl same ↦ ap (λ (p : Place). p.slot)
        (some_same (placed i k a j s) (ap (t.place i) same ∙ placed i l b j r))
    | inr ne ↦
        let file : r.file ≡ s.file = some_same r.is s.is in
        let leads_b = subst (λ (f : File). get (names_of t.handle (slots_of f)) b ≡ Some (t.handle j)) file
        (leads i l b j r) in
        let two = two_names i s.file s.is s.kind a b (t.handle j) ne (leads i k a j s) leads_b in
        let used = led-place n files t tied i a (record { slot = k; inode = j }) (slot_kind i k a j s)
        (placed i k a j s) in
        let counts = tied.counted.links_are j (some_entry files j used) in
        let one = tied.parents.once j dir in
        absurd (omega (arith, two, counts, one))
  ]

  -- what an inode uses is what its node does
  used_by_file : (i : ℕ) (x : File) → files i ≡ Some x →
      used_at (Some x) ≡ used_by (content_of t.handle (body_of x.kind x.bytes))
  used_by_file i x is = used-as x ∙ by x.kind refl
    where
      by : (k : Kind) → x.kind ≡ k →
          uses_as x.kind x.bytes ≡ used_by (content_of t.handle (body_of x.kind x.bytes))
      by AFile e = subst (λ (k : Kind). uses_as k x.bytes ≡ used_by (content_of t.handle (body_of k x.bytes))) (sym e) refl
      by Link e = subst (λ (k : Kind). uses_as k x.bytes ≡ used_by (content_of t.handle (body_of k x.bytes))) (sym e) refl
      by Dir e = subst (λ (k : Kind). uses_as k x.bytes ≡ used_by (content_of t.handle (body_of k x.bytes))) (sym e)
          (let names = names-dir n files t tied i x is e in let slots = length-slots_of x in omega (arith, names, slots))

  -- what the node of an inode uses, if it is used
  abbrev node_uses : ℕ → ℕ
  node_uses i = elim (files i) as (λ _. ℕ) [
    | None ↦ 0
    | Some x ↦ used_by (node_of t.handle i (entry_of x)).content
  ]

  used_is : used tree ≡ total (λ (x : Node). used_by x.content) tree.nodes
  unfolding used
  used_is = refl

  pub all_used : sum_to n (λ i. used_at (files i)) ≡ t.counts.used
  all_used =
      let sum : total (λ (x : Node). used_by x.content) tree.nodes ≡ sum_by node_uses (numbers n) =
      total-nodes n files t tied (λ (x : Node). used_by x.content) in
      sums_same n (λ i. used_at (files i)) node_uses (λ i l. by i (files i) refl) ∙ sym sum ∙ sym used_is
      ∙ sym tied.counted.used_is
    where
      by : (i : ℕ) (o : Option File) → files i ≡ o → used_at (files i) ≡ node_uses i
      by i None is =
          ap used_at is ∙ sym (ap (λ (o : Option File). elim o as (λ _. ℕ) [
            | None ↦ 0
            | Some x ↦ used_by (node_of t.handle i (entry_of x)).content
          ]) is)
      by i (Some x) is =
          ap used_at is ∙ used_by_file i x is
          ∙ sym (ap (λ (o : Option File). elim o as (λ _. ℕ) [
            | None ↦ 0
            | Some x ↦ used_by (node_of t.handle i (entry_of x)).content
          ]) is)

  pub are_sound : (limits : ServerLimits) → t.counts.used ≤ limits.bytes → AreSound limits n files
  are_sound limits within = record {
    root = by (files 0) tied.root;
    filled = tied.filled;
    apart = λ i k l name a b at_k at_l. ap (λ (p : Place). p.slot)
        (some_same (placed i k name a (at_slot i k name a at_k)) (placed i l name b (at_slot i l name b at_l)));
    led = λ i k name j at.
        let s = at_slot i k name j at in
        led-place n files t tied i name (record { slot = k; inode = j }) (slot_kind i k name j s) (placed i k name j s);
    not_root = λ i k name j at is_root.
        let s = at_slot i k name j at in
        let some = linked-place n files t tied i name (record { slot = k; inode = j }) (slot_kind i k name j s)
        (placed i k name j s) in
        let none : t.counts.links j ≡ 0 = ap t.counts.links is_root ∙ tied.top in
        omega (arith, some, none);
    one_name = λ h i k l a b j at_k at_l dir.
        let s = at_slot h k a j at_k in
        let r = at_slot i l b j at_l in
        let kind = dir_kind j dir in
        let up_h = tied.parents.only h a (record { slot = k; inode = j }) (slot_kind h k a j s) (placed h k a j s) kind in
        let up_i = tied.parents.only i b (record { slot = l; inode = j }) (slot_kind i l b j r) (placed i l b j r) kind in
        let same : h ≡ i = sym up_h ∙ up_i in
        (same, one_slot i k l a b j (subst (λ (h : ℕ). AtSlot h k a j) same s) r kind);
    within = let all = all_used in omega (arith, all, within);
  }
    where
      by : (o : Option File) → option_map (λ (f : File). f.kind) o ≡ Some Dir → IsDir o
      by None e = absurd (some_none e refl)
      by (Some f) e = some_same refl e

-- what a server's medium holds
pub holds-tree : (limits : ServerLimits) (area : Area) (n size : ℕ) (c : Content) (m : List Bool) (t : Tables) →
    IsSound limits area n c size m t → c 0 ≡ superblock limits → HoldsTree limits area n c
holds-tree limits area n size c m t sound name = record {
  name = name;
  whole = sound.keeps.whole;
  once = λ b. let o = once area n size c m sound.keeps b in omega (arith, o);
  files = are_sound n (files_of area n c) t sound.tied limits sound.within;
}
