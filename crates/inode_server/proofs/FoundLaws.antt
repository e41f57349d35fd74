-- What the tables of a tree on a medium show of it.
use Rattle.std.proofs.Common.{◌≡◌, ◌≢◌, ℕ, ◌/◌, ◌^◌, ◌<◌, ◌≤◌, arith, true, false, List, length, Option, Some, None, IsSome, refl, sym, ap, ◌∙◌, subst, is_some}
use Rattle.std.specs.Option.{option_map}
use Rattle.nfs2_types.specs.declared.fattr.Kind.{Kind}
use Rattle.nfs2_types.specs.declared.fattr.Kind.TheVariants.{File as AFile, Dir, Link}
use Rattle.server_trait.specs.Tree.{Tree, Names, bytes_in, text_in, names_in, node_at, bytes_at, text_at, names_at, target}
use Rattle.server_trait.specs.Step.{IsStale, IsNo, HasName, LacksName}
use Rattle.server_trait.specs.Calls.{IsDir}
use Rattle.inode_dirs.specs.Files.{File, entry_of}
use Rattle.inode_dirs.specs.Slots.{names_of}
use Rattle.inode_dirs.specs.SlotBytes.{slots_in}
use Rattle.inode_dirs.specs.Table.{node_of}
use Rattle.inode_dirs.specs.declared.index.Place.{Place}
use Rattle.inode_store.specs.Held.{files_of}
use Rattle.inode_store.specs.Store.{file_in}
use Rattle.inode_store.proofs.HeldLaws.{files_of-within}
use Rattle.inode_tree.specs.Kept.{tables_of}
use Rattle.inode_tree.specs.Tables.{Tables}
use Rattle.inode_tree.specs.Whole.{tree_in, IsWhole}
use Rattle.inode_tree.specs.declared.tree.InodeTree.{InodeTree}
use Rattle.inode_tree.proofs.BoundLaws.{file-used}
use Rattle.inode_tree.proofs.LookLaws as look
use Rattle.inode_tree.proofs.TiedLaws.{some_is, file-kind, led-place, linked-place}

-- an option that is nothing
pub none_is : {X : Type 0} (o : Option X) → is_some o ≡ false → o ≡ None
none_is None e = refl
none_is (Some x) e = absurd (let bad : true ≡ false = e in cc)

module _ {M : Type 0} (content : M → ℕ → List ℕ) (size : M → ℕ) (s : InodeTree M) (whole : IsWhole content size s) where
  abbrev pub n : ℕ
  n = s.store.inodes

  abbrev pub files : ℕ → Option File
  files = files_of s.store.area s.store.inodes (content s.store.medium)

  abbrev pub t : Tables
  t = tables_of s.tables

  abbrev pub tree : Tree
  tree = tree_in content s

  pub stale : (h : List ℕ) → ((i : ℕ) → IsSome (t.kind i) → t.handle i ≢ h) → IsStale tree h
  stale h none = look.stale n files t whole.tied h none

  abbrev pub file_at-kind : (i : ℕ) (k : Kind) → t.kind i ≡ Some k → (f : File) × (files i ≡ Some f) × (f.kind ≡ k)
  file_at-kind i k is = file-kind n files t whole.tied i k is

  pub within : (i : ℕ) (k : Kind) → t.kind i ≡ Some k → i < n
  within i k is = let f = file_at-kind i k is in whole.tied.few i (some_is f.1)

  -- A NODE OF A KIND

  module _ (h : List ℕ) (i : ℕ) (k : Kind) (handle : t.handle i ≡ h) (is : t.kind i ≡ Some k) where
    abbrev pub f : (f : File) × (files i ≡ Some f) × (f.kind ≡ k)
    f = file_at-kind i k is

    pub node_is : node_at tree h ≡ Some (node_of t.handle i (entry_of f.0))
    node_is = subst (λ h. node_at tree h ≡ Some (node_of t.handle i (entry_of f.0))) handle
        (look.node-there n files t whole.tied i f.0 f.1)

    pub not_dir : k ≢ Dir → IsNo names_in tree h
    not_dir ne = subst (λ h. IsNo names_in tree h) handle
        (look.no-names n files t whole.tied i f.0 f.1 (λ e. ne (sym f.2 ∙ e)))

    pub not_file : k ≢ AFile → IsNo bytes_in tree h
    not_file ne = subst (λ h. IsNo bytes_in tree h) handle
        (look.no-bytes n files t whole.tied i f.0 f.1 (λ e. ne (sym f.2 ∙ e)))

    pub not_link : k ≢ Link → IsNo text_in tree h
    not_link ne = subst (λ h. IsNo text_in tree h) handle
        (look.no-text n files t whole.tied i f.0 f.1 (λ e. ne (sym f.2 ∙ e)))

  pub bytes_are : (h : List ℕ) (i : ℕ) (handle : t.handle i ≡ h) (is : t.kind i ≡ Some AFile) →
      bytes_at tree h ≡ Some (file_at-kind i AFile is).0.bytes
  bytes_are h i handle is = let f = file_at-kind i AFile is in
      subst (λ h. bytes_at tree h ≡ Some f.0.bytes) handle (look.file-bytes n files t whole.tied i f.0 f.1 f.2)

  pub text_is : (h : List ℕ) (i : ℕ) (handle : t.handle i ≡ h) (is : t.kind i ≡ Some Link) →
      text_at tree h ≡ Some (file_at-kind i Link is).0.bytes
  text_is h i handle is = let f = file_at-kind i Link is in
      subst (λ h. text_at tree h ≡ Some f.0.bytes) handle (look.link-text n files t whole.tied i f.0 f.1 f.2)

  -- A DIRECTORY

  module _ (h : List ℕ) (i : ℕ) (handle : t.handle i ≡ h) (is : t.kind i ≡ Some Dir) where
    abbrev pub d : (f : File) × (files i ≡ Some f) × (f.kind ≡ Dir)
    d = file_at-kind i Dir is

    abbrev pub names : Names
    names = names_of t.handle (slots_in (length d.0.bytes / 288) d.0.bytes)

    pub names_are : names_at tree h ≡ Some names
    names_are = subst (λ h. names_at tree h ≡ Some names) handle (look.dir-names n files t whole.tied i d.0 d.1 d.2)

    pub is_dir : IsDir tree h
    is_dir = some_is names_are

    pub leads : (q : List ℕ) (p : Place) → t.place i q ≡ Some p → target tree h q ≡ Some (t.handle p.inode)
    leads q p at = subst (λ h. target tree h q ≡ Some (t.handle p.inode)) handle
        (look.has-name n files t whole.tied i d.0 d.1 d.2 q p at)

    pub has : (q : List ℕ) (p : Place) → t.place i q ≡ Some p → HasName tree h q
    has q p at = some_is (leads q p at)

    pub lacks : (q : List ℕ) → t.place i q ≡ None → LacksName tree h q
    lacks q none = subst (λ h. LacksName tree h q) handle
        (look.lacks-name n files t whole.tied i d.0 d.1 d.2 q none)

    pub no_target : (q : List ℕ) → t.place i q ≡ None → target tree h q ≡ None
    no_target q none = subst (λ h. target tree h q ≡ None) handle
        (look.no-name n files t whole.tied i d.0 d.1 d.2 q none)

  -- WHERE A PLACE LEADS

  module _ (i : ℕ) (is : t.kind i ≡ Some Dir) (q : List ℕ) (p : Place) (at : t.place i q ≡ Some p) where
    pub led : IsSome (files p.inode)
    led = led-place n files t whole.tied i q p is at

    pub led_within : p.inode < n
    led_within = whole.tied.few p.inode led

    pub led_counted : p.inode < t.counts.inodes
    led_counted = let l = led_within in let same = whole.tied.inodes in omega (arith, l, same)

    -- it is not the root
    pub led_other : p.inode ≢ 0
    led_other is_root =
        let some = linked-place n files t whole.tied i q p is at in
        let none : t.counts.links p.inode ≡ 0 = ap t.counts.links is_root ∙ whole.tied.top in
        omega (arith, some, none)

    pub led_kind : IsSome (t.kind p.inode)
    led_kind = subst (λ o. IsSome o) (sym (whole.tied.kinds p.inode)) (by (files p.inode) led)
      where
        by : (o : Option File) → IsSome o → IsSome (option_map (λ (f : File). f.kind) o)
        by (Some f) some = refl
        by None some = some

  -- A FILE OF THE STORE

  pub in_store : (i : ℕ) (f : File) → files i ≡ Some f → file_in content s.store i ≡ Some f
  in_store i f is = sym (files_of-within s.store.area n i (content s.store.medium) (whole.tied.few i (some_is is))) ∙ is

  pub from_store : (i : ℕ) → i < n → (f : File) → file_in content s.store i ≡ Some f → files i ≡ Some f
  from_store i l f is = files_of-within s.store.area n i (content s.store.medium) l ∙ is

  -- the bytes of a node are fewer than a word can count
  pub few_bytes : (i : ℕ) (f : File) → files i ≡ Some f → length f.bytes < 2 ^ 31
  few_bytes i f is =
      let most = file-used n files t whole.tied i f is in
      let a = whole.within in
      let b = whole.limited in
      let goal : length f.bytes < 2147483648 = omega (arith, most, a, b) in
      goal

  -- a file whose size is known
  module _ (i : ℕ) (is : t.kind i ≡ Some AFile) (bytes : ℕ)
      (told : (f : File) → file_in content s.store i ≡ Some f → length f.bytes ≡ bytes) where
    pub its_size : length (file_at-kind i AFile is).0.bytes ≡ bytes
    its_size = let f = file_at-kind i AFile is in told f.0 (in_store i f.0 f.1)

    pub size_within : bytes ≤ t.counts.used
    size_within =
        let f = file_at-kind i AFile is in
        let most = file-used n files t whole.tied i f.0 f.1 in
        let all = its_size in
        omega (arith, most, all)
