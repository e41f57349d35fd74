-- The tree of a medium, after each change of one inode and of the tables.
use Rattle.std.proofs.Common.{inl, inr, ◌≡◌, ◌≢◌, ℕ, ◌+◌, ◌-◌, ◌/◌, ◌%◌, ◌^◌, ◌<◌, ◌≤◌, arith, Bool, true, false, List, [], length, Option, Some, None, IsSome, refl, sym, ap, ◌∙◌, subst}
use Rattle.std.specs.Prelude.{slice_index}
use Rattle.std.specs.Option.{option_map}
use Rattle.std.specs.FinMap.{empty, get-empty, len}
use Rattle.std.specs.Ordering.{nat_cmp}
use Rattle.std.specs.Cmp.Lexicographic.{slice_cmp}
use Rattle.nfs2_types.specs.declared.fattr.Kind.{Kind}
use Rattle.nfs2_types.specs.declared.fattr.Kind.TheVariants.{File as AFile, Dir, Link}
use Rattle.pointer_tree.specs.Tree.{Content as Blocks}
use Rattle.pointer_tree.specs.declared.node.Area.{Area}
use Rattle.server_trait.specs.Tree.{Node, NamesOf, node_at, with_node, without_node, new_node, edited, named, unnamed, with_bytes as node_bytes}
use Rattle.server_trait.specs.declared.server.ServerLimits.{ServerLimits}
use Rattle.server_trait.proofs.TreeLaws.{same_answers}
use Rattle.inode_dirs.specs.Slots.{IsIndexOf, names_of}
use Rattle.inode_dirs.specs.SlotBytes.{slots_in, pieces}
use Rattle.inode_dirs.specs.Table.{content_of, node_of}
use Rattle.inode_dirs.specs.Files.{File, body_of, entry_of}
use Rattle.inode_dirs.proofs.SlotLaws.{names-indexed, index-none}
use Rattle.inode_store.specs.Files.{new_file}
use Rattle.inode_store.specs.Inodes.{file_at}
use Rattle.inode_store.specs.Held.{files_of}
use Rattle.inode_store.specs.Keeps.{Changes, Becomes}
use Rattle.inode_store.proofs.HeldLaws.{files_of-within, files_of-past}
use Rattle.std.proofs.lemmas.Bool.{cases_lt}
use Rattle.inode_tree.specs.Tables.{Tables, is_dir_kind}
use Rattle.inode_tree.specs.Changes.{Takes, Gives, Names, Unnames, Resizes, inode_of}
use Rattle.inode_tree.specs.Sound.{IsTied, IsSound, the_tree, empty_of}
use Rattle.inode_tree.specs.Kept.{tables_of}
use Rattle.inode_tree.specs.declared.tables.InodeTables.{InodeTables}
use Rattle.inode_tree.proofs.TiedLaws.{handles-apart, file-kind, file-none, some_is}
use Rattle.inode_tree.proofs.TakeLaws.{tied-taken, tree-taken, new-taken}
use Rattle.inode_tree.proofs.GiveLaws.{tied-given, tree-given}
use Rattle.inode_tree.proofs.MoreLaws.{tied-more, tree-more}
use Rattle.inode_tree.proofs.LessLaws.{tied-less, tree-less}
use Rattle.inode_tree.proofs.EditLaws.{tied-changed, tree-changed}
use Rattle.inode_tree.proofs.SizeLaws.{all-used}

-- FILES

pub files-others : (area : Area) (n i : ℕ) (file : Option File) (c c' : Blocks) → Changes area n i file c c' →
    (j : ℕ) → j ≢ i → files_of area n c' j ≡ files_of area n c j
files-others area n i file c c' changes j ne = elim (cases_lt j n) [
  | inl l ↦ files_of-within area n j c' l ∙ changes.others j l ne ∙ sym (files_of-within area n j c l)
  | inr l ↦ files_of-past area n j c' l ∙ sym (files_of-past area n j c l)
]

pub files-here : (area : Area) (n i : ℕ) (file : Option File) (c c' : Blocks) → i < n → Changes area n i file c c' →
    files_of area n c' i ≡ file
files-here area n i file c c' l changes = files_of-within area n i c' l ∙ changes.here

-- NEW NODES

no_names : (handle : ℕ → List ℕ) → names_of handle [] ≡ empty
no_names handle = same_answers (names_of handle []) empty (λ q. names-indexed handle (λ _. None) [] index-none q
    ∙ sym (get-empty (slice_cmp nat_cmp) q))

empty_content : (handle : ℕ → List ℕ) (kind : Kind) → content_of handle (body_of kind []) ≡ empty_of kind
unfolding pieces
empty_content handle AFile = refl
empty_content handle Link = refl
empty_content handle Dir = ap NamesOf (no_names handle)

pub new_is : (handle : ℕ → List ℕ) (i : ℕ) (kind : Kind) →
    node_of handle i (entry_of (new_file kind)) ≡ new_node i (empty_of kind)
new_is handle i kind = ap (new_node i) (empty_content handle kind)

-- inodes have handles of their own
pub tables-apart : (s : InodeTables) (n : ℕ) → n < 2 ^ 32 → (i j : ℕ) → i < n → j < n →
    (tables_of s).handle i ≡ (tables_of s).handle j → i ≡ j
tables-apart s n few i j a b same = handles-apart s.epoch (λ i. slice_index s.salts.items i) i j (omega (arith, a, few)) (omega (arith, b, few)) same

-- A CHANGE OF ONE INODE

module _ (limits : ServerLimits) (area : Area) (n : ℕ) (c : Blocks) (size : ℕ) (m : List Bool) (t : Tables)
    (sound : IsSound limits area n c size m t) (area' : Area) (n' size' : ℕ) (ea : area' ≡ area) (en : n' ≡ n)
    (es : size' ≡ size) (c' : Blocks) (m' : List Bool) (t' : Tables) where
  -- the same, where area, number and size go by other names
  pub again : IsSound limits area' n' c size' m t
  again = subst (λ a. IsSound limits a n' c size' m t) (sym ea) (subst (λ n. IsSound limits area n c size' m t) (sym en)
      (subst (λ s. IsSound limits area n c s m t) (sym es) sound))

  pub tree-again : the_tree n' (files_of area' n' c) t ≡ the_tree n (files_of area n c) t
  tree-again = ap (λ a. the_tree n' (files_of a n' c) t) ea ∙ ap (λ n. the_tree n (files_of area n c) t) en

  pub few : n < 2 ^ 32
  few =
      let k = sound.keeps in
      let first = k.first in
      let ordered = k.ordered in
      let on_medium = k.on_medium in
      let small = k.small in
      omega (arith, first, ordered, on_medium, small)

  module _ (i : ℕ) (within : i < n) where
    in_range : i < n'
    in_range = omega (arith, within, en)

    module _ (file : Option File) (becomes : Becomes area' n' size' i file c c' m') where
      pub others : (j : ℕ) → j ≢ i → files_of area' n' c' j ≡ files_of area' n' c j
      others = files-others area' n' i file c c' becomes.changes

      pub here : files_of area' n' c' i ≡ file
      here = files-here area' n' i file c c' in_range becomes.changes

      -- the tables are tied again
      pub whole : IsTied n' (files_of area' n' c') t' → t'.counts.used ≤ limits.bytes →
          IsSound limits area' n' c' size' m' t'
      whole tied used = record {
        keeps = becomes.kept;
        inodes = again.inodes;
        blocks = again.blocks;
        limited = again.limited;
        tied = tied;
        within = used;
      }

    -- A FREE INODE IS TAKEN

    module _ (kind : Kind) (free : t.is_free i ≡ true) (takes : Takes t t' i kind 0)
        (apart' : (i j : ℕ) → i < n' → j < n' → t'.handle i ≡ t'.handle j → i ≡ j)
        (becomes : Becomes area' n' size' i (Some (new_file kind)) c c' m') where
      pub none-before : files_of area' n' c i ≡ None
      none-before = file-none n' (files_of area' n' c) t again.tied i ((again.tied.free i in_range).0 free)

      pub whole-taken : IsSound limits area' n' c' size' m' t'
      whole-taken = whole (Some (new_file kind)) becomes
          (tied-taken n' (files_of area' n' c) (files_of area' n' c') t t' again.tied i in_range none-before
          (others (Some (new_file kind)) becomes) (new_file kind) (here (Some (new_file kind)) becomes) (λ _. refl) takes
          apart')
          (let more = takes.counts.used in let old = sound.within in omega (arith, more, old))

      pub held-taken : the_tree n' (files_of area' n' c') t' ≡
          with_node (the_tree n (files_of area n c) t) (t'.handle i) (new_node i (empty_of kind))
      held-taken = tree-taken n' (files_of area' n' c) (files_of area' n' c') t t' again.tied i in_range none-before
          (others (Some (new_file kind)) becomes) (new_file kind) (here (Some (new_file kind)) becomes) (λ _. refl) takes
          apart'
          ∙ ap (λ x. with_node (the_tree n' (files_of area' n' c) t) (t'.handle i) x) (new_is t'.handle i kind)
          ∙ ap (λ x. with_node x (t'.handle i) (new_node i (empty_of kind))) tree-again

      pub new-before : node_at (the_tree n (files_of area n c) t) (t'.handle i) ≡ None
      new-before = ap (λ x. node_at x (t'.handle i)) (sym tree-again)
          ∙ new-taken n' (files_of area' n' c) (files_of area' n' c') t t' again.tied i in_range none-before
          (others (Some (new_file kind)) becomes) (new_file kind) (here (Some (new_file kind)) becomes) (λ _. refl) takes
          apart'

    -- AN INODE IS GIVEN BACK

    module _ (f : File) (was : file_at area c i ≡ Some f) (bare : f.kind ≡ Dir → f.bytes ≡ [])
        (no_links : t.counts.links i ≡ 0) (not_root : i ≢ 0) (gives : Gives t t' i (length f.bytes))
        (becomes : Becomes area' n' size' i None c c' m') where
      pub file-before : files_of area' n' c i ≡ Some f
      file-before = files_of-within area' n' i c in_range ∙ ap (λ a. file_at a c i) ea ∙ was

      pub whole-given : IsSound limits area' n' c' size' m' t'
      whole-given = whole None becomes
          (tied-given n' (files_of area' n' c) (files_of area' n' c') t t' again.tied i in_range f file-before
          (others None becomes) (here None becomes) bare no_links not_root gives)
          (let less = gives.counts.used in let old = sound.within in omega (arith, less, old))

      pub held-given : the_tree n' (files_of area' n' c') t' ≡
          without_node (the_tree n (files_of area n c) t) (t.handle i)
      held-given = tree-given n' (files_of area' n' c) (files_of area' n' c') t t' again.tied i in_range f file-before
          (others None becomes) (here None becomes) bare no_links not_root gives
          ∙ ap (λ x. without_node x (t.handle i)) tree-again

    -- A DIRECTORY GETS A NAME, OR LOSES ONE

    module _ (f : File) (was : file_at area c i ≡ Some f) (is_dir : f.kind ≡ Dir) (bytes : List ℕ)
        (filled : length bytes % 288 ≡ 0) (index' : IsIndexOf (t'.place i) (slots_in (length bytes / 288) bytes))
        (becomes : Becomes area' n' size' i (Some (record f { bytes = bytes })) c c' m') (name : List ℕ) (j : ℕ)
        (k : Kind) (kind_j : t.kind j ≡ Some k) where
      pub dir-before : files_of area' n' c i ≡ Some f
      dir-before = files_of-within area' n' i c in_range ∙ ap (λ a. file_at a c i) ea ∙ was

      module _ (new : inode_of (t.place i name) ≡ None) (names : Names t t' i name j (is_dir_kind k))
          (unlinked : k ≡ Dir → t.counts.links j ≡ 0) (other : j ≢ 0) (room : t.counts.used + 512 ≤ limits.bytes) where
        pub whole-named : IsSound limits area' n' c' size' m' t'
        whole-named = whole (Some (record f { bytes = bytes })) becomes
            (tied-more n' (files_of area' n' c) (files_of area' n' c') t t' again.tied i f dir-before is_dir
            (others (Some (record f { bytes = bytes })) becomes) bytes (here (Some (record f { bytes = bytes })) becomes)
            filled index' name j k kind_j new names unlinked other)
            (let more = names.counts.used in omega (arith, more, room))

        pub held-named : the_tree n' (files_of area' n' c') t' ≡
            named (the_tree n (files_of area n c) t) (t.handle i) name (t.handle j)
        held-named = tree-more n' (files_of area' n' c) (files_of area' n' c') t t' again.tied i f dir-before is_dir
            (others (Some (record f { bytes = bytes })) becomes) bytes (here (Some (record f { bytes = bytes })) becomes)
            filled index' name j k kind_j new names unlinked other
            ∙ ap (λ x. named x (t.handle i) name (t.handle j)) tree-again

      module _ (leads : inode_of (t.place i name) ≡ Some j) (names : Unnames t t' i name j (is_dir_kind k)) where
        pub whole-unnamed : IsSound limits area' n' c' size' m' t'
        whole-unnamed = whole (Some (record f { bytes = bytes })) becomes
            (tied-less n' (files_of area' n' c) (files_of area' n' c') t t' again.tied i f dir-before is_dir
            (others (Some (record f { bytes = bytes })) becomes) bytes (here (Some (record f { bytes = bytes })) becomes)
            filled index' name j k kind_j leads names)
            (let less = names.counts.used in let old = sound.within in omega (arith, less, old))

        pub held-unnamed : the_tree n' (files_of area' n' c') t' ≡
            unnamed (the_tree n (files_of area n c) t) (t.handle i) name
        held-unnamed = tree-less n' (files_of area' n' c) (files_of area' n' c') t t' again.tied i f dir-before is_dir
            (others (Some (record f { bytes = bytes })) becomes) bytes (here (Some (record f { bytes = bytes })) becomes)
            filled index' name j k kind_j leads names
            ∙ ap (λ x. unnamed x (t.handle i) name) tree-again

    -- AN INODE CHANGES

    module _ (f f' : File) (was : file_at area c i ≡ Some f) (kind : f'.kind ≡ f.kind)
        (dir_bytes : f.kind ≡ Dir → f'.bytes ≡ f.bytes) (resizes : Resizes t t' (length f.bytes) (length f'.bytes))
        (becomes : Becomes area' n' size' i (Some f') c c' m')
        (room : (t.counts.used - length f.bytes) + length f'.bytes ≤ limits.bytes) where
      changed-before : files_of area' n' c i ≡ Some f
      changed-before = files_of-within area' n' i c in_range ∙ ap (λ a. file_at a c i) ea ∙ was

      pub whole-changed : IsSound limits area' n' c' size' m' t'
      whole-changed = whole (Some f') becomes
          (tied-changed n' (files_of area' n' c) (files_of area' n' c') t t' again.tied i f f' changed-before
          (others (Some f') becomes) (here (Some f') becomes) kind dir_bytes resizes)
          (let more = resizes.counts.used in omega (arith, more, room))

      pub held-changed : (g : Node → Node) → node_of t.handle i (entry_of f') ≡ g (node_of t.handle i (entry_of f)) →
          the_tree n' (files_of area' n' c') t' ≡ edited (the_tree n (files_of area n c) t) (t.handle i) g
      held-changed g change = tree-changed n' (files_of area' n' c) (files_of area' n' c') t t' again.tied i f f'
          changed-before (others (Some f') becomes) (here (Some f') becomes) kind dir_bytes resizes g change
          ∙ ap (λ x. edited x (t.handle i) g) tree-again

-- where no inode is free there are as many nodes as inodes
pub full : (limits : ServerLimits) (area : Area) (n : ℕ) (c : Blocks) (size : ℕ) (m : List Bool) (t : Tables) →
    IsSound limits area n c size m t → ((i : ℕ) → i < t.counts.inodes → t.is_free i ≡ false) →
    len (the_tree n (files_of area n c) t).nodes ≡ n
full limits area n c size m t sound none = all-used n (files_of area n c) t sound.tied (λ i l. by i l (t.kind i) refl)
  where
    by : (i : ℕ) → i < n → (o : Option Kind) → t.kind i ≡ o → IsSome (files_of area n c i)
    by i l None is = absurd
        (let inodes = sound.tied.inodes in
        let free : t.is_free i ≡ true = (sound.tied.free i l).1 is in
        let bad : false ≡ true = sym (none i (omega (arith, l, inodes))) ∙ free in cc)
    by i l (Some k) is = let f = file-kind n (files_of area n c) t sound.tied i k is in some_is f.1

-- a used inode has a file, of its kind
pub file-there : (limits : ServerLimits) (area : Area) (n : ℕ) (c : Blocks) (size : ℕ) (m : List Bool) (t : Tables) →
    IsSound limits area n c size m t → (i : ℕ) → i < n → (k : Kind) → t.kind i ≡ Some k →
    (f : File) × (file_at area c i ≡ Some f) × (f.kind ≡ k)
file-there limits area n c size m t sound i l k is =
    let f = file-kind n (files_of area n c) t sound.tied i k is in
    (f.0, sym (files_of-within area n i c l) ∙ f.1, f.2)

pub there-file : (limits : ServerLimits) (area : Area) (n : ℕ) (c : Blocks) (size : ℕ) (m : List Bool) (t : Tables) →
    IsSound limits area n c size m t → (i : ℕ) → i < n → (f : File) → file_at area c i ≡ Some f →
    files_of area n c i ≡ Some f
there-file limits area n c size m t sound i l f is = files_of-within area n i c l ∙ is

-- a change of a file that is there
pub becomes-some : (area : Area) (n size i : ℕ) (o : Option File) (f : File) (g : File → File) (c c' : Blocks)
    (m' : List Bool) → o ≡ Some f → Becomes area n size i (option_map g o) c c' m' →
    Becomes area n size i (Some (g f)) c c' m'
becomes-some area n size i o f g c c' m' is becomes =
    subst (λ o. Becomes area n size i o c c' m') (ap (option_map g) is) becomes

-- a file with other bytes is its node with other bytes
pub file-node : (handle : ℕ → List ℕ) (i : ℕ) (f : File) (g : List ℕ → List ℕ) → f.kind ≡ AFile →
    node_of handle i (entry_of (record f { bytes = g f.bytes })) ≡ node_bytes g (node_of handle i (entry_of f))
file-node handle i f g is_file = subst (λ k. (let x : Node = record {
  number = i;
  mode = f.mode;
  uid = f.uid;
  gid = f.gid;
  content = content_of handle (body_of k (g f.bytes));
} in x) ≡ node_bytes g (let y : Node = record {
  number = i;
  mode = f.mode;
  uid = f.uid;
  gid = f.gid;
  content = content_of handle (body_of k f.bytes);
} in y)) (sym is_file) refl

-- no directory is a file
pub file-no_dir : (k : Kind) → k ≡ AFile → k ≡ Dir → ⊥
file-no_dir k is_file is_dir = (let bad : AFile ≡ Dir = sym is_file ∙ is_dir in cc)

pub link-no_dir : (k : Kind) → k ≡ Link → k ≡ Dir → ⊥
link-no_dir k is_link is_dir = (let bad : Link ≡ Dir = sym is_link ∙ is_dir in cc)
