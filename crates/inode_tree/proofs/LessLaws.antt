-- A directory loses a name.
use Rattle.std.proofs.Common.{inl, inr, ◌≡◌, ◌≢◌, ◌⊎◌, ℕ, ◌/◌, ◌%◌, ◌≤◌, arith, List, length, Option, Some, IsSome, refl, sym, ap, ◌∙◌, subst}
use Rattle.std.specs.Option.{option_map}
use Rattle.std.specs.FinMap.{get, remove}
use Rattle.nfs2_types.specs.declared.fattr.Kind.{Kind}
use Rattle.nfs2_types.specs.declared.fattr.Kind.TheVariants.{Dir}
use Rattle.server_trait.specs.Tree.{is_dir_at, unnamed}
use Rattle.server_trait.proofs.TreeLaws.{bytes_or_not, one_or_not, some_none, some_same}
use Rattle.inode_dirs.specs.Slots.{Slots, IsIndexOf, names_of}
use Rattle.inode_dirs.specs.SlotBytes.{slots_in}
use Rattle.inode_dirs.specs.Table.{tree_of}
use Rattle.inode_dirs.specs.Files.{File, entry_of, table_of}
use Rattle.inode_dirs.specs.declared.index.Place.{Place}
use Rattle.inode_dirs.proofs.SlotLaws.{names-indexed, names-less}
use Rattle.inode_counts.specs.Changes.{CountsUnnamed}
use Rattle.inode_counts.specs.Counted.{IsCounted}
use Rattle.inode_counts.proofs.CountLaws.{counted-unnamed, tree-unnamed}
use Rattle.inode_tree.specs.Tables.{Tables, AreParents, is_dir_kind}
use Rattle.inode_tree.specs.Changes.{Unnames, inode_of}
use Rattle.inode_tree.specs.Sound.{IsTied, the_tree}
use Rattle.inode_tree.proofs.TiedLaws.{some_is, some_entry, apart, file-kind, index-dir, dir-kind}
use Rattle.inode_tree.proofs.DirLaws.{place_of, no_place_of, others, is, has, is_now, few_now, apart_now, kind_i, kinds_now, filled_now, index_now, led_now}

module _ (n : ℕ) (files files' : ℕ → Option File) (t t' : Tables) (tied : IsTied n files t) (i : ℕ) (f : File)
    (was : files i ≡ Some f) (is_dir : f.kind ≡ Dir) (same : (j : ℕ) → j ≢ i → files' j ≡ files j) (bytes : List ℕ)
    (here : files' i ≡ Some (record f { bytes = bytes })) (filled : length bytes % 288 ≡ 0)
    (index' : IsIndexOf (t'.place i) (slots_in (length bytes / 288) bytes)) (name : List ℕ) (j : ℕ) (k : Kind)
    (kind_j : t.kind j ≡ Some k) (leads : inode_of (t.place i name) ≡ Some j)
    (names : Unnames t t' i name j (is_dir_kind k)) where
  abbrev slots : Slots
  slots = slots_in (length f.bytes / 288) f.bytes

  abbrev slots' : Slots
  slots' = slots_in (length bytes / 288) bytes

  used_j : IsSome (table_of files j)
  used_j = let g = file-kind n files t tied j k kind_j in some_entry files j (some_is g.1)

  leads_there : get (names_of t.handle slots) name ≡ Some (t.handle j)
  leads_there =
      let p = place_of (t.place i name) j leads in
      names-indexed t.handle (t.place i) slots (index-dir n files t tied i f was is_dir) name
      ∙ ap (option_map (λ (p : Place). t.handle p.inode)) p.1 ∙ ap (λ j. Some (t.handle j)) p.2

  names_are : names_of t.handle slots' ≡ remove (names_of t.handle slots) name
  names_are = names-less t.handle (t.place i) (t'.place i) slots slots' (index-dir n files t tied i f was is_dir) index'
      name names.others names.gone

  counts_are : CountsUnnamed t.counts t'.counts i j (is_dir_at (the_tree n files t) (t.handle j))
  counts_are = subst (λ b. CountsUnnamed t.counts t'.counts i j b) (sym (dir-kind n files t tied j k kind_j))
      names.counts

  counted_now : IsCounted t.handle n (table_of files') t'.counts
  counted_now = counted-unnamed t.handle n (table_of files) (table_of files') (apart n files t tied)
      (apart_now n files files' t tied i f was is_dir same bytes here) i (others n files files' t tied i f was is_dir
      same bytes here) (entry_of f) slots slots' (is n files files' t tied i f was is_dir same bytes here)
      (has n files files' t tied i f was is_dir same bytes here)
      (is_now n files files' t tied i f was is_dir same bytes here) name j used_j leads_there names_are t.counts
      t'.counts tied.counted counts_are

  -- the directory has lost the name
  pub tree-less : the_tree n files' t' ≡ unnamed (the_tree n files t) (t.handle i) name
  tree-less = ap (λ h. tree_of h n (table_of files')) names.handles
      ∙ tree-unnamed t.handle n (table_of files) (table_of files') (apart n files t tied)
      (apart_now n files files' t tied i f was is_dir same bytes here) i (others n files files' t tied i f was is_dir
      same bytes here) (entry_of f) slots slots' (is n files files' t tied i f was is_dir same bytes here)
      (has n files files' t tied i f was is_dir same bytes here)
      (is_now n files files' t tied i f was is_dir same bytes here) name j used_j leads_there names_are t.counts
      t'.counts tied.counted counts_are

  kind_was : (x : ℕ) → t'.kind x ≡ Some Dir → t.kind x ≡ Some Dir
  kind_was x h = ap (λ f. f x) (sym names.kinds) ∙ h

  dir_i : t.kind i ≡ Some Dir
  dir_i = kind_i n files files' t tied i f was is_dir same bytes here

  -- a place that leads elsewhere is kept
  place_kept : (d : ℕ) (q : List ℕ) (p : Place) → t.place d q ≡ Some p → p.inode ≢ j → (d ≡ i) ⊎ (d ≢ i) →
      (p' : Place) × (t'.place d q ≡ Some p') × (p'.inode ≡ p.inode)
  place_kept d q p there apart_j (inr ne) = (p, ap (λ f. f q) (names.places d ne) ∙ there, refl)
  place_kept d q p there apart_j (inl at) =
      let at_i : t.place i q ≡ Some p = ap (λ d. t.place d q) (sym at) ∙ there in
      let ne : q ≢ name = λ e. apart_j
      (some_same (ap inode_of (ap (t.place i) (sym e) ∙ at_i)) leads) in
      let now = place_of (t'.place i q) p.inode (names.others q ne ∙ ap inode_of at_i) in
      (now.0, ap (λ d. t'.place d q) at ∙ now.1, now.2)

  -- a directory that still has a name is not the one that lost it
  not_j : (x : ℕ) → t.kind x ≡ Some Dir → 1 ≤ t'.counts.links x → x ≢ j
  not_j x to_dir linked at =
      let most = tied.parents.once x to_dir in
      let less = names.counts.links_here in
      let now : t'.counts.links x ≡ t'.counts.links j = ap t'.counts.links at in
      let old : t.counts.links x ≡ t.counts.links j = ap t.counts.links at in
      absurd (omega (arith, most, less, now, old, linked))

  up_now : (x : ℕ) → t.kind x ≡ Some Dir → 1 ≤ t'.counts.links x → (t'.kind (t'.parent x) ≡ Some Dir) ×
      (q : List ℕ) × (p : Place) × (t'.place (t'.parent x) q ≡ Some p) × (p.inode ≡ x)
  up_now x to_dir linked =
      let ne = not_j x to_dir linked in
      let kept = names.counts.links_other x ne in
      let old = tied.parents.up x to_dir (omega (arith, kept, linked)) in
      let parent : t'.parent x ≡ t.parent x = ap (λ f. f x) names.parents in
      let now = place_kept (t.parent x) old.1 old.2 old.3 (λ at. ne (sym old.4 ∙ at)) (one_or_not (t.parent x) i) in (
        ap (λ f. f (t'.parent x)) names.kinds ∙ ap t.kind parent ∙ old.0,
        old.1,
        now.0,
        ap (λ d. t'.place d old.1) parent ∙ now.1,
        now.2 ∙ old.4,
      )

  only_now : (d : ℕ) (q : List ℕ) (p : Place) → t.kind d ≡ Some Dir → t'.place d q ≡ Some p →
      t.kind p.inode ≡ Some Dir → (d ≡ i) ⊎ (d ≢ i) → (q ≡ name) ⊎ (q ≢ name) → t.parent p.inode ≡ d
  only_now d q p in_dir there to_dir (inr ne) n_or =
      tied.parents.only d q p in_dir (ap (λ f. f q) (sym (names.places d ne)) ∙ there) to_dir
  only_now d q p in_dir there to_dir (inl at) (inl e) = absurd
      (some_none (ap (t'.place i) (sym e) ∙ ap (λ d. t'.place d q) (sym at) ∙ there)
      (no_place_of (t'.place i name) names.gone))
  only_now d q p in_dir there to_dir (inl at) (inr ne) =
      let old = place_of (t.place i q) p.inode (sym (names.others q ne) ∙ ap inode_of (ap (λ d. t'.place d q) (sym at)
      ∙ there)) in
      ap t.parent (sym old.2) ∙ tied.parents.only i q old.0 dir_i old.1 (ap t.kind old.2 ∙ to_dir) ∙ sym at

  parents_now : AreParents t'
  parents_now = record {
    up = λ x to_dir linked. up_now x (kind_was x to_dir) linked;
    only = λ d q p in_dir there to_dir. ap (λ f. f p.inode) names.parents
        ∙ only_now d q p (kind_was d in_dir) there (kind_was p.inode to_dir) (one_or_not d i) (bytes_or_not q name);
    once = λ x to_dir. elim (one_or_not x j) as (λ _. t'.counts.links x ≤ 1) [
      | inl at ↦
          let most = tied.parents.once x (kind_was x to_dir) in
          let less = names.counts.links_here in
          let now : t'.counts.links x ≡ t'.counts.links j = ap t'.counts.links at in
          let old : t.counts.links x ≡ t.counts.links j = ap t.counts.links at in
          omega (arith, most, less, now, old)
      | inr ne ↦
          let most = tied.parents.once x (kind_was x to_dir) in
          let kept = names.counts.links_other x ne in
          omega (arith, most, kept)
    ];
  }

  pub tied-less : IsTied n files' t'
  tied-less = record {
    inodes = names.counts.inodes ∙ tied.inodes;
    apart = λ a b l m e. tied.apart a b l m (ap (λ h. h a) (sym names.handles) ∙ e ∙ ap (λ h. h b) names.handles);
    few = few_now n files files' t tied i f was is_dir same bytes here;
    index = index_now n files files' t tied i f was is_dir same bytes here t'.place names.places index';
    led = led_now n files files' t tied i f was is_dir same bytes here t'.place names.places index' name names.others
        (λ p there. absurd (some_none there (no_place_of (t'.place i name) names.gone)));
    counted = subst (λ h. IsCounted h n (table_of files') t'.counts) (sym names.handles) counted_now;
    kinds = λ x. ap (λ f. f x) names.kinds ∙ kinds_now n files files' t tied i f was is_dir same bytes here x;
    free = λ x l. (
      λ a. ap (λ f. f x) names.kinds ∙ (tied.free x l).0 (ap (λ f. f x) (sym names.free) ∙ a),
      λ a. ap (λ f. f x) names.free ∙ (tied.free x l).1 (ap (λ f. f x) (sym names.kinds) ∙ a),
    );
    filled = filled_now n files files' t tied i f was is_dir same bytes here filled;
    root = sym (kinds_now n files files' t tied i f was is_dir same bytes here 0) ∙ tied.kinds 0 ∙ tied.root;
    top = elim (one_or_not 0 j) as (λ _. t'.counts.links 0 ≡ 0) [
      | inl at ↦
          let less = names.counts.links_here in
          let none : t.counts.links j ≡ 0 = ap t.counts.links (sym at) ∙ tied.top in
          absurd (omega (arith, less, none))
      | inr ne ↦ names.counts.links_other 0 ne ∙ tied.top
    ];
    parents = parents_now;
  }
