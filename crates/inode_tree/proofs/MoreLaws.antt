-- A directory gets a name.
use Rattle.std.proofs.Common.{inl, inr, ◌≡◌, ◌≢◌, ◌⊎◌, ℕ, ◌/◌, ◌%◌, ◌≤◌, arith, List, length, Option, Some, None, IsSome, refl, sym, ap, ◌∙◌, subst}
use Rattle.std.specs.Option.{option_map}
use Rattle.std.specs.FinMap.{get, insert}
use Rattle.nfs2_types.specs.declared.fattr.Kind.{Kind}
use Rattle.nfs2_types.specs.declared.fattr.Kind.TheVariants.{Dir}
use Rattle.server_trait.specs.Tree.{is_dir_at, named}
use Rattle.server_trait.proofs.TreeLaws.{bytes_or_not, one_or_not, some_none, some_same}
use Rattle.inode_dirs.specs.Slots.{Slots, IsIndexOf, names_of}
use Rattle.inode_dirs.specs.SlotBytes.{slots_in}
use Rattle.inode_dirs.specs.Table.{tree_of}
use Rattle.inode_dirs.specs.Files.{File, entry_of, table_of}
use Rattle.inode_dirs.specs.declared.index.Place.{Place}
use Rattle.inode_dirs.proofs.SlotLaws.{names-indexed, names-more}
use Rattle.inode_counts.specs.Changes.{CountsNamed}
use Rattle.inode_counts.specs.Counted.{IsCounted}
use Rattle.inode_counts.proofs.CountLaws.{counted-named, tree-named}
use Rattle.inode_tree.specs.Tables.{Tables, AreParents, is_dir_kind}
use Rattle.inode_tree.specs.Changes.{Names, inode_of}
use Rattle.inode_tree.specs.Sound.{IsTied, the_tree}
use Rattle.inode_tree.proofs.TiedLaws.{some_is, some_entry, apart, file-kind, index-dir, dir-kind, linked-place}
use Rattle.inode_tree.proofs.DirLaws.{place_of, no_place_of, others, is, has, is_now, few_now, apart_now, kind_i, kinds_now, filled_now, index_now, led_now}

module _ (n : ℕ) (files files' : ℕ → Option File) (t t' : Tables) (tied : IsTied n files t) (i : ℕ) (f : File)
    (was : files i ≡ Some f) (is_dir : f.kind ≡ Dir) (same : (j : ℕ) → j ≢ i → files' j ≡ files j) (bytes : List ℕ)
    (here : files' i ≡ Some (record f { bytes = bytes })) (filled : length bytes % 288 ≡ 0)
    (index' : IsIndexOf (t'.place i) (slots_in (length bytes / 288) bytes)) (name : List ℕ) (j : ℕ) (k : Kind)
    (kind_j : t.kind j ≡ Some k) (new : inode_of (t.place i name) ≡ None) (names : Names t t' i name j (is_dir_kind k))
    (unlinked : k ≡ Dir → t.counts.links j ≡ 0) (other : j ≢ 0) where
  abbrev slots : Slots
  slots = slots_in (length f.bytes / 288) f.bytes

  abbrev slots' : Slots
  slots' = slots_in (length bytes / 288) bytes

  used_j : IsSome (table_of files j)
  used_j = let g = file-kind n files t tied j k kind_j in some_entry files j (some_is g.1)

  new_name : get (names_of t.handle slots) name ≡ None
  new_name = names-indexed t.handle (t.place i) slots (index-dir n files t tied i f was is_dir) name
      ∙ ap (option_map (λ (p : Place). t.handle p.inode)) (no_place_of (t.place i name) new)

  names_are : names_of t.handle slots' ≡ insert (names_of t.handle slots) name (t.handle j)
  names_are = names-more t.handle (t.place i) (t'.place i) slots slots' (index-dir n files t tied i f was is_dir) index'
      name names.others j names.here

  counts_are : CountsNamed t.counts t'.counts i j (is_dir_at (the_tree n files t) (t.handle j))
  counts_are = subst (λ b. CountsNamed t.counts t'.counts i j b) (sym (dir-kind n files t tied j k kind_j)) names.counts

  counted_now : IsCounted t.handle n (table_of files') t'.counts
  counted_now = counted-named t.handle n (table_of files) (table_of files') (apart n files t tied)
      (apart_now n files files' t tied i f was is_dir same bytes here) i (others n files files' t tied i f was is_dir
      same bytes here) (entry_of f) slots slots' (is n files files' t tied i f was is_dir same bytes here)
      (has n files files' t tied i f was is_dir same bytes here)
      (is_now n files files' t tied i f was is_dir same bytes here) name j used_j new_name names_are t.counts t'.counts
      tied.counted counts_are

  -- the directory has the name
  pub tree-more : the_tree n files' t' ≡ named (the_tree n files t) (t.handle i) name (t.handle j)
  tree-more = ap (λ h. tree_of h n (table_of files')) names.handles
      ∙ tree-named t.handle n (table_of files) (table_of files') (apart n files t tied)
      (apart_now n files files' t tied i f was is_dir same bytes here) i (others n files files' t tied i f was is_dir
      same bytes here) (entry_of f) slots slots' (is n files files' t tied i f was is_dir same bytes here)
      (has n files files' t tied i f was is_dir same bytes here)
      (is_now n files files' t tied i f was is_dir same bytes here) name j used_j new_name names_are t.counts t'.counts
      tied.counted counts_are

  kind_was : (x : ℕ) → t'.kind x ≡ Some Dir → t.kind x ≡ Some Dir
  kind_was x h = ap (λ f. f x) (sym names.kinds) ∙ h

  -- a directory to which a name led already is another
  not_j : (d : ℕ) (q : List ℕ) (p : Place) → t.kind d ≡ Some Dir → t.place d q ≡ Some p → t.kind p.inode ≡ Some Dir →
      p.inode ≢ j
  not_j d q p in_dir leads to_dir at =
      let none = unlinked (some_same kind_j (ap t.kind (sym at) ∙ to_dir)) in
      let some = linked-place n files t tied d q p in_dir leads in
      let same_links : t.counts.links p.inode ≡ t.counts.links j = ap t.counts.links at in
      absurd (omega (arith, none, some, same_links))

  dir_i : t.kind i ≡ Some Dir
  dir_i = kind_i n files files' t tied i f was is_dir same bytes here

  up_here : (x : ℕ) → x ≡ j → t.kind x ≡ Some Dir → (t'.kind (t'.parent x) ≡ Some Dir) ×
      (q : List ℕ) × (p : Place) × (t'.place (t'.parent x) q ≡ Some p) × (p.inode ≡ x)
  up_here x at to_dir =
      let is_k : k ≡ Dir = some_same kind_j (ap t.kind (sym at) ∙ to_dir) in
      let parent : t'.parent x ≡ i = ap t'.parent at ∙ names.parent_here (ap is_dir_kind is_k) in
      let p = place_of (t'.place i name) j names.here in (
        ap (λ f. f (t'.parent x)) names.kinds ∙ ap t.kind parent ∙ dir_i,
        name,
        p.0,
        ap (λ d. t'.place d name) parent ∙ p.1,
        p.2 ∙ sym at,
      )

  place_kept : (d : ℕ) (q : List ℕ) (p : Place) → t.place d q ≡ Some p → (d ≡ i) ⊎ (d ≢ i) →
      (p' : Place) × (t'.place d q ≡ Some p') × (p'.inode ≡ p.inode)
  place_kept d q p leads (inr ne) = (p, ap (λ f. f q) (names.places d ne) ∙ leads, refl)
  place_kept d q p leads (inl at) =
      let at_i : t.place i q ≡ Some p = ap (λ d. t.place d q) (sym at) ∙ leads in
      let ne : q ≢ name = λ e. some_none (ap (t.place i) (sym e) ∙ at_i) (no_place_of (t.place i name) new) in
      let now = place_of (t'.place i q) p.inode (names.others q ne ∙ ap inode_of at_i) in
      (now.0, ap (λ d. t'.place d q) at ∙ now.1, now.2)

  up_other : (x : ℕ) → x ≢ j → t.kind x ≡ Some Dir → 1 ≤ t'.counts.links x → (t'.kind (t'.parent x) ≡ Some Dir) ×
      (q : List ℕ) × (p : Place) × (t'.place (t'.parent x) q ≡ Some p) × (p.inode ≡ x)
  up_other x ne to_dir linked =
      let kept = names.counts.links_other x ne in
      let old = tied.parents.up x to_dir (omega (arith, kept, linked)) in
      let parent = names.parents x ne in
      let now = place_kept (t.parent x) old.1 old.2 old.3 (one_or_not (t.parent x) i) in (
        ap (λ f. f (t'.parent x)) names.kinds ∙ ap t.kind parent ∙ old.0,
        old.1,
        now.0,
        ap (λ d. t'.place d old.1) parent ∙ now.1,
        now.2 ∙ old.4,
      )

  only_old : (d : ℕ) (q : List ℕ) (p : Place) → t.kind d ≡ Some Dir → t.place d q ≡ Some p →
      t.kind p.inode ≡ Some Dir → t'.parent p.inode ≡ d
  only_old d q p in_dir leads to_dir = names.parents p.inode (not_j d q p in_dir leads to_dir)
      ∙ tied.parents.only d q p in_dir leads to_dir

  only_now : (d : ℕ) (q : List ℕ) (p : Place) → t.kind d ≡ Some Dir → t'.place d q ≡ Some p →
      t.kind p.inode ≡ Some Dir → (d ≡ i) ⊎ (d ≢ i) → (q ≡ name) ⊎ (q ≢ name) → t'.parent p.inode ≡ d
  only_now d q p in_dir leads to_dir (inr ne) n_or =
      only_old d q p in_dir (ap (λ f. f q) (sym (names.places d ne)) ∙ leads) to_dir
  only_now d q p in_dir leads to_dir (inl at) (inl e) =
      let to : p.inode ≡ j = some_same (ap inode_of (ap (t'.place i) (sym e) ∙ ap (λ d. t'.place d q) (sym at) ∙ leads))
      names.here in
      let is_k : k ≡ Dir = some_same kind_j (ap t.kind (sym to) ∙ to_dir) in
      ap t'.parent to ∙ names.parent_here (ap is_dir_kind is_k) ∙ sym at
  only_now d q p in_dir leads to_dir (inl at) (inr ne) =
      let old = place_of (t.place i q) p.inode (sym (names.others q ne) ∙ ap inode_of (ap (λ d. t'.place d q) (sym at)
      ∙ leads)) in
      ap t'.parent (sym old.2) ∙ only_old i q old.0 dir_i old.1 (ap t.kind old.2 ∙ to_dir) ∙ sym at

  once_now : (x : ℕ) → t.kind x ≡ Some Dir → (x ≡ j) ⊎ (x ≢ j) → t'.counts.links x ≤ 1
  once_now x to_dir (inl at) =
      let none = unlinked (some_same kind_j (ap t.kind (sym at) ∙ to_dir)) in
      let more = names.counts.links_here in
      let at_j : t'.counts.links x ≡ t'.counts.links j = ap t'.counts.links at in
      omega (arith, none, more, at_j)
  once_now x to_dir (inr ne) =
      let kept = names.counts.links_other x ne in
      let most = tied.parents.once x to_dir in
      omega (arith, kept, most)

  parents_now : AreParents t'
  parents_now = record {
    up = λ x to_dir linked. elim (one_or_not x j) as (λ _. (t'.kind (t'.parent x) ≡ Some Dir) ×
        (q : List ℕ) × (p : Place) × (t'.place (t'.parent x) q ≡ Some p) × (p.inode ≡ x)) [
          | inl at ↦ up_here x at (kind_was x to_dir)
          | inr ne ↦ up_other x ne (kind_was x to_dir) linked
        ];
    only = λ d q p in_dir leads to_dir. only_now d q p (kind_was d in_dir) leads (kind_was p.inode to_dir)
        (one_or_not d i) (bytes_or_not q name);
    once = λ x to_dir. once_now x (kind_was x to_dir) (one_or_not x j);
  }

  pub tied-more : IsTied n files' t'
  tied-more = record {
    inodes = names.counts.inodes ∙ tied.inodes;
    apart = λ a b l m e. tied.apart a b l m (ap (λ h. h a) (sym names.handles) ∙ e ∙ ap (λ h. h b) names.handles);
    few = few_now n files files' t tied i f was is_dir same bytes here;
    index = index_now n files files' t tied i f was is_dir same bytes here t'.place names.places index';
    led = led_now n files files' t tied i f was is_dir same bytes here t'.place names.places index' name names.others
        (λ p leads. subst (λ k. IsSome (table_of files k)) (some_same names.here (ap inode_of leads)) used_j);
    counted = subst (λ h. IsCounted h n (table_of files') t'.counts) (sym names.handles) counted_now;
    kinds = λ x. ap (λ f. f x) names.kinds ∙ kinds_now n files files' t tied i f was is_dir same bytes here x;
    free = λ x l. (
      λ a. ap (λ f. f x) names.kinds ∙ (tied.free x l).0 (ap (λ f. f x) (sym names.free) ∙ a),
      λ a. ap (λ f. f x) names.free ∙ (tied.free x l).1 (ap (λ f. f x) (sym names.kinds) ∙ a),
    );
    filled = filled_now n files files' t tied i f was is_dir same bytes here filled;
    root = sym (kinds_now n files files' t tied i f was is_dir same bytes here 0) ∙ tied.kinds 0 ∙ tied.root;
    top = names.counts.links_other 0 (λ at. other (sym at)) ∙ tied.top;
    parents = parents_now;
  }
