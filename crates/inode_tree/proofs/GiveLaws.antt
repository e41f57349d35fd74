-- An inode to which no name leads is free again.
use Rattle.std.proofs.Common.{inl, inr, ◌≡◌, ◌≢◌, ◌↔◌, ℕ, ◌/◌, ◌<◌, arith, true, List, [], length, slice_get, Option, Some, None, IsSome, sym, ap, ◌∙◌, subst}
use Rattle.std.specs.Option.{option_map}
use Rattle.nfs2_types.specs.declared.fattr.Kind.TheVariants.{Dir}
use Rattle.server_trait.specs.Tree.{links, without_node}
use Rattle.server_trait.proofs.TreeLaws.{one_or_not, some_none, some_same}
use Rattle.inode_dirs.specs.Slots.{Slots, IsIndexOf}
use Rattle.inode_dirs.specs.SlotBytes.{slots_in}
use Rattle.inode_dirs.specs.Table.{DirSlots, Entry, tree_of, AreApart}
use Rattle.inode_dirs.specs.Files.{File, body_of, entry_of, table_of}
use Rattle.inode_dirs.specs.declared.index.Place.{Place}
use Rattle.inode_dirs.proofs.TableLaws.{IsSameBut, tree-freed}
use Rattle.inode_dirs.proofs.FileLaws.{others-same}
use Rattle.inode_counts.specs.Changes.{CountsFreed}
use Rattle.inode_counts.specs.Counted.{IsCounted, AreLed}
use Rattle.inode_counts.proofs.NodeCounts.{counted-freed}
use Rattle.inode_counts.proofs.LedLaws.{led-freed}
use Rattle.inode_tree.specs.Tables.{Tables, AreParents}
use Rattle.inode_tree.specs.Changes.{Gives}
use Rattle.inode_tree.specs.Sound.{IsTied, kind_at, the_tree}
use Rattle.inode_tree.proofs.TiedLaws.{some_is, no_some, entry_some, are_apart, apart, led, kind-file, index-dir, linked-place, file_of_entry, dir_body}
use Rattle.inode_tree.proofs.TakeLaws.{bare_slots, bare_to, bare_used}

module _ (n : ℕ) (files files' : ℕ → Option File) (t t' : Tables) (tied : IsTied n files t) (i : ℕ) (l : i < n)
    (f : File) (was : files i ≡ Some f) (same : (j : ℕ) → j ≢ i → files' j ≡ files j) (free : files' i ≡ None)
    (bare : f.kind ≡ Dir → f.bytes ≡ []) (no_links : t.counts.links i ≡ 0) (not_root : i ≢ 0)
    (gives : Gives t t' i (length f.bytes)) where
  others : IsSameBut (table_of files) (table_of files') i
  others = others-same files files' i same

  abbrev e : Entry
  e = entry_of f

  is : table_of files i ≡ Some e
  is = ap (option_map entry_of) was

  none : table_of files' i ≡ None
  none = ap (option_map entry_of) free

  not_i : (j : ℕ) → IsSome (files' j) → j ≢ i
  not_i j some at = no_some File (subst (λ o. IsSome o) (ap files' at ∙ free) some)

  few' : (j : ℕ) → IsSome (files' j) → j < n
  few' j some = tied.few j (subst (λ o. IsSome o) (same j (not_i j some)) some)

  apart_new : AreApart t.handle n (table_of files')
  apart_new = are_apart n files' t.handle tied.apart few'

  unlinked : links (the_tree n files t) (t.handle i) ≡ 0
  unlinked = sym (tied.counted.links_are i (some_is is)) ∙ no_links

  led_now : AreLed t.handle (table_of files')
  led_now = led-freed t.handle n (table_of files) (table_of files') (apart n files t tied) (led n files t tied) i others
      none unlinked

  bare_body : (ss : Slots) → e.body ≡ DirSlots ss → ss ≡ []
  bare_body ss has = bare_slots f.kind f.bytes bare ss has

  same_tree : (t' : Tables) → t'.handle ≡ t.handle → the_tree n files' t' ≡ tree_of t.handle n (table_of files')
  same_tree t' e = ap (λ h. tree_of h n (table_of files')) e

  -- the tree has one node less
  pub tree-given : the_tree n files' t' ≡ without_node (the_tree n files t) (t.handle i)
  tree-given = same_tree t' gives.handles
      ∙ tree-freed t.handle n (table_of files) (table_of files') (apart n files t tied) apart_new i others none
      (λ j some at. let used = few' j (entry_some files' j some) in
      not_i j (entry_some files' j some) (tied.apart j i used l at))

  counted_now : IsCounted t.handle n (table_of files') t'.counts
  counted_now = counted-freed t.handle n (table_of files) (table_of files') (apart n files t tied) apart_new led_now i
      others e is none (bare_to t.handle e.body bare_body) t.counts t'.counts tied.counted
      (subst (λ b. CountsFreed t.counts t'.counts i b) (sym (bare_used t.handle f.kind f.bytes bare)) gives.counts)

  was_used : (j : ℕ) → IsSome (files' j) → IsSome (files j)
  was_used j some = subst (λ o. IsSome o) (same j (not_i j some)) some

  -- a place of a directory leads to no inode that goes
  unled : (k : ℕ) (q : List ℕ) (p : Place) → t.kind k ≡ Some Dir → t.place k q ≡ Some p → p.inode ≢ i
  unled k q p is_dir leads at =
      let some = linked-place n files t tied k q p is_dir leads in
      let none : t.counts.links p.inode ≡ 0 = ap t.counts.links at ∙ no_links in
      absurd (omega (arith, some, none))

  dir_of : (j : ℕ) (x : Entry) (ss : Slots) → table_of files j ≡ Some x → x.body ≡ DirSlots ss → t.kind j ≡ Some Dir
  dir_of j x ss at has =
      let g = file_of_entry files j x at in
      kind-file n files t tied j g.0 g.1
      ∙ ap Some (dir_body g.0.kind g.0.bytes ss (ap (λ (e : Entry). e.body) g.2 ∙ has)).0

  index_new : (j : ℕ) (x : Entry) (ss : Slots) → table_of files' j ≡ Some x → x.body ≡ DirSlots ss →
      IsIndexOf (t'.place j) ss
  index_new j x ss at has = subst (λ f. IsIndexOf f ss) (sym (ap (λ p. p j) gives.places))
      (tied.index j x ss (sym (others j (not_i j (entry_some files' j (some_is at)))) ∙ at) has)

  led_new : (j : ℕ) (x : Entry) (ss : Slots) (q : List ℕ) (p : Place) → table_of files' j ≡ Some x →
      x.body ≡ DirSlots ss → t'.place j q ≡ Some p → IsSome (table_of files' p.inode)
  led_new j x ss q p at has leads =
      let at_old = sym (others j (not_i j (entry_some files' j (some_is at)))) ∙ at in
      let led_old = ap (λ p. p j q) (sym gives.places) ∙ leads in
      let ne = unled j q p (dir_of j x ss at_old has) led_old in
      subst (λ o. IsSome o) (sym (others p.inode ne)) (tied.led j x ss q p at_old has led_old)

  kinds_new : (j : ℕ) → t'.kind j ≡ kind_at files' j
  kinds_new j = elim (one_or_not j i) as (λ _. t'.kind j ≡ kind_at files' j) [
    | inl at ↦ ap t'.kind at ∙ gives.kind_here ∙ sym (ap (option_map (λ (f : File). f.kind)) (ap files' at ∙ free))
    | inr ne ↦ gives.kinds j ne ∙ tied.kinds j ∙ sym (ap (option_map (λ (f : File). f.kind)) (same j ne))
  ]

  free_new : (j : ℕ) → j < n → (t'.is_free j ≡ true) ↔ (t'.kind j ≡ None)
  free_new j within = elim (one_or_not j i) as (λ _. (t'.is_free j ≡ true) ↔ (t'.kind j ≡ None)) [
    | inl at ↦ (λ a. ap t'.kind at ∙ gives.kind_here, λ a. ap t'.is_free at ∙ gives.free_here)
    | inr ne ↦ (
      λ a. gives.kinds j ne ∙ (tied.free j within).0 (sym (gives.free j ne) ∙ a),
      λ a. gives.free j ne ∙ (tied.free j within).1 (sym (gives.kinds j ne) ∙ a),
    )
  ]

  -- a kind that is there now was there
  was_kind : (j : ℕ) → t'.kind j ≡ Some Dir → (j ≢ i) × (t.kind j ≡ Some Dir)
  was_kind j is_dir =
      let ne : j ≢ i = λ at. some_none is_dir (ap t'.kind at ∙ gives.kind_here) in
      (ne, sym (gives.kinds j ne) ∙ is_dir)

  -- no name is in a directory that goes
  no_place : (q : List ℕ) (p : Place) → t.kind i ≡ Some Dir → t.place i q ≡ Some p → ⊥
  no_place q p is_dir leads =
      let kind : f.kind ≡ Dir = some_same (kind-file n files t tied i f was) is_dir in
      let stands = ((index-dir n files t tied i f was kind) q p).0 leads in
      some_none stands (ap (λ ss. slice_get ss p.slot)
      (bare_body (slots_in (length f.bytes / 288) f.bytes) (ap (λ k. body_of k f.bytes) kind)))

  parents_new : AreParents t'
  parents_new = record {
    up = λ j is_dir linked.
        let was = was_kind j is_dir in
        let kept = gives.counts.links_other j was.0 in
        let old = tied.parents.up j was.1 (omega (arith, kept, linked)) in
        let same_parent : t'.parent j ≡ t.parent j = ap (λ f. f j) gives.parents in
        let apart_i : t'.parent j ≢ i = λ at.
        no_place old.1 old.2 (ap t.kind (sym at ∙ same_parent) ∙ old.0)
        (ap (λ k. t.place k old.1) (sym at ∙ same_parent) ∙ old.3) in (
          gives.kinds (t'.parent j) apart_i ∙ ap t.kind same_parent ∙ old.0,
          old.1,
          old.2,
          ap (λ f. f (t'.parent j) old.1) gives.places ∙ ap (λ k. t.place k old.1) same_parent ∙ old.3,
          old.4,
        );
    only = λ k q p is_dir leads to_dir.
        ap (λ f. f p.inode) gives.parents
        ∙ tied.parents.only k q p (was_kind k is_dir).1 (ap (λ f. f k q) (sym gives.places) ∙ leads)
        (was_kind p.inode to_dir).1;
    once = λ j is_dir.
        let was = was_kind j is_dir in
        let kept = gives.counts.links_other j was.0 in
        let most = tied.parents.once j was.1 in
        omega (arith, kept, most);
  }

  pub tied-given : IsTied n files' t'
  tied-given = record {
    inodes = gives.counts.inodes ∙ tied.inodes;
    apart = λ k j a b same. tied.apart k j a b (ap (λ h. h k) (sym gives.handles) ∙ same ∙ ap (λ h. h j) gives.handles);
    few = few';
    index = index_new;
    led = led_new;
    counted = subst (λ h. IsCounted h n (table_of files') t'.counts) (sym gives.handles) counted_now;
    kinds = kinds_new;
    free = free_new;
    filled = λ j x at is_dir. tied.filled j x (sym (same j (not_i j (some_is at))) ∙ at) is_dir;
    root = ap (option_map (λ (f : File). f.kind)) (same 0 (λ at. not_root (sym at))) ∙ tied.root;
    top = gives.counts.links_other 0 (λ at. not_root (sym at)) ∙ tied.top;
    parents = parents_new;
  }
