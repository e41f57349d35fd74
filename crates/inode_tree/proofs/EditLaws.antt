-- An inode gets other attributes, or a file other bytes.
use Rattle.std.proofs.Common.{inl, inr, ◌≡◌, ◌≢◌, ℕ, ◌%◌, ◌<◌, arith, List, length, Option, Some, IsSome, refl, sym, ap, ◌∙◌, subst}
use Rattle.std.specs.Option.{option_map}
use Rattle.nfs2_types.specs.declared.fattr.Kind.{Kind}
use Rattle.nfs2_types.specs.declared.fattr.Kind.TheVariants.{File as AFile, Dir, Link}
use Rattle.server_trait.specs.Tree.{Node, names_in, names_to, used_by, edited}
use Rattle.server_trait.proofs.TreeLaws.{one_or_not, some_same}
use Rattle.inode_dirs.specs.Slots.{Slots, IsIndexOf}
use Rattle.inode_dirs.specs.Table.{DirSlots, Entry, content_of, node_of, tree_of, AreApart}
use Rattle.inode_dirs.specs.Files.{File, body_of, entry_of, table_of}
use Rattle.inode_dirs.proofs.TableLaws.{IsSameBut, tree-edited}
use Rattle.inode_dirs.proofs.FileLaws.{others-same}
use Rattle.inode_counts.specs.Changes.{CountsResized}
use Rattle.inode_counts.specs.Counted.{IsCounted}
use Rattle.inode_counts.proofs.EditCounts.{counted-changed}
use Rattle.inode_tree.specs.Tables.{Tables}
use Rattle.inode_tree.specs.Changes.{Resizes}
use Rattle.inode_tree.specs.Sound.{IsTied, kind_at, the_tree}
use Rattle.inode_tree.proofs.TiedLaws.{some_is, dir_body, are_apart, apart, kind-file}

-- a file is another, of the same kind; a directory has the same bytes
module _ (n : ℕ) (files files' : ℕ → Option File) (t t' : Tables) (tied : IsTied n files t) (i : ℕ) (f f' : File)
    (was : files i ≡ Some f) (same : (j : ℕ) → j ≢ i → files' j ≡ files j) (here : files' i ≡ Some f')
    (kind : f'.kind ≡ f.kind) (dir_bytes : f.kind ≡ Dir → f'.bytes ≡ f.bytes)
    (resizes : Resizes t t' (length f.bytes) (length f'.bytes)) where
  others : IsSameBut (table_of files) (table_of files') i
  others = others-same files files' i same

  abbrev e : Entry
  e = entry_of f

  abbrev e' : Entry
  e' = entry_of f'

  is : table_of files i ≡ Some e
  is = ap (option_map entry_of) was

  is_now : table_of files' i ≡ Some e'
  is_now = ap (option_map entry_of) here

  was_used : (j : ℕ) → IsSome (files' j) → IsSome (files j)
  was_used j some = elim (one_or_not j i) as (λ _. IsSome (files j)) [
    | inl at ↦ some_is (ap files at ∙ was)
    | inr ne ↦ subst (λ o. IsSome o) (same j ne) some
  ]

  still : (j : ℕ) → IsSome (table_of files j) → IsSome (table_of files' j)
  still j some = elim (one_or_not j i) as (λ _. IsSome (table_of files' j)) [
    | inl at ↦ some_is (ap (table_of files') at ∙ is_now)
    | inr ne ↦ subst (λ o. IsSome o) (sym (others j ne)) some
  ]

  few_now : (j : ℕ) → IsSome (files' j) → j < n
  few_now j some = tied.few j (was_used j some)

  apart_now : AreApart t.handle n (table_of files')
  apart_now = are_apart n files' t.handle tied.apart few_now

  -- what the body was, by its kind
  module _ {X : Type 0} (of : Kind → List ℕ → X) (file : (a b : List ℕ) → of AFile a ≡ of AFile b)
      (link : (a b : List ℕ) → of Link a ≡ of Link b) where
    by_kind : (k : Kind) → (k ≡ Dir → f'.bytes ≡ f.bytes) → of k f'.bytes ≡ of k f.bytes
    by_kind AFile d = file f'.bytes f.bytes
    by_kind Link d = link f'.bytes f.bytes
    by_kind Dir d = ap (of Dir) (d refl)

    alike : of f'.kind f'.bytes ≡ of f.kind f.bytes
    alike = ap (λ k. of k f'.bytes) kind ∙ by_kind f.kind dir_bytes

  dir_slots : (xs : Slots) → e'.body ≡ DirSlots xs → e.body ≡ DirSlots xs
  dir_slots xs has =
      let d = dir_body f'.kind f'.bytes xs has in
      let is_dir : f.kind ≡ Dir = sym kind ∙ d.0 in
      ap (λ k. body_of k f.bytes) is_dir ∙ ap (body_of Dir) (sym (dir_bytes is_dir))
      ∙ ap (λ k. body_of k f'.bytes) (sym d.0) ∙ has

  counts_are : CountsResized t.counts t'.counts (used_by (content_of t.handle e.body))
      (used_by (content_of t.handle e'.body))
  counts_are = by f.kind refl
    where
      by : (k : Kind) → f.kind ≡ k → CountsResized t.counts t'.counts (used_by (content_of t.handle e.body))
          (used_by (content_of t.handle e'.body))
      by AFile is = subst (λ k. CountsResized t.counts t'.counts (used_by (content_of t.handle (body_of k f.bytes)))
          (used_by (content_of t.handle e'.body))) (sym is)
          (subst (λ k. CountsResized t.counts t'.counts (length f.bytes)
          (used_by (content_of t.handle (body_of k f'.bytes)))) (sym (kind ∙ is)) resizes.counts)
      by Link is = subst (λ k. CountsResized t.counts t'.counts (used_by (content_of t.handle (body_of k f.bytes)))
          (used_by (content_of t.handle e'.body))) (sym is)
          (subst (λ k. CountsResized t.counts t'.counts (length f.bytes)
          (used_by (content_of t.handle (body_of k f'.bytes)))) (sym (kind ∙ is)) resizes.counts)
      by Dir is =
          let size : length f'.bytes ≡ length f.bytes = ap length (dir_bytes is) in
          let body : e'.body ≡ e.body = ap (λ k. body_of k f'.bytes) kind ∙ ap (body_of f.kind) (dir_bytes is) in
          let used_same : used_by (content_of t.handle e'.body) ≡ used_by (content_of t.handle e.body) =
          ap (λ b. used_by (content_of t.handle b)) body in
          let all = resizes.counts.used in
          record {
            inodes = resizes.counts.inodes;
            links = resizes.counts.links;
            subdirs = resizes.counts.subdirs;
            used = omega (arith, all, size, used_same);
          }

  counted_now : IsCounted t.handle n (table_of files') t'.counts
  counted_now = counted-changed t.handle n (table_of files) (table_of files') (apart n files t tied) apart_now i others e
      e' is is_now
      (alike (λ k b. names_in (content_of t.handle (body_of k b))) (λ a b. refl) (λ a b. refl))
      (λ q. alike (λ k b. names_to q (content_of t.handle (body_of k b))) (λ a b. refl) (λ a b. refl))
      dir_slots t.counts t'.counts tied.counted counts_are

  -- the node is another
  pub tree-changed : (g : Node → Node) → node_of t.handle i e' ≡ g (node_of t.handle i e) →
      the_tree n files' t' ≡ edited (the_tree n files t) (t.handle i) g
  tree-changed g change = ap (λ h. tree_of h n (table_of files')) resizes.handles
      ∙ tree-edited t.handle n (table_of files) (table_of files') (apart n files t tied) apart_now i others e e' g is
      is_now change

  kinds_now : (j : ℕ) → t'.kind j ≡ kind_at files' j
  kinds_now j = ap (λ f. f j) resizes.kinds ∙ (elim (one_or_not j i) as (λ _. t.kind j ≡ kind_at files' j) [
    | inl at ↦ ap t.kind at ∙ kind-file n files t tied i f was ∙ ap Some (sym kind)
        ∙ sym (ap (option_map (λ (f : File). f.kind)) (ap files' at ∙ here))
    | inr ne ↦ tied.kinds j ∙ sym (ap (option_map (λ (f : File). f.kind)) (same j ne))
  ])

  -- a directory's slots are what they were
  entry_was : (j : ℕ) (x : Entry) (xs : Slots) → table_of files' j ≡ Some x → x.body ≡ DirSlots xs →
      (y : Entry) × (table_of files j ≡ Some y) × (y.body ≡ DirSlots xs)
  entry_was j x xs at has = elim (one_or_not j i) as
      (λ _. (y : Entry) × (table_of files j ≡ Some y) × (y.body ≡ DirSlots xs)) [
        | inl same ↦ (
          e,
          ap (table_of files) same ∙ is,
          dir_slots xs (ap (λ (e : Entry). e.body) (some_same is_now (ap (table_of files') (sym same) ∙ at)) ∙ has),
        )
        | inr ne ↦ (x, sym (others j ne) ∙ at, has)
      ]

  pub tied-changed : IsTied n files' t'
  tied-changed = record {
    inodes = resizes.counts.inodes ∙ tied.inodes;
    apart = λ a b l m e. tied.apart a b l m (ap (λ h. h a) (sym resizes.handles) ∙ e ∙ ap (λ h. h b) resizes.handles);
    few = few_now;
    index = λ j x xs at has.
        let old = entry_was j x xs at has in
        subst (λ f. IsIndexOf f xs) (sym (ap (λ p. p j) resizes.places)) (tied.index j old.0 xs old.1 old.2);
    led = λ j x xs q p at has leads.
        let old = entry_was j x xs at has in
        still p.inode (tied.led j old.0 xs q p old.1 old.2 (ap (λ f. f j q) (sym resizes.places) ∙ leads));
    counted = subst (λ h. IsCounted h n (table_of files') t'.counts) (sym resizes.handles) counted_now;
    kinds = kinds_now;
    free = λ x l. (
      λ a. ap (λ f. f x) resizes.kinds ∙ (tied.free x l).0 (ap (λ f. f x) (sym resizes.free) ∙ a),
      λ a. ap (λ f. f x) resizes.free ∙ (tied.free x l).1 (ap (λ f. f x) (sym resizes.kinds) ∙ a),
    );
    filled = λ j x at to_dir. elim (one_or_not j i) as (λ _. length x.bytes % 288 ≡ 0) [
      | inl e ↦
          let is_x : f' ≡ x = some_same here (ap files' (sym e) ∙ at) in
          let is_dir : f.kind ≡ Dir = sym kind ∙ ap (λ (f : File). f.kind) is_x ∙ to_dir in
          ap (λ b. length b % 288) (ap (λ (f : File). f.bytes) (sym is_x) ∙ dir_bytes is_dir)
          ∙ tied.filled i f was is_dir
      | inr ne ↦ tied.filled j x (sym (same j ne) ∙ at) to_dir
    ];
    root = sym (kinds_now 0) ∙ ap (λ f. f 0) resizes.kinds ∙ tied.kinds 0 ∙ tied.root;
    top = resizes.counts.links 0 ∙ tied.top;
    parents = record {
      up = λ j to_dir linked.
          let kept = resizes.counts.links j in
          let old = tied.parents.up j (ap (λ f. f j) (sym resizes.kinds) ∙ to_dir) (omega (arith, kept, linked)) in
          let parent : t'.parent j ≡ t.parent j = ap (λ f. f j) resizes.parents in (
            ap (λ f. f (t'.parent j)) resizes.kinds ∙ ap t.kind parent ∙ old.0,
            old.1,
            old.2,
            ap (λ f. f (t'.parent j) old.1) resizes.places ∙ ap (λ d. t.place d old.1) parent ∙ old.3,
            old.4,
          );
      only = λ d q p in_dir leads to_dir. ap (λ f. f p.inode) resizes.parents
          ∙ tied.parents.only d q p (ap (λ f. f d) (sym resizes.kinds) ∙ in_dir)
          (ap (λ f. f d q) (sym resizes.places) ∙ leads) (ap (λ f. f p.inode) (sym resizes.kinds) ∙ to_dir);
      once = λ j to_dir.
          let kept = resizes.counts.links j in
          let most = tied.parents.once j (ap (λ f. f j) (sym resizes.kinds) ∙ to_dir) in
          omega (arith, kept, most);
    };
  }
