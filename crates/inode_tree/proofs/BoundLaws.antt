-- What is counted is within the bytes in use.
use Rattle.std.proofs.Common.{◌≡◌, ℕ, ◌*◌, ◌/◌, ◌≤◌, arith, Bool, true, false, List, [], ◌∷◌, length, Option, Some, IsSome, refl, ap, ◌∙◌, subst}
use Rattle.std.specs.Prelude.{bytes_eq}
use Rattle.std.specs.Option.{option_map}
use Rattle.std.specs.FinMap.{entries, len, len-entries}
use Rattle.nfs2_types.specs.declared.fattr.Kind.{Kind}
use Rattle.nfs2_types.specs.declared.fattr.Kind.TheVariants.{Dir}
use Rattle.server_trait.specs.Sums.{sum_values, total}
use Rattle.server_trait.specs.Tree.{Tree, Node, Names, Content, BytesOf, TextOf, NamesOf, one_if, is_dir_at, links, names_to, used, used_by, node_at}
use Rattle.server_trait.proofs.TreeLaws.{share}
use Rattle.server_trait.proofs.CountLaws.{subdirs-most}
use Rattle.tree_laws.proofs.CountChanges.{subdirs-remove}
use Rattle.inode_dirs.specs.Slots.{names_of}
use Rattle.inode_dirs.specs.SlotBytes.{slots_in}
use Rattle.inode_dirs.specs.Table.{content_of, node_of}
use Rattle.inode_dirs.specs.Files.{File, body_of, entry_of}
use Rattle.inode_dirs.specs.declared.index.Place.{Place}
use Rattle.inode_dirs.proofs.SlotLaws.{names-indexed}
use Rattle.inode_tree.specs.Tables.{Tables, is_dir_kind}
use Rattle.inode_tree.specs.Sound.{IsTied, the_tree}
use Rattle.inode_tree.proofs.TiedLaws.{some_entry, node-file, index-dir, dir-kind}
use Rattle.inode_tree.proofs.SizeLaws.{names-dir, bytes-most}

-- ONE WEIGHT IS MUCH LESS THAN ANOTHER

sum_less : {K X : Type 0} (w : ℕ) (f g : X → ℕ) → ((x : X) → w * f x ≤ g x) → (es : List (K × X)) →
    w * sum_values f es ≤ sum_values g es
sum_less w f g less [] = omega arith
sum_less w f g less (e ∷ es) =
    let rest = sum_less w f g less es in
    let here = less e.1 in
    omega (arith, rest, here)

one_most : (b : Bool) → 1 * one_if b ≤ 1
one_most true = omega arith
one_most false = omega arith

sum_size : {K X : Type 0} (es : List (K × X)) → sum_values (λ _. 1) es ≡ length es
sum_size [] = refl
sum_size (e ∷ es) = let rest = sum_size es in omega (arith, rest)

names_most : (h : List ℕ) (m : Names) → total (λ x. one_if (bytes_eq x h)) m ≤ len m
unfolding total
names_most h m =
    let less = sum_less 1 (λ (x : List ℕ). one_if (bytes_eq x h)) (λ _. 1) (λ x. one_most (bytes_eq x h)) (entries m) in
    let size = sum_size (entries m) in
    let all = len-entries m in
    omega (arith, less, size, all)

names_less : (h : List ℕ) (c : Content) → 512 * names_to h c ≤ used_by c
names_less h (BytesOf b) = omega arith
names_less h (TextOf x) = omega arith
names_less h (NamesOf m) = let most = names_most h m in omega (arith, most)

-- each name that leads to a node takes 512 bytes
links-most : (t : Tree) (h : List ℕ) → 512 * links t h ≤ used t
unfolding links used total
links-most t h = sum_less 512 (λ (n : Node). names_to h n.content) (λ (n : Node). used_by n.content)
    (λ n. names_less h n.content) (entries t.nodes)

used-share : (t : Tree) (h : List ℕ) (n : Node) → node_at t h ≡ Some n → used_by n.content ≤ used t
unfolding used
used-share t h n is = share (λ (n : Node). used_by n.content) t.nodes h n is

module _ (n : ℕ) (files : ℕ → Option File) (t : Tables) (tied : IsTied n files t) where
  node-used : (i : ℕ) (x : File) → files i ≡ Some x →
      used_by (content_of t.handle (body_of x.kind x.bytes)) ≤ t.counts.used
  node-used i x is =
      let all = tied.counted.used_is in
      let one = used-share (the_tree n files t) (t.handle i) (node_of t.handle i (entry_of x))
      (node-file n files t tied i x is) in
      omega (arith, all, one)

  pub file-used : (i : ℕ) (x : File) → files i ≡ Some x → length x.bytes ≤ t.counts.used
  file-used i x is =
      let a = node-used i x is in
      let b = bytes-most n files t tied i x is in
      omega (arith, a, b)

  pub few-slots : (i : ℕ) (x : File) → files i ≡ Some x → x.kind ≡ Dir → 512 * (length x.bytes / 288) ≤ t.counts.used
  few-slots i x is is_dir =
      let names = names-dir n files t tied i x is is_dir in
      let all : used_by (content_of t.handle (body_of Dir x.bytes)) ≤ t.counts.used =
      subst (λ k. used_by (content_of t.handle (body_of k x.bytes)) ≤ t.counts.used) is_dir (node-used i x is) in
      omega (arith, names, all)

  pub few-links : (j : ℕ) → IsSome (files j) → 512 * t.counts.links j ≤ t.counts.used
  few-links j some =
      let here = tied.counted.links_are j (some_entry files j some) in
      let most = links-most (the_tree n files t) (t.handle j) in
      let all = tied.counted.used_is in
      omega (arith, here, most, all)

  pub few-subdirs : (i : ℕ) (x : File) → files i ≡ Some x → x.kind ≡ Dir → 512 * t.counts.subdirs i ≤ t.counts.used
  few-subdirs i x is is_dir =
      let here = tied.counted.subdirs_are i (entry_of x) (slots_in (length x.bytes / 288) x.bytes)
      (ap (option_map entry_of) is) (ap (λ k. body_of k x.bytes) is_dir) in
      let most = subdirs-most (the_tree n files t) (names_of t.handle (slots_in (length x.bytes / 288) x.bytes)) in
      let names = names-dir n files t tied i x is is_dir in
      let all = few-slots i x is is_dir in
      omega (arith, here, most, names, all)

  -- a name that leads to a directory is counted
  pub some-subdirs : (i : ℕ) (x : File) → files i ≡ Some x → x.kind ≡ Dir → (q : List ℕ) (p : Place) →
      t.place i q ≡ Some p → (k : Kind) → t.kind p.inode ≡ Some k → one_if (is_dir_kind k) ≤ t.counts.subdirs i
  some-subdirs i x is is_dir q p leads k kind =
      let here = tied.counted.subdirs_are i (entry_of x) (slots_in (length x.bytes / 288) x.bytes)
      (ap (option_map entry_of) is) (ap (λ k. body_of k x.bytes) is_dir) in
      let to = names-indexed t.handle (t.place i) (slots_in (length x.bytes / 288) x.bytes)
      (index-dir n files t tied i x is is_dir) q ∙ ap (option_map (λ (p : Place). t.handle p.inode)) leads in
      let less = subdirs-remove (the_tree n files t) (names_of t.handle (slots_in (length x.bytes / 288) x.bytes)) q
      (t.handle p.inode) to in
      let one : one_if (is_dir_at (the_tree n files t) (t.handle p.inode)) ≡ one_if (is_dir_kind k) =
      ap one_if (dir-kind n files t tied p.inode k kind) in
      omega (arith, here, less, one)
