-- A free inode is taken, under another handle.
use Rattle.std.proofs.Common.{inl, inr, ◌≡◌, ◌≢◌, ◌⊎◌, ◌↔◌, ℕ, ◌/◌, ◌%◌, ◌<◌, ◌≤◌, arith, true, false, List, [], length, Option, Some, None, IsSome, refl, sym, ap, ◌∙◌, subst}
use Rattle.std.specs.Option.{option_map}
use Rattle.std.specs.Cmp.Lexicographic.{nat_list_cmp_total}
use Rattle.std.specs.FinMap.{get, len}
use Rattle.nfs2_types.specs.declared.fattr.Kind.{Kind}
use Rattle.nfs2_types.specs.declared.fattr.Kind.TheVariants.{File as AFile, Dir, Link}
use Rattle.std.specs.Prelude.{bytes_eq}
use Rattle.server_trait.specs.Tree.{Tree, node_at, names_to, one_if, links, subdirs, used, used_by, is_dir_at, with_node}
use Rattle.server_trait.proofs.TreeLaws.{one_or_not, some_none, some_same, same_answers}
use Rattle.server_trait.proofs.SumLaws.{total-none, total-ones}
use Rattle.inode_dirs.specs.Slots.{Slots, IsIndexOf, names_of}
use Rattle.inode_dirs.specs.SlotBytes.{slots_in, pieces}
use Rattle.inode_dirs.specs.Table.{Body, FileBytes, LinkText, DirSlots, Entry, Table, content_of, node_of, tree_of, AreApart}
use Rattle.inode_dirs.specs.Files.{File, body_of, entry_of, table_of}
use Rattle.inode_dirs.specs.declared.index.Place.{Place}
use Rattle.inode_dirs.proofs.SlotLaws.{names-indexed, index-none}
use Rattle.inode_dirs.proofs.TableLaws.{IsSameBut, node-none, tree-made}
use Rattle.inode_dirs.proofs.FileLaws.{others-same}
use Rattle.inode_dirs.proofs.HandleLaws.{IsIndexed, tree-handles}
use Rattle.inode_counts.specs.Counts.{Counts}
use Rattle.inode_counts.specs.Changes.{CountsNew}
use Rattle.inode_counts.specs.Counted.{IsCounted, AreLed}
use Rattle.inode_counts.proofs.NodeCounts.{counted-made}
use Rattle.inode_tree.specs.Tables.{Tables, AreParents}
use Rattle.inode_tree.specs.Changes.{Takes}
use Rattle.inode_tree.specs.Sound.{IsTied, kind_at, the_tree}
use Rattle.inode_tree.proofs.TiedLaws.{no_some, entry_some, dir_body, are_apart, are_led, indexed, apart, file-kind}

-- NO NAMES

bare_names : (handle : ℕ → List ℕ) (q : List ℕ) → get (names_of handle []) q ≡ None
bare_names handle q = names-indexed handle (λ _. None) [] index-none q

-- a new node has no names
pub bare_slots : (kind : Kind) (bytes : List ℕ) → (kind ≡ Dir → bytes ≡ []) → (ss : Slots) →
    body_of kind bytes ≡ DirSlots ss → ss ≡ []
unfolding pieces
bare_slots kind bytes bare ss is =
    let d = dir_body kind bytes ss is in
    sym d.1 ∙ ap (λ b. slots_in (length b / 288) b) (bare d.0)

pub bare_to : (handle : ℕ → List ℕ) (b : Body) → ((ss : Slots) → b ≡ DirSlots ss → ss ≡ []) → (q : List ℕ) →
    names_to q (content_of handle b) ≡ 0
bare_to handle (FileBytes b) bare q = refl
bare_to handle (LinkText b) bare q = refl
bare_to handle (DirSlots ss) bare q = total-none nat_list_cmp_total (λ x. one_if (bytes_eq x q)) (names_of handle ss)
    (λ name h leads. absurd (some_none leads (ap (λ ss. get (names_of handle ss) name) (bare ss refl)
    ∙ bare_names handle name)))

pub bare_dirs : (handle : ℕ → List ℕ) (t : Tree) (ss : Slots) → ss ≡ [] → subdirs t (names_of handle ss) ≡ 0
unfolding subdirs
bare_dirs handle t ss bare = total-none nat_list_cmp_total (λ x. one_if (is_dir_at t x)) (names_of handle ss)
    (λ name h leads. absurd (some_none leads (ap (λ ss. get (names_of handle ss) name) bare ∙ bare_names handle name)))

no_names : (handle : ℕ → List ℕ) (ss : Slots) → ss ≡ [] → len (names_of handle ss) ≡ 0
no_names handle ss bare = sym (total-ones (names_of handle ss))
    ∙ total-none nat_list_cmp_total (λ _. 1) (names_of handle ss)
    (λ name h leads. absurd (some_none leads (ap (λ ss. get (names_of handle ss) name) bare ∙ bare_names handle name)))

-- it uses its bytes
pub bare_used : (handle : ℕ → List ℕ) (kind : Kind) (bytes : List ℕ) → (kind ≡ Dir → bytes ≡ []) →
    used_by (content_of handle (body_of kind bytes)) ≡ length bytes
bare_used handle AFile bytes bare = refl
bare_used handle Link bytes bare = refl
bare_used handle Dir bytes bare =
    let none = no_names handle (slots_in (length bytes / 288) bytes) (bare_slots Dir bytes bare
    (slots_in (length bytes / 288) bytes) refl) in
    let empty : length bytes ≡ 0 = ap length (bare refl) in
    omega (arith, none, empty)

-- OTHER HANDLES

module _ (handle handle' : ℕ → List ℕ) (n : ℕ) (t : Table) (apart : AreApart handle n t) (apart' : AreApart handle' n t)
    (f : ℕ → List ℕ → Option Place) (indexed : IsIndexed t f) (same : (i : ℕ) → IsSome (t i) → handle' i ≡ handle i)
    (root : handle' 0 ≡ handle 0) where
  pub moved : tree_of handle' n t ≡ tree_of handle n t
  moved = tree-handles handle handle' n t apart apart' f indexed same root

  names-moved : (i : ℕ) (e : Entry) (ss : Slots) → t i ≡ Some e → e.body ≡ DirSlots ss →
      names_of handle' ss ≡ names_of handle ss
  names-moved i e ss is has = same_answers (names_of handle' ss) (names_of handle ss) (λ q.
      names-indexed handle' (f i) ss (indexed.index i e ss is has) q ∙ by q (f i q) refl
      ∙ sym (names-indexed handle (f i) ss (indexed.index i e ss is has) q))
    where
      by : (q : List ℕ) (o : Option Place) → f i q ≡ o → option_map (λ (p : Place). handle' p.inode) o ≡ option_map
          (λ (p : Place). handle p.inode) o
      by q None at = refl
      by q (Some p) at = ap Some (same p.inode (indexed.led i e ss q p is has at))

  -- the counts are those of the same tree
  pub counted-moved : (c : Counts) → IsCounted handle n t c → IsCounted handle' n t c
  counted-moved c counted = record {
    links_are = λ i some. counted.links_are i some ∙ ap (links (tree_of handle n t)) (sym (same i some))
        ∙ ap (λ t. links t (handle' i)) (sym moved);
    subdirs_are = λ i e ss is has. counted.subdirs_are i e ss is has
        ∙ ap (subdirs (tree_of handle n t)) (sym (names-moved i e ss is has))
        ∙ ap (λ t. subdirs t (names_of handle' ss)) (sym moved);
    used_is = counted.used_is ∙ ap used (sym moved);
  }

-- AN INODE IS TAKEN

module _ (n : ℕ) (files files' : ℕ → Option File) (t t' : Tables) (tied : IsTied n files t) (i : ℕ) (l : i < n)
    (free : files i ≡ None) (same : (j : ℕ) → j ≢ i → files' j ≡ files j) (f : File) (here : files' i ≡ Some f)
    (bare : f.kind ≡ Dir → f.bytes ≡ []) (takes : Takes t t' i f.kind (length f.bytes))
    (apart' : (i j : ℕ) → i < n → j < n → t'.handle i ≡ t'.handle j → i ≡ j) where
  few' : (j : ℕ) → IsSome (files' j) → j < n
  few' j some = elim (one_or_not j i) as (λ _. j < n) [
    | inl at ↦ omega (arith, at, l)
    | inr ne ↦ tied.few j (subst (λ o. IsSome o) (same j ne) some)
  ]

  not_i : (j : ℕ) → IsSome (files j) → j ≢ i
  not_i j some at = no_some File (subst (λ o. IsSome o) (ap files at ∙ free) some)

  abbrev e : Entry
  e = entry_of f

  is : table_of files' i ≡ Some e
  is = ap (option_map entry_of) here

  none : table_of files i ≡ None
  none = ap (option_map entry_of) free

  others : IsSameBut (table_of files) (table_of files') i
  others = others-same files files' i same

  -- under the new handles
  apart_old : AreApart t'.handle n (table_of files)
  apart_old = are_apart n files t'.handle apart' tied.few

  apart_new : AreApart t'.handle n (table_of files')
  apart_new = are_apart n files' t'.handle apart' few'

  same_handle : (j : ℕ) → IsSome (table_of files j) → t'.handle j ≡ t.handle j
  same_handle j some = takes.handles j (not_i j (entry_some files j some))

  root_some : IsSome (files 0)
  root_some = by (files 0) tied.root
    where
      by : (o : Option File) → option_map (λ (f : File). f.kind) o ≡ Some Dir → IsSome o
      by None bad = absurd (some_none bad refl)
      by (Some f) h = refl

  is_moved : tree_of t'.handle n (table_of files) ≡ tree_of t.handle n (table_of files)
  is_moved = moved t.handle t'.handle n (table_of files) (apart n files t tied) apart_old t.place (indexed n files t tied)
      same_handle (takes.handles 0 (not_i 0 root_some))

  counted_old : IsCounted t'.handle n (table_of files) t.counts
  counted_old = counted-moved t.handle t'.handle n (table_of files) (apart n files t tied) apart_old t.place
      (indexed n files t tied) same_handle (takes.handles 0 (not_i 0 root_some)) t.counts tied.counted

  led_old : AreLed t'.handle (table_of files)
  led_old = are_led t'.handle (table_of files) t.place (indexed n files t tied)

  bare_body : (ss : Slots) → e.body ≡ DirSlots ss → ss ≡ []
  bare_body ss has = bare_slots f.kind f.bytes bare ss has

  -- the tree has one node more
  pub tree-taken : the_tree n files' t' ≡ with_node (the_tree n files t) (t'.handle i) (node_of t'.handle i e)
  tree-taken = tree-made t'.handle n (table_of files) (table_of files') apart_old apart_new i others e is
      ∙ ap (λ t. with_node t (t'.handle i) (node_of t'.handle i e)) is_moved

  -- its handle was no node's
  pub new-taken : node_at (the_tree n files t) (t'.handle i) ≡ None
  new-taken = ap (λ t. node_at t (t'.handle i)) (sym is_moved)
      ∙ node-none t'.handle n (table_of files) apart_old (t'.handle i)
      (λ j some at. not_i j (entry_some files j some) (apart' j i (tied.few j (entry_some files j some)) l at))

  counted_new : IsCounted t'.handle n (table_of files') t'.counts
  counted_new = counted-made t'.handle n (table_of files) (table_of files') apart_old apart_new led_old i others e none
      is (bare_to t'.handle e.body bare_body) (λ tree ss has. bare_dirs t'.handle tree ss (bare_body ss has))
      t.counts t'.counts counted_old
      (subst (λ b. CountsNew t.counts t'.counts i b) (sym (bare_used t'.handle f.kind f.bytes bare)) takes.counts)

  still : (j : ℕ) → IsSome (table_of files j) → IsSome (table_of files' j)
  still j some = subst (λ o. IsSome o) (sym (others j (not_i j (entry_some files j some)))) some

  index_new : (j : ℕ) (x : Entry) (ss : Slots) → table_of files' j ≡ Some x → x.body ≡ DirSlots ss →
      IsIndexOf (t'.place j) ss
  index_new j x ss at has = elim (one_or_not j i) as (λ _. IsIndexOf (t'.place j) ss) [
    | inl same ↦
        let no_slots : ss ≡ [] = bare_body ss (ap (λ (e : Entry). e.body)
        (some_same is (ap (table_of files') (sym same) ∙ at)) ∙ has) in
        subst (λ ss. IsIndexOf (t'.place j) ss) (sym no_slots) (λ q p. (
          λ a. absurd (some_none a (ap (λ j. t'.place j q) same ∙ takes.bare q)),
          λ a. absurd (some_none a refl),
        ))
    | inr ne ↦ subst (λ f. IsIndexOf f ss) (sym (takes.places j ne)) (tied.index j x ss (sym (others j ne) ∙ at) has)
  ]

  led_new : (j : ℕ) (x : Entry) (ss : Slots) (q : List ℕ) (p : Place) → table_of files' j ≡ Some x →
      x.body ≡ DirSlots ss → t'.place j q ≡ Some p → IsSome (table_of files' p.inode)
  led_new j x ss q p at has leads = elim (one_or_not j i) as (λ _. IsSome (table_of files' p.inode)) [
    | inl same ↦ absurd (some_none leads (ap (λ j. t'.place j q) same ∙ takes.bare q))
    | inr ne ↦ still p.inode (tied.led j x ss q p (sym (others j ne) ∙ at) has
        (ap (λ f. f q) (sym (takes.places j ne)) ∙ leads))
  ]

  kinds_new : (j : ℕ) → t'.kind j ≡ kind_at files' j
  kinds_new j = elim (one_or_not j i) as (λ _. t'.kind j ≡ kind_at files' j) [
    | inl at ↦ ap t'.kind at ∙ takes.kind_here ∙ sym (ap (option_map (λ (f : File). f.kind)) (ap files' at ∙ here))
    | inr ne ↦ takes.kinds j ne ∙ tied.kinds j ∙ sym (ap (option_map (λ (f : File). f.kind)) (same j ne))
  ]

  free_new : (j : ℕ) → j < n → (t'.is_free j ≡ true) ↔ (t'.kind j ≡ None)
  free_new j within = elim (one_or_not j i) as (λ _. (t'.is_free j ≡ true) ↔ (t'.kind j ≡ None)) [
    | inl at ↦ (
      λ a. absurd (let bad : true ≡ false = sym a ∙ ap t'.is_free at ∙ takes.free_here in cc),
      λ a. absurd (some_none (ap t'.kind at ∙ takes.kind_here) a),
    )
    | inr ne ↦ (
      λ a. takes.kinds j ne ∙ (tied.free j within).0 (sym (takes.free j ne) ∙ a),
      λ a. takes.free j ne ∙ (tied.free j within).1 (sym (takes.kinds j ne) ∙ a),
    )
  ]

  filled_new : (j : ℕ) (x : File) → files' j ≡ Some x → x.kind ≡ Dir → length x.bytes % 288 ≡ 0
  filled_new j x at is_dir = elim (one_or_not j i) as (λ _. length x.bytes % 288 ≡ 0) [
    | inl same ↦
        let is_f : f ≡ x = some_same here (ap files' (sym same) ∙ at) in
        let empty : x.bytes ≡ [] = ap (λ (f : File). f.bytes) (sym is_f)
        ∙ bare (ap (λ (f : File). f.kind) is_f ∙ is_dir) in
        ap (λ b. length b % 288) empty
    | inr ne ↦ tied.filled j x (sym (same j ne) ∙ at) is_dir
  ]

  -- no place leads to the inode, which was free
  unled : (k : ℕ) (q : List ℕ) (p : Place) → t.kind k ≡ Some Dir → t.place k q ≡ Some p → p.inode ≢ i
  unled k q p is_dir leads at =
      let d = file-kind n files t tied k Dir is_dir in
      let some = tied.led k (entry_of d.0) (slots_in (length d.0.bytes / 288) d.0.bytes) q p
      (ap (option_map entry_of) d.1) (ap (λ k. body_of k d.0.bytes) d.2) leads in
      not_i p.inode (entry_some files p.inode some) at

  parents_new : AreParents t'
  parents_new = record {
    up = λ j is_dir linked. up_new j is_dir linked (one_or_not j i);
    only = λ k q p is_dir leads to_dir. only_new k q p is_dir leads to_dir (one_or_not k i);
    once = λ j is_dir. once_new j is_dir (one_or_not j i);
  }
    where
      kind_i : t.kind i ≡ None
      kind_i = tied.kinds i ∙ ap (option_map (λ (f : File). f.kind)) free

      up_new : (j : ℕ) → t'.kind j ≡ Some Dir → 1 ≤ t'.counts.links j → (j ≡ i) ⊎ (j ≢ i) →
          (t'.kind (t'.parent j) ≡ Some Dir) ×
          (q : List ℕ) × (p : Place) × (t'.place (t'.parent j) q ≡ Some p) × (p.inode ≡ j)
      up_new j is_dir linked (inl at) = absurd
          (let none : t'.counts.links j ≡ 0 = ap t'.counts.links at ∙ takes.counts.links_here in omega (arith, none, linked))
      up_new j is_dir linked (inr ne) =
          let kept = takes.counts.links_other j ne in
          let old = tied.parents.up j (sym (takes.kinds j ne) ∙ is_dir) (omega (arith, kept, linked)) in
          let same_parent : t'.parent j ≡ t.parent j = ap (λ f. f j) takes.parents in
          let apart_i : t'.parent j ≢ i = λ at. some_none old.0 (ap t.kind (sym same_parent ∙ at) ∙ kind_i) in (
            takes.kinds (t'.parent j) apart_i ∙ ap t.kind same_parent ∙ old.0,
            old.1,
            old.2,
            ap (λ f. f old.1) (takes.places (t'.parent j) apart_i) ∙ ap (λ k. t.place k old.1) same_parent ∙ old.3,
            old.4,
          )

      only_new : (k : ℕ) (q : List ℕ) (p : Place) → t'.kind k ≡ Some Dir → t'.place k q ≡ Some p →
          t'.kind p.inode ≡ Some Dir → (k ≡ i) ⊎ (k ≢ i) → t'.parent p.inode ≡ k
      only_new k q p is_dir leads to_dir (inl at) = absurd
          (some_none leads (ap (λ j. t'.place j q) at ∙ takes.bare q))
      only_new k q p is_dir leads to_dir (inr ne) =
          let was_dir = sym (takes.kinds k ne) ∙ is_dir in
          let led_old = ap (λ f. f q) (sym (takes.places k ne)) ∙ leads in
          let apart_i = unled k q p was_dir led_old in
          ap (λ f. f p.inode) takes.parents
          ∙ tied.parents.only k q p was_dir led_old (sym (takes.kinds p.inode apart_i) ∙ to_dir)

      once_new : (j : ℕ) → t'.kind j ≡ Some Dir → (j ≡ i) ⊎ (j ≢ i) → t'.counts.links j ≤ 1
      once_new j is_dir (inl at) =
          let none : t'.counts.links j ≡ 0 = ap t'.counts.links at ∙ takes.counts.links_here in omega (arith, none)
      once_new j is_dir (inr ne) =
          let kept = takes.counts.links_other j ne in
          let most = tied.parents.once j (sym (takes.kinds j ne) ∙ is_dir) in
          omega (arith, kept, most)

  pub tied-taken : IsTied n files' t'
  tied-taken = record {
    inodes = takes.counts.inodes ∙ tied.inodes;
    apart = apart';
    few = few';
    index = index_new;
    led = led_new;
    counted = counted_new;
    kinds = kinds_new;
    free = free_new;
    filled = filled_new;
    root = ap (option_map (λ (f : File). f.kind)) (same 0 (λ at. not_i 0 root_some (at))) ∙ tied.root;
    top = takes.counts.links_other 0 (λ at. not_i 0 root_some (at)) ∙ tied.top;
    parents = parents_new;
  }
