-- A node that goes, which has no names and to which no name leads.
use Rattle.std.proofs.Common.{inl, inr, ◌≡◌, ◌≢◌, ◌∙◌, ℕ, List, length, take, drop, Option, Some, None, IsSome, refl, sym, ap, subst, arith}
use Rattle.std.specs.Prelude.{option_map}
use Rattle.std.specs.FinMap.{empty, len}
use Rattle.nfs2_types.specs.declared.fattr.Kind.TheVariants.{Dir}
use Rattle.server_trait.specs.Tree.{Tree, Node, Names, NamesOf, node_at, names_in, kind_of, links, used, used_by, without_node}
use Rattle.server_trait.specs.declared.server.ServerLimits.{ServerLimits}
use Rattle.server_trait.proofs.OrderLaws.{same_trees}
use Rattle.server_trait.proofs.TreeLaws.{and_then_some, bytes_or_not, get-remove_same, get-remove_other, same_answers, some_none, used-without_node, target-node}
use Rattle.tree_laws.proofs.CountChanges.{len-remove_old, links-without_node, unlinked}
use Rattle.log_segments.specs.Newest.{find}
use Rattle.log_records.specs.Layout.{node_key, name_key, chunk_key, value_of, node_in, child_in}
use Rattle.log_tree.specs.Held.{Records, handle_of, root_id, bytes_of, names_of, id_of, tree_of}
use Rattle.log_tree.proofs.Views.{find-key}
use Rattle.log_tree.proofs.TreeLaws.{bytes_of-same, kept_node, node_of-same, root-tree}
use Rattle.log_store.specs.Store.{Drops, KeepsOthers}
use Rattle.log_store.proofs.StoreLaws.{name_at}
use Rattle.log_files.specs.Chunked.{IsChunked, KeepsButChunks}
use Rattle.log_held.specs.Sound.{kind_at, IsLeaf, ArePlaced, IsSound}
use Rattle.log_index.specs.Memory.{Memory, IsIndexed}
use Rattle.log_index.specs.Changes.{DropsNode}
use Rattle.log_index.proofs.NodeAdds.{names_to-bare}
use Rattle.log_index.proofs.NodeDrops.{node_dropped}
use Rattle.log_index.proofs.Ties.{dir_names}
use Rattle.log_changes.specs.Kept.{IsSoundBut}
use Rattle.std.proofs.lemmas.List.{take_all}
use Rattle.log_changes.proofs.PlainLaws.{chunked_same}
use Rattle.log_changes.proofs.ButLaws.{all_sound, kind_is, names_are, names_none}
use Rattle.log_changes.proofs.ChunkChanges.{chunk_stays, chunks_stay, form_stays, kind_stays, name_stays, node_stays}

module _ (limits : ServerLimits) (live mid new : Records) (id : List ℕ) (n : Node)
    (s : IsSoundBut (handle_of id) limits live) (eight : length id ≡ 8)
    (is : node_at (tree_of live) (handle_of id) ≡ Some n) (free : links (tree_of live) (handle_of id) ≡ 0)
    (bare : (m : Names) → n.content ≡ NamesOf m → m ≡ empty) (not_root : id ≢ root_id)
    (others : KeepsButChunks live id mid) (chunked : IsChunked mid id 0)
    (tree : tree_of new ≡ without_node (tree_of mid) (handle_of id)) (gone : Drops mid (node_key id) new)
    (rest : KeepsOthers mid (node_key id) new) where
  abbrev at : List ℕ
  at = handle_of id

  abbrev t : Tree
  t = tree_of live

  abbrev u : Tree
  u = without_node t at

  placed : ArePlaced live
  placed = s.placed

  -- THE TREE

  names_same : (q : List ℕ) → length q ≡ 8 → names_of mid q ≡ names_of live q
  names_same q long = same_answers (names_of mid q) (names_of live q) (λ name. name_at mid q name long
      ∙ (ap (option_map (λ r. handle_of (child_in (value_of r)))) (name_stays live mid id 0 placed eight others chunked q
      name) ∙ sym (name_at live q name long)))

  node_same : (q : List ℕ) → q ≢ at → node_at (tree_of mid) q ≡ node_at t q
  node_same q ne = kept_node live mid q
      (λ k back. ap (λ j. find j mid) back.key ∙ (node_stays live mid id 0 placed eight others chunked (take 8 q)
      ∙ sym (ap (λ j. find j live) back.key)))
      (λ k x back there.
      let own : id_of x ≡ take 8 q = ap (λ j. take 8 (drop 1 j)) (find-key k live x there ∙ back.key)
      ∙ take_all 8 (take 8 q) (let long = back.eight in omega arith) in
      let long : length (id_of x) ≡ 8 = ap length own ∙ back.eight in
      let apart : id_of x ≢ id = λ e. ne (back.handle ∙ ap handle_of (sym own ∙ e)) in
      node_of-same live mid x
      (bytes_of-same live mid (id_of x) (chunk_stays live mid id 0 placed eight others chunked (id_of x) long apart))
      (names_same (id_of x) long))

  pub tree_goes : tree_of new ≡ u
  tree_goes = tree ∙ same_trees (without_node (tree_of mid) at) u (root-tree mid ∙ sym (root-tree live)) (λ q.
      elim (bytes_or_not q at) [
        | inl e ↦ subst (λ p. node_at (without_node (tree_of mid) at) p ≡ node_at u p) (sym e)
            (get-remove_same (tree_of mid).nodes at ∙ sym (get-remove_same t.nodes at))
        | inr ne ↦ get-remove_other (tree_of mid).nodes at q ne ∙ (node_same q ne ∙ sym (get-remove_other t.nodes at q ne))
      ])

  -- RECORDS

  kind_other : (q : List ℕ) → q ≢ id → kind_at new q ≡ kind_at live q
  kind_other q ne = ap (option_map (λ r. (node_in (value_of r)).kind)) (rest (node_key q)
      (λ e. ne (let same : q ≡ id = cc in same))) ∙ kind_stays live mid id 0 placed eight others chunked q

  chunk_mid : (q : List ℕ) (p : ℕ) → find (chunk_key q p) new ≡ find (chunk_key q p) mid
  chunk_mid q p = rest (chunk_key q p) (λ e. cc)

  name_was : (dir name : List ℕ) → find (name_key dir name) new ≡ find (name_key dir name) live
  name_was dir name = rest (name_key dir name) (λ e. cc) ∙ name_stays live mid id 0 placed eight others chunked dir name

  -- the node had no name
  no_name : (name r : List ℕ) → find (name_key id name) live ≡ Some r → ⊥
  no_name name r there =
      let dir : kind_of n.content ≡ Dir = some_same (sym (kind_is live id n eight is)) (sym (placed.of_dir id name r eight there)) in
      let m = dir_names n.content dir in
      let none = sym (names_are live id n eight is m.0 m.1) ∙ bare m.0 m.1 in
      some_none there (names_none live id name eight none)
    where
      some_same : {A : Type 0} {x y : A} {o : Option A} → Some x ≡ o → Some y ≡ o → x ≡ y
      some_same {A} {x} {y} {o} e f = let g : Some x ≡ Some y = e ∙ sym f in cc

  goes_placed : ArePlaced new
  goes_placed = record {
    form = λ k r there. elim (bytes_or_not k (node_key id)) [
      | inl e ↦ absurd (some_none there (ap (λ j. find j new) e ∙ gone.none))
      | inr ne ↦ form_stays live mid id 0 placed eight others chunked k r (sym (rest k ne) ∙ there)
    ];
    of_dir = λ dir name r long there.
        let old = sym (name_was dir name) ∙ there in
        elim (bytes_or_not dir id) [
          | inl e ↦ absurd (no_name name r (ap (λ i. find (name_key i name) live) (sym e) ∙ old))
          | inr ne ↦ kind_other dir ne ∙ placed.of_dir dir name r long old
        ];
    of_leaf = λ q p r long low there. elim (bytes_or_not q id) [
      | inl e ↦ absurd (some_none (sym (chunk_mid id p) ∙ (ap (λ i. find (chunk_key i p) new) (sym e) ∙ there))
          (chunked.absent p (omega arith) (omega arith)))
      | inr ne ↦ subst IsLeaf (sym (kind_other q ne)) (placed.of_leaf q p r long low
          (sym (chunk_mid q p ∙ chunk_stays live mid id 0 placed eight others chunked q long ne p) ∙ there))
    ];
    chunks = λ q long. subst (IsChunked new q) (ap length (sym (bytes_of-same mid new q (chunk_mid q))))
        (chunked_same mid new q (length (bytes_of mid q)) (chunk_mid q)
        (chunks_stay live mid id 0 placed eight others chunked q long));
  }

  none_here : node_at u at ≡ None
  none_here = get-remove_same t.nodes at

  other : (q : List ℕ) → q ≢ at → node_at u q ≡ node_at t q
  other q ne = get-remove_other t.nodes at q ne

  here_no_more : (q : List ℕ) (k : Node) → node_at (tree_of new) q ≡ Some k → q ≢ at
  here_no_more q k there e = some_none there (ap (λ v. node_at v q) tree_goes ∙ (ap (node_at u) e ∙ none_here))

  was : (q : List ℕ) (k : Node) → node_at (tree_of new) q ≡ Some k → node_at t q ≡ Some k
  was q k there = sym (other q (here_no_more q k there)) ∙ (ap (λ v. node_at v q) (sym tree_goes) ∙ there)

  goes_but : IsSoundBut at limits new
  goes_but = record {
    placed = goes_placed;
    root = kind_other root_id (λ e. not_root (sym e)) ∙ s.root;
    one = λ q k m ne there has.
        let less = links-without_node t at n q is in
        let none = names_to-bare n.content q bare in
        let old = s.one q k m ne (was q k there) has in
        ap (λ v. links v q) tree_goes ∙ omega arith;
    leads = λ q k m name x there has to.
        let old = s.leads q k m name x (was q k there) has to in
        let apart : x ≢ at = λ e. unlinked t at q name free
        (target-node t q k m name (was q k there) has ∙ (to ∙ ap Some e)) in
        subst (λ o. IsSome o) (sym (ap (λ v. node_at v x) tree_goes ∙ other x apart)) old;
    few_nodes =
        let less = len-remove_old t.nodes at n is in
        let same : len (tree_of new).nodes ≡ len u.nodes = ap (λ (v : Tree). len v.nodes) tree_goes in
        let few = s.few_nodes in
        omega arith;
    few_bytes =
        let less = used-without_node t at n is in
        let same = ap used tree_goes in
        let few = s.few_bytes in
        omega arith;
  }

  pub goes_sound : IsSound limits new
  goes_sound = all_sound at limits new goes_but (λ m there.
      let k = and_then_some (λ (c : Node). names_in c.content) (node_at (tree_of new) at) m there in
      absurd (here_no_more at k.0 k.1 refl))

  pub goes_indexed : (x y : Memory) (bytes : ℕ) → IsIndexed t x → bytes ≡ used_by n.content → DropsNode x id bytes y
      → IsIndexed (tree_of new) y
  goes_indexed x y bytes h uses drops = subst (λ v. IsIndexed v y) (sym tree_goes)
      (node_dropped t x y id n bytes h eight is free bare uses drops)
