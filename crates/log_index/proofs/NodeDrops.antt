-- The memory of a tree from which a node goes that has no names and to which no name leads.
use Rattle.std.proofs.Common.{inl, inr, ◌≡◌, ◌≢◌, ◌∙◌, ℕ, List, length, Some, None, sym, ap, subst, arith}
use Rattle.std.specs.FinMap.{get, empty}
use Rattle.server_trait.specs.Tree.{Tree, Node, Names, NamesOf, node_at, names_in, target, links, subdirs, used_by, without_node}
use Rattle.server_trait.proofs.TreeLaws.{bytes_or_not, get-remove_same, get-remove_other, target_found, target-node, some_none, used-without_node}
use Rattle.server_trait.proofs.CountLaws.{subdirs-same}
use Rattle.tree_laws.proofs.CountChanges.{len-remove_old, links-without_node, unlinked}
use Rattle.log_tree.specs.Held.{handle_of}
use Rattle.log_index.specs.declared.info.NodeInfo.{NodeInfo}
use Rattle.log_index.specs.Memory.{Memory, Matches, IsIndexed}
use Rattle.log_index.specs.Changes.{DropsNode}
use Rattle.log_index.proofs.Ties.{handle_back, matches_by, matches_kept, links_kept, dir_by_node}
use Rattle.log_index.proofs.NodeAdds.{names_to-bare}

module _ (t : Tree) (x y : Memory) (id : List ℕ) (n : Node) (bytes : ℕ) (h : IsIndexed t x) (long : length id ≡ 8)
    (is : node_at t (handle_of id) ≡ Some n) (free : links t (handle_of id) ≡ 0)
    (none : (m : Names) → n.content ≡ NamesOf m → m ≡ empty) (uses : bytes ≡ used_by n.content)
    (drops : DropsNode x id bytes y) where
  abbrev at : List ℕ
  at = handle_of id

  abbrev u : Tree
  u = without_node t at

  here : node_at u at ≡ None
  here = get-remove_same t.nodes at

  other : (q : List ℕ) → q ≢ at → node_at u q ≡ node_at t q
  other q ne = get-remove_other t.nodes at q ne

  kept_here : get y.nodes id ≡ None
  kept_here = ap (λ m. get m id) drops.nodes ∙ get-remove_same x.nodes id

  kept_other : (q : List ℕ) → q ≢ id → get y.nodes q ≡ get x.nodes q
  kept_other q ne = ap (λ m. get m q) drops.nodes ∙ get-remove_other x.nodes id q ne

  links_stay : (q : List ℕ) → links u q ≡ links t q
  links_stay q =
      let all = links-without_node t at n q is in
      let bare = names_to-bare n.content q none in
      omega (arith, all, bare)

  subdirs_stay : (q : List ℕ) (k : Node) (m : Names) → node_at t q ≡ Some k → k.content ≡ NamesOf m
      → subdirs u m ≡ subdirs t m
  subdirs_stay q k m there has = subdirs-same u t m (λ name to leads. dir_by_node t u to (other to (λ e.
      unlinked t at q name free (target-node t q k m name there (ap names_in has) ∙ (leads ∙ ap Some e)))))

  old_target : (dir name q : List ℕ) → target u dir name ≡ Some q → target t dir name ≡ Some q
  old_target dir name q leads =
      let f = target_found u dir name q leads in
      elim (bytes_or_not dir at) [
        | inl e ↦ absurd (some_none f.is_node (ap (node_at u) e ∙ here))
        | inr ne ↦ target-node t dir f.node f.names name (sym (other dir ne) ∙ f.is_node) f.is_dir ∙ f.leads
      ]

  gone : (q : List ℕ) (j : NodeInfo) → get y.nodes q ≡ Some j → q ≢ id
  gone q j there e = some_none there (ap (λ p. get y.nodes p) e ∙ kept_here)

  pub node_dropped : IsIndexed u y
  node_dropped = record {
    nodes = λ q eight. elim (bytes_or_not q id) [
      | inl e ↦ subst (λ p. Matches u (handle_of p) (node_at u (handle_of p)) (get y.nodes p)) (sym e)
          (matches_by u at (node_at u at) None (get y.nodes id) None here kept_here tt)
      | inr ne ↦
          let far : handle_of q ≢ at = λ e. ne (handle_back q id eight long e) in
          matches_by u (handle_of q) (node_at u (handle_of q)) (node_at t (handle_of q)) (get y.nodes q) (get x.nodes q)
          (other (handle_of q) far) (kept_other q ne)
          (matches_kept t u (handle_of q) (node_at t (handle_of q)) (get x.nodes q) (h.nodes q eight) (λ k there.
          links_kept t u (handle_of q) k.content (links_stay (handle_of q)) (λ m has.
          subdirs_stay (handle_of q) k m there has)))
    ];
    ids = λ q j there. h.ids q j (sym (kept_other q (gone q j there)) ∙ there);
    below = λ q j there.
        let low = h.below q j (sym (kept_other q (gone q j there)) ∙ there) in
        omega (arith, low, drops.next);
    parents = λ q j dir name there kind eight leads.
        h.parents q j dir name (sym (kept_other q (gone q j there)) ∙ there) kind eight
        (old_target (handle_of dir) name (handle_of q) leads);
    count_is =
        let less = len-remove_old t.nodes at n is in
        let was = h.count_is in
        omega (arith, drops.count, less, was);
    used_is =
        let less = used-without_node t at n is in
        let was = h.used_is in
        omega (arith, drops.used, less, was, uses);
  }
