-- A server that starts afresh, and one whose node has other attributes.
use Rattle.std.proofs.Common.{inl, inr, ◌≡◌, ◌↔◌, ℕ, ◌+◌, ◌≤◌, Bool, cond, List, [], length, take, Some, None, IsSome, IsSomeAnd, is_some, Ok, refl, sym, ap, ◌∙◌, subst, arith}
use Rattle.std.specs.Option.{option_map}
use Rattle.std.specs.Ordering.{nat_cmp}
use Rattle.std.specs.Cmp.Lexicographic.{slice_cmp, nat_list_cmp_total}
use Rattle.std.specs.FinMap.{get, insert, len, empty, same_map, get-empty, len-insert, len-empty}
use Rattle.nfs2_types.specs.declared.fattr.Kind.TheVariants.{Dir}
use Rattle.server_trait.specs.Tree.{Tree, Node, ByBytes, NamesOf, node_at, used, used_by, links, new_node, edited, with_node, with_attr}
use Rattle.server_trait.specs.Step.{OnlySoft}
use Rattle.server_trait.specs.Calls.{IsFresh, SetAttr, NodeErr}
use Rattle.server_trait.specs.declared.server.ServerLimits.{ServerLimits}
use Rattle.server_trait.proofs.CountLaws.{links-edited, links-with_node, subdirs-most}
use Rattle.server_trait.proofs.TreeLaws.{some_none, is_some_and, bytes_or_not, get-insert_same, get-insert_other, edited-some, used-edited, used-with_node, links-none, target_found}
use Rattle.server_trait.proofs.SumLaws.{total-none}
use Rattle.server_trait.proofs.SoftLaws.{node_soft}
use Rattle.path_server.specs.Bytes.{Contents}
use Rattle.path_server.specs.Kept.{Kept, kept_as, full_node, nodes_of, the_tree, tree_of}
use Rattle.path_server.specs.Nodes.{made_node, set_node}
use Rattle.path_store.specs.Stored.{Paths, Stored, names_of, only_root}
use Rattle.path_store.specs.Tables.{place_of}
use Rattle.path_server.specs.Serials.{serial_bytes}
use Rattle.path_server.specs.Sound.{IsSound, IsSerial, IsStored, IsCounted}
use Rattle.path_server.specs.declared.node.PathNode.{PathNode}
use Rattle.path_store.proofs.Rows.{bytes_exact}
use Rattle.path_server.proofs.ContentLaws.{names_to-new}
use Rattle.path_server.proofs.CountedLaws.{counted_same}
use Rattle.path_store.proofs.NameLaws.{names_of-none}
use Rattle.path_server.proofs.NamedLaws.{IsDirNode, is_some_none, is_and_none, dir_same}
use Rattle.path_server.proofs.NodeLaws.{get-nodes_of, node_at-kept, node_here, kind_at}
use Rattle.path_server.proofs.StoredLaws.{stored_put}
use Rattle.path_server.proofs.Serials.{length-serial_bytes}
use Rattle.path_server.proofs.CallLaws.{held_tree}

-- the nodes after one is put in
pub nodes_put : (nodes : ByBytes PathNode) (contents : Contents) (paths : Paths) (h : List ℕ) (p : PathNode) →
    nodes_of (insert nodes h p) contents paths ≡ insert (nodes_of nodes contents paths) h (full_node contents paths h
    p)
nodes_put nodes contents paths h p = same_map nat_list_cmp_total bytes_exact _ _ (λ q. elim (bytes_or_not q h) as (λ
    _. get (nodes_of (insert nodes h p) contents paths) q ≡ get (insert (nodes_of nodes contents paths) h (full_node
    contents paths h p)) q) [
      | inl same ↦ subst (λ k. get (nodes_of (insert nodes h p) contents paths) k ≡ get (insert (nodes_of nodes contents
          paths) h (full_node contents paths h p)) k) (sym same)
          (get-nodes_of (insert nodes h p) contents paths h ∙ ap (option_map (full_node contents paths h))
          (get-insert_same nodes h p) ∙ sym (get-insert_same (nodes_of nodes contents paths) h (full_node contents
          paths h p)))
      | inr ne ↦ get-nodes_of (insert nodes h p) contents paths q
          ∙ ap (option_map (full_node contents paths q)) (get-insert_other nodes h p q ne)
          ∙ sym (get-insert_other (nodes_of nodes contents paths) h (full_node contents paths h p) q ne
          ∙ get-nodes_of nodes contents paths q)
    ])

-- A FRESH SERVER

abbrev bare : List ℕ → Tree
bare root = record { root = root; nodes = empty }

used-none : (root : List ℕ) → used (bare root) ≡ 0
unfolding used
used-none root = total-none nat_list_cmp_total (λ (n : Node). used_by n.content) empty
    (λ k v at. absurd (some_none at (get-empty (slice_cmp nat_cmp) k)))

links-bare : (root q : List ℕ) → links (bare root) q ≡ 0
links-bare root q = links-none (bare root) q (λ named. let t = target_found (bare root) named.0 named.1 q named.2 in
    some_none t.is_node (get-empty (slice_cmp nat_cmp) named.0))

module _ (number : ℕ) (root : List ℕ) (is_root : root ≡ serial_bytes number (place_of root))
    (contents : Contents) where
  root_fits : length root ≡ 32
  root_fits = ap length is_root ∙ length-serial_bytes number (place_of root)

  abbrev first_node : PathNode
  first_node = made_node Dir number 0

  abbrev kept_fresh : Kept
  kept_fresh = kept_as root (insert empty root first_node) contents empty

  no_names : names_of empty root ≡ empty
  no_names = names_of-none root root_fits empty (λ x. get-empty (slice_cmp nat_cmp) _)

  no_nodes : nodes_of empty contents empty ≡ empty
  no_nodes = same_map nat_list_cmp_total bytes_exact _ _ (λ q. get-nodes_of empty contents empty q
      ∙ ap (option_map (full_node contents empty q)) (get-empty (slice_cmp nat_cmp) q)
      ∙ sym (get-empty (slice_cmp nat_cmp) q))

  abbrev fresh_tree : Tree
  fresh_tree = with_node (bare root) root (new_node number (NamesOf empty))

  tree_fresh : the_tree kept_fresh ≡ fresh_tree
  tree_fresh = ap (λ (m : ByBytes Node). let t : Tree = record { root = root; nodes = m } in t)
      (nodes_put empty contents empty root first_node ∙ ap (λ m. insert (nodes_of empty contents empty) root
      (new_node number (NamesOf m))) no_names ∙ ap (λ m. insert m root (new_node number (NamesOf empty)))
      no_nodes)

  fresh : IsFresh (Some (the_tree kept_fresh))
  fresh = record { root = root; number = number; after = ap Some tree_fresh }

  at_root : (P : List ℕ → PathNode → Type 0) → P root first_node → (q : List ℕ) (x : PathNode) →
      get kept_fresh.nodes q ≡ Some x → P q x
  at_root P here q x e = elim (bytes_or_not q root) as (λ _. P q x) [
    | inl same ↦ subst (λ k. P k x) (sym same) (subst (P root) (let f : Some first_node ≡ Some x =
        sym (get-insert_same empty root first_node) ∙ ap (get kept_fresh.nodes) (sym same)
        ∙ e in let one : first_node ≡ x = cc in one) here)
    | inr ne ↦ absurd (some_none (sym (get-insert_other empty root first_node q ne) ∙ e)
        (get-empty (slice_cmp nat_cmp) q))
  ]

  used_fresh : used (the_tree kept_fresh) ≡ 0
  used_fresh =
      let same : used (the_tree kept_fresh) ≡ used fresh_tree = ap used tree_fresh in
      let more = used-with_node (bare root) root (new_node number (NamesOf empty))
      (get-empty (slice_cmp nat_cmp) root) in
      let none = len-empty (slice_cmp nat_cmp) (List ℕ) in
      let zero_used = used-none root in
      omega (arith, same, more, none, zero_used)

  links_fresh : links (the_tree kept_fresh) root ≡ 0
  links_fresh =
      let same : links (the_tree kept_fresh) root ≡ links fresh_tree root = ap (λ t. links t root) tree_fresh in
      let more = links-with_node (bare root) root (new_node number (NamesOf empty)) root (get-empty (slice_cmp
      nat_cmp) root) in
      let none = names_to-new Dir [] root in
      let before = links-bare root root in
      omega (arith, same, more, none, before)

  size_fresh : len (names_of empty root) ≡ 0
  size_fresh = ap len no_names ∙ len-empty (slice_cmp nat_cmp) (List ℕ)

  counted_fresh : IsCounted kept_fresh root first_node
  counted_fresh = record {
    names = sym size_fresh;
    subdirs = let most = subdirs-most (the_tree kept_fresh) (names_of empty root) in let size = size_fresh in
        omega (arith, most, size);
    links = sym links_fresh;
  }

  sound_fresh : (limits : ServerLimits) → IsSound limits (number + 1) 0 kept_fresh
  sound_fresh limits = record {
    serials = at_root (IsSerial (number + 1)) (is_root, omega arith);
    named = λ key h at. absurd (some_none at (get-empty (slice_cmp nat_cmp) key));
    counted = at_root (IsCounted kept_fresh) counted_fresh;
    bytes_used = sym used_fresh;
    bytes_most = omega arith;
    nodes_most = let one : len kept_fresh.nodes ≡ 1 = len-insert nat_list_cmp_total empty root first_node
        ∙ ap (λ o. cond (is_some o) (len (empty {X = PathNode} {R = slice_cmp nat_cmp})) (len (empty {X =
        PathNode} {R = slice_cmp nat_cmp}) + 1)) (get-empty (slice_cmp nat_cmp) root)
        ∙ ap (λ n. n + 1) (len-empty (slice_cmp nat_cmp) PathNode) in omega (arith, one);
  }

  abbrev root_path : ByBytes (List ℕ)
  root_path = insert empty root []

  -- a store that has the root alone
  stored_fresh : IsStored kept_fresh.nodes (only_root root)
  stored_fresh = record {
    whole = refl;
    dirs = λ q. elim (bytes_or_not q root) as (λ _. IsSome (get root_path q) ↔ IsSomeAnd (get kept_fresh.nodes q)
        IsDirNode) [
          | inl same ↦ (
            λ _. is_some_and IsDirNode (ap (get kept_fresh.nodes) same ∙ get-insert_same empty root first_node) refl,
            λ _. ap is_some (ap (get root_path) same ∙ get-insert_same empty root []),
          )
          | inr ne ↦ (
            λ there. absurd (is_some_none there
                (get-insert_other empty root [] q ne ∙ get-empty (slice_cmp nat_cmp) q)),
            λ there. absurd (is_and_none (get kept_fresh.nodes q) IsDirNode there
                (get-insert_other empty root first_node q
                ne ∙ get-empty (slice_cmp nat_cmp) q)),
          )
        ];
    once = at_root (λ q x. x.kind ≡ Dir → x.links ≤ 1) (λ _. omega arith);
  }

-- the same, of what a server came to
module _ (number : ℕ) (root : List ℕ) (is_root : root ≡ serial_bytes number (place_of root))
    (nodes : ByBytes PathNode) (contents : Contents) (paths : Paths)
    (is_nodes : nodes ≡ insert empty root (made_node Dir number 0)) (is_paths : paths ≡ empty) where
  pub fresh_after : IsFresh (Some (the_tree (kept_as root nodes contents paths)))
  fresh_after = rw (is_nodes, is_paths) (fresh number root is_root contents)

  pub stored_started : (store : Stored) → store ≡ only_root root → IsStored nodes store
  stored_started store is_store = rw (is_nodes, is_store) (stored_fresh number root is_root contents)

  pub sound_started : (limits : ServerLimits) (next : ℕ) → next ≡ number + 1 →
      IsSound limits next 0 (kept_as root nodes contents paths)
  sound_started limits next is_next = rw (is_nodes, is_paths, is_next) (sound_fresh number root is_root contents
      limits)

-- OTHER ATTRIBUTES

module _ (limits : ServerLimits) (next bytes : ℕ) (k : Kept) (h : List ℕ) (p : PathNode) (mode uid gid : ℕ) (is : get
    k.nodes h ≡ Some p) where
  abbrev changed : PathNode
  changed = set_node mode uid gid p

  abbrev now : Tree
  now = the_tree k

  abbrev kept_set : Kept
  kept_set = kept_as k.root (insert k.nodes h changed) k.contents k.paths

  at_now : node_at now h ≡ Some (node_here k h p)
  at_now = node_at-kept k h p is

  tree_set : the_tree kept_set ≡ edited now h (with_attr mode uid gid)
  tree_set = ap (λ (m : ByBytes Node). let t : Tree = record { root = k.root; nodes = m } in
      t) (nodes_put k.nodes k.contents k.paths h changed)
      ∙ sym (edited-some now h (with_attr mode uid gid) (node_here k h p) at_now)

  by_place : (P : List ℕ → PathNode → Type 0) → P h changed → ((q : List ℕ) (x : PathNode) → get k.nodes q ≡ Some x →
      P q x) → (q : List ℕ) (x : PathNode) → get (insert k.nodes h changed) q ≡ Some x → P q x
  by_place P here other q x e = elim (bytes_or_not q h) as (λ _. P q x) [
    | inl same ↦ subst (λ k. P k x) (sym same) (subst (P h) (let f : Some changed ≡ Some x =
        sym (get-insert_same k.nodes h changed) ∙ ap (get (insert k.nodes h changed)) (sym same)
        ∙ e in let one : changed ≡ x = cc in one) here)
    | inr ne ↦ other q x (sym (get-insert_other k.nodes h changed q ne) ∙ e)
  ]

  grows : (q : List ℕ) → IsSome (get k.nodes q) → IsSome (get (insert k.nodes h changed) q)
  grows q some = elim (bytes_or_not q h) as (λ _. IsSome (get (insert k.nodes h changed) q)) [
    | inl same ↦ ap is_some (ap (get (insert k.nodes h changed)) same ∙ get-insert_same k.nodes h changed)
    | inr ne ↦ ap is_some (get-insert_other k.nodes h changed q ne) ∙ some
  ]

  kinds_set : (q : List ℕ) → kind_at kept_set q ≡ kind_at k q
  kinds_set q = elim (bytes_or_not q h) as (λ _. kind_at kept_set q ≡ kind_at k q) [
    | inl same ↦ ap (option_map (λ (p : PathNode). p.kind)) (ap (get (insert k.nodes h changed)) same
        ∙ get-insert_same k.nodes h changed) ∙ sym (ap (option_map (λ (p : PathNode). p.kind)) (ap (get k.nodes)
        same ∙ is))
    | inr ne ↦ ap (option_map (λ (p : PathNode). p.kind)) (get-insert_other k.nodes h changed q ne)
  ]

  dirs_set : (q : List ℕ) → IsSomeAnd (get k.nodes q) IsDirNode → IsSomeAnd (get (insert k.nodes h changed) q) IsDirNode
  dirs_set q = dir_same (get k.nodes q) (get (insert k.nodes h changed) q) (sym (kinds_set q))

  links_set : (q : List ℕ) → links (the_tree kept_set) q ≡ links now q
  links_set q =
      let same : links (the_tree kept_set) q ≡ links (edited now h (with_attr mode uid gid)) q =
      ap (λ t. links t q) tree_set in
      let change = links-edited now h (with_attr mode uid gid) (node_here k h p) q at_now in
      omega (arith, same, change)

  sound_kept : IsSound limits next bytes k → IsSound limits next bytes kept_set
  sound_kept sound = record {
    serials = by_place (IsSerial next) (sound.serials h p is) sound.serials;
    named = λ key x at. let both = sound.named key x at in (dirs_set (take 32 key) both.0, grows x both.1);
    counted = by_place (IsCounted kept_set)
        (counted_same k kept_set h p changed refl kinds_set (links_set h) refl refl refl (sound.counted h p is))
        (λ q x at. counted_same k kept_set q x x refl kinds_set (links_set q) refl refl refl (sound.counted q x at));
    bytes_used =
        let same : used (the_tree kept_set) ≡ used (edited now h (with_attr mode uid gid)) = ap used tree_set in
        let change = used-edited now h (with_attr mode uid gid) (node_here k h p) at_now in
        let all = sound.bytes_used in
        omega (arith, same, change, all);
    bytes_most = sound.bytes_most;
    nodes_most = let one : len (insert k.nodes h changed) ≡ len k.nodes =
        len-insert nat_list_cmp_total k.nodes h changed ∙ ap (λ o. cond (is_some o) (len k.nodes) (len k.nodes + 1))
        is in let most = sound.nodes_most in omega (arith, one, most);
  }

  set_attr-kept : (held : Bool) → SetAttr (record { tree = tree_of held k; limits = limits; faults = 0 }) h mode uid gid
      (Ok tt) (record { tree = tree_of held kept_set; limits = limits; faults = 0 })
  set_attr-kept held = record {
    tree = held_tree held now (λ t. (tree_of held kept_set ≡ Some (edited t h (with_attr mode uid gid))) × OnlySoft
        (NodeErr h t)) (λ there. (
          ap (λ b. cond b (Some (the_tree kept_set)) None) there
              ∙ ap Some tree_set,
          node_soft now h (node_here k h p) at_now,
        ));
    limits = refl;
    faults = refl;
  }

  -- what a server came to
  module _ (nodes' : ByBytes PathNode) (is_nodes : nodes' ≡ insert k.nodes h changed) (contents' : Contents)
      (is_contents : contents' ≡ k.contents) where
    kept_is : kept_as k.root nodes' contents' k.paths ≡ kept_set
    kept_is = ap (λ m. kept_as k.root m contents' k.paths) is_nodes
        ∙ ap (λ c. kept_as k.root (insert k.nodes h changed) c k.paths) is_contents

    pub sound_set : IsSound limits next bytes k → IsSound limits next bytes (kept_as k.root nodes' contents' k.paths)
    sound_set sound = subst (IsSound limits next bytes) (sym kept_is) (sound_kept sound)

    pub stored_set : (store : Stored) → IsStored k.nodes store → IsStored nodes' store
    stored_set store stored = subst (λ (m : ByBytes PathNode). IsStored m store) (sym is_nodes)
        (stored_put k.nodes h changed store p is refl refl stored)

    pub set_attr-ok : (held : Bool) → SetAttr (record { tree = tree_of held k; limits = limits; faults = 0 }) h mode uid
        gid (Ok tt) (record { tree = tree_of held (kept_as k.root nodes' contents' k.paths); limits = limits; faults = 0 })
    set_attr-ok held = subst (λ (l : Kept). SetAttr (record { tree = tree_of held k; limits = limits; faults = 0 }) h mode
        uid gid (Ok tt) (record { tree = tree_of held l; limits = limits; faults = 0 })) (sym kept_is)
        (set_attr-kept held)
