-- A server of which a name has gone, and with it the node to which it led, of which it was the last.
use Rattle.std.proofs.Common.{◌≡◌, ◌≢◌, ℕ, ◌+◌, ◌-◌, ◌≤◌, ◌++◌, List, length, Some, None, refl, sym, ap, ◌∙◌, subst, arith}
use Rattle.std.specs.Prelude.{bytes_eq}
use Rattle.std.specs.Option.{option_map}
use Rattle.std.specs.Ordering.{nat_cmp}
use Rattle.std.specs.Cmp.Lexicographic.{slice_cmp}
use Rattle.std.specs.FinMap.{get, insert, remove, empty, empty_of_len, get-empty}
use Rattle.nfs2_types.specs.declared.fattr.Kind.TheVariants.{Dir}
use Rattle.server_trait.specs.Tree.{Content, ByBytes, links, used_by, unnamed, let_go, without_node}
use Rattle.server_trait.specs.declared.server.ServerLimits.{ServerLimits}
use Rattle.server_trait.proofs.TreeLaws.{some_none, some_same, some_and, get-insert_same, get-insert_other, get-remove_same, get-remove_other}
use Rattle.path_store.specs.Stored.{Paths, Stored, Drops, names_of}
use Rattle.path_server.specs.Bytes.{Contents, bytes_under, content_of}
use Rattle.path_server.specs.Kept.{Kept, kept_as, the_tree}
use Rattle.path_server.specs.Nodes.{one_less, one_link_less}
use Rattle.path_server.specs.Sound.{IsSound, IsStored}
use Rattle.path_server.specs.declared.node.PathNode.{PathNode}
use Rattle.path_server.proofs.ContentLaws.{bytes-remove_other}
use Rattle.path_server.proofs.CountChanges.{let_go-unlinked}
use Rattle.path_server.proofs.DropLaws as drop_laws
use Rattle.path_server.proofs.GoneLaws as gone_laws
use Rattle.path_store.proofs.NameLaws.{get-names_of, names_of-none}
use Rattle.path_server.proofs.NamedLaws.{IsDirNode, named_in, none_of}
use Rattle.path_server.proofs.NamesWithout.{names_of-remove_other}
use Rattle.path_server.proofs.Recounted.{two_puts}
use Rattle.path_server.proofs.Serials.{kept_fits}

module _ (limits : ServerLimits) (next bytes : ℕ) (k : Kept) (sound : IsSound limits next bytes k) (h : List ℕ) (x :
    PathNode) (at_h : get k.nodes h ≡ Some x) (bare : x.kind ≡ Dir → x.names ≡ 0) where
  node_fits : length h ≡ 32
  node_fits = kept_fits k.nodes next sound.serials h x at_h

  -- what is no directory, or an empty one, has no names
  pub no_names_in : (name : List ℕ) → get k.paths (h ++ name) ≡ None
  no_names_in name = none_of (get k.paths (h ++ name)) (λ to at.
      let d = some_and (get k.nodes h) IsDirNode (named_in k.nodes k.paths sound.named h name to node_fits at).0 in
      let is_dir : x.kind ≡ Dir = ap (λ (p : PathNode). p.kind) (some_same at_h d.1) ∙ d.2 in
      let empty_names = empty_of_len (names_of k.paths h) (sym (sound.counted h x at_h).names ∙ bare is_dir) in
      some_none at (sym (get-names_of h node_fits k.paths name) ∙ ap (λ m. get m name) empty_names
      ∙ get-empty (slice_cmp
      nat_cmp) name))

  bare_names : names_of k.paths h ≡ empty
  bare_names = names_of-none h node_fits k.paths no_names_in

  module _ (dir name : List ℕ) (p : PathNode) (is : get k.nodes dir ≡ Some p) (is_directory : p.kind ≡ Dir) (leads : get
      k.paths (dir ++ name) ≡ Some h) where
    pub not_one : h ≢ dir
    not_one same = some_none leads (subst (λ d. get k.paths (d ++ name) ≡ None) same (no_names_in name))

    dir_fits : length dir ≡ 32
    dir_fits = kept_fits k.nodes next sound.serials dir p is

    -- WITHOUT THE NAME

    abbrev dir_less : ByBytes PathNode
    dir_less = insert k.nodes dir (one_less x.kind p)

    abbrev nodes_less : ByBytes PathNode
    nodes_less = insert dir_less h (one_link_less x)

    abbrev paths_less : Paths
    paths_less = remove k.paths (dir ++ name)

    abbrev kept_less : Kept
    kept_less = kept_as k.root nodes_less k.contents paths_less

    are_less : (q : List ℕ) → get nodes_less q ≡ option_map (drop_laws.less_if x.kind (bytes_eq dir q) (bytes_eq h q))
        (get
        k.nodes q)
    are_less q = two_puts k.nodes dir h p (one_less x.kind p) x (one_link_less x)
        (drop_laws.less_if x.kind) is at_h not_one
        refl refl (λ y. refl) q

    sound_less : IsSound limits next (bytes - 512) kept_less
    sound_less = drop_laws.sound_less limits next bytes k sound dir name p is is_directory h leads x at_h nodes_less are_less

    tree_less : the_tree kept_less ≡ unnamed (the_tree k) dir name
    tree_less = drop_laws.tree_less limits next bytes k sound dir name p is is_directory h leads x at_h nodes_less are_less

    at_less : get nodes_less h ≡ Some (one_link_less x)
    at_less = get-insert_same dir_less h (one_link_less x)

    bare_less : names_of paths_less h ≡ empty
    bare_less = names_of-remove_other k.paths dir name h dir_fits node_fits not_one ∙ bare_names

    abbrev lost : Content
    lost = content_of x.kind (bytes_under k.contents h) empty

    -- WITHOUT THE NODE

    module _ (last : x.links ≤ 1) (nodes' : ByBytes PathNode) (is_nodes : nodes' ≡ remove dir_less h)
        (contents' : Contents)
        (is_contents : contents' ≡ remove k.contents h) (store store' : Stored) (is_paths : k.paths ≡ store.names)
        (drops : Drops store dir name h store') where
      no_links : x.links - 1 ≡ 0
      no_links = omega (arith, last)

      gone : get nodes' h ≡ None
      gone = ap (λ m. get m h) is_nodes ∙ get-remove_same dir_less h

      others : (q : List ℕ) → q ≢ h → get nodes' q ≡ get nodes_less q
      others q ne = ap (λ m. get m q) is_nodes ∙ get-remove_other dir_less h q ne
          ∙ sym (get-insert_other dir_less h (one_link_less x) q ne)

      same_bytes : (q : List ℕ) → q ≢ h → bytes_under contents' q ≡ bytes_under k.contents q
      same_bytes q ne = ap (λ m. bytes_under m q) is_contents ∙ bytes-remove_other k.contents h q ne

      names_gone : store'.names ≡ paths_less
      names_gone = drops.names ∙ ap (λ m. remove m (dir ++ name)) (sym is_paths)

      abbrev after : Kept
      after = kept_as k.root nodes' contents' store'.names

      links_none : links (unnamed (the_tree k) dir name) h ≡ 0
      links_none =
          let left = drop_laws.links_left limits next bytes k sound dir name p is is_directory h leads x at_h nodes_less
          are_less in
          let same = ap (λ t. links t h) tree_less in
          omega (arith, left, same, last)

      pub tree_last : the_tree after ≡ let_go (unnamed (the_tree k) dir name) h
      tree_last = ap (λ m. the_tree (kept_as k.root nodes' contents' m)) names_gone
          ∙ gone_laws.tree_gone limits next (bytes - 512) kept_less sound_less h (one_link_less x) at_less no_links
          (λ _.
          bare_less) nodes' gone others contents' same_bytes
          ∙ ap (λ t. without_node t h) tree_less
          ∙ sym (let_go-unlinked (unnamed (the_tree k) dir name) h links_none)

      pub few_last : (size : ℕ) → size ≡ used_by lost → 512 + size ≤ bytes
      few_last size is_size =
          let name_cost = drop_laws.name_used limits next bytes k sound dir name p is is_directory h leads x at_h nodes_less
          are_less in
          let node_cost = gone_laws.lost_used limits next (bytes - 512) kept_less sound_less h (one_link_less x) at_less
          no_links (λ _. bare_less) nodes' gone others contents' same_bytes in
          omega (arith, is_size, name_cost, node_cost)

      pub sound_last : (size : ℕ) → size ≡ used_by lost → IsSound limits next (bytes - (512 + size)) after
      sound_last size is_size =
          let fewer : (bytes - 512) - used_by lost ≡ bytes - (512 + size) = omega (arith, is_size) in
          subst (λ m. IsSound limits next (bytes - (512 + size)) (kept_as k.root nodes' contents' m)) (sym names_gone)
          (subst (λ b. IsSound limits next b (kept_as k.root nodes' contents' paths_less)) fewer
          (gone_laws.sound_gone limits next (bytes - 512) kept_less sound_less h (one_link_less x) at_less no_links
          (λ _.
          bare_less) nodes' gone others contents' same_bytes))

      pub stored_last : IsStored k.nodes store → IsStored nodes' store'
      stored_last stored = gone_laws.stored_gone limits next (bytes - 512) kept_less sound_less h
          (one_link_less x) at_less
          no_links (λ _. bare_less) nodes' gone others contents' same_bytes store store'
          (drop_laws.stored_less limits next bytes k sound dir name p is is_directory h leads x at_h nodes_less are_less
          store store stored stored.whole (λ q. (λ there. there, λ there. there)))
          drops.whole (ap (λ m. get m h) drops.dirs ∙ get-remove_same store.dirs h)
          (λ q ne. ap (λ m. get m q) drops.dirs ∙ get-remove_other store.dirs h q ne)
