-- A server of which a node without names has gone, to which no name leads.
use Rattle.std.proofs.Common.{inl, inr, ◌≡◌, ◌≢◌, ◌↔◌, ℕ, ◌+◌, ◌-◌, ◌≤◌, ◌++◌, true, List, take, drop, Option, Some, None, IsSome, IsSomeAnd, is_some, refl, sym, ap, ◌∙◌, subst, arith}
use Rattle.std.specs.Option.{option_map}
use Rattle.std.specs.Ordering.{nat_cmp}
use Rattle.std.specs.Cmp.Lexicographic.{slice_cmp}
use Rattle.std.specs.FinMap.{get, empty, len, get-empty}
use Rattle.std.proofs.lemmas.List.{take-append-drop}
use Rattle.nfs2_types.specs.declared.fattr.Kind.TheVariants.{Dir}
use Rattle.server_trait.specs.Tree.{Tree, Content, ByBytes, node_at, names_to, used, used_by, links, subdirs, without_node}
use Rattle.server_trait.specs.declared.server.ServerLimits.{ServerLimits}
use Rattle.server_trait.proofs.CountLaws.{subdirs-same}
use Rattle.server_trait.proofs.OrderLaws.{same_trees}
use Rattle.server_trait.proofs.TreeLaws.{some_none, some_same, some_and, bytes_or_not, get-remove_same, get-remove_other, used-without_node}
use Rattle.path_store.specs.Stored.{Stored, names_of}
use Rattle.path_server.specs.Bytes.{Contents, bytes_under, content_of}
use Rattle.path_server.specs.Kept.{Kept, kept_as, node_of, full_node, the_tree}
use Rattle.path_server.specs.Sound.{IsSound, IsStored, IsCounted, AreNamed}
use Rattle.path_server.specs.declared.node.PathNode.{PathNode}
use Rattle.path_server.proofs.ContentLaws.{bare_content, names_to-new}
use Rattle.path_server.proofs.CountChanges.{len-remove_old, links-without_node, unlinked}
use Rattle.path_store.proofs.NameLaws.{get-names_of}
use Rattle.path_server.proofs.NamedLaws.{IsDirNode, is_some_none, is_and_none}
use Rattle.path_server.proofs.NodeLaws.{len-nodes_of, get-nodes_of, node_at-kept, node_at-none, node_here, kind_at, same_dirs}
use Rattle.path_server.proofs.Serials.{kept_fits}
use Rattle.path_server.proofs.SoundLaws.{target_is}

module _ (limits : ServerLimits) (next bytes : ℕ) (k : Kept) (sound : IsSound limits next bytes k) (h : List ℕ) (x :
    PathNode) (at_h : get k.nodes h ≡ Some x) (unnamed : x.links ≡ 0) (bare : x.kind ≡ Dir → names_of k.paths h ≡ empty)
    (nodes' : ByBytes PathNode) (gone : get nodes' h ≡ None)
    (others : (q : List ℕ) → q ≢ h → get nodes' q ≡ get k.nodes q)
    (contents' : Contents)
    (same_bytes : (q : List ℕ) → q ≢ h → bytes_under contents' q ≡ bytes_under k.contents q) where
  abbrev after : Kept
  after = kept_as k.root nodes' contents' k.paths

  abbrev now : Tree
  now = the_tree k

  abbrev less : Tree
  less = without_node now h

  abbrev lost : Content
  lost = content_of x.kind (bytes_under k.contents h) empty

  at_now : node_at now h ≡ Some (node_here k h x)
  at_now = node_at-kept k h x at_h

  content_lost : (node_here k h x).content ≡ lost
  content_lost = bare_content x.kind (bytes_under k.contents h) (names_of k.paths h) bare

  -- what is kept after was kept before, and is another
  apart : (q : List ℕ) (y : PathNode) → get nodes' q ≡ Some y → q ≢ h
  apart q y is same = some_none is (ap (get nodes') same ∙ gone)

  -- NAMES

  -- what a name belongs to
  dir_of : (key to : List ℕ) → get k.paths key ≡ Some to →
      (d : PathNode) × (get k.nodes (take 32 key) ≡ Some d) × (d.kind ≡ Dir)
  dir_of key to at = some_and (get k.nodes (take 32 key)) IsDirNode (sound.named key to at).0

  parts_of : (key to : List ℕ) → get k.paths key ≡ Some to → get k.paths (take 32 key ++ drop 32 key) ≡ Some to
  parts_of key to at = ap (get k.paths) (take-append-drop 32 key) ∙ at

  -- no name leads to the node
  none_leads : (key : List ℕ) → get k.paths key ≢ Some h
  none_leads key at =
      let d = dir_of key h at in
      unlinked now h (take 32 key) (drop 32 key) (sym (sound.counted h x at_h).links ∙ unnamed)
      (target_is limits next bytes k sound (take 32 key) d.0 d.1 d.2 (drop 32 key) ∙ parts_of key h at)

  -- nor has it names
  none_within : (key to : List ℕ) → get k.paths key ≡ Some to → take 32 key ≢ h
  none_within key to at same =
      let d = dir_of key to at in
      let is_x : x ≡ d.0 = some_same at_h (ap (get k.nodes) (sym same) ∙ d.1) in
      let is_dir : x.kind ≡ Dir = ap (λ (p : PathNode). p.kind) is_x ∙ d.2 in
      some_none (subst (λ d. get k.paths (d ++ drop 32 key) ≡ Some to) same (parts_of key to at))
      (sym (get-names_of h (kept_fits k.nodes next sound.serials h x at_h) k.paths (drop 32 key))
      ∙ ap (λ m. get m (drop 32 key)) (bare is_dir) ∙ get-empty (slice_cmp nat_cmp) (drop 32 key))

  -- THE TREE

  full_same : (q : List ℕ) → q ≢ h → (o : Option PathNode) → option_map (full_node contents' k.paths q) o ≡ option_map
      (full_node k.contents k.paths q) o
  full_same q ne None = refl
  full_same q ne (Some y) = ap (λ b. Some (node_of y b (names_of k.paths q))) (same_bytes q ne)

  pub tree_gone : the_tree after ≡ less
  tree_gone = same_trees (the_tree after) less refl (λ q. elim (bytes_or_not q h) as (λ _. node_at (the_tree after) q ≡
      node_at less q) [
        | inl same ↦ subst (λ q. node_at (the_tree after) q ≡ node_at less q) (sym same) (node_at-none after h gone
            ∙ sym (get-remove_same now.nodes h))
        | inr ne ↦ get-nodes_of nodes' contents' k.paths q
            ∙ ap (option_map (full_node contents' k.paths q)) (others q ne)
            ∙ full_same q ne (get k.nodes q)
            ∙ sym (get-remove_other now.nodes h q ne ∙ get-nodes_of k.nodes k.contents k.paths q)
      ])

  len_gone : len nodes' + 1 ≡ len k.nodes
  len_gone = ap (λ n. n + 1) (sym (len-nodes_of nodes' contents' k.paths) ∙ ap (λ (t : Tree). len t.nodes) tree_gone)
      ∙ len-remove_old now.nodes h (node_here k h x) at_now ∙ len-nodes_of k.nodes k.contents k.paths

  used_gone : used (the_tree after) + used_by lost ≡ used now
  used_gone =
      let same = ap used tree_gone in
      let change = used-without_node now h (node_here k h x) at_now in
      let size = ap used_by content_lost in
      omega (arith, same, change, size)

  links_gone : (q : List ℕ) → links (the_tree after) q ≡ links now q
  links_gone q =
      let same = ap (λ t. links t q) tree_gone in
      let change = links-without_node now h (node_here k h x) q at_now in
      let none = ap (names_to q) content_lost ∙ names_to-new x.kind (bytes_under k.contents h) q in
      omega (arith, same, change, none)

  -- WHAT HOLDS AFTER

  kinds_gone : (q : List ℕ) → q ≢ h → kind_at after q ≡ kind_at k q
  kinds_gone q ne = ap (option_map (λ (p : PathNode). p.kind)) (others q ne)

  subdirs_gone : (q : List ℕ) (y : PathNode) → get k.nodes q ≡ Some y → subdirs (the_tree after) (names_of k.paths q) ≡
      subdirs now (names_of k.paths q)
  subdirs_gone q y is = subdirs-same (the_tree after) now (names_of k.paths q) (λ name to at. same_dirs after k to
      (kinds_gone to (λ same. none_leads (q ++ name) (sym (get-names_of q (kept_fits k.nodes next sound.serials q y is)
      k.paths name) ∙ at ∙ ap Some same))))

  named_gone : AreNamed nodes' k.paths
  named_gone key to at = let both = sound.named key to at in (
    subst (λ o. IsSomeAnd o IsDirNode) (sym (others (take 32 key) (none_within key to at))) both.0,
    ap is_some (others to (λ same. none_leads key (at ∙ ap Some same))) ∙ both.1,
  )

  counted_gone : (q : List ℕ) (y : PathNode) → get nodes' q ≡ Some y → IsCounted after q y
  counted_gone q y is =
      let before : get k.nodes q ≡ Some y = sym (others q (apart q y is)) ∙ is in
      let count = sound.counted q y before in
      record {
        names = count.names;
        subdirs = count.subdirs ∙ sym (subdirs_gone q y before);
        links = count.links ∙ sym (links_gone q);
      }

  pub lost_used : used_by lost ≤ bytes
  lost_used = let all = sound.bytes_used in let change = used_gone in omega (arith, all, change)

  pub sound_gone : IsSound limits next (bytes - used_by lost) after
  sound_gone = record {
    serials = λ q y is. sound.serials q y (sym (others q (apart q y is)) ∙ is);
    named = named_gone;
    counted = counted_gone;
    bytes_used = let all = sound.bytes_used in let change = used_gone in omega (arith, all, change);
    bytes_most = let most = sound.bytes_most in omega (arith, most);
    nodes_most = let fewer = len_gone in let most = sound.nodes_most in omega (arith, fewer, most);
  }

  pub stored_gone : (store store' : Stored) → IsStored k.nodes store → store'.whole ≡ true → get store'.dirs h ≡ None →
      ((q : List ℕ) → q ≢ h → get store'.dirs q ≡ get store.dirs q) → IsStored nodes' store'
  stored_gone store store' stored whole no_path dirs_same = record {
    whole = whole;
    dirs = λ q. elim (bytes_or_not q h) as (λ _. IsSome (get store'.dirs q) ↔ IsSomeAnd (get nodes' q) IsDirNode) [
      | inl same ↦ (
        λ there. absurd (is_some_none there (ap (get store'.dirs) same ∙ no_path)),
        λ there. absurd (is_and_none (get nodes' q) IsDirNode there (ap (get nodes') same ∙ gone)),
      )
      | inr ne ↦ (
        λ there. subst (λ o. IsSomeAnd o IsDirNode) (sym (others q ne)) ((stored.dirs q).0 (ap is_some (sym (dirs_same q
            ne)) ∙ there)),
        λ there. ap is_some (dirs_same q ne) ∙ (stored.dirs q).1
            (subst (λ o. IsSomeAnd o IsDirNode) (others q ne) there),
      )
    ];
    once = λ q y is. stored.once q y (sym (others q (apart q y is)) ∙ is);
  }
