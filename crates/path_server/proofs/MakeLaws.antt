-- A server with one node more: a node has come, and then a name that leads to it.
use Rattle.std.proofs.Common.{inl, inr, ◌≡◌, ◌≢◌, ℕ, ◌+◌, ◌≤◌, ◌<◌, ◌++◌, true, false, List, length, Some, None, refl, sym, ap, ◌∙◌, subst, arith}
use Rattle.std.specs.Prelude.{bytes_eq}
use Rattle.std.specs.Option.{option_map}
use Rattle.std.specs.FinMap.{get, insert, len, empty}
use Rattle.nfs2_types.specs.declared.fattr.Kind.{Kind}
use Rattle.nfs2_types.specs.declared.fattr.Kind.TheVariants.{Dir}
use Rattle.server_trait.specs.Tree.{Node, ByBytes, used_by, named}
use Rattle.server_trait.specs.Calls.{Made}
use Rattle.server_trait.specs.declared.server.ServerLimits.{ServerLimits}
use Rattle.server_trait.proofs.TreeLaws.{bytes_or_not, get-insert_same, get-insert_other}
use Rattle.path_store.specs.Stored.{Paths, Stored}
use Rattle.path_server.specs.Bytes.{Contents, content_of}
use Rattle.path_server.specs.Kept.{Kept, kept_as, the_tree}
use Rattle.path_server.specs.Nodes.{made_node, one_more}
use Rattle.path_store.specs.Tables.{place_of}
use Rattle.path_server.specs.Serials.{serial_bytes}
use Rattle.path_server.specs.Sound.{IsSound, IsStored, AddsNode}
use Rattle.path_server.specs.declared.node.PathNode.{PathNode}
use Rattle.path_server.proofs.ComeLaws as come_laws
use Rattle.path_server.proofs.LinkLaws.{more_if, tree_more, sound_more}
use Rattle.path_server.proofs.NodeLaws.{node_at-none, kept-node_at}
use Rattle.path_server.proofs.Recounted.{bytes_differ, bytes_same}
use Rattle.path_server.proofs.StoredLaws.{stored_put, stored_new}

module _ (limits : ServerLimits) (next bytes : ℕ) (k : Kept) (sound : IsSound limits next bytes k)
    (dir name : List ℕ) (p : PathNode) (is : get k.nodes dir ≡ Some p) (is_directory : p.kind ≡ Dir)
    (new_name : get k.paths (dir ++ name) ≡ None) (kind : Kind) (text h : List ℕ)
    (handle_is : h ≡ serial_bytes next (place_of h)) (absent : get k.nodes h ≡ None)
    (full : used_by (content_of kind text empty) ≡ length text)
    (room : bytes + (512 + length text) ≤ limits.bytes) (node_room : len k.nodes < limits.nodes)
    (nodes' : ByBytes PathNode)
    (is_nodes : nodes' ≡ insert (insert k.nodes h (made_node kind next 1)) dir (one_more kind p))
    (contents' : Contents) (is_contents : contents' ≡ insert k.contents h text)
    (paths' : Paths) (is_paths : paths' ≡ insert k.paths (dir ++ name) h) where
  abbrev come : Kept
  come = come_laws.come limits next bytes k sound kind text h handle_is absent

  sound_come : IsSound limits (next + 1) (bytes + length text) come
  sound_come = come_laws.sound_come limits next bytes k sound kind text h handle_is absent full
      (omega (arith, room)) node_room

  apart : dir ≢ h
  apart = come_laws.old_other limits next bytes k sound kind text h handle_is absent dir p is

  dir_come : get come.nodes dir ≡ Some p
  dir_come = come_laws.at_old limits next bytes k sound kind text h handle_is absent dir p is

  new_come : get come.nodes h ≡ Some (made_node kind next 0)
  new_come = come_laws.at_new limits next bytes k sound kind text h handle_is absent

  nodes_by : (q : List ℕ) → get nodes' q ≡ option_map (more_if kind (bytes_eq dir q) (bytes_eq h q)) (get come.nodes q)
  nodes_by q = ap (λ m. get m q) is_nodes ∙ (elim (bytes_or_not q dir) as (λ _.
      get (insert (insert k.nodes h (made_node kind next 1)) dir (one_more kind p)) q
      ≡ option_map (more_if kind (bytes_eq dir q) (bytes_eq h q)) (get come.nodes q)) [
        | inl same ↦ ap (get (insert (insert k.nodes h (made_node kind next 1)) dir (one_more kind p))) same
            ∙ get-insert_same (insert k.nodes h (made_node kind next 1)) dir (one_more kind p)
            ∙ sym (ap (λ x. option_map (more_if kind (bytes_eq dir x) (bytes_eq h x)) (get come.nodes x)) same
            ∙ ap (option_map (more_if kind (bytes_eq dir dir) (bytes_eq h dir))) dir_come
            ∙ ap (λ b. Some (more_if kind b (bytes_eq h dir) p)) (bytes_same dir dir refl)
            ∙ ap (λ b. Some (more_if kind true b p)) (bytes_differ h dir (λ e. apart (sym e))))
        | inr ne ↦ get-insert_other (insert k.nodes h (made_node kind next 1)) dir (one_more kind p) q ne
            ∙ by_new q ne
      ])
    where
      stays : (o : _) → option_map (more_if kind false false) o ≡ o
      stays None = refl
      stays (Some y) = refl

      by_new : (q : List ℕ) → q ≢ dir → get (insert k.nodes h (made_node kind next 1)) q
          ≡ option_map (more_if kind (bytes_eq dir q) (bytes_eq h q)) (get come.nodes q)
      by_new q ne = elim (bytes_or_not q h) as (λ _. get (insert k.nodes h (made_node kind next 1)) q
          ≡ option_map (more_if kind (bytes_eq dir q) (bytes_eq h q)) (get come.nodes q)) [
            | inl same ↦ ap (get (insert k.nodes h (made_node kind next 1))) same
                ∙ get-insert_same k.nodes h (made_node kind next 1)
                ∙ sym (ap (λ x. option_map (more_if kind (bytes_eq dir x) (bytes_eq h x)) (get come.nodes x)) same
                ∙ ap (option_map (more_if kind (bytes_eq dir h) (bytes_eq h h))) new_come
                ∙ ap (λ b. Some (more_if kind b (bytes_eq h h) (made_node kind next 0))) (bytes_differ dir h apart)
                ∙ ap (λ b. Some (more_if kind false b (made_node kind next 0))) (bytes_same h h refl))
            | inr ne' ↦ get-insert_other k.nodes h (made_node kind next 1) q ne'
                ∙ sym (ap (λ b. option_map (more_if kind b (bytes_eq h q)) (get come.nodes q))
                (bytes_differ dir q (λ e. ne (sym e)))
                ∙ ap (λ b. option_map (more_if kind false b) (get come.nodes q)) (bytes_differ h q (λ e. ne' (sym e)))
                ∙ stays (get come.nodes q) ∙ get-insert_other k.nodes h (made_node kind next 0) q ne')
          ]

  abbrev after : Kept
  after = kept_as k.root nodes' contents' paths'

  is_after : after ≡ kept_as k.root nodes' (insert k.contents h text) (insert k.paths (dir ++ name) h)
  is_after = ap (λ c. kept_as k.root nodes' c paths') is_contents
      ∙ ap (λ m. kept_as k.root nodes' (insert k.contents h text) m) is_paths

  pub made_after : Made (the_tree k) dir name (content_of kind text empty) h (Some (the_tree after))
  made_after = record {
    number = next;
    new_number = λ q n at e.
        let found = kept-node_at k q n at in
        let below : found.0.number < next = (sound.serials q found.0 found.1).1 in
        let num : n.number ≡ found.0.number = ap (λ (n : Node). n.number) found.2 in
        omega (arith, e, below, num);
    new_handle = node_at-none k h absent;
    after = ap Some (ap the_tree is_after
        ∙ tree_more limits (next + 1) (bytes + length text) come sound_come dir name p dir_come is_directory new_name h
        (made_node kind next 0) new_come nodes' nodes_by
        ∙ ap (λ t. named t dir name h) (come_laws.tree_come limits next bytes k sound kind text h handle_is absent));
  }

  pub sound_made : (next' : ℕ) → next' ≡ next + 1 → IsSound limits next' (bytes + (512 + length text)) after
  sound_made next' is_next =
      let sum : (bytes + length text) + 512 ≡ bytes + (512 + length text) = omega arith in
      subst (λ n. IsSound limits n (bytes + (512 + length text)) after) (sym is_next)
      (subst (λ (l : Kept). IsSound limits (next + 1) (bytes + (512 + length text)) l) (sym is_after)
      (subst (λ b. IsSound limits (next + 1) b
      (kept_as k.root nodes' (insert k.contents h text) (insert k.paths (dir ++ name) h))) sum
      (sound_more limits (next + 1) (bytes + length text) come sound_come dir name p dir_come is_directory new_name h
      (made_node kind next 0) new_come nodes' nodes_by (omega (arith, room)))))

  pub stored_made : (store store' : Stored) → IsStored k.nodes store → AddsNode kind store dir name h store' →
      IsStored nodes' store'
  stored_made store store' stored adds = subst (λ (m : ByBytes PathNode). IsStored m store') (sym is_nodes)
      (stored_put (insert k.nodes h (made_node kind next 1)) dir (one_more kind p) store' p
      (get-insert_other k.nodes h (made_node kind next 1) dir apart ∙ is) refl refl
      (stored_new k.nodes h (made_node kind next 1) store store' dir name (omega arith) adds stored))
