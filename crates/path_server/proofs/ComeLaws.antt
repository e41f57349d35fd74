-- A server to which a node has come, to which no name leads yet.
use Rattle.std.proofs.Common.{inl, inr, ◌≡◌, ◌≢◌, ℕ, ◌+◌, ◌≤◌, ◌<◌, ◌++◌, List, length, take, Option, Some, None, IsSomeAnd, is_some, refl, sym, ap, ◌∙◌, subst, arith}
use Rattle.std.specs.Option.{option_map}
use Rattle.std.specs.Ordering.{nat_cmp}
use Rattle.std.specs.Cmp.Lexicographic.{slice_cmp}
use Rattle.std.specs.FinMap.{get, insert, empty, len, len-empty}
use Rattle.nfs2_types.specs.declared.fattr.Kind.{Kind}
use Rattle.server_trait.specs.Tree.{Tree, Node, ByBytes, Content, IsNamed, node_at, names_in, used, used_by, links, subdirs, new_node, with_node}
use Rattle.server_trait.specs.declared.server.ServerLimits.{ServerLimits}
use Rattle.server_trait.proofs.CountLaws.{links-with_node, subdirs-same, subdirs-most}
use Rattle.server_trait.proofs.OrderLaws.{same_trees}
use Rattle.server_trait.proofs.TreeLaws.{some_none, some_same, bytes_or_not, get-insert_same, get-insert_other, used-with_node, links-none, target_found}
use Rattle.path_store.specs.Stored.{names_of}
use Rattle.path_store.proofs.NameLaws.{get-names_of, names_of-none}
use Rattle.path_server.specs.Bytes.{Contents, bytes_under, content_of}
use Rattle.path_server.specs.Kept.{Kept, kept_as, node_of, full_node, the_tree}
use Rattle.path_server.specs.Nodes.{made_node}
use Rattle.path_store.specs.Tables.{place_of}
use Rattle.path_server.specs.Serials.{serial_bytes}
use Rattle.path_server.specs.Sound.{IsSound, IsSerial, IsCounted, AreNamed}
use Rattle.path_server.specs.declared.node.PathNode.{PathNode}
use Rattle.path_server.proofs.ContentLaws.{its_names, names_to-new, bytes-insert_same, bytes-insert_other}
use Rattle.path_server.proofs.CountChanges.{len-insert_new}
use Rattle.path_server.proofs.NamedLaws.{IsDirNode, named_in, none_of, is_some_none, is_and_none}
use Rattle.path_server.proofs.NodeLaws.{get-nodes_of, node_at-none, kept-node_at, same_dirs}
use Rattle.path_server.proofs.Serials.{length-serial_bytes, kept_fits}

module _ (limits : ServerLimits) (next bytes : ℕ) (k : Kept) (sound : IsSound limits next bytes k)
    (kind : Kind) (text h : List ℕ) (handle_is : h ≡ serial_bytes next (place_of h))
    (absent : get k.nodes h ≡ None) where
  abbrev made : PathNode
  made = made_node kind next 0

  abbrev nodes_come : ByBytes PathNode
  nodes_come = insert k.nodes h made

  abbrev contents_come : Contents
  contents_come = insert k.contents h text

  abbrev pub come : Kept
  come = kept_as k.root nodes_come contents_come k.paths

  abbrev now : Tree
  now = the_tree k

  abbrev content : Content
  content = content_of kind text empty

  pub new_fits : length h ≡ 32
  new_fits = ap length handle_is ∙ length-serial_bytes next (place_of h)

  pub at_new : get nodes_come h ≡ Some made
  at_new = get-insert_same k.nodes h made

  pub at_other : (q : List ℕ) → q ≢ h → get nodes_come q ≡ get k.nodes q
  at_other q ne = get-insert_other k.nodes h made q ne

  -- what was kept before is another
  pub old_other : (q : List ℕ) (y : PathNode) → get k.nodes q ≡ Some y → q ≢ h
  old_other q y is same = some_none is (ap (get k.nodes) same ∙ absent)

  pub at_old : (q : List ℕ) (y : PathNode) → get k.nodes q ≡ Some y → get nodes_come q ≡ Some y
  at_old q y is = at_other q (old_other q y is) ∙ is

  -- a claim of each node that is kept
  by_place : (P : List ℕ → PathNode → Type 0) → P h made → ((q : List ℕ) (y : PathNode) → get k.nodes q ≡ Some y →
      P q y) → (q : List ℕ) (y : PathNode) → get nodes_come q ≡ Some y → P q y
  by_place P here others q y is = elim (bytes_or_not q h) as (λ _. P q y) [
    | inl same ↦ subst (λ x. P x y) (sym same) (subst (P h) (some_same at_new (ap (get nodes_come) (sym same) ∙ is)) here)
    | inr ne ↦ others q y (sym (at_other q ne) ∙ is)
  ]

  -- THE TREE

  pub no_names : names_of k.paths h ≡ empty
  no_names = names_of-none h new_fits k.paths (λ x. none_of (get k.paths (h ++ x)) (λ to at.
      is_and_none (get k.nodes h) IsDirNode (named_in k.nodes k.paths sound.named h x to new_fits at).0 absent))

  full_other : (q : List ℕ) → q ≢ h → (o : Option PathNode) → option_map (full_node contents_come k.paths q) o
      ≡ option_map (full_node k.contents k.paths q) o
  full_other q ne None = refl
  full_other q ne (Some y) = ap (λ b. Some (node_of y b (names_of k.paths q))) (bytes-insert_other k.contents h text q ne)

  full_new : full_node contents_come k.paths h made ≡ new_node next content
  full_new = ap (λ m. new_node next (content_of kind (bytes_under contents_come h) m)) no_names
      ∙ ap (λ b. new_node next (content_of kind b empty)) (bytes-insert_same k.contents h text)

  pub tree_come : the_tree come ≡ with_node now h (new_node next content)
  tree_come = same_trees (the_tree come) (with_node now h (new_node next content)) refl (λ q.
      get-nodes_of nodes_come contents_come k.paths q
      ∙ (elim (bytes_or_not q h) as (λ _. option_map (full_node contents_come k.paths q) (get nodes_come q)
      ≡ node_at (with_node now h (new_node next content)) q) [
        | inl same ↦ subst (λ x. option_map (full_node contents_come k.paths x) (get nodes_come x)
            ≡ node_at (with_node now h (new_node next content)) x) (sym same)
            (ap (option_map (full_node contents_come k.paths h)) at_new ∙ ap Some full_new
            ∙ sym (get-insert_same now.nodes h (new_node next content)))
        | inr ne ↦ ap (option_map (full_node contents_come k.paths q)) (at_other q ne)
            ∙ full_other q ne (get k.nodes q)
            ∙ sym (get-insert_other now.nodes h (new_node next content) q ne
            ∙ get-nodes_of k.nodes k.contents k.paths q)
      ]))

  -- COUNTS

  links_come : (q : List ℕ) → links (the_tree come) q ≡ links now q
  links_come q =
      let same = ap (λ t. links t q) tree_come in
      let new = links-with_node now h (new_node next content) q (node_at-none k h absent) in
      let none = names_to-new kind text q in
      omega (arith, same, new, none)

  no_link : ¬ (IsNamed now h)
  no_link leads =
      let t = target_found now leads.0 leads.1 h leads.2 in
      let d = kept-node_at k leads.0 t.node t.is_node in
      let same : names_of k.paths leads.0 ≡ t.names = its_names d.0.kind (bytes_under k.contents leads.0)
      (names_of k.paths leads.0) t.names (ap (λ (n : Node). names_in n.content) (sym d.2) ∙ t.is_dir) in
      let fits = kept_fits k.nodes next sound.serials leads.0 d.0 d.1 in
      is_some_none (named_in k.nodes k.paths sound.named leads.0 leads.1 h fits
      (sym (get-names_of leads.0 fits k.paths leads.1) ∙ ap (λ m. get m leads.1) same ∙ t.leads)).1 absent

  subdirs_come : (q : List ℕ) → length q ≡ 32 → subdirs (the_tree come) (names_of k.paths q)
      ≡ subdirs now (names_of k.paths q)
  subdirs_come q fits = subdirs-same (the_tree come) now (names_of k.paths q) (λ x to at. same_dirs come k to
      (ap (option_map (λ (p : PathNode). p.kind)) (at_other to (λ e. is_some_none
      (named_in k.nodes k.paths sound.named q x to fits (sym (get-names_of q fits k.paths x) ∙ at)).1
      (ap (get k.nodes) e ∙ absent)))))

  counted_new : IsCounted come h made
  counted_new =
      let size : len (names_of k.paths h) ≡ 0 = ap len no_names ∙ len-empty (slice_cmp nat_cmp) (List ℕ) in
      record {
        names = sym size;
        subdirs = let most = subdirs-most (the_tree come) (names_of k.paths h) in omega (arith, most, size);
        links = sym (links_come h ∙ links-none now h no_link);
      }

  counted_old : (q : List ℕ) (y : PathNode) → get k.nodes q ≡ Some y → IsCounted come q y
  counted_old q y is =
      let count = sound.counted q y is in
      record {
        names = count.names;
        subdirs = count.subdirs ∙ sym (subdirs_come q (kept_fits k.nodes next sound.serials q y is));
        links = count.links ∙ sym (links_come q);
      }

  -- WHAT HOLDS AFTER

  named_come : AreNamed nodes_come k.paths
  named_come key to at =
      let both = sound.named key to at in (
        subst (λ o. IsSomeAnd o IsDirNode) (sym (at_other (take 32 key) (λ e. is_and_none (get k.nodes (take 32 key))
            IsDirNode both.0 (ap (get k.nodes) e ∙ absent)))) both.0,
        ap is_some (at_other to (λ e. is_some_none both.1 (ap (get k.nodes) e ∙ absent))) ∙ both.1,
      )

  pub sound_come : used_by content ≡ length text → bytes + length text ≤ limits.bytes → len k.nodes < limits.nodes →
      IsSound limits (next + 1) (bytes + length text) come
  sound_come full room node_room = record {
    serials = by_place (IsSerial (next + 1)) (handle_is, omega arith)
        (λ q y is. let s = sound.serials q y is in (s.0, omega (arith, s.1)));
    named = named_come;
    counted = by_place (IsCounted come) counted_new counted_old;
    bytes_used =
        let same = ap used tree_come in
        let new = used-with_node now h (new_node next content) (node_at-none k h absent) in
        let all = sound.bytes_used in
        omega (arith, same, new, all, full);
    bytes_most = room;
    nodes_most = let size = len-insert_new k.nodes h made absent in omega (arith, size, node_room);
  }
