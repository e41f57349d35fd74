-- A server whose file has other bytes.
use Rattle.std.proofs.Common.{inl, inr, ◌≡◌, ◌≢◌, ℕ, ◌+◌, ◌-◌, ◌≤◌, List, length, Option, Some, None, IsSomeAnd, refl, sym, ap, ◌∙◌, subst, arith}
use Rattle.std.specs.Option.{option_map}
use Rattle.std.specs.Cmp.Lexicographic.{nat_list_cmp_total}
use Rattle.std.specs.FinMap.{get, insert, same_map}
use Rattle.nfs2_types.specs.declared.fattr.Kind.{Kind}
use Rattle.nfs2_types.specs.declared.fattr.Kind.TheVariants.{File, Dir, Link}
use Rattle.server_trait.specs.Tree.{Tree, Node, ByBytes, Content, BytesOf, TextOf, NamesOf, Names, node_at, links, names_to, used, used_by, edited, with_bytes, with_node}
use Rattle.server_trait.specs.declared.server.ServerLimits.{ServerLimits}
use Rattle.server_trait.proofs.CountLaws.{links-edited}
use Rattle.server_trait.proofs.TreeLaws.{bytes_or_not, get-insert_same, get-insert_other, edited-some, used-edited, some_and}
use Rattle.path_server.specs.Bytes.{Contents, bytes_under, content_of, rewritten}
use Rattle.path_server.specs.Kept.{Kept, kept_as, node_of, full_node, nodes_of, the_tree}
use Rattle.path_store.specs.Stored.{names_of}
use Rattle.path_server.specs.Sound.{IsSound}
use Rattle.path_server.specs.declared.node.PathNode.{PathNode}
use Rattle.path_store.proofs.Rows.{bytes_exact}
use Rattle.path_server.proofs.ContentLaws.{file_content, bytes-insert_same, bytes-insert_other}
use Rattle.path_server.proofs.ByteLaws.{length-rewritten}
use Rattle.path_server.proofs.CountedLaws.{counted_same}
use Rattle.path_server.proofs.NodeLaws.{get-nodes_of, node_at-kept, node_here}
use Rattle.path_server.proofs.SoundLaws.{few_bytes}

-- a file's content with other bytes
changed_content : (kind : Kind) (b c : List ℕ) (m : Names) (f : List ℕ → List ℕ) → kind ≡ File → c ≡ f b →
    content_of kind c m ≡ elim (content_of kind b m) as (λ _. Content) [
      | BytesOf b ↦ BytesOf (f b)
      | TextOf x ↦
          TextOf x
      | NamesOf m ↦ NamesOf m
    ]
changed_content File b c m f is e = ap BytesOf e
changed_content Dir b c m f is e = absurd (let bad : Dir ≡ File = is in cc)
changed_content Link b c m f is e = absurd (let bad : Link ≡ File = is in cc)

module _ (k : Kept) (h : List ℕ) (p : PathNode) (is : get k.nodes h ≡ Some p) (is_file : p.kind ≡ File) where
  abbrev now : Tree
  now = the_tree k

  abbrev old_bytes : List ℕ
  old_bytes = bytes_under k.contents h

  abbrev old_file : Node
  old_file = node_here k h p

  old_content : old_file.content ≡ BytesOf old_bytes
  old_content = file_content p.kind old_bytes (names_of k.paths h) is_file

  at_now : node_at now h ≡ Some old_file
  at_now = node_at-kept k h p is

  -- changes that give the same bytes are one
  pub same_change : (f g : List ℕ → List ℕ) → f old_bytes ≡ g old_bytes →
      edited now h (with_bytes f) ≡ edited now h (with_bytes g)
  same_change f g same =
      edited-some now h (with_bytes f) old_file at_now
      ∙ ap (λ (c : Content). let n : Node = record old_file { content = c } in with_node now h n)
      (ap (λ (c : Content). let n : Node = record old_file { content = c } in (with_bytes f n).content) old_content
      ∙ ap BytesOf same
      ∙ sym (ap (λ (c : Content). let n : Node = record old_file { content = c } in
      (with_bytes g n).content) old_content))
      ∙ sym (edited-some now h (with_bytes g) old_file at_now)

  module _ (contents' : Contents) (f : List ℕ → List ℕ) (here : bytes_under contents' h ≡ f old_bytes) (others : (q :
      List ℕ) → q ≢ h → bytes_under contents' q ≡ bytes_under k.contents q) where
    abbrev after : Kept
    after = kept_as k.root k.nodes contents' k.paths

    abbrev changed : Node
    changed = with_bytes f old_file

    node_changed : full_node contents' k.paths h p ≡ changed
    node_changed = ap (λ c. let n : Node = record {
      number = p.number;
      mode = p.mode;
      uid = p.uid;
      gid =
          p.gid;
      content = c;
    } in n)
        (changed_content p.kind old_bytes (bytes_under contents' h) (names_of k.paths h) f is_file here)

    node_other : (q : List ℕ) → q ≢ h → (o : Option PathNode) →
        option_map (full_node contents' k.paths q) o ≡ option_map (full_node k.contents k.paths q) o
    node_other q ne None = refl
    node_other q ne (Some x) = ap (λ b. Some (node_of x b (names_of k.paths q))) (others q ne)

    nodes_are : nodes_of k.nodes contents' k.paths ≡ insert (nodes_of k.nodes k.contents k.paths) h changed
    nodes_are = same_map nat_list_cmp_total bytes_exact _ _ (λ q. elim (bytes_or_not q h) as (λ _. get (nodes_of
        k.nodes contents' k.paths) q ≡ get (insert (nodes_of k.nodes k.contents k.paths) h changed) q) [
          | inl same ↦ subst (λ x. get (nodes_of k.nodes contents' k.paths) x ≡ get (insert (nodes_of k.nodes k.contents
              k.paths) h changed) x) (sym same)
              (get-nodes_of k.nodes contents' k.paths h ∙ ap (option_map (full_node contents' k.paths h)) is
              ∙ ap Some node_changed ∙ sym (get-insert_same (nodes_of k.nodes k.contents k.paths) h changed))
          | inr ne ↦ get-nodes_of k.nodes contents' k.paths q ∙ node_other q ne (get k.nodes q)
              ∙ sym (get-insert_other (nodes_of k.nodes k.contents k.paths) h changed q ne
              ∙ get-nodes_of k.nodes k.contents k.paths q)
        ])

    pub tree_changed : the_tree after ≡ edited now h (with_bytes f)
    tree_changed = ap (λ (m : ByBytes Node). let t : Tree = record { root = k.root; nodes = m } in t) nodes_are
        ∙ sym (edited-some now h (with_bytes f) old_file at_now)

    new_content : changed.content ≡ BytesOf (f old_bytes)
    new_content = ap (λ (c : Content). let n : Node = record old_file { content = c } in
        (with_bytes f n).content) old_content

    links_changed : (q : List ℕ) → links (the_tree after) q ≡ links now q
    links_changed q =
        let same : links (the_tree after) q ≡ links (edited now h (with_bytes f)) q = ap
        (λ t. links t q) tree_changed in
        let change = links-edited now h (with_bytes f) old_file q at_now in
        let before : names_to q old_file.content ≡ 0 = ap (names_to q) old_content in
        let then : names_to q changed.content ≡ 0 = ap (names_to q) new_content in
        omega (arith, same, change, before, then)

    pub sound_changed : (limits : ServerLimits) (next bytes bytes' : ℕ) → IsSound limits next bytes k →
        bytes' + length old_bytes ≡ bytes + length (f old_bytes) → bytes' ≤ limits.bytes →
        IsSound limits next bytes' after
    sound_changed limits next bytes bytes' sound sum room = record {
      serials = sound.serials;
      named = sound.named;
      counted = λ q x at. counted_same k after q x x refl (λ _. refl) (links_changed q) refl refl refl (sound.counted
          q x at);
      bytes_used =
          let same : used (the_tree after) ≡ used (edited now h (with_bytes f)) = ap used tree_changed in
          let change = used-edited now h (with_bytes f) old_file at_now in
          let before : used_by old_file.content ≡ length old_bytes = ap used_by old_content in
          let then : used_by changed.content ≡ length (f old_bytes) = ap used_by new_content in
          let all = sound.bytes_used in
          omega (arith, same, change, before, then, all, sum);
      bytes_most = room;
      nodes_most = sound.nodes_most;
    }

-- a file that was written over
module _ (k : Kept) (h : List ℕ) (file : IsSomeAnd (get k.nodes h) (λ p. p.kind ≡ File)) (size offset : ℕ) (piece :
    List ℕ) (fits : offset + length piece ≤ size) (nodes' : ByBytes PathNode) (same_nodes : nodes' ≡ k.nodes)
    (contents' : Contents) (puts : contents' ≡ insert k.contents h (rewritten size offset piece
    (bytes_under k.contents h))) where
  kept_file : (p : PathNode) × (get k.nodes h ≡ Some p) × (p.kind ≡ File)
  kept_file = some_and (get k.nodes h) (λ (p : PathNode). p.kind ≡ File) file

  here : bytes_under contents' h ≡ rewritten size offset piece (bytes_under k.contents h)
  here = ap (λ m. bytes_under m h) puts
      ∙ bytes-insert_same k.contents h (rewritten size offset piece (bytes_under k.contents h))

  others : (q : List ℕ) → q ≢ h → bytes_under contents' q ≡ bytes_under k.contents q
  others q ne = ap (λ m. bytes_under m q) puts
      ∙ bytes-insert_other k.contents h (rewritten size offset piece (bytes_under k.contents h)) q ne

  pub tree_rewritten : the_tree (kept_as k.root nodes' contents' k.paths) ≡ edited (the_tree k) h (with_bytes
      (rewritten size offset piece))
  tree_rewritten = ap (λ m. the_tree (kept_as k.root m contents' k.paths)) same_nodes
      ∙ tree_changed k h kept_file.0 kept_file.1 kept_file.2 contents' (rewritten size offset piece) here others

  module _ (limits : ServerLimits) (next bytes : ℕ) (sound : IsSound limits next bytes k) (len : ℕ) (is_len : len ≡
      length (bytes_under k.contents h)) where
    pub few_taken : len ≤ bytes
    few_taken = let few = few_bytes limits next bytes k sound h kept_file.0 kept_file.1 kept_file.2 in
        omega (arith, few, is_len)

    pub sound_rewritten : (bytes - length (bytes_under k.contents h)) + size ≤ limits.bytes →
        IsSound limits next ((bytes - len) + size) (kept_as k.root nodes' contents' k.paths)
    sound_rewritten room =
        let few = few_taken in
        let whole = length-rewritten size offset piece (bytes_under k.contents h) fits in
        subst (λ (m : ByBytes PathNode). IsSound limits next ((bytes - len) + size) (kept_as k.root m contents' k.paths))
        (sym same_nodes)
        (sound_changed k h kept_file.0 kept_file.1 kept_file.2 contents' (rewritten size offset piece) here others
        limits next bytes ((bytes - len) + size) sound
        (omega (arith, few, is_len, whole)) (omega (arith, room, is_len)))
