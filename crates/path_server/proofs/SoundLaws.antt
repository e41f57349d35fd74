-- What a sound server knows of a node that it keeps.
use Rattle.std.proofs.Common.{◌≡◌, ℕ, ◌+◌, ◌^◌, ◌≤◌, ◌<◌, ◌++◌, Bool, true, false, List, length, Some, IfSome, refl, ap, ◌∙◌, arith}
use Rattle.std.specs.Prelude.{max}
use Rattle.std.specs.FinMap.{len, get}
use Rattle.nfs2_types.specs.declared.fattr.Kind.TheVariants.{File, Dir, Link}
use Rattle.server_trait.specs.Tree.{Tree, Node, used_by, used, node_at, bytes_at, text_at, names_at, bytes_in, text_in, names_in, target}
use Rattle.server_trait.specs.declared.server.ServerLimits.{ServerLimits}
use Rattle.server_trait.proofs.TreeLaws.{share, and_then, names_at-node, target-node}
use Rattle.server_trait.proofs.CountLaws.{subdirs-most}
use Rattle.path_server.specs.Bytes.{bytes_under}
use Rattle.path_server.specs.Kept.{Kept, the_tree, tree_of}
use Rattle.path_store.specs.Stored.{names_of}
use Rattle.path_server.specs.Sound.{IsSound}
use Rattle.path_server.specs.declared.node.PathNode.{PathNode}
use Rattle.path_server.proofs.ContentLaws.{file_content, dir_content, link_content}
use Rattle.path_server.proofs.CountChanges.{links-cost}
use Rattle.path_store.proofs.NameLaws.{get-names_of}
use Rattle.path_server.proofs.NodeLaws.{len-nodes_of, node_at-kept, node_here}
use Rattle.path_server.proofs.Serials.{kept_fits}

node_used : (t : Tree) (h : List ℕ) (n : Node) → node_at t h ≡ Some n → used_by n.content ≤ used t
unfolding used
node_used t h n is = share (λ (n : Node). used_by n.content) t.nodes h n is

module _ (limits : ServerLimits) (next bytes : ℕ) (k : Kept) (sound : IsSound limits next bytes k) (h : List ℕ) (p :
    PathNode) (is : get k.nodes h ≡ Some p) where
  pub fits : length h ≡ 32
  fits = kept_fits k.nodes next sound.serials h p is

  -- what a node contains is among the bytes that are counted
  pub few_used : used_by (node_here k h p).content ≤ bytes
  few_used = let share = node_used (the_tree k) h (node_here k h p) (node_at-kept k h p is) in
      let all = sound.bytes_used in omega (arith, share, all)

  -- names cost bytes
  pub few_names : p.kind ≡ Dir → limits.bytes ≤ 1073741824 → p.names + 1 < 2 ^ 32
  few_names is_dir most =
      let share = few_used in
      let size = ap used_by (dir_content p.kind (bytes_under k.contents h) (names_of k.paths h) is_dir) in
      let count = (sound.counted h p is).names in
      let within = sound.bytes_most in
      omega (arith, share, size, count, within, most)

  pub few_subdirs : p.kind ≡ Dir → limits.bytes ≤ 1073741824 → p.subdirs + 1 < 2 ^ 32
  few_subdirs is_dir most =
      let names = few_names is_dir most in
      let count = (sound.counted h p is).names in
      let subs = (sound.counted h p is).subdirs in
      let fewer = subdirs-most (the_tree k) (names_of k.paths h) in
      omega (arith, names, count, subs, fewer)

  pub few_links : limits.bytes ≤ 1073741824 → p.links + 1 < 2 ^ 32
  few_links most =
      let cost = links-cost (the_tree k) h in
      let count = (sound.counted h p is).links in
      let all = sound.bytes_used in
      let within = sound.bytes_most in
      omega (arith, cost, count, all, within, most)

  pub few_bytes : p.kind ≡ File → length (bytes_under k.contents h) ≤ bytes
  few_bytes is_file =
      let share = few_used in
      let size = ap used_by (file_content p.kind (bytes_under k.contents h) (names_of k.paths h) is_file) in
      omega (arith, share, size)

  pub short_text : p.kind ≡ Link → length (bytes_under k.contents h) ≤ bytes
  short_text is_link =
      let share = few_used in
      let size = ap used_by (link_content p.kind (bytes_under k.contents h) (names_of k.paths h) is_link) in
      omega (arith, share, size)

  pub bytes_at-is : p.kind ≡ File → bytes_at (the_tree k) h ≡ Some (bytes_under k.contents h)
  bytes_at-is is_file =
      and_then (λ (n : Node). bytes_in n.content) (node_at (the_tree k) h) (node_here k h p) (node_at-kept k h p is)
      ∙ ap bytes_in (file_content p.kind (bytes_under k.contents h) (names_of k.paths h) is_file)

  pub text_at-is : p.kind ≡ Link → text_at (the_tree k) h ≡ Some (bytes_under k.contents h)
  text_at-is is_link =
      and_then (λ (n : Node). text_in n.content) (node_at (the_tree k) h) (node_here k h p) (node_at-kept k h p is)
      ∙ ap text_in (link_content p.kind (bytes_under k.contents h) (names_of k.paths h) is_link)

  pub names_at-is : p.kind ≡ Dir → names_at (the_tree k) h ≡ Some (names_of k.paths h)
  names_at-is is_dir = names_at-node (the_tree k) h (node_here k h p) (node_at-kept k h p is)
      ∙ ap names_in (dir_content p.kind (bytes_under k.contents h) (names_of k.paths h) is_dir)

  pub target_is : p.kind ≡ Dir → (name : List ℕ) → target (the_tree k) h name ≡ get k.paths (h ++ name)
  target_is is_dir name =
      target-node (the_tree k) h (node_here k h p) (names_of k.paths h) name (node_at-kept k h p is) (ap names_in
      (dir_content p.kind (bytes_under k.contents h) (names_of k.paths h) is_dir))
      ∙ get-names_of h fits k.paths name

-- a tree that is held is within the limits
pub within : (held : Bool) (limits : ServerLimits) (next bytes : ℕ) (k : Kept) → (held ≡ true →
    IsSound limits next bytes k) →
    IfSome (tree_of held k) (λ (t : Tree). (len t.nodes ≤ max 1 limits.nodes) × (used t ≤ limits.bytes))
within true limits next bytes k sound =
    let s = sound refl in
    (rw (len-nodes_of k.nodes k.contents k.paths) s.nodes_most, rw (← s.bytes_used) s.bytes_most)
within false limits next bytes k sound = tt
