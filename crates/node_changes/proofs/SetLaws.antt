-- A node that gets a size, and then a mode and owners.
use Rattle.std.proofs.Common.{◌≡◌, ℕ, List, Option, Some, None, IsSome, IsSomeAnd, is_some, sym, ap, ◌∙◌}
use Rattle.server_trait.specs.Tree.{Tree, Server, Node, node_at, edited, with_attr}
use Rattle.server_trait.proofs.SoftLaws.{some_of}
use Rattle.server_trait.proofs.TreeLaws.{some_and, is_some_and, some_same, node_at-edited_same}
use Rattle.node_changes.specs.Settings.{CanSize, node_sized}
use Rattle.node_changes.proofs.Edits.{file_at, edited_same, edited_twice}

-- the node of a tree
record IsThere (s : Server) (h : List ℕ) : Type 0 where
  tree : Tree
  has_tree : s.tree ≡ Some tree
  node : Node
  is_node : node_at tree h ≡ Some node

there : (s : Server) (h : List ℕ) (size : Option ℕ) → CanSize s h size → IsThere s h
there s h None can =
    let t = some_and s.tree (λ t. IsSome (node_at t h)) can in
    let n = some_of (node_at t.0 h) t.2 in
    record { tree = t.0; has_tree = t.1; node = n.0; is_node = n.1 }
there s h (Some size) can =
    let f = file_at can.1.tree h can.0 can.1.has_bytes in
    record { tree = can.1.tree; has_tree = can.1.has_tree; node = f.node; is_node = f.is_node }

module _ (s : Server) (h : List ℕ) (size : Option ℕ) (can : CanSize s h size) where
  abbrev k : IsThere s h
  k = there s h size can

  node_of : (t : Tree) → s.tree ≡ Some t → node_at t h ≡ Some k.node
  node_of t is = ap (λ t. node_at t h) (some_same is k.has_tree) ∙ k.is_node

  -- no size changes nothing
  pub none_sized : size ≡ None → (t : Tree) → s.tree ≡ Some t → s.tree ≡ Some (edited t h (node_sized size))
  none_sized none t is = is
      ∙ ap Some (sym (edited_same t h k.node (node_of t is) (node_sized size) (ap (λ o. node_sized o k.node) none)))

  module _ (s1 : Option Tree) (sized : (t : Tree) → s.tree ≡ Some t → s1 ≡ Some (edited t h (node_sized size))) where
    -- the node is still there
    pub still_node : IsSomeAnd s1 (λ t. IsSome (node_at t h))
    still_node = is_some_and (λ t. IsSome (node_at t h)) (sized k.tree k.has_tree)
        (ap is_some (node_at-edited_same k.tree h (node_sized size) k.node k.is_node))

    -- and has all that is given
    pub all_set : (s2 : Option Tree) (mode uid gid mode' uid' gid' : ℕ) → mode ≡ mode' → uid ≡ uid' → gid ≡ gid' →
        ((t : Tree) → s1 ≡ Some t → s2 ≡ Some (edited t h (with_attr mode uid gid))) →
        (t : Tree) → s.tree ≡ Some t → s2 ≡ Some (edited t h (λ n. with_attr mode' uid' gid' (node_sized size n)))
    all_set s2 mode uid gid mode' uid' gid' m u g set t is =
        set (edited t h (node_sized size)) (sized t is)
        ∙ ap Some (edited_twice t h k.node (node_of t is) (node_sized size) (with_attr mode uid gid)
        (λ n. with_attr mode' uid' gid' (node_sized size n))
        (ap (λ x. with_attr x uid gid (node_sized size k.node)) m
        ∙ ap (λ x. with_attr mode' x gid (node_sized size k.node)) u
        ∙ ap (λ x. with_attr mode' uid' x (node_sized size k.node)) g))
