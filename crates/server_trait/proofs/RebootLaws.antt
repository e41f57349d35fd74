-- Laws of trees whose nodes have other handles.
use Rattle.std.proofs.Common.{◌≡◌, List, ℕ, Option, Some, None, option_map, IsSomeAnd, refl}
use Rattle.server_trait.specs.Tree.{Tree, Node, Content, BytesOf, TextOf, NamesOf}
use Rattle.server_trait.specs.Calls.{IsMovedContent, IsMovedNode, IsMovedTree, Rebooted}
use Rattle.server_trait.proofs.TreeLaws.{is_some_and}

same_handle : (o : Option (List ℕ)) → o ≡ option_map (λ h. h) o
same_handle None = refl
same_handle (Some h) = refl

same_content : (c : Content) → IsMovedContent (λ h. h) c c
same_content (BytesOf b) = refl
same_content (TextOf x) = refl
same_content (NamesOf m) = λ name. same_handle _

-- where each handle stays, the tree is its own
pub same_tree : (t : Tree) → Rebooted t (Some t)
same_tree t = record {
  tree = t;
  new = λ h. h;
  moved = record {
    root = refl;
    there = λ q n is. is_some_and (IsMovedNode (λ h. h) n) is (record {
      number = refl;
      mode = refl;
      uid = refl;
      gid = refl;
      content = same_content n.content;
    });
    back = λ q is. (q, refl, is);
    apart = λ p q at_p at_q same. same;
  };
  has_tree = refl;
}
