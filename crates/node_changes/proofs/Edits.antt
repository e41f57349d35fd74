-- One node that is changed, and changed again.
use Rattle.std.proofs.Common.{◌≡◌, inl, inr, ℕ, ◌+◌, ◌≤◌, length, arith, List, Some, refl, sym, ap, ◌∙◌, subst}
use Rattle.std.specs.FinMap.{get, insert, len}
use Rattle.std.specs.Cmp.Lexicographic.{nat_list_cmp_total}
use Rattle.server_trait.specs.Tree.{Tree, Server, Node, ByBytes, Content, BytesOf, TextOf, NamesOf, node_at, bytes_in, bytes_at, used_by, used, edited, with_node, with_bytes}
use Rattle.server_trait.proofs.SumLaws.{total-insert_old, total-ones}
use Rattle.server_trait.proofs.TreeLaws.{bytes_or_not, get-insert_same, get-insert_other, same_answers, share, and_then_some, and_then, some_none, some_same, edited-some, node_at-edited_same, used-edited}
use Rattle.server_trait.specs.declared.server.ServerLimits.{ServerLimits}
use Rattle.node_changes.specs.Puts.{CanHold}

-- TREES

-- what is put in as it was changes nothing
insert_same : (m : ByBytes Node) (h : List ℕ) (n : Node) → get m h ≡ Some n → insert m h n ≡ m
insert_same m h n is =
    same_answers (insert m h n) m (λ q. elim (bytes_or_not q h) as (λ _. get (insert m h n) q ≡ get m q) [
      | inl e ↦ subst (λ q. get (insert m h n) q ≡ get m q) (sym e) (get-insert_same m h n ∙ sym is)
      | inr ne ↦ get-insert_other m h n q ne
    ])

-- of two nodes the later stays
insert_twice : (m : ByBytes Node) (h : List ℕ) (a b : Node) → insert (insert m h a) h b ≡ insert m h b
insert_twice m h a b = same_answers (insert (insert m h a) h b) (insert m h b)
    (λ q. elim (bytes_or_not q h) as (λ _. get (insert (insert m h a) h b) q ≡ get (insert m h b) q) [
      | inl e ↦ subst (λ q. get (insert (insert m h a) h b) q ≡ get (insert m h b) q) (sym e)
          (get-insert_same (insert m h a) h b ∙ sym (get-insert_same m h b))
      | inr ne ↦ get-insert_other (insert m h a) h b q ne ∙ get-insert_other m h a q ne
          ∙ sym (get-insert_other m h b q ne)
    ])

module _ (t : Tree) (h : List ℕ) (n : Node) (is : node_at t h ≡ Some n) where
  pub edited_same : (f : Node → Node) → f n ≡ n → edited t h f ≡ t
  edited_same f same =
      edited-some t h f n is
      ∙ ap (with_node t h) same
      ∙ ap (λ m. let kept : Tree = record t { nodes = m } in kept) (insert_same t.nodes h n is)

  pub edited_twice : (f g k : Node → Node) → g (f n) ≡ k n → edited (edited t h f) h g ≡ edited t h k
  edited_twice f g k same =
      edited-some (edited t h f) h g (f n) (node_at-edited_same t h f n is)
      ∙ ap (λ t. with_node t h (g (f n))) (edited-some t h f n is)
      ∙ ap (λ m. let kept : Tree = record t { nodes = m } in kept) (insert_twice t.nodes h (f n) (g (f n)))
      ∙ ap (with_node t h) same
      ∙ sym (edited-some t h k n is)

  pub len-edited : (f : Node → Node) → len (edited t h f).nodes ≡ len t.nodes
  len-edited f =
      let more = total-insert_old nat_list_cmp_total (λ (n : Node). 1) t.nodes h (f n) n is in
      let before = total-ones t.nodes in
      let after = total-ones (insert t.nodes h (f n)) in
      ap (λ (t : Tree). len t.nodes) (edited-some t h f n is) ∙ omega (arith, more, before, after)

-- FILES

bytes_content : (c : Content) (b : List ℕ) → bytes_in c ≡ Some b → c ≡ BytesOf b
bytes_content (BytesOf x) b is = ap BytesOf (some_same refl is ∙ some_same is refl ∙ some_same refl is)
bytes_content (TextOf x) b is = absurd (some_none is refl)
bytes_content (NamesOf m) b is = absurd (some_none is refl)

-- what is a file has a node
pub record IsFileAt (t : Tree) (h b : List ℕ) : Type 0 where
  pub node : Node
  pub is_node : node_at t h ≡ Some node
  pub content : node.content ≡ BytesOf b

pub file_at : (t : Tree) (h b : List ℕ) → bytes_at t h ≡ Some b → IsFileAt t h b
file_at t h b is =
    let n = and_then_some (λ (n : Node). bytes_in n.content) (node_at t h) b is in
    record { node = n.0; is_node = n.1; content = bytes_content n.0.content b n.2 }

-- its bytes, changed
pub with_bytes_content : (g : List ℕ → List ℕ) (n : Node) (b : List ℕ) → n.content ≡ BytesOf b →
    (with_bytes g n).content ≡ BytesOf (g b)
with_bytes_content g n b is = ap (λ c. (with_bytes g (record n { content = c })).content) is

-- it is the node with the content put in
pub with_bytes_is : (g : List ℕ → List ℕ) (n : Node) (b : List ℕ) → n.content ≡ BytesOf b →
    with_bytes g n ≡ record n { content = BytesOf (g b) }
with_bytes_is g n b is = ap (λ c. let new : Node = record n { content = c } in new) (with_bytes_content g n b is)

module _ (t : Tree) (h b : List ℕ) (is : bytes_at t h ≡ Some b) where
  abbrev n : Node
  n = (file_at t h b is).node

  at : node_at t h ≡ Some n
  at = (file_at t h b is).is_node

  content : n.content ≡ BytesOf b
  content = (file_at t h b is).content

  pub bytes_at-edited : (g : List ℕ → List ℕ) → bytes_at (edited t h (with_bytes g)) h ≡ Some (g b)
  bytes_at-edited g = and_then (λ (n : Node). bytes_in n.content) (node_at (edited t h (with_bytes g)) h)
      (with_bytes g n) (node_at-edited_same t h (with_bytes g) n at) ∙ ap bytes_in (with_bytes_content g n b content)

  -- bytes that stay
  pub bytes_same : (g : List ℕ → List ℕ) → g b ≡ b → edited t h (with_bytes g) ≡ t
  bytes_same g same =
      edited_same t h n at (with_bytes g)
      (with_bytes_is g n b content ∙ ap (λ b. let new : Node = record n { content = BytesOf b } in new) same
      ∙ ap (λ c. let new : Node = record n { content = c } in new) (sym content))

  -- bytes that are changed twice
  pub bytes_twice : (f g k : List ℕ → List ℕ) → g (f b) ≡ k b →
      edited (edited t h (with_bytes f)) h (with_bytes g) ≡ edited t h (with_bytes k)
  bytes_twice f g k same = edited_twice t h n at (with_bytes f) (with_bytes g) (with_bytes k)
      (with_bytes_is g (with_bytes f n) (f b) (with_bytes_content f n b content)
      ∙ ap (λ b. let new : Node = record n { content = BytesOf b } in new) same
      ∙ sym (with_bytes_is k n b content))

  pub used_file : (g : List ℕ → List ℕ) → used (edited t h (with_bytes g)) + length b ≡ used t + length (g b)
  used_file g =
      let e = used-edited t h (with_bytes g) n at in
      let old = ap used_by content in
      let new = ap used_by (with_bytes_content g n b content) in
      omega (arith, e, old, new)

  pub used_more : length b ≤ used t
  unfolding used
  used_more =
      let e = share (λ (n : Node). used_by n.content) t.nodes h n at in
      let old = ap used_by content in
      omega (arith, e, old)

-- ROOM

-- room for a smaller file
pub holds_less : (s : Server) (h b : List ℕ) (size : ℕ) → CanHold s h b size → (size' : ℕ) → size' ≤ size →
    CanHold s h b size'
holds_less s h b size c size' less =
    let bytes = c.room.1 in
    let small = c.small in
    record {
      tree = c.tree;
      has_tree = c.has_tree;
      has_bytes = c.has_bytes;
      room = (c.room.0, omega (arith, bytes, less));
      small = omega (arith, small, less);
    }

-- a server that can hold a file of some size can hold the file with other bytes at that size, and at a smaller one
pub holds_edited : (s s' : Server) (h b : List ℕ) (size : ℕ) (c : CanHold s h b size) (g : List ℕ → List ℕ) →
    s'.tree ≡ Some (edited c.tree h (with_bytes g)) → s'.limits ≡ s.limits →
    (size' : ℕ) → size' ≤ size → CanHold s' h (g b) size'
holds_edited s s' h b size c g tree limits size' less =
    let f = file_at c.tree h b c.has_bytes in
    let nodes = len-edited c.tree h f.node f.is_node (with_bytes g) in
    let bytes = used_file c.tree h b c.has_bytes g in
    let old = used_more c.tree h b c.has_bytes in
    let room_nodes = c.room.0 in
    let room_bytes = c.room.1 in
    let same_nodes = ap (λ (l : ServerLimits). l.nodes) limits in
    let same_bytes = ap (λ (l : ServerLimits). l.bytes) limits in
    let small = c.small in
    record {
      tree = edited c.tree h (with_bytes g);
      has_tree = tree;
      has_bytes = bytes_at-edited c.tree h b c.has_bytes g;
      room = (omega (arith, nodes, room_nodes, same_nodes), omega (arith, bytes, old, room_bytes, same_bytes, less));
      small = omega (arith, small, less);
    }
