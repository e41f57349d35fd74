-- The bytes of a node, by what is kept of it.
use Rattle.std.proofs.Common.{◌≡◌, ◌∙◌, ◌*◌, ℕ, List, length, Some, refl, sym, ap, subst}
use Rattle.std.specs.Ordering.{nat_cmp}
use Rattle.std.specs.Cmp.Lexicographic.{slice_cmp}
use Rattle.std.specs.FinMap.{get, empty, len-empty}
use Rattle.nfs2_types.specs.declared.fattr.Kind.{Kind}
use Rattle.nfs2_types.specs.declared.fattr.Kind.TheVariants.{File, Dir, Link}
use Rattle.server_trait.specs.Tree.{Tree, Node, Names, Content, BytesOf, TextOf, NamesOf, node_at, text_at, text_in, kind_of, size_of, used_by}
use Rattle.server_trait.proofs.TreeLaws.{and_then_some, some_same}
use Rattle.log_tree.specs.Held.{Records, handle_of, tree_of}
use Rattle.log_files.specs.Chunked.{IsChunked}
use Rattle.log_held.specs.Sound.{IsLeaf, ArePlaced}
use Rattle.log_index.specs.declared.info.NodeInfo.{NodeInfo}
use Rattle.log_index.specs.Memory.{Memory, IsIndexed, IsInfo}
use Rattle.log_index.proofs.Ties.{at_node}
use Rattle.log_changes.specs.Made.{bytes_kept}
use Rattle.log_changes.proofs.BytesLaws.{IsSized}
use Rattle.log_changes.proofs.ButLaws.{chunked_not_leaf, file_is, kind_is, text_is}

pub info_of : (t : Tree) (id : List ℕ) (n : Node) (x : Memory) (info : NodeInfo) → IsIndexed t x → length id ≡ 8
    → node_at t (handle_of id) ≡ Some n → Some info ≡ get x.nodes id → IsInfo t (handle_of id) n info
info_of t id n x info h eight is is_info =
    let both = at_node t x id n h eight is in
    let same : both.info ≡ info = some_same both.is_info (sym is_info) in
    let node : both.node ≡ n = some_same both.is_node is in
    subst (λ i. IsInfo t (handle_of id) n i) same (subst (λ k. IsInfo t (handle_of id) k both.info) node both.says)

-- the bytes stand in chunks, and are those that the node uses
pub record AreKept (live : Records) (id : List ℕ) (n : Node) (bytes : ℕ) : Type 0 where
  pub chunked : IsChunked live id bytes
  pub uses : bytes ≡ used_by n.content

module _ (live : Records) (id : List ℕ) (n : Node) (info : NodeInfo) (placed : ArePlaced live) (eight : length id ≡ 8)
    (is : node_at (tree_of live) (handle_of id) ≡ Some n) (says : IsInfo (tree_of live) (handle_of id) n info)
    (bare : (m : Names) → n.content ≡ NamesOf m → m ≡ empty) where
  abbrev by_kind : Kind → ℕ
  by_kind k = elim k [ File ↦ info.size | Dir ↦ 0 | Link ↦ info.size ]

  kept_as : (c : Content) → n.content ≡ c → AreKept live id n (bytes_kept info)
  kept_as (BytesOf b) e =
      let size : bytes_kept info ≡ length b = ap by_kind (says.kind ∙ ap kind_of e) ∙ (says.size ∙ ap size_of e) in
      record {
        chunked = subst (IsChunked live id) (sym (size ∙ ap length (file_is live id n eight is b e)))
            (placed.chunks id eight);
        uses = size ∙ sym (ap used_by e);
      }
  kept_as (TextOf b) e =
      let size : bytes_kept info ≡ length b = ap by_kind (says.kind ∙ ap kind_of e) ∙ (says.size ∙ ap size_of e) in
      record {
        chunked = subst (IsChunked live id) (sym (size ∙ ap length (text_is live id n eight is b e)))
            (placed.chunks id eight);
        uses = size ∙ sym (ap used_by e);
      }
  kept_as (NamesOf m) e =
      let none : bytes_kept info ≡ 0 = ap by_kind (says.kind ∙ ap kind_of e) in
      record {
        chunked = subst (IsChunked live id) (sym none) (chunked_not_leaf live id placed eight (λ leaf.
            subst IsLeaf (kind_is live id n eight is ∙ ap (λ c. Some (kind_of c)) e) leaf));
        uses = none ∙ sym (ap used_by (e ∙ ap NamesOf (bare m e))
            ∙ ap (λ n. 512 * n) (len-empty (slice_cmp nat_cmp) (List ℕ)));
      }

  pub are_kept : AreKept live id n (bytes_kept info)
  are_kept = kept_as n.content refl

-- the size that is kept of a link is that of its text
pub text_sized : (live : Records) (id b : List ℕ) (x : Memory) (info : NodeInfo) → ArePlaced live
    → IsIndexed (tree_of live) x → length id ≡ 8 → text_at (tree_of live) (handle_of id) ≡ Some b
    → Some info ≡ get x.nodes id → IsSized live id b info.size
text_sized live id b x info placed h eight is is_info =
    let n = and_then_some (λ (n : Node). text_in n.content) (node_at (tree_of live) (handle_of id)) b is in
    let has = content n.0.content n.2 in
    let says = info_of (tree_of live) id n.0 x info h eight n.1 is_info in
    let size : info.size ≡ length b = says.size ∙ ap size_of has in
    let bytes = text_is live id n.0 eight n.1 b has in
    record {
      size_is = size;
      bytes_is = bytes;
      chunked = subst (IsChunked live id) (ap length (sym bytes) ∙ sym size) (placed.chunks id eight);
    }
  where
    content : (c : Content) → text_in c ≡ Some b → c ≡ TextOf b
    content (BytesOf x) e = absurd cc
    content (TextOf x) e = ap TextOf (let same : x ≡ b = cc in same)
    content (NamesOf m) e = absurd cc
