-- A node's record with other attributes.
use Rattle.std.proofs.Common.{inl, inr, ◌≡◌, ◌∙◌, ℕ, List, length, take, Option, Some, None, IsSome, refl, sym, ap, subst, arith}
use Rattle.std.specs.Prelude.{option_map, replicate}
use Rattle.std.specs.Int.{from_be_bytes, w64}
use Rattle.std.proofs.lemmas.List.{take_at}
use Rattle.nfs2_types.specs.declared.fattr.Kind.{Kind}
use Rattle.nfs2_types.specs.declared.fattr.Kind.TheVariants.{File, Dir, Link}
use Rattle.server_trait.specs.Tree.{Node, node_at, kind_of, with_node, with_attr, edited, used}
use Rattle.server_trait.specs.declared.server.ServerLimits.{ServerLimits}
use Rattle.server_trait.proofs.TreeLaws.{bytes_or_not, edited-some, some_same, used-edited}
use Rattle.log_segments.specs.Newest.{find}
use Rattle.log_records.specs.declared.node.NodeRecord.{NodeRecord}
use Rattle.log_records.specs.Layout.{node_key, name_key, chunk_key, value_of, node_in}
use Rattle.log_tree.specs.Held.{Records, handle_of, bytes_of, content_of, tree_of}
use Rattle.log_tree.proofs.TreeLaws.{bytes_of-same}
use Rattle.log_store.specs.Store.{KeepsOthers, Puts, PutsNode, node_with}
use Rattle.log_files.specs.Chunked.{IsChunked}
use Rattle.log_held.specs.Sound.{kind_at, IsSound}
use Rattle.log_held.proofs.Nodes.{IsFoundNode, node_found, kind_found}
use Rattle.std.specs.FinMap.{get}
use Rattle.server_trait.proofs.SoftLaws.{some_of}
use Rattle.log_index.specs.declared.info.NodeInfo.{NodeInfo}
use Rattle.log_index.specs.Memory.{Memory, IsIndexed}
use Rattle.log_index.specs.Changes.{SetsNode}
use Rattle.log_index.proofs.Ties.{at_node}
use Rattle.log_index.proofs.NodeSets.{node_set}
use Rattle.log_changes.proofs.PlainLaws.{KeepsPlaces, chunked_same, plain_sound}

kind_of-content : (live : Records) (id : List ℕ) (kind : Kind) → kind_of (content_of live id kind) ≡ kind
kind_of-content live id File = refl
kind_of-content live id Dir = refl
kind_of-content live id Link = refl

module _ (limits : ServerLimits) (live new : Records) (id : List ℕ) (node : Node) (n : NodeRecord)
    (s : IsSound limits live) (eight : length id ≡ 8) (is : node_at (tree_of live) (handle_of id) ≡ Some node)
    (kind : n.kind ≡ kind_of node.content) (puts : PutsNode live id n new)
    (here : Puts node_in live (node_key id) n new) (others : KeepsOthers live (node_key id) new) where
  found : IsFoundNode live (handle_of id) node
  found = node_found live (handle_of id) node is

  id_is : take 8 (handle_of id) ≡ id
  id_is = take_at id (replicate 24 0) 8 eight

  abbrev old_kind : Kind
  old_kind = (node_in (value_of found.block)).kind

  -- what the node contained
  node_is : node ≡ node_with (from_be_bytes w64 id) (node_in (value_of found.block)) (content_of live id old_kind)
  node_is = sym found.is ∙ ap (λ i. node_with (from_be_bytes w64 i) (node_in (value_of found.block))
      (content_of live i old_kind)) (found.id_is ∙ id_is)

  same_kind : n.kind ≡ old_kind
  same_kind = kind ∙ (ap (λ (m : Node). kind_of m.content) node_is ∙ kind_of-content live id old_kind)

  pub tree_set : tree_of new ≡ edited (tree_of live) (handle_of id) (with_attr n.mode n.uid n.gid)
  tree_set =
      puts ∙ (ap (with_node (tree_of live) (handle_of id)) (ap (λ k. node_with (from_be_bytes w64 id) n
      (content_of live id k)) same_kind ∙ sym (ap (with_attr n.mode n.uid n.gid) node_is))
      ∙ sym (edited-some (tree_of live) (handle_of id) (with_attr n.mode n.uid n.gid) node is))

  kind_here : kind_at live id ≡ Some old_kind
  kind_here = ap (kind_at live) (sym id_is) ∙ kind_found live (handle_of id) node found

  kind_read : (o : Option (List ℕ)) → option_map (λ r. node_in (value_of r)) o ≡ Some n
      → option_map (λ r. (node_in (value_of r)).kind) o ≡ Some n.kind
  kind_read None e = absurd (let bad : None ≡ Some n = e in cc)
  kind_read (Some r) e = let same : node_in (value_of r) ≡ n = cc in ap (λ (m : NodeRecord). Some m.kind) same

  kinds : (q : List ℕ) → length q ≡ 8 → kind_at new q ≡ kind_at live q
  kinds q long = elim (bytes_or_not q id) [
    | inl e ↦ subst (λ p. kind_at new p ≡ kind_at live p) (sym e) (kind_read (find (node_key id) new) here.here
        ∙ (ap Some same_kind ∙ sym kind_here))
    | inr ne ↦ ap (option_map (λ r. (node_in (value_of r)).kind)) (others (node_key q) (λ e. ne (let same : q ≡ id = cc in
        same)))
  ]

  chunk_same : (q : List ℕ) (p : ℕ) → find (chunk_key q p) new ≡ find (chunk_key q p) live
  chunk_same q p = others (chunk_key q p) (λ e. cc)

  name_same : (dir name : List ℕ) → find (name_key dir name) new ≡ find (name_key dir name) live
  name_same dir name = others (name_key dir name) (λ e. cc)

  keeps : KeepsPlaces live new
  keeps = record {
    kinds = kinds;
    form = λ k r there. elim (bytes_or_not k (node_key id)) [
      | inl e ↦ inl (id, e, eight)
      | inr ne ↦ s.placed.form k r (sym (others k ne) ∙ there)
    ];
    names = λ dir name _. name_same dir name;
    leaf = λ q p r long few there. s.placed.of_leaf q p r long few (sym (chunk_same q p) ∙ there);
    chunks = λ q long.
        let size : length (bytes_of live q) ≡ length (bytes_of new q) =
        ap length (sym (bytes_of-same live new q (chunk_same q))) in
        subst (IsChunked new q) size
        (chunked_same live new q (length (bytes_of live q)) (chunk_same q) (s.placed.chunks q long));
  }

  pub attr_sound : IsSound limits new
  attr_sound =
      let uses = used-edited (tree_of live) (handle_of id) (with_attr n.mode n.uid n.gid) node is in
      let same = ap used tree_set in
      let few = s.few_bytes in
      plain_sound limits live new s keeps id node (with_attr n.mode n.uid n.gid) is tree_set refl (λ q. refl)
      (omega arith)

-- WITH THE MEMORY

-- a node has other attributes, in the log and in memory
pub record AttrsSet (limits : ServerLimits) (live new : Records) (id : List ℕ) (mode uid gid : ℕ) (y : Memory)
    : Type 0 where
  pub tree : tree_of new ≡ edited (tree_of live) (handle_of id) (with_attr mode uid gid)
  pub sound : IsSound limits new
  pub indexed : IsIndexed (tree_of new) y

pub attrs_set : (limits : ServerLimits) (live new : Records) (id : List ℕ) (x y : Memory) (info : NodeInfo)
    (mode uid gid : ℕ) → IsSound limits live → IsIndexed (tree_of live) x → length id ≡ 8
    → IsSome (node_at (tree_of live) (handle_of id)) → Some info ≡ get x.nodes id
    → PutsNode live id (record { kind = info.kind; mode = mode; uid = uid; gid = gid }) new
    → Puts node_in live (node_key id) (record { kind = info.kind; mode = mode; uid = uid; gid = gid }) new
    → KeepsOthers live (node_key id) new → SetsNode x id mode uid gid y
    → AttrsSet limits live new id mode uid gid y
attrs_set limits live new id x y info mode uid gid s h eight some is_info puts here others sets =
    let n : NodeRecord = record { kind = info.kind; mode = mode; uid = uid; gid = gid } in
    let there = some_of (node_at (tree_of live) (handle_of id)) some in
    let both = at_node (tree_of live) x id there.0 h eight there.1 in
    let same : both.info ≡ info = some_same both.is_info (sym is_info) in
    let node : both.node ≡ there.0 = some_same both.is_node there.1 in
    let kind : info.kind ≡ kind_of there.0.content =
    ap (λ (i : NodeInfo). i.kind) (sym same) ∙ (both.says.kind ∙ ap (λ (m : Node). kind_of m.content) node) in
    let tree = tree_set limits live new id there.0 n s eight there.1 kind puts here others in
    record {
      tree = tree;
      sound = attr_sound limits live new id there.0 n s eight there.1 kind puts here others;
      indexed = subst (λ t. IsIndexed t y) (sym tree)
          (node_set (tree_of live) x y id there.0 mode uid gid h eight there.1 sets);
    }
