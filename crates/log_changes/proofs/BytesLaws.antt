-- A file's bytes that change.
use Rattle.std.proofs.Common.{inl, inr, ◌≡◌, ◌∙◌, ◌+◌, ◌-◌, ◌/◌, ◌≤◌, ℕ, List, length, take, Some, None, refl, sym, ap, subst, arith}
use Rattle.std.specs.Prelude.{max, replicate}
use Rattle.std.specs.FinMap.{get}
use Rattle.std.proofs.lemmas.List.{take_at}
use Rattle.nfs2_types.specs.Bytes.{overwritten, resized}
use Rattle.nfs2_types.specs.declared.fattr.Kind.{Kind}
use Rattle.nfs2_types.specs.declared.fattr.Kind.TheVariants.{File, Dir, Link}
use Rattle.server_trait.specs.Tree.{Tree, Node, Content, BytesOf, TextOf, NamesOf, node_at, bytes_at, bytes_in, names_in, names_to, size_of, used_by, with_node, with_bytes, edited, used}
use Rattle.server_trait.specs.Calls.{Wrote}
use Rattle.server_trait.specs.declared.server.ServerLimits.{ServerLimits}
use Rattle.server_trait.proofs.TreeLaws.{bytes_or_not, and_then_some, edited-some, some_same, used-edited, used-without_node}
use Rattle.log_segments.specs.Newest.{find}
use Rattle.log_records.specs.Layout.{node_key, value_of, node_in}
use Rattle.log_tree.specs.Held.{Records, handle_of, bytes_of, content_of, id_of, tree_of}
use Rattle.log_files.specs.Chunked.{IsChunked, WroteBytes, ResizedBytes, KeepsButChunks}
use Rattle.log_store.specs.Store.{HasOtherBytes}
use Rattle.log_files.proofs.ReadLaws.{length-bytes}
use Rattle.log_held.specs.Sound.{kind_at, IsLeaf, IsSound}
use Rattle.log_held.proofs.Nodes.{IsFoundNode, node_found, kind_found}
use Rattle.log_index.specs.declared.info.NodeInfo.{NodeInfo}
use Rattle.log_index.specs.Memory.{Memory, IsIndexed}
use Rattle.log_index.specs.Changes.{ResizesNode}
use Rattle.log_index.proofs.Ties.{at_node}
use Rattle.log_index.proofs.NodeSets.{node_resized}
use Rattle.log_changes.proofs.PlainLaws.{KeepsPlaces, plain_sound}
use Rattle.log_changes.proofs.ChunkChanges.{kind_stays, form_stays, name_stays, chunk_stays, chunks_stay}

-- A FILE

-- what a file contains are its chunks
record IsFile (kind : Kind) (b bytes : List ℕ) : Type 0 where
  kind_is : kind ≡ File
  bytes_are : b ≡ bytes

content_file : (live : Records) (id : List ℕ) (kind : Kind) (b : List ℕ) → content_of live id kind ≡ BytesOf b
    → IsFile kind b (bytes_of live id)
content_file live id File b e = record { kind_is = refl; bytes_are = cc }
content_file live id Dir b e = absurd cc
content_file live id Link b e = absurd cc

module _ (live : Records) (id : List ℕ) (node : Node) (b : List ℕ) (eight : length id ≡ 8)
    (is : node_at (tree_of live) (handle_of id) ≡ Some node) (has : node.content ≡ BytesOf b) where
  pub found : IsFoundNode live (handle_of id) node
  found = node_found live (handle_of id) node is

  id_is : take 8 (handle_of id) ≡ id
  id_is = take_at id (replicate 24 0) 8 eight

  abbrev kind : Kind
  kind = (node_in (value_of found.block)).kind

  file : IsFile kind b (bytes_of live (id_of found.block))
  file = content_file live (id_of found.block) kind b (ap (λ (m : Node). m.content) found.is ∙ has)

  pub bytes_are : b ≡ bytes_of live id
  bytes_are = file.bytes_are ∙ ap (bytes_of live) (found.id_is ∙ id_is)

  pub kind_is : kind_at live id ≡ Some File
  kind_is = ap (kind_at live) (sym id_is) ∙ (kind_found live (handle_of id) node found ∙ ap Some file.kind_is)

  pub block_at : find (node_key id) live ≡ Some found.block
  block_at = ap (λ i. find (node_key i) live) (sym id_is) ∙ found.found

  pub block_kind : (node_in (value_of found.block)).kind ≡ File
  block_kind = file.kind_is

-- OTHER BYTES

module _ (limits : ServerLimits) (live new : Records) (id : List ℕ) (node : Node) (b : List ℕ) (to : ℕ)
    (s : IsSound limits live) (eight : length id ≡ 8) (is : node_at (tree_of live) (handle_of id) ≡ Some node)
    (has : node.content ≡ BytesOf b) (chunked : IsChunked new id to) (file : HasOtherBytes live id new)
    (others : KeepsButChunks live id new) (fits : (used (tree_of live) - length b) + to ≤ limits.bytes) where
  abbrev t : Tree
  t = tree_of live

  abbrev at : List ℕ
  at = handle_of id

  abbrev f : Node → Node
  f = with_bytes (λ _. bytes_of new id)

  tree : tree_of new ≡ edited t at f
  tree = file (found live id node b eight is has).block (block_at live id node b eight is has)
      (block_kind live id node b eight is has)

  now : (f node).content ≡ BytesOf (bytes_of new id)
  now = ap (λ c. let k : Node = record node { content = c } in (f k).content) has

  -- the bytes are as the interface says
  pub tree_with : (g : List ℕ → List ℕ) → bytes_of new id ≡ g (bytes_of live id)
      → tree_of new ≡ edited t at (with_bytes g)
  tree_with g new_is =
      let old : b ≡ bytes_of live id = bytes_are live id node b eight is has in
      let same : f node ≡ with_bytes g node =
      ap (λ c. let k : Node = record node { content = c } in f k) has
      ∙ (ap (λ xs. let k : Node = record node { content = BytesOf xs } in k) (new_is ∙ ap g (sym old))
      ∙ sym (ap (λ c. let k : Node = record node { content = c } in with_bytes g k) has)) in
      tree ∙ (edited-some t at f node is ∙ (ap (with_node t at) same ∙ sym (edited-some t at (with_bytes g) node is)))

  leaf_here : IsLeaf (kind_at live id)
  leaf_here = subst IsLeaf (sym (kind_is live id node b eight is has)) tt

  keeps : KeepsPlaces live new
  keeps = record {
    kinds = λ q long. kind_stays live new id to s.placed eight others chunked q;
    form = form_stays live new id to s.placed eight others chunked;
    names = λ dir name _. name_stays live new id to s.placed eight others chunked dir name;
    leaf = λ q p r long low there. elim (bytes_or_not q id) [
      | inl e ↦ subst (λ i. IsLeaf (kind_at live i)) (sym e) leaf_here
      | inr ne ↦ s.placed.of_leaf q p r long low
          (sym (chunk_stays live new id to s.placed eight others chunked q long ne p) ∙ there)
    ];
    chunks = chunks_stay live new id to s.placed eight others chunked;
  }

  long_now : length (bytes_of new id) ≡ to
  long_now = length-bytes new id to chunked

  pub bytes_sound : IsSound limits new
  bytes_sound =
      let uses = used-edited t at f node is in
      let before : used_by node.content ≡ length b = ap used_by has in
      let after : used_by (f node).content ≡ length (bytes_of new id) = ap used_by now in
      let share = used-without_node t at node is in
      let same = ap used tree in
      let long = long_now in
      plain_sound limits live new s keeps id node f is tree (ap names_in now ∙ sym (ap names_in has))
      (λ q. ap (names_to q) now ∙ sym (ap (names_to q) has)) (omega arith)

  pub bytes_indexed : (x y : Memory) → IsIndexed t x → ResizesNode x id to y → IsIndexed (tree_of new) y
  bytes_indexed x y h sets = subst (λ v. IsIndexed v y) (sym tree)
      (node_resized t x y id node b (bytes_of new id) to h eight is has long_now sets)

-- WITH THE MEMORY

-- the node of a file
pub file_at : (t : Tree) (h b : List ℕ) → bytes_at t h ≡ Some b
    → (n : Node) × (node_at t h ≡ Some n) × (n.content ≡ BytesOf b)
file_at t h b is =
    let n = and_then_some (λ (n : Node). bytes_in n.content) (node_at t h) b is in
    (n.0, n.1, content n.0.content n.2)
  where
    content : (c : Content) → bytes_in c ≡ Some b → c ≡ BytesOf b
    content (BytesOf x) e = ap BytesOf (let same : x ≡ b = (let q : Some x ≡ Some b = e in cc) in same)
    content (TextOf x) e = absurd (let bad : None ≡ Some b = e in cc)
    content (NamesOf m) e = absurd (let bad : None ≡ Some b = e in cc)

-- the size that is kept of a file is that of its bytes, which stand in chunks
pub record IsSized (live : Records) (id b : List ℕ) (size : ℕ) : Type 0 where
  pub size_is : size ≡ length b
  pub bytes_is : b ≡ bytes_of live id
  pub chunked : IsChunked live id size

pub sized : (limits : ServerLimits) (live : Records) (id b : List ℕ) (x : Memory) (info : NodeInfo) → IsSound limits live
    → IsIndexed (tree_of live) x → length id ≡ 8 → bytes_at (tree_of live) (handle_of id) ≡ Some b
    → Some info ≡ get x.nodes id → IsSized live id b info.size
sized limits live id b x info s h eight is is_info =
    let n = file_at (tree_of live) (handle_of id) b is in
    let both = at_node (tree_of live) x id n.0 h eight n.1 in
    let same : both.info ≡ info = some_same both.is_info (sym is_info) in
    let node : both.node ≡ n.0 = some_same both.is_node n.1 in
    let size : info.size ≡ length b = ap (λ (i : NodeInfo). i.size) (sym same) ∙ (both.says.size
    ∙ (ap (λ (m : Node). size_of m.content) node ∙ ap size_of n.2)) in
    let bytes = bytes_are live id n.0 b eight n.1 n.2 in
    record {
      size_is = size;
      bytes_is = bytes;
      chunked = subst (IsChunked live id) (ap length (sym bytes) ∙ sym size) (s.placed.chunks id eight);
    }

pub record WriteDone (limits : ServerLimits) (live new : Records) (id : List ℕ) (offset : ℕ) (piece : List ℕ) (count : ℕ)
    (y : Memory) : Type 0 where
  pub wrote : Wrote (tree_of live) (handle_of id) offset piece count (Some (tree_of new))
  pub sound : IsSound limits new
  pub indexed : IsIndexed (tree_of new) y

pub write_done : (limits : ServerLimits) (live new : Records) (id b : List ℕ) (x y : Memory) (info : NodeInfo)
    (offset count : ℕ) (piece : List ℕ) → IsSound limits live → IsIndexed (tree_of live) x → length id ≡ 8
    → bytes_at (tree_of live) (handle_of id) ≡ Some b → Some info ≡ get x.nodes id → offset ≤ length b
    → (used (tree_of live) - length b) + max (length b) (offset + length piece) ≤ limits.bytes
    → WroteBytes live new id info.size offset piece count
    → ResizesNode x id (max info.size (offset + count)) y
    → WriteDone limits live new id offset piece count y
write_done limits live new id b x y info offset count piece s h eight is is_info among fits w sets =
    let n = file_at (tree_of live) (handle_of id) b is in
    let z = sized limits live id b x info s h eight is is_info in
    let to = max info.size (offset + count) in
    let others : KeepsButChunks live id new = λ k ne. w.others k (ne (offset / 480)) in
    let within : (used (tree_of live) - length b) + to ≤ limits.bytes =
    let size = z.size_is in let most = w.most in omega arith in
    record {
      wrote = record {
        some = w.some;
        most = w.most;
        after = ap Some (tree_with limits live new id n.0 b to s eight n.1 n.2 w.chunked w.file others within
            (overwritten offset (take count piece)) w.bytes_are);
      };
      sound = bytes_sound limits live new id n.0 b to s eight n.1 n.2 w.chunked w.file others within;
      indexed = bytes_indexed limits live new id n.0 b to s eight n.1 n.2 w.chunked w.file others within x y h sets;
    }

-- a file has another size, in the log and in memory
pub record SizeDone (limits : ServerLimits) (live new : Records) (id : List ℕ) (to : ℕ) (y : Memory) : Type 0 where
  pub tree : tree_of new ≡ edited (tree_of live) (handle_of id) (with_bytes (resized to))
  pub sound : IsSound limits new
  pub indexed : IsIndexed (tree_of new) y

pub size_done : (limits : ServerLimits) (live new : Records) (id b : List ℕ) (x y : Memory) (info : NodeInfo) (to : ℕ)
    → IsSound limits live → IsIndexed (tree_of live) x → length id ≡ 8
    → bytes_at (tree_of live) (handle_of id) ≡ Some b → Some info ≡ get x.nodes id
    → (used (tree_of live) - length b) + to ≤ limits.bytes → ResizedBytes live new id info.size to
    → ResizesNode x id to y → SizeDone limits live new id to y
size_done limits live new id b x y info to s h eight is is_info fits w sets =
    let n = file_at (tree_of live) (handle_of id) b is in
    record {
      tree = tree_with limits live new id n.0 b to s eight n.1 n.2 w.chunked w.file w.others fits (resized to)
          w.bytes_are;
      sound = bytes_sound limits live new id n.0 b to s eight n.1 n.2 w.chunked w.file w.others fits;
      indexed = bytes_indexed limits live new id n.0 b to s eight n.1 n.2 w.chunked w.file w.others fits x y h sets;
    }
