-- What is kept in memory beside a log, and what ties it to the tree of the live records.
use Rattle.std.specs.Prelude.{◌≡◌, ◌<◌, ⊤, ℕ, List, length, Option, Some, None}
use Rattle.std.specs.FinMap.{get, empty, len, from_entries}
use Rattle.std.specs.Int.{from_be_bytes, w64}
use Rattle.nfs2_types.specs.declared.fattr.Kind.TheVariants.{Dir}
use Rattle.server_trait.specs.Tree.{ByBytes, Tree, Node, node_at, target, kind_of, size_of, links_of, used}
use Rattle.log_tree.specs.Held.{handle_of}
use Rattle.log_index.specs.declared.info.NodeInfo.{NodeInfo}
use Rattle.log_index.specs.declared.index.LogIndex.{LogIndex}

-- what is kept of each node under its id, how many nodes there are, the bytes in use, and a number above those of all
-- nodes
pub record Memory : Type 0 where
  pub nodes : ByBytes NodeInfo
  pub count : ℕ
  pub used : ℕ
  pub next : ℕ

-- nothing is kept
abbrev pub none_kept : Memory
none_kept = record { nodes = empty; count = 0; used = 0; next = 0 }

-- what an index keeps
abbrev pub memory_of : LogIndex → Memory
memory_of x = record { nodes = from_entries x.nodes.entries; count = x.count; used = x.used; next = x.next }

-- what is kept of a node is what the tree has there
pub record IsInfo (t : Tree) (h : List ℕ) (n : Node) (i : NodeInfo) : Type 0 where
  pub kind : i.kind ≡ kind_of n.content
  pub mode : i.mode ≡ n.mode
  pub uid : i.uid ≡ n.uid
  pub gid : i.gid ≡ n.gid
  pub size : i.size ≡ size_of n.content
  pub links : i.links ≡ links_of t h n.content

-- something is kept exactly where the tree has a node
abbrev pub Matches : Tree → List ℕ → Option Node → Option NodeInfo → Type 0
Matches t h None None = ⊤
Matches t h None (Some i) = ⊥
Matches t h (Some n) None = ⊥
Matches t h (Some n) (Some i) = IsInfo t h n i

-- the memory is that of the tree
pub record IsIndexed (t : Tree) (x : Memory) : Type 0 where
  pub nodes : (id : List ℕ) → length id ≡ 8 → Matches t (handle_of id) (node_at t (handle_of id)) (get x.nodes id)
  pub ids : (id : List ℕ) (i : NodeInfo) → get x.nodes id ≡ Some i → length id ≡ 8
  pub below : (id : List ℕ) (i : NodeInfo) → get x.nodes id ≡ Some i → from_be_bytes w64 id < x.next
  pub parents : (id : List ℕ) (i : NodeInfo) (dir name : List ℕ) → get x.nodes id ≡ Some i → i.kind ≡ Dir →
      length dir ≡ 8 → target t (handle_of dir) name ≡ Some (handle_of id) → i.parent ≡ dir
  pub count_is : x.count ≡ len t.nodes
  pub used_is : x.used ≡ used t
