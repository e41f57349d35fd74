-- What holds of live records that make a tree, of each record by its key.
use Rattle.std.specs.Prelude.{◌≡◌, ◌⊎◌, ◌<◌, ◌≤◌, ⊤, max, ℕ, List, [], ◌∷◌, length, false, Option, Some, None, IsSome, option_map}
use Rattle.std.specs.FinMap.{get, len}
use Rattle.nfs2_types.specs.declared.fattr.Kind.{Kind}
use Rattle.nfs2_types.specs.declared.fattr.Kind.TheVariants.{File, Dir, Link}
use Rattle.server_trait.specs.Tree.{Node, Names, names_in, node_at, links, used}
use Rattle.server_trait.specs.declared.server.ServerLimits.{ServerLimits}
use Rattle.log_segments.specs.Newest.{has_key, find}
use Rattle.log_segments.specs.Record.{key_of}
use Rattle.log_records.specs.Layout.{node_key, name_key, chunk_key, value_of, node_in}
use Rattle.log_tree.specs.Held.{Records, root_id, most_names, bytes_of, tree_of}
use Rattle.log_files.specs.Chunked.{IsChunked}

-- no two records have one key
abbrev pub AreOnce : Records → Type 0
AreOnce [] = ⊤
AreOnce (r ∷ rs) = (has_key (key_of r) rs ≡ false) × AreOnce rs

-- the kind of the node of an id, if there is one
abbrev pub kind_at : Records → List ℕ → Option Kind
kind_at live id = option_map (λ r. (node_in (value_of r)).kind) (find (node_key id) live)

-- it is a file or a link
abbrev pub IsLeaf : Option Kind → Type 0
IsLeaf None = ⊥
IsLeaf (Some File) = ⊤
IsLeaf (Some Dir) = ⊥
IsLeaf (Some Link) = ⊤

-- a key is one of a node, of a name, or of a chunk
abbrev pub IsNodeKey : List ℕ → Type 0
IsNodeKey k = (id : List ℕ) × (k ≡ node_key id) × (length id ≡ 8)

abbrev pub IsNameKey : List ℕ → Type 0
IsNameKey k = (dir : List ℕ) × (name : List ℕ) × (k ≡ name_key dir name) × (length dir ≡ 8) × (length name ≤ 255)

abbrev pub IsChunkKey : List ℕ → Type 0
IsChunkKey k = (id : List ℕ) × (place : ℕ) × (k ≡ chunk_key id place) × (length id ≡ 8) × (place < 17477)

-- each record has a place among the others: names are of directories, and chunks of files and links, whose bytes stand
-- in chunks
pub record ArePlaced (live : Records) : Type 0 where
  pub form : (k r : List ℕ) → find k live ≡ Some r → IsNodeKey k ⊎ (IsNameKey k ⊎ IsChunkKey k)
  pub of_dir : (dir name r : List ℕ) → length dir ≡ 8 → find (name_key dir name) live ≡ Some r →
      kind_at live dir ≡ Some Dir
  pub of_leaf : (id : List ℕ) (place : ℕ) (r : List ℕ) → length id ≡ 8 → place < 17477 →
      find (chunk_key id place) live ≡ Some r → IsLeaf (kind_at live id)
  pub chunks : (id : List ℕ) → length id ≡ 8 → IsChunked live id (length (bytes_of live id))

-- one name leads to each directory but the root, and names lead to nodes
pub record AreTied (live : Records) : Type 0 where
  pub root : kind_at live root_id ≡ Some Dir
  pub one : (h : List ℕ) (n : Node) (m : Names) → node_at (tree_of live) h ≡ Some n → names_in n.content ≡ Some m →
      links (tree_of live) h ≡ most_names h
  pub leads : (h : List ℕ) (n : Node) (m : Names) (name x : List ℕ) → node_at (tree_of live) h ≡ Some n →
      names_in n.content ≡ Some m → get m name ≡ Some x → IsSome (node_at (tree_of live) x)

-- live records make a tree within the limits
pub record IsSound (limits : ServerLimits) (live : Records) : Type 0 where
  pub placed : ArePlaced live
  pub tied : AreTied live
  pub few_nodes : len (tree_of live).nodes ≤ max limits.nodes 1
  pub few_bytes : used (tree_of live) ≤ limits.bytes
