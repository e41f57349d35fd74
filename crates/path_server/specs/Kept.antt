-- The tree that a path server holds, from what it keeps.
use Rattle.std.specs.Prelude.{◌≡◌, ◌≢◌, Bool, List, ℕ, Option, None, Some, Result, Ok, Err, IsSomeAnd, cond, map}
use Rattle.std.specs.FinMap.{get, entries, from_entries}
use Rattle.nfs2_types.specs.declared.fattr.Kind.{Kind}
use Rattle.nfs2_types.specs.declared.fattr.Kind.TheVariants.{Dir}
use Rattle.server_trait.specs.Tree.{Tree, Node, ByBytes, Names}
use Rattle.server_trait.specs.declared.server.SrvErr.{SrvErr}
use Rattle.server_trait.specs.declared.server.SrvErr.TheVariants.{Stale, NotDir, WrongKind}
use Rattle.path_server.specs.Bytes.{Contents, bytes_under, content_of}
use Rattle.path_store.specs.Stored.{Paths, names_of}
use Rattle.path_server.specs.declared.node.PathNode.{PathNode}

-- what a server keeps: the root's handle, the nodes, what files and links contain, and all names
pub record Kept : Type 0 where
  pub root : List ℕ
  pub nodes : ByBytes PathNode
  pub contents : Contents
  pub paths : Paths

-- what is kept, by its parts
abbrev pub kept_as : List ℕ → ByBytes PathNode → Contents → Paths → Kept
kept_as root nodes contents paths = record { root = root; nodes = nodes; contents = contents; paths = paths }

-- the node that is kept so, with these bytes and names
abbrev pub node_of : PathNode → List ℕ → Names → Node
node_of p bytes names =
    record {
      number = p.number;
      mode = p.mode;
      uid = p.uid;
      gid = p.gid;
      content = content_of p.kind bytes names;
    }

-- the node under a handle that is kept so
abbrev pub full_node : Contents → Paths → List ℕ → PathNode → Node
full_node contents paths h p = node_of p (bytes_under contents h) (names_of paths h)

-- the nodes, each with its bytes or its names
unfoldable pub nodes_of : ByBytes PathNode → Contents → Paths → ByBytes Node
nodes_of nodes contents paths = from_entries
    (map (λ e. (e.0, full_node contents paths e.0 e.1)) (entries nodes))

-- the tree
abbrev pub the_tree : Kept → Tree
the_tree k = record { root = k.root; nodes = nodes_of k.nodes k.contents k.paths }

-- the tree, where there is one
abbrev pub tree_of : Bool → Kept → Option Tree
tree_of held k = cond held (Some (the_tree k)) None

-- FINDING A NODE

-- a node of this kind that is kept, or why there is none
abbrev pub IsFound : ByBytes PathNode → List ℕ → Kind → Result PathNode SrvErr → Type 0
IsFound nodes h kind (Ok p) = (get nodes h ≡ Some p) × (p.kind ≡ kind)
IsFound nodes h kind (Err Stale) = get nodes h ≡ None
IsFound nodes h kind (Err WrongKind) = IsSomeAnd (get nodes h) (λ p. p.kind ≢ kind)
IsFound nodes h kind (Err e) = ⊥

-- a directory that is kept, or why there is none
abbrev pub IsFoundDir : ByBytes PathNode → List ℕ → Result PathNode SrvErr → Type 0
IsFoundDir nodes h (Ok p) = (get nodes h ≡ Some p) × (p.kind ≡ Dir)
IsFoundDir nodes h (Err Stale) = get nodes h ≡ None
IsFoundDir nodes h (Err NotDir) = IsSomeAnd (get nodes h) (λ p. p.kind ≢ Dir)
IsFoundDir nodes h (Err e) = ⊥

-- a file or a link that is kept, or why there is none
abbrev pub IsFoundLeaf : ByBytes PathNode → List ℕ → Result PathNode SrvErr → Type 0
IsFoundLeaf nodes h (Ok p) = (get nodes h ≡ Some p) × (p.kind ≢ Dir)
IsFoundLeaf nodes h (Err Stale) = get nodes h ≡ None
IsFoundLeaf nodes h (Err WrongKind) = IsSomeAnd (get nodes h) (λ p. p.kind ≡ Dir)
IsFoundLeaf nodes h (Err e) = ⊥
