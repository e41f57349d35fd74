-- The tree that a medium holds. It is read off the live records of the log on it: of each key the newest record of the
-- current half.
use Rattle.std.specs.Prelude.{◌==◌, ◌+◌, ◌-◌, ◌++◌, ◌∷◌, ◌&&◌, ◌||◌, max, nat_le, nat_lt, ℕ, suc, zero, List, [], Bool, true, false, not, Option, Some, None, is_some, if◌then◌else◌, bytes_eq, length, get_or, take, drop, replicate, flat_map}
use Rattle.std.specs.Int.{from_be_bytes, w32, w64}
use Rattle.std.specs.List.{list_all}
use Rattle.std.specs.FinMap.{entries, from_entries, len}
use Rattle.nfs2_types.specs.declared.fattr.Kind.{Kind}
use Rattle.nfs2_types.specs.declared.fattr.Kind.TheVariants.{File, Dir, Link}
use Rattle.server_trait.specs.Tree.{Content, BytesOf, TextOf, NamesOf, Names, Node, Tree, names_in, names_at, node_at, links, used}
use Rattle.server_trait.specs.declared.server.ServerLimits.{ServerLimits}
use Rattle.log_segments.specs.Newest.{find}
use Rattle.log_segments.specs.Record.{key_of}
use Rattle.log_segments.specs.Segments.{live_records}
use Rattle.log_records.specs.Layout.{chunk_key, value_of, node_in, child_in, chunk_in}

-- records, each a block
abbrev pub Records : Type 0
Records = List (List ℕ)

-- HANDLES

-- a node's handle is its id of 8 bytes, and zeros
abbrev pub handle_of : List ℕ → List ℕ
handle_of id = id ++ replicate 24 0

-- the root has the id 1
abbrev pub root_id : List ℕ
root_id = 0 ∷ 0 ∷ 0 ∷ 0 ∷ 0 ∷ 0 ∷ 0 ∷ 1 ∷ []

-- the handle of the node that a key is about, if it is about one
abbrev pub node_view : List ℕ → Option (List ℕ)
node_view key = if (get_or key 0 0 == 1) && (length key == 9) then Some (handle_of (drop 1 key)) else None

-- the name that a key is about, if it is about one of this directory
abbrev pub name_view : List ℕ → List ℕ → Option (List ℕ)
name_view dir key = if bytes_eq (take 9 key) (2 ∷ dir) then Some (drop 9 key) else None

-- WHAT NODES CONTAIN

-- an entry for a record whose key is seen as one
abbrev pub entry : {X : Type 0} → (List ℕ → Option (List ℕ)) → (List ℕ → X) → List ℕ → List (List ℕ × X)
entry view value r = elim (view (key_of r)) [ None ↦ [] | Some q ↦ (q, value r) ∷ [] ]

-- a chunk's bytes and those behind it; none where the chunk is not there
abbrev pub chunk_and : Option (List ℕ) → List ℕ → List ℕ
chunk_and None rest = []
chunk_and (Some block) rest = chunk_in (value_of block) ++ rest

-- the bytes of a file or of a link's text: at most so many of its chunks from a place on, up to the first that is not
-- there
unfoldable pub bytes_from : ℕ → Records → List ℕ → ℕ → List ℕ
bytes_from zero live id place = []
bytes_from (suc most) live id place =
    chunk_and (find (chunk_key id place) live) (bytes_from most live id (place + 1))

-- 8,388,608 bytes, the most of a file, have 17,477 chunks of 480 bytes
unfoldable pub bytes_of : Records → List ℕ → List ℕ
bytes_of live id = bytes_from 17477 live id 0

-- the names of a directory, with the handles of the nodes to which they lead
unfoldable pub names_of : Records → List ℕ → Names
names_of live dir = from_entries (flat_map (entry (name_view dir) (λ r. handle_of (child_in (value_of r)))) live)

-- what a node of this kind contains
abbrev pub content_of : Records → List ℕ → Kind → Content
content_of live id File = BytesOf (bytes_of live id)
content_of live id Dir = NamesOf (names_of live id)
content_of live id Link = TextOf (bytes_of live id)

-- the id of the node that a record is about
abbrev pub id_of : List ℕ → List ℕ
id_of r = take 8 (drop 1 (key_of r))

-- the node that a record is about; its number is its id
abbrev pub node_of : Records → List ℕ → Node
node_of live r =
    let n = node_in (value_of r) in
    record {
      number = from_be_bytes w64 (id_of r);
      mode = n.mode;
      uid = n.uid;
      gid = n.gid;
      content = content_of live (id_of r) n.kind;
    }

-- the tree
unfoldable pub tree_of : Records → Tree
tree_of live = record {
  root = handle_of root_id;
  nodes = from_entries (flat_map (entry node_view
      (node_of live)) live);
}

-- WHETHER RECORDS MAKE A TREE

abbrev pub is_node : List ℕ → Bool
is_node r = get_or (key_of r) 0 0 == 1

abbrev pub is_name : List ℕ → Bool
is_name r = get_or (key_of r) 0 0 == 2

abbrev pub is_chunk : List ℕ → Bool
is_chunk r = get_or (key_of r) 0 0 == 3

-- the node of this id is a directory, and it is none
abbrev pub is_dir : Records → List ℕ → Bool
is_dir live id = is_some (names_at (tree_of live) (handle_of id))

abbrev pub is_leaf : Records → List ℕ → Bool
is_leaf live id = is_some (node_at (tree_of live) (handle_of id)) && not (is_dir live id)

-- the place of a chunk among those of its node
abbrev pub place_of : List ℕ → ℕ
place_of r = from_be_bytes w32 (drop 9 (key_of r))

-- a chunk has from 1 to 480 bytes
abbrev pub has_bytes : List ℕ → Bool
has_bytes r = nat_lt 0 (length (chunk_in (value_of r))) && nat_le (length (chunk_in (value_of r))) 480

-- a chunk is the first, or a full one stands before it
abbrev pub is_behind_full : Records → List ℕ → Bool
is_behind_full live r = (place_of r == 0) || elim (find (chunk_key (id_of r) (place_of r - 1)) live) [
  | None ↦ false
  | Some before ↦ length (chunk_in (value_of before)) == 480
]

-- a node's key has 9 bytes; a name is one of a directory and has at most 255 bytes; a chunk is one of a file or of a
-- link, has the key of its place, and stands in its place
abbrev pub has_place : Records → List ℕ → Bool
has_place live r =
    if is_node r then length (key_of r) == 9
    else (if is_name r then is_dir live (id_of r) && nat_le 9 (length (key_of r)) && nat_le (length (key_of r)) 264
    else (is_chunk r && bytes_eq (key_of r) (chunk_key (id_of r) (place_of r)) && is_leaf live (id_of r)
    && nat_lt (place_of r) 17477 && has_bytes r && is_behind_full live r))

-- so many names may lead to a directory
abbrev pub most_names : List ℕ → ℕ
most_names h = if bytes_eq h (handle_of root_id) then 0 else 1

-- a name leads to a node, and to a directory no other name; none leads to the root
abbrev pub is_tied : Tree → List ℕ → Node → Bool
is_tied t h n = elim (names_in n.content) [
  | None ↦ true
  | Some names ↦ (links t h == most_names h) && list_all (λ e. is_some (node_at t e.1)) (entries names)
]

-- the nodes but for the root, and the bytes in use, are within the limits
abbrev pub is_within : ServerLimits → Tree → Bool
is_within limits t = nat_le (len t.nodes) (max limits.nodes 1) && nat_le (used t) limits.bytes

-- the tree that live records make, or none
abbrev pub tree_in : ServerLimits → Records → Option Tree
tree_in limits live =
    let t = tree_of live in
    if list_all (has_place live) live && is_dir live root_id && list_all (λ e. is_tied t e.0 e.1) (entries t.nodes)
    && is_within limits t then Some t else None

-- the tree that a medium of so many blocks holds, or none
abbrev pub held : (ℕ → List ℕ) → ℕ → ServerLimits → Option Tree
held content size limits = tree_in limits (live_records content size)
