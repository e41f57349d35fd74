-- What one record more does to the tree of live records.
use Rattle.std.specs.Prelude.{◌≡◌, ◌≢◌, ◌<◌, ◌-◌, ◌+◌, ℕ, List, [], ◌∷◌, ◌++◌, true, false, length, Some, None, IsSome}
use Rattle.std.specs.FinMap.{insert, remove}
use Rattle.nfs2_types.specs.declared.fattr.Kind.TheVariants.{File, Dir}
use Rattle.server_trait.specs.Tree.{with_node, without_node, edited, named, unnamed, with_attr, with_bytes}
use Rattle.server_trait.specs.Calls.{IsFresh}
use Rattle.server_trait.specs.declared.server.ServerLimits.{ServerLimits}
use Rattle.log_segments.specs.Newest.{after, find}
use Rattle.log_segments.specs.Record.{is_gone, key_of}
use Rattle.log_records.specs.Layout.{node_key, name_key, chunk_key, value_of, node_in, child_in, chunk_in}
use Rattle.log_tree.specs.Held.{Records, handle_of, root_id, node_of, names_of, chunk_and, bytes_from, bytes_of, tree_of, tree_in}

-- a record is about a node itself
pub record IsOfNode (r id : List ℕ) : Type 0 where
  pub size : length id ≡ 8
  pub key : key_of r ≡ node_key id

-- a record is about a name or a chunk of a node
pub record IsInside (r id : List ℕ) : Type 0 where
  pub size : length id ≡ 8
  pub about : ℕ
  pub rest : List ℕ
  pub not_node : about ≢ 1
  pub key : key_of r ≡ about ∷ (id ++ rest)

-- a node's record puts the node, with what it contained, or sets its attributes, or takes it out
pub record NodeLaws (live : Records) (r id : List ℕ) : Type 0 where
  pub puts : is_gone r ≡ false → tree_of (after live r) ≡ with_node (tree_of live) (handle_of id) (node_of live r)
  pub takes : is_gone r ≡ true → tree_of (after live r) ≡ without_node (tree_of live) (handle_of id)
  pub sets : (node : List ℕ) → find (node_key id) live ≡ Some node →
      (node_in (value_of node)).kind ≡ (node_in (value_of r)).kind → is_gone r ≡ false →
      tree_of (after live r) ≡ edited (tree_of live) (handle_of id)
      (with_attr (node_in (value_of r)).mode (node_in (value_of r)).uid (node_in (value_of r)).gid)

abbrev pub OfNode : Type 0
OfNode = (live : Records) (r id : List ℕ) → IsOfNode r id → NodeLaws live r id

-- a record of a name or a chunk changes its node alone, if there is that node
pub record InsideLaws (live : Records) (r id : List ℕ) : Type 0 where
  pub there : (node : List ℕ) → find (node_key id) live ≡ Some node →
      tree_of (after live r) ≡ with_node (tree_of live) (handle_of id) (node_of (after live r) node)
  pub absent : find (node_key id) live ≡ None → tree_of (after live r) ≡ tree_of live

abbrev pub OfInside : Type 0
OfInside = (live : Records) (r id : List ℕ) → IsInside r id → InsideLaws live r id

-- a name's record gives the directory the name, or takes it out, and no other directory
pub record NameLaws (live : Records) (r dir name : List ℕ) : Type 0 where
  pub puts : is_gone r ≡ false →
      names_of (after live r) dir ≡ insert (names_of live dir) name (handle_of (child_in (value_of r)))
  pub takes : is_gone r ≡ true → names_of (after live r) dir ≡ remove (names_of live dir) name
  pub others : (q : List ℕ) → length q ≡ 8 → q ≢ dir → names_of (after live r) q ≡ names_of live q
  pub named : is_gone r ≡ false →
      tree_of (after live r) ≡ named (tree_of live) (handle_of dir) name (handle_of (child_in (value_of r)))
  pub unnamed : is_gone r ≡ true → tree_of (after live r) ≡ unnamed (tree_of live) (handle_of dir) name

abbrev pub OfName : Type 0
OfName = (live : Records) (r dir name : List ℕ) → length dir ≡ 8 → key_of r ≡ name_key dir name →
    NameLaws live r dir name

-- a chunk's record puts the chunk's bytes in their place among the bytes of its node, or ends the bytes there; all
-- chunks before it are there
pub record ChunkLaws (live : Records) (r id : List ℕ) (place : ℕ) : Type 0 where
  pub before : bytes_of live id ≡ bytes_from place live id 0 ++ chunk_and (find (chunk_key id place) live)
      (bytes_from (17476 - place) live id (place + 1))
  pub puts : is_gone r ≡ false → bytes_of (after live r) id ≡ bytes_from place live id 0
      ++ (chunk_in (value_of r) ++ bytes_from (17476 - place) live id (place + 1))
  pub takes : is_gone r ≡ true → bytes_of (after live r) id ≡ bytes_from place live id 0
  pub file : (node : List ℕ) → find (node_key id) live ≡ Some node → (node_in (value_of node)).kind ≡ File →
      tree_of (after live r) ≡ edited (tree_of live) (handle_of id) (with_bytes (λ _. bytes_of (after live r) id))

abbrev pub OfChunk : Type 0
OfChunk = (live : Records) (r id : List ℕ) (place : ℕ) → length id ≡ 8 → place < 17477 →
    key_of r ≡ chunk_key id place →
    ((p : ℕ) → p < place → IsSome (find (chunk_key id p) live)) → ChunkLaws live r id place

-- a root without names is held, whatever the limits
abbrev pub RootIsHeld : Type 0
RootIsHeld = (limits : ServerLimits) (r : List ℕ) → key_of r ≡ node_key root_id → is_gone r ≡ false →
    node_in (value_of r) ≡ record { kind = Dir; mode = 0; uid = 0; gid = 0 } → IsFresh (tree_in limits (r ∷ []))
