-- Nodes as they are made, and names that may come.
use Rattle.std.specs.Prelude.{◌≡◌, ◌≢◌, ◌≤◌, ◌+◌, ◌==◌, ⊤, ℕ, Bool, true, List, [], length, None, Some, IsSome}
use Rattle.std.specs.FinMap.{empty}
use Rattle.std.specs.Int.{from_be_bytes, w64}
use Rattle.nfs2_types.specs.declared.fattr.Kind.{Kind}
use Rattle.nfs2_types.specs.declared.fattr.Kind.TheVariants.{File, Dir, Link}
use Rattle.server_trait.specs.Tree.{Tree, Names, Content, BytesOf, TextOf, NamesOf, node_at, names_at, links, new_node, with_node}
use Rattle.server_trait.specs.Calls.{IsNewNumber}
use Rattle.log_tree.specs.Held.{Records, handle_of, bytes_of, root_id}
use Rattle.log_index.specs.declared.info.NodeInfo.{NodeInfo}
use Rattle.log_store.specs.Store.{KeepsTree}
use Rattle.log_files.specs.Chunked.{IsChunked, KeepsButChunks, chunks_of}

-- what a node of this kind contains as it is made: no bytes, no names, or the text of a link
abbrev pub made_content : Kind → List ℕ → Content
made_content File text = BytesOf []
made_content Dir text = NamesOf empty
made_content Link text = TextOf text

-- only links have a text
abbrev pub HasText : Kind → List ℕ → Type 0
HasText File text = text ≡ []
HasText Dir text = text ≡ []
HasText Link text = ⊤

-- the bytes of a file or of a link's text, or none
abbrev pub bytes_kept : NodeInfo → ℕ
bytes_kept i = elim i.kind [ File ↦ i.size | Dir ↦ 0 | Link ↦ i.size ]

-- a node with a name has no other: a directory, or a file or a link with one name
abbrev pub is_last : NodeInfo → Bool
is_last i = elim i.kind [ File ↦ i.links == 1 | Dir ↦ true | Link ↦ i.links == 1 ]

-- a text stands in the chunks of a node that is not there yet
pub record TextPut (live new : Records) (id text : List ℕ) : Type 0 where
  pub bytes_are : bytes_of new id ≡ text
  pub chunked : IsChunked new id (length text)
  pub others : KeepsButChunks live id new
  pub alone : KeepsTree live id new
  pub few : length new ≤ length live + chunks_of (length text)

-- a new node stands under a new id, and no name leads to it
pub record NodeMade (kind : Kind) (text : List ℕ) (old : Tree) (id : List ℕ) (new : Tree) : Type 0 where
  pub absent : node_at old (handle_of id) ≡ None
  pub number : IsNewNumber old (from_be_bytes w64 id)
  pub not_root : id ≢ root_id
  pub tree : new ≡ with_node old (handle_of id) (new_node (from_be_bytes w64 id) (made_content kind text))
  pub unlinked : links new (handle_of id) ≡ 0

-- if it is a directory, it has no names
abbrev pub IsBareDir : Tree → List ℕ → Type 0
IsBareDir t h = (m : Names) → names_at t h ≡ Some m → m ≡ empty

-- if it is a directory, no name leads to it, and it is not the root
abbrev pub IsFreeDir : Tree → List ℕ → Type 0
IsFreeDir t id = IsSome (names_at t (handle_of id)) → (links t (handle_of id) ≡ 0) × (id ≢ root_id)
