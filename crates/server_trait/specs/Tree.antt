-- What a file server holds: a tree of nodes, each under its handle.
use Rattle.std.specs.Prelude.{◌≡◌, ℕ, ◌*◌, List, length, Bool, true, false, ◌==◌, if◌then◌else◌, bytes_eq, Option, None, Some, option_and_then}
use Rattle.std.specs.Ordering.{nat_cmp}
use Rattle.std.specs.Cmp.Lexicographic.{slice_cmp}
use Rattle.std.specs.FinMap.{FinMap, get, insert, remove, len}
use Rattle.nfs2_types.specs.declared.fattr.Kind.{Kind}
use Rattle.nfs2_types.specs.declared.fattr.Kind.TheVariants.{File, Dir, Link}
use Rattle.server_trait.specs.Sums.{total}
use Rattle.server_trait.specs.declared.server.TheConstants.{NAME_BYTES}
use Rattle.server_trait.specs.declared.server.ServerLimits.{ServerLimits}

-- a finite map from byte strings
abbrev pub ByBytes : Type 0 → Type 0
ByBytes X = FinMap (slice_cmp nat_cmp) X

-- a directory's names, with the handles that they lead to
abbrev pub Names : Type 0
Names = ByBytes (List ℕ)

-- what a node contains: the bytes of a file, the text of a link, or the names of a directory
pub data Content : Type 0 where
  BytesOf : List ℕ → Content
  TextOf : List ℕ → Content
  NamesOf : Names → Content

-- a node: a number that no other node has, its attributes, and its content
pub record Node : Type 0 where
  pub number : ℕ
  pub mode : ℕ
  pub uid : ℕ
  pub gid : ℕ
  pub content : Content

-- a root, and the nodes under their handles
pub record Tree : Type 0 where
  pub root : List ℕ
  pub nodes : ByBytes Node

-- what a server is: its tree, if it has one, the most that it holds, and how often it has failed
pub record Server : Type 0 where
  pub tree : Option Tree
  pub limits : ServerLimits
  pub faults : ℕ

-- LOOKING

-- the node under a handle
abbrev pub node_at : Tree → List ℕ → Option Node
node_at t h = get t.nodes h

-- the bytes of a file, the text of a link, the names of a directory, if it is one
abbrev pub bytes_in : Content → Option (List ℕ)
bytes_in (BytesOf b) = Some b
bytes_in (TextOf x) = None
bytes_in (NamesOf m) = None

abbrev pub text_in : Content → Option (List ℕ)
text_in (BytesOf b) = None
text_in (TextOf x) = Some x
text_in (NamesOf m) = None

abbrev pub names_in : Content → Option Names
names_in (BytesOf b) = None
names_in (TextOf x) = None
names_in (NamesOf m) = Some m

-- the bytes of the file, the text of the link, the names of the directory under a handle, if there is one
abbrev pub bytes_at : Tree → List ℕ → Option (List ℕ)
bytes_at t h = option_and_then (λ n. bytes_in n.content) (node_at t h)

abbrev pub text_at : Tree → List ℕ → Option (List ℕ)
text_at t h = option_and_then (λ n. text_in n.content) (node_at t h)

abbrev pub names_at : Tree → List ℕ → Option Names
names_at t h = option_and_then (λ n. names_in n.content) (node_at t h)

-- what a name of a directory leads to
abbrev pub target : Tree → List ℕ → List ℕ → Option (List ℕ)
target t dir name = option_and_then (λ m. get m name) (names_at t dir)

-- some name of some directory leads to it
abbrev pub IsNamed : Tree → List ℕ → Type 0
IsNamed t h = (dir : List ℕ) × (name : List ℕ) × (target t dir name ≡ Some h)

-- the kind of node with this content
abbrev pub kind_of : Content → Kind
kind_of (BytesOf b) = File
kind_of (TextOf x) = Link
kind_of (NamesOf m) = Dir

-- COUNTING

-- one where a test holds
abbrev pub one_if : Bool → ℕ
one_if b = if b then 1 else 0

-- how many of the names lead to a handle
abbrev pub names_to : List ℕ → Content → ℕ
names_to h (BytesOf b) = 0
names_to h (TextOf x) = 0
names_to h (NamesOf m) = total (λ x. one_if (bytes_eq x h)) m

-- how many names of all directories lead to a handle
unfoldable pub links : Tree → List ℕ → ℕ
links t h = total (λ n. names_to h n.content) t.nodes

-- there is a directory under a handle
abbrev pub is_dir_at : Tree → List ℕ → Bool
is_dir_at t h = elim (names_at t h) [ None ↦ false | Some m ↦ true ]

-- how many of the names lead to directories
unfoldable pub subdirs : Tree → Names → ℕ
subdirs t m = total (λ x. one_if (is_dir_at t x)) m

-- the bytes of a file or of a link's text, or the number of a directory's names
abbrev pub size_of : Content → ℕ
size_of (BytesOf b) = length b
size_of (TextOf x) = length x
size_of (NamesOf m) = len m

-- the number of names of a file or a link, or of a directory's subdirectories
abbrev pub links_of : Tree → List ℕ → Content → ℕ
links_of t h (BytesOf b) = links t h
links_of t h (TextOf x) = links t h
links_of t h (NamesOf m) = subdirs t m

-- file bytes, link bytes, and `NAME_BYTES` for each name
abbrev pub used_by : Content → ℕ
used_by (BytesOf b) = length b
used_by (TextOf x) = length x
used_by (NamesOf m) = NAME_BYTES * len m

-- the bytes in use
unfoldable pub used : Tree → ℕ
used t = total (λ n. used_by n.content) t.nodes

-- CHANGING

-- a node as a call makes it
abbrev pub new_node : ℕ → Content → Node
new_node number content = record { number = number; mode = 0; uid = 0; gid = 0; content = content }

-- a node with other attributes
abbrev pub with_attr : ℕ → ℕ → ℕ → Node → Node
with_attr mode uid gid n = record n { mode = mode; uid = uid; gid = gid }

-- a file with other bytes; what is no file stays
abbrev pub with_bytes : (List ℕ → List ℕ) → Node → Node
with_bytes f n = record n {
  content = elim n.content [ BytesOf b ↦ BytesOf (f b) | TextOf x ↦ TextOf x | NamesOf m ↦ NamesOf m ];
}

-- a directory with other names; what is no directory stays
abbrev pub with_names : (Names → Names) → Node → Node
with_names f n = record n {
  content = elim n.content [ BytesOf b ↦ BytesOf b | TextOf x ↦ TextOf x | NamesOf m ↦ NamesOf (f m) ];
}

-- the tree with a node under a handle, and without
abbrev pub with_node : Tree → List ℕ → Node → Tree
with_node t h n = record t { nodes = insert t.nodes h n }

abbrev pub without_node : Tree → List ℕ → Tree
without_node t h = record t { nodes = remove t.nodes h }

-- the tree with the node under a handle changed
unfoldable pub edited : Tree → List ℕ → (Node → Node) → Tree
edited t h f = record t { nodes = elim (node_at t h) [ None ↦ t.nodes | Some n ↦ insert t.nodes h (f n) ] }

-- a directory gets a name, or loses it
abbrev pub named : Tree → List ℕ → List ℕ → List ℕ → Tree
named t dir name h = edited t dir (with_names (λ m. insert m name h))

abbrev pub unnamed : Tree → List ℕ → List ℕ → Tree
unnamed t dir name = edited t dir (with_names (λ m. remove m name))

-- a node that has no name is no longer in the tree
unfoldable pub let_go : Tree → List ℕ → Tree
let_go t h = if links t h == 0 then without_node t h else t
