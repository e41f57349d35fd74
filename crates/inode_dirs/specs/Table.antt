-- The tree that a table of inodes holds. An inode's number is its node's.
use Rattle.std.specs.Prelude.{◌≡◌, ℕ, zero, suc, ◌<◌, List, [], ◌∷◌, Option, None, Some, IsSome}
use Rattle.std.specs.FinMap.{from_entries}
use Rattle.server_trait.specs.Tree.{Tree, Node, Content, BytesOf, TextOf, NamesOf}
use Rattle.inode_dirs.specs.Slots.{Slots, names_of}

-- what a used inode holds
pub data Body : Type 0 where
  FileBytes : List ℕ → Body
  LinkText : List ℕ → Body
  DirSlots : Slots → Body

-- a used inode
pub record Entry : Type 0 where
  pub mode : ℕ
  pub uid : ℕ
  pub gid : ℕ
  pub body : Body

-- the used inodes
abbrev pub Table : Type 0
Table = ℕ → Option Entry

-- what the node of an inode contains, where each inode has a handle
abbrev pub content_of : (ℕ → List ℕ) → Body → Content
content_of handle (FileBytes b) = BytesOf b
content_of handle (LinkText x) = TextOf x
content_of handle (DirSlots slots) = NamesOf (names_of handle slots)

-- the node of an inode
abbrev pub node_of : (ℕ → List ℕ) → ℕ → Entry → Node
node_of handle i e =
    record { number = i; mode = e.mode; uid = e.uid; gid = e.gid; content = content_of handle e.body }

-- the row of an inode, if it is used, before other rows
abbrev pub row_of : (ℕ → List ℕ) → ℕ → Option Entry → List (List ℕ × Node) → List (List ℕ × Node)
row_of handle i None rest = rest
row_of handle i (Some e) rest = (handle i, node_of handle i e) ∷ rest

-- the nodes of the used inodes below a number, with their handles
unfoldable pub rows_to : (ℕ → List ℕ) → Table → ℕ → List (List ℕ × Node)
rows_to handle t zero = []
rows_to handle t (suc n) = row_of handle n (t n) (rows_to handle t n)

-- the tree of so many inodes, the first of which is the root
abbrev pub tree_of : (ℕ → List ℕ) → ℕ → Table → Tree
tree_of handle n t = record { root = handle 0; nodes = from_entries (rows_to handle t n) }

-- used inodes have handles of their own, and are below the number
pub record AreApart (handle : ℕ → List ℕ) (n : ℕ) (t : Table) : Type 0 where
  pub apart : (i j : ℕ) → IsSome (t i) → IsSome (t j) → handle i ≡ handle j → i ≡ j
  pub within : (i : ℕ) → IsSome (t i) → i < n
