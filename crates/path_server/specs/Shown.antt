-- The handles that a server shows, which change at each start, and the tree under them.
use Rattle.std.specs.Prelude.{◌≡◌, ℕ, List, ◌++◌, map, take, drop, replicate, Option, Some, None, IsSome, option_map, if◌then◌else◌, bytes_eq}
use Rattle.std.specs.Int.{w64, to_be_bytes}
use Rattle.std.specs.FinMap.{entries, from_entries}
use Rattle.server_trait.specs.Tree.{Tree, Node, Names, Content, BytesOf, TextOf, NamesOf, ByBytes, Server, node_at}

-- two beginnings of eight bytes in each other's place
abbrev pub exchanged : List ℕ → List ℕ → List ℕ → List ℕ
exchanged a b h = if bytes_eq (take 8 h) a then b ++ drop 8 h else
    (if bytes_eq (take 8 h) b then a ++ drop 8 h else h)

-- The handle that is shown after so many starts, from the one inside, and the other way: it begins with their number
-- where the one inside begins with zeros.
unfoldable pub shown_at : ℕ → List ℕ → List ℕ
shown_at starts h = exchanged (replicate 8 0) (to_be_bytes w64 starts) h

-- a map with other keys and values
unfoldable pub rekeyed : {A B : Type 0} → (List ℕ → List ℕ) → (A → B) → ByBytes A → ByBytes B
rekeyed key value m = from_entries (map (λ e. (key e.0, value e.1)) (entries m))

-- names that lead to the handles that are shown
abbrev pub shown_names : (List ℕ → List ℕ) → Names → Names
shown_names shown m = rekeyed (λ name. name) shown m

-- a node's content, with the handles that are shown
abbrev pub shown_content : (List ℕ → List ℕ) → Content → Content
shown_content shown (BytesOf b) = BytesOf b
shown_content shown (TextOf x) = TextOf x
shown_content shown (NamesOf m) = NamesOf (shown_names shown m)

-- a node, with the handles that are shown
abbrev pub shown_node : (List ℕ → List ℕ) → Node → Node
shown_node shown n = record n { content = shown_content shown n.content }

-- the tree under the handles that are shown
abbrev pub shown_tree : (List ℕ → List ℕ) → Tree → Tree
shown_tree shown t = record { root = shown t.root; nodes = rekeyed shown (shown_node shown) t.nodes }

-- the server under the handles that are shown
abbrev pub shown_server : (List ℕ → List ℕ) → Server → Server
shown_server shown s = record s { tree = option_map (shown_tree shown) s.tree }

-- no handle of the first tree, if there is one, is of a node of the second
abbrev pub NoneStays : Option Tree → Option Tree → Type 0
NoneStays old new = (t u : Tree) → old ≡ Some t → new ≡ Some u → (h : List ℕ) → IsSome (node_at t h) →
    node_at u h ≡ None
