-- What a tree on a medium is to a caller, and what a call leaves of it.
use Rattle.std.specs.Prelude.{◌≡◌, ℕ, Bool, true, List, Option, None, Some, IsSome, Result, if◌then◌else◌}
use Rattle.server_trait.specs.Tree.{Server, Tree, node_at}
use Rattle.server_trait.specs.declared.server.SrvErr.{SrvErr}
use Rattle.inode_tree.specs.Whole.{tree_in, IsWhole}
use Rattle.inode_tree.specs.declared.tree.InodeTree.{InodeTree}
use Rattle.inode_server.specs.Answers.{stands}

-- The server of a tree on a medium: if it is up, its tree is read off the medium's blocks and the handles alone.
abbrev pub server_of : {M : Type 0} → (M → ℕ → List ℕ) → (M → ℕ) → Bool → InodeTree M → Server
server_of content faults up s = record {
  tree = if up then Some (tree_in content s) else None;
  limits = s.limits;
  faults = faults s.store.medium;
}

-- The limits and the plan of the medium stay. Where the server is still up, its tables are those of what the medium
-- holds, and block 0 is as it was.
pub record Stays {M : Type 0} (content : M → ℕ → List ℕ) (size : M → ℕ) (up : Bool) (old new : InodeTree M)
    : Type 0 where
  pub limits : new.limits ≡ old.limits
  pub area : new.store.area ≡ old.store.area
  pub inodes : new.store.inodes ≡ old.store.inodes
  pub on_medium : size new.store.medium ≡ size old.store.medium
  pub whole : up ≡ true → IsWhole content size new
  pub name : up ≡ true → content new.store.medium 0 ≡ content old.store.medium 0

-- a call on a tree of a medium answers as a server's call may, and leaves the tree for the next
pub record Does {M T : Type 0} (content : M → ℕ → List ℕ) (size faults : M → ℕ)
    (call : Server → Result T SrvErr → Server → Type 0) (old : InodeTree M) (r : Result T SrvErr) (new : InodeTree M)
    : Type 0 where
  pub answers : call (server_of content faults true old) r (server_of content faults (stands r) new)
  pub stays : Stays content size (stands r) old new

-- no handle of the first tree, if there is one, is of a node of the second
abbrev pub NoneStays : Option Tree → Option Tree → Type 0
NoneStays old new = (t u : Tree) → old ≡ Some t → new ≡ Some u → (h : List ℕ) → IsSome (node_at t h) →
    node_at u h ≡ None
