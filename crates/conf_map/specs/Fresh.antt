-- How a service begins: an empty export directory and an empty staging directory in the server, and one row in
-- use.
use Rattle.std.specs.Prelude.{◌≡◌, ◌≢◌, ◌⊎◌, ◌≤◌, ◌+◌, ℕ, List, Option, Some, None, IsSomeAnd}
use Rattle.std.specs.FinMap.{empty, len}
use Rattle.server_trait.specs.Tree.{Tree, Server, Node, NamesOf, node_at, names_at, used}
use Rattle.server_trait.specs.declared.server.ServerLimits.{ServerLimits}
use Rattle.server_trait.specs.declared.bench.ConfEntry.{ConfEntry}
use Rattle.abs_model.specs.Objects.{zero_time}
use Rattle.conf_map.specs.Stands.{root_names, DifferInNumber}

-- a server that holds this many nodes and bytes
abbrev pub HoldsUpTo : ServerLimits → ℕ → ℕ → Type 0
HoldsUpTo limits nodes bytes = (nodes ≤ limits.nodes) × (bytes ≤ limits.bytes)

-- the tree has room for one more directory and its name
abbrev pub HasRoomForOne : Server → Type 0
HasRoomForOne s = IsSomeAnd s.tree (λ t. HoldsUpTo s.limits (len t.nodes + 1) (used t + 512))

-- the export directory: mode 0777, no owners, no names
abbrev pub export_node : ℕ → Node
export_node number = record { number = number; mode = 511; uid = 0; gid = 0; content = NamesOf empty }

-- the tree has an empty export directory and an empty staging directory in its root, and no other nodes
pub record IsEmptyTree (s : Option Tree) (export : List ℕ) (number : ℕ) : Type 0 where
  pub tree : Tree
  pub has_tree : s ≡ Some tree
  pub staging : List ℕ
  pub root_has : names_at tree tree.root ≡ Some (root_names export staging)
  pub staging_has : names_at tree staging ≡ Some empty
  pub export_is : node_at tree export ≡ Some (export_node number)
  pub root_apart : staging ≢ tree.root
  pub export_apart : (export ≢ tree.root) × (export ≢ staging)
  pub covered : (q : List ℕ) (n : Node) → node_at tree q ≡ Some n →
      (q ≡ tree.root) ⊎ ((q ≡ staging) ⊎ (q ≡ export))
  pub numbers : DifferInNumber tree

-- the row of an entry that was never taken
abbrev pub unused_row : ConfEntry
unused_row = record {
  generation = 0;
  handle = None;
  number = 0;
  parent = 0;
  atime = zero_time;
  mtime = zero_time;
  ctime = zero_time;
}

-- the row of the export directory
abbrev pub export_row : List ℕ → ℕ → ConfEntry
export_row export number = record unused_row { generation = 1; handle = Some export; number = number }
