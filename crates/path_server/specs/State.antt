-- What a path server stands for.
use Rattle.std.specs.Prelude.{◌≤◌, IfSome, max}
use Rattle.std.specs.FinMap.{len}
use Rattle.server_trait.specs.Tree.{Tree, Server, used}
use Rattle.path_server.specs.Kept.{Kept, kept_as, tree_of}
use Rattle.path_server.specs.Slots.{nodes_in, bytes_in}
use Rattle.path_server.specs.declared.tree.PathTree.{PathTree}

-- what it keeps
abbrev pub kept_by : PathTree → Kept
kept_by s = kept_as s.root (nodes_in s.nodes) (bytes_in s.nodes) s.names.names

-- its tree, its limits, and no faults
abbrev pub state_of : PathTree → Server
state_of s = record { tree = tree_of s.held (kept_by s); limits = s.limits; faults = 0 }

-- its tree is within its limits, but for the root
abbrev pub IsWithin : Server → Type 0
IsWithin s = IfSome s.tree (λ (t : Tree). (len t.nodes ≤ max 1 s.limits.nodes) × (used t ≤ s.limits.bytes))
