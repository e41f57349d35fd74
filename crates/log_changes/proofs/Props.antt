-- What is kept in memory is what it is in one way.
use Rattle.std.proofs.Common.{ℕ, List, Option, Some, None}
use Rattle.std.proofs.Props.{props}
use Rattle.server_trait.specs.Tree.{Tree, Node}
use Rattle.log_index.specs.declared.info.NodeInfo.{NodeInfo}
use Rattle.log_index.specs.Memory.{Memory, IsIndexed, Matches}

pub matches_prop : (t : Tree) (h : List ℕ) (o : Option Node) (p : Option NodeInfo) → IsProp (Matches t h o p)
matches_prop t h None None = hlevel props
matches_prop t h None (Some i) = hlevel props
matches_prop t h (Some n) None = hlevel props
matches_prop t h (Some n) (Some i) = hlevel props

pub indexed_prop : (t : Tree) (x : Memory) → IsProp (IsIndexed t x)
indexed_prop t x = hlevel (props, matches_prop)
