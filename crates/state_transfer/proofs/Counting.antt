-- The counts of a walk are small.
use Rattle.std.proofs.Common.{◌≡◌, ℕ, ◌+◌, ◌*◌, ◌^◌, ◌<◌, ◌≤◌, List, [], length, arith}
use Rattle.partition_tree.specs.Digests.{most_levels}
use Rattle.partition_tree.specs.Levels.{width}
use Rattle.partition_tree.proofs.Places.{width_small}
use Rattle.state_transfer.specs.declared.walk.Walk.{Walk}
use Rattle.state_transfer.specs.Walk.{IsSound}

-- of a level so much is got at most
pub next_small : (w : Walk) → IsSound w → w.next ≤ 4096
next_small w k =
    let a = k.within in
    let b = k.few in
    let d = width_small w.levels w.level k.most in
    omega (arith, a, b, d)

pub changes_small : (w : Walk) → IsSound w → length w.changes.items < 2 ^ 32
changes_small w k =
    let a = next_small w k in
    let b = k.changes in
    omega (arith, a, b)

pub nodes_small : (w : Walk) → IsSound w → w.nodes + 1 < 2 ^ 32
nodes_small w k =
    let a = next_small w k in
    let b = k.nodes in
    omega (arith, a, b)

-- both together are
pub counts_small : (w : Walk) → IsSound w → w.nodes + length w.changes.items < 2 ^ 32
counts_small w k =
    let a = next_small w k in
    let b = k.nodes in
    let d = k.changes in
    omega (arith, a, b, d)
