-- How many records a tree within the limits has.
use Rattle.std.specs.Prelude.{◌+◌, ◌*◌, ◌/◌, ◌≤◌, ℕ, length}
use Rattle.server_trait.specs.declared.server.ServerLimits.{ServerLimits}
use Rattle.log_segments.specs.Segments.{half_size}
use Rattle.log_tree.specs.Held.{Records}
use Rattle.log_held.specs.Sound.{AreOnce, IsSound}

-- a medium has the blocks that a tree within the limits may need
abbrev pub IsLarge : ServerLimits → ℕ → Type 0
IsLarge limits blocks = 128 + 8 * limits.nodes + limits.bytes / 128 ≤ blocks

-- the records of a sound tree leave at least 61 blocks of a half, and two for each node of the limits
abbrev pub LeavesRoom : Type 0
LeavesRoom = (limits : ServerLimits) (live : Records) (blocks : ℕ) → AreOnce live → IsSound limits live →
    IsLarge limits blocks → length live + 61 + 2 * limits.nodes ≤ half_size blocks
