-- Why a half of a medium has room for each record of a tree within its limits.
use Rattle.std.specs.Prelude.{◌≡◌, ◌+◌, ◌-◌, ◌*◌, ◌/◌, ◌≤◌, max, ℕ}

-- nodes, names, chunks and bytes of a tree within the limits, the blocks of the medium, and those of a half
pub record IsBudget (nodes names chunks bytes most_nodes most_bytes blocks half : ℕ) : Type 0 where
  pub few_nodes : nodes ≤ max most_nodes 1
  pub few_bytes : bytes + 512 * names ≤ most_bytes
  -- each file or link has at most one chunk that is not full
  pub full_chunks : 480 * chunks ≤ bytes + 479 * nodes
  pub blocks_are : 128 + 8 * most_nodes + most_bytes / 128 ≤ blocks
  pub half_is : half ≡ (blocks - 1) / 2

-- the live records leave at least this many blocks of a half
abbrev pub HasRoom : Type 0
HasRoom = (nodes names chunks bytes most_nodes most_bytes blocks half : ℕ) →
    IsBudget nodes names chunks bytes most_nodes most_bytes blocks half →
    nodes + names + chunks + 61 + 2 * most_nodes ≤ half
