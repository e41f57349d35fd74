-- A tree that is kept has room for one record more, and for many.
use Rattle.std.proofs.Common.{inl, inr, ◌+◌, ◌-◌, ◌≤◌, ℕ, length, refl, arith}
use Rattle.std.specs.Prelude.{max}
use Rattle.std.specs.FinMap.{len}
use Rattle.server_trait.specs.Tree.{used}
use Rattle.log_segments.specs.Newest.{live}
use Rattle.log_segments.specs.Segments.{half_size}
use Rattle.log_tree.specs.Held.{Records, tree_of}
use Rattle.log_tree.specs.Room.{IsBudget}
use Rattle.server_trait.specs.declared.server.ServerLimits.{ServerLimits}
use Rattle.log_files.specs.Chunked.{chunks_of}
use Rattle.log_files.proofs.ChunkLaws.{below_or_not}
use Rattle.log_held.specs.Sound.{ArePlaced, IsSound}
use Rattle.log_held.specs.Room.{IsLarge}
use Rattle.log_held.proofs.Lists.{live_once}
use Rattle.log_held.proofs.RoomLaws.{counted, leaves_room, leaves_room_placed, room_law}

pub has_room : (limits : ServerLimits) (records : Records) (blocks : ℕ) → IsSound limits (live records)
    → IsLarge limits blocks → length (live records) + 61 ≤ half_size blocks
has_room limits records blocks sound large =
    let room = leaves_room limits (live records) blocks (live_once records) sound large in
    omega arith

-- also where names are not as they should be
pub has_room_placed : (limits : ServerLimits) (records : Records) (blocks : ℕ) → ArePlaced (live records)
    → len (tree_of (live records)).nodes ≤ max limits.nodes 1 → used (tree_of (live records)) ≤ limits.bytes
    → IsLarge limits blocks → length (live records) + 61 ≤ half_size blocks
has_room_placed limits records blocks placed nodes bytes large =
    let room = leaves_room_placed limits (live records) blocks (live_once records) placed nodes bytes large in
    omega arith

-- a file may grow up to the limits
pub has_room_to_fill : (limits : ServerLimits) (records : Records) (blocks size to : ℕ) → IsSound limits (live records)
    → IsLarge limits blocks → size ≤ to → (used (tree_of (live records)) - size) + to ≤ limits.bytes
    → length (live records) + chunks_of to + 60 ≤ half_size blocks + chunks_of size
has_room_to_fill limits records blocks size to sound large more fits =
    let c = counted (live records) (live_once records) sound.placed in
    let few = sound.few_nodes in
    let bytes = sound.few_bytes in
    let nodes = len (tree_of (live records)).nodes in
    let budget : IsBudget nodes c.names ((c.chunks + (chunks_of to - chunks_of size)) - 1) ((c.bytes + to) - size)
    limits.nodes limits.bytes blocks (half_size blocks) =
    record {
      few_nodes = few;
      few_bytes = omega (arith, c.used_is);
      full_chunks = omega (arith, c.full);
      blocks_are = large;
      half_is = refl;
    } in
    let room = room_law nodes c.names ((c.chunks + (chunks_of to - chunks_of size)) - 1) ((c.bytes + to) - size) limits.nodes
    limits.bytes blocks (half_size blocks) budget in
    omega (arith, c.all)

pub has_room_after : (limits : ServerLimits) (records : Records) (blocks size to : ℕ) → IsSound limits (live records)
    → IsLarge limits blocks → (used (tree_of (live records)) - size) + to ≤ limits.bytes
    → length (live records) + chunks_of to + 60 ≤ half_size blocks + chunks_of size
has_room_after limits records blocks size to sound large fits = elim (below_or_not to size) [
  | inl l ↦ let room = has_room limits records blocks sound large in omega arith
  | inr g ↦ has_room_to_fill limits records blocks size to sound large g fits
]
