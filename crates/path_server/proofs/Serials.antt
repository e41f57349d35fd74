-- Handles that carry a serial number and a place.
use Rattle.std.proofs.Common.{◌≡◌, ℕ, ◌<◌, ◌^◌, List, length, Some, refl, ap, ◌∙◌}
use Rattle.std.proofs.lemmas.Nat.{from_be_bytes-to_be_bytes_8}
use Rattle.std.specs.FinMap.{get}
use Rattle.server_trait.specs.Tree.{ByBytes}
use Rattle.path_store.specs.Tables.{place_of}
use Rattle.path_server.specs.Serials.{serial_bytes}
use Rattle.path_server.specs.Sound.{AreSerials}
use Rattle.path_server.specs.declared.node.PathNode.{PathNode}

pub length-serial_bytes : (n place : ℕ) → length (serial_bytes n place) ≡ 32
unfolding serial_bytes
length-serial_bytes n place = refl

pub place-serial_bytes : (n place : ℕ) → place < 2 ^ 64 → place_of (serial_bytes n place) ≡ place
unfolding serial_bytes place_of
place-serial_bytes n place fits = from_be_bytes-to_be_bytes_8 place fits

pub kept_fits : (nodes : ByBytes PathNode) (next : ℕ) (serials : AreSerials nodes next) (h : List ℕ) (p : PathNode) →
    get nodes h ≡ Some p → length h ≡ 32
kept_fits nodes next serials h p is =
    ap length (serials h p is).0 ∙ length-serial_bytes p.number (place_of h)
