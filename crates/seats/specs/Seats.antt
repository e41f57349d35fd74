-- What a position of a service has.
use Rattle.std.specs.Prelude.{ℕ, Option, None, Some, IsSome, List}
use Rattle.nfs2_types.specs.declared.Limits.{Limits}
use Rattle.abs_model.specs.declared.Entry.{Entry}
use Rattle.abs_model.specs.Array.{empty_array}
use Rattle.server_trait.specs.Tree.{Server}
use Rattle.server_trait.specs.declared.ConfTable.{ConfTable}
use Rattle.replica.specs.declared.Replica.{Replica}
use Rattle.state_transfer.specs.declared.Item.{Item}
use Rattle.state_transfer.specs.Stand.{next_in}
use Rattle.recovery.specs.Rebuilt.{Rebuilt, Begins, aimed}
use Rattle.seats.specs.declared.seat.Seat.{Seat}
use Rattle.seats.specs.declared.seat.Seat.TheVariants.{Live, Rebuilding, Down}
use Rattle.seats.specs.Positions.{StandsAt}

-- its replica, if it is live
abbrev pub live_in : Seat → Option Replica
live_in (Live k) = Some k
live_in (Rebuilding b) = None
live_in Down = None

-- what is left without a live replica
abbrev pub left_in : Seat → Seat
left_in (Live k) = Down
left_in (Rebuilding b) = Rebuilding b
left_in Down = Down

-- what is being rebuilt there, if it is so
abbrev pub rebuilding_in : Seat → Option Rebuilt
rebuilding_in (Live k) = None
rebuilding_in (Rebuilding b) = Some b
rebuilding_in Down = None

-- what is left without it
abbrev pub cleared_in : Seat → Seat
cleared_in (Live k) = Live k
cleared_in (Rebuilding b) = Down
cleared_in Down = Down

-- what is being rebuilt has this place with its root as its target
abbrev pub aimed_in : ℕ → List ℕ → Seat → Seat
aimed_in place root (Live k) = Live k
aimed_in place root (Rebuilding b) = Rebuilding (aimed place root b)
aimed_in place root Down = Down

-- the item that it is to get next
abbrev pub next_of : Seat → Option Item
next_of (Live k) = None
next_of (Rebuilding b) = next_in b.fetch.stand
next_of Down = None

-- server and table are there, and those of a replica that is not down stand for some valid array
abbrev pub HasArray : {X : Type 0} → (X → Server) → Limits → Seat → Option X → Option ConfTable → Type 0
HasArray state limits (Live k) s t = (A : List Entry) × StandsAt state limits s t A
HasArray state limits (Rebuilding b) s t = (A : List Entry) × StandsAt state limits s t A
HasArray state limits Down s t = IsSome s × IsSome t

-- The replica that a seat had was given up, and a rebuilding begins: over the array that its position stood for and
-- stands for, or over the empty one where it was down.
abbrev pub Restarted : {X : Type 0} → (X → Server) → Limits → Seat → Option X → Option ConfTable → Option X →
    Option ConfTable → Rebuilt → Type 0
Restarted state limits (Live k) s t s' t' b = (A : List Entry) → StandsAt state limits s t A →
    StandsAt state limits s' t' A × Begins A b
Restarted state limits (Rebuilding old) s t s' t' b = (A : List Entry) → StandsAt state limits s t A →
    StandsAt state limits s' t' A × Begins A b
Restarted state limits Down s t s' t' b = StandsAt state limits s' t' (empty_array limits.n)
    × Begins (empty_array limits.n) b
