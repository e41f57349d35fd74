-- What the step of a record does before it is counted and its fault points go to the bench. Contracts inside the
-- crate and their proofs use it.
use Rattle.std.specs.Prelude.{◌≡◌, ℕ, suc, List, [], ◌∷◌, ◌++◌}
use Rattle.server_trait.specs.Tree.{Server}
use Rattle.server_trait.specs.declared.ConfTable.{ConfTable}
use Rattle.server_trait.specs.declared.FaultPoint.{FaultPoint}
use Rattle.log_format.specs.declared.Event.{Event}
use Rattle.log_format.specs.declared.Event.TheVariants.{LieReply, LieRoot, LieItem}
use Rattle.log_format.specs.declared.Line.{Line}
use Rattle.log_format.specs.declared.Line.TheVariants.{At, AtDown, AtRebuilding}
use Rattle.cluster_model.specs.Moments.{Moment}
use Rattle.cluster_model.specs.Good.{AllGood}
use Rattle.cluster_model.specs.Run.{AreMet}
use Rattle.seats.specs.declared.Seat.{Seat}
use Rattle.seats.specs.declared.Seat.TheVariants.{Live as LiveSeat, Rebuilding as RebuildingSeat, Down as DownSeat}
use Rattle.replica.specs.declared.Lie.{Lie}
use Rattle.replica.specs.declared.Lie.TheVariants.{OfWord, OfRoot, OfItem}
use Rattle.service_laws.specs.Served.{service}
use Rattle.cluster.specs.OverBench.{Kept, IsState}
use Rattle.cluster.specs.Steps.{ArePointsOf, Follows, asked_by}

-- these fault points were met and these lines printed, and from moments with good arrays the model makes the step
pub record Went {X : Type 0} (state : X → Server) (event : Event) (old new : Kept) (servers servers' : List X)
    (tables tables' : List ConfTable) (met : List FaultPoint) (lines : List Line) : Type 0 where
  pub numbered : ArePointsOf old.limits (suc old.events) met
  pub lines_are : AreMet met lines
  pub limits : new.limits ≡ old.limits
  pub requests : new.requests ≡ old.requests ++ asked_by event
  pub events : new.events ≡ old.events
  pub moves : (m : Moment) → AllGood (service old.limits) m.state → IsState state old servers tables m.state →
      Follows state old new servers servers' tables' met event lines m

-- the line of a replica at the end
abbrev pub end_line : ℕ → Seat → Line
end_line r (LiveSeat k) = At r k.place
end_line r (RebuildingSeat b) = AtRebuilding r
end_line r DownSeat = AtDown r

-- the line of each replica, the first of them having the number r
abbrev pub end_lines : ℕ → List Seat → List Line
end_lines r [] = []
end_lines r (x ∷ xs) = end_line r x ∷ end_lines (suc r) xs

-- the record that tells a replica to lie so
abbrev pub lie_event : ℕ → Lie → Event
lie_event r (OfWord place word) = LieReply r place word
lie_event r (OfRoot place root) = LieRoot r place root
lie_event r (OfItem level number text) = LieItem r level number text
