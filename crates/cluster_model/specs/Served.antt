-- What holds at each moment without harm, whatever servers fail.
use Rattle.std.specs.Prelude.{All}
use Rattle.cluster_model.specs.Service.{Service}
use Rattle.cluster_model.specs.Moments.{Moment}
use Rattle.cluster_model.specs.Calm.{IsPlaceRoot, IsCalm}
use Rattle.cluster_model.specs.Run.{HasEnough, HasEnoughRoots, stables}

-- a moment of a run without harm
pub record IsServed (S : Service) (m : Moment) : Type 0 where
  -- arrays, decisions, digests and the stable root are those of their places
  pub calm : IsCalm S m.state
  -- no place waits for a decision that f + 1 live replicas have run
  pub enough : HasEnough S m
  -- each stable place that a line tells of has the root of its array there
  pub rooted : All (IsPlaceRoot S m.state.requests) (stables m.lines)
  -- no place of a checkpoint waits to be stable that 2f + 1 live replicas have run
  pub enough_roots : HasEnoughRoots S m
