-- What every state of a run keeps at every moment, whether it is fair or not: with the relation to the code
-- it is the condition of a cluster.
use Rattle.cluster_model.specs.Service.{Service}
use Rattle.cluster_model.specs.State.{State}
use Rattle.cluster_model.specs.Good.{AllGood}
use Rattle.cluster_model.specs.Settled.{IsSettled, IsRootSettled}
use Rattle.cluster_model.specs.Walk.{HasWalks}

-- every state of a run keeps this, whether it is fair or not
pub record IsSteady (S : Service) (s : State) : Type 0 where
  pub good : AllGood S s
  pub settled : IsSettled S s
  pub root_settled : IsRootSettled S s
  pub walks : HasWalks S s
