-- What every state keeps, fair or not: its requests fit, and each array is good.
use Rattle.std.specs.Prelude.{◌<◌, All}
use Rattle.log_format.specs.declared.Event.{Event}
use Rattle.log_format.specs.declared.Event.TheVariants.{Request as Ask, Rogue, Scratch}
use Rattle.cluster_model.specs.Service.{Service, request}
use Rattle.cluster_model.specs.State.{Condition, Live, Down, Rebuilding, Replica, State}

-- what a log's grammar says of a record: its request fits, and its bytes are bytes
abbrev pub FitsEvent : Service → Event → Type 0
FitsEvent S (Ask client time bytes) = S.fits (request time bytes)
FitsEvent S (Rogue r time bytes) = S.fits (request time bytes)
FitsEvent S (Scratch r i offset bytes) = All (λ c. c < 256) bytes
FitsEvent S _ = Unit {0}

-- the array of a replica in this condition is good
abbrev pub IsGoodIn : Service → Condition → Type 0
IsGoodIn S (Live l) = S.good l.array
IsGoodIn S Down = Unit {0}
IsGoodIn S (Rebuilding b) = S.good b.array

-- every request fits, and every array is good
pub record AllGood (S : Service) (s : State) : Type 0 where
  pub requests : All S.fits s.requests
  pub arrays : All (λ (x : Replica). IsGoodIn S x.condition) s.replicas
