-- What a turn does. Contracts inside the crate and their proofs use it.
use Rattle.std.specs.Prelude.{◌≡◌, ℕ, suc, ◌+◌, ◌≤◌, List, Option, Result, Err, ◌⊎◌}
use Rattle.server_trait.specs.Tree.{Server}
use Rattle.server_trait.specs.declared.ConfTable.{ConfTable}
use Rattle.server_trait.specs.declared.FaultPoint.{FaultPoint}
use Rattle.log_format.specs.declared.Event.{Event}
use Rattle.log_format.specs.declared.Line.{Line}
use Rattle.log_format.specs.Lines.{text_of}
use Rattle.log_stream.specs.Writing.{Writes}
use Rattle.cluster.specs.OverBench.{Kept, HaveArrays}
use Rattle.cluster.specs.Steps.{Steps}
use Rattle.basefs.specs.declared.run_err.RunErr.{RunErr}
use Rattle.basefs.specs.declared.run_err.RunErr.TheVariants.{NoMemory}
use Rattle.basefs.specs.declared.turn.Turn.{Turn}
use Rattle.basefs.specs.declared.turn.Turn.TheVariants.{Goes, Over}

-- the cluster stepped, and its lines were written, or some of them
pub record Written {X : Type 0} (state : X → Server) (kept kept' : Kept) (servers servers' : List X)
    (tables tables' : List ConfTable) (downs downs' : List FaultPoint) (held held' : Option (List ℕ)) (event : Event)
    (result : Result Unit RunErr) : Type 0 where
  pub lines : List Line
  pub steps : Steps state kept kept' servers servers' tables tables' downs downs' event lines
  pub writes : Writes held held' (text_of lines) result

-- memory wanted before the cluster had stepped
pub record Wanted (downs downs' : List FaultPoint) (held held' : Option (List ℕ)) (result : Result Unit RunErr)
    : Type 0 where
  pub is : result ≡ Err NoMemory
  pub downs_stay : downs' ≡ downs
  pub held_stay : held' ≡ held

-- one or the other
abbrev pub Stepped : {X : Type 0} → (X → Server) → Kept → Kept → List X → List X → List ConfTable → List ConfTable →
    List FaultPoint → List FaultPoint → Option (List ℕ) → Option (List ℕ) → Event → Result Unit RunErr → Type 0
Stepped state kept kept' servers servers' tables tables' downs downs' held held' event result =
    Written state kept kept' servers servers' tables tables' downs downs' held held' event result ⊎
    Wanted downs downs' held held' result

-- the next record is not far, and the cluster has stepped once more
abbrev pub IsNear : Kept → Kept → ℕ → Turn → Type 0
IsNear old new place (Goes next) = (next ≤ place + 65560) × (new.events ≡ suc old.events)
IsNear old new place (Over status) = Unit {0}

-- where the run goes on, each replica has server and table, and those of one that is not down stand for a valid array
abbrev pub HaveArraysAfter : {X : Type 0} → (X → Server) → Kept → List X → List ConfTable → Turn → Type 0
HaveArraysAfter state kept servers tables (Goes next) = HaveArrays state kept servers tables
HaveArraysAfter state kept servers tables (Over status) = Unit {0}
