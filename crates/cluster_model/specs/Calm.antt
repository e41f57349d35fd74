-- Without harm, and whatever servers fail: every word that stands is right.
use Rattle.std.specs.Prelude.{◌≡◌, ℕ, ◌≤◌, false, List, length, All}
use Rattle.cluster_model.specs.declared.request.Request.{Request}
use Rattle.nfs2_types.specs.declared.Word.{Word}
use Rattle.log_format.specs.declared.Event.{Event}
use Rattle.log_format.specs.declared.Event.TheVariants.{Request as Ask, Run, RunAll, End}
use Rattle.cluster_model.specs.Service.{Service, array_at}
use Rattle.cluster_model.specs.Tree.{root}
use Rattle.cluster_model.specs.State.{Condition, Live, Down, Rebuilding, Replica, State}
use Rattle.cluster_model.specs.Right.{IsRightLive, IsRightWord}

-- a root word for a place that has been asked for is that of its place
abbrev pub IsPlaceRoot : Service → List Request → ℕ × List ℕ → Type 0
IsPlaceRoot S q d = (d.0 ≤ length q) × (d.1 ≡ root S (array_at S q d.0))

-- what is known without harm of a replica in this condition, and of its standing words: none is being
-- rebuilt
abbrev pub IsCalmIn : Service → List Request → List (ℕ × Word) → List (ℕ × List ℕ) → Condition → Type 0
IsCalmIn S q words roots (Live l) = (l.harmed ≡ false) × IsRightLive S q l words roots
IsCalmIn S q words roots Down = All (IsRightWord S q (length q)) words × All (IsPlaceRoot S q) roots
IsCalmIn S q words roots (Rebuilding b) = ⊥

-- the same of a replica
abbrev pub IsCalmReplica : Service → List Request → Replica → Type 0
IsCalmReplica S q x = IsCalmIn S q x.words x.roots x.condition

-- what is known without harm of a state
pub record IsCalm (S : Service) (s : State) : Type 0 where
  pub stable : s.stable ≤ length s.requests
  pub stable_root : s.root ≡ root S (array_at S s.requests s.stable)
  pub decided : All (IsRightWord S s.requests (length s.requests)) s.decisions
  pub replicas : All (IsCalmReplica S s.requests) s.replicas

-- the records that harm nothing
abbrev pub IsHarmless : Event → Type 0
IsHarmless (Ask client time bytes) = Unit {0}
IsHarmless (Run r) = Unit {0}
IsHarmless RunAll = Unit {0}
IsHarmless End = Unit {0}
IsHarmless _ = ⊥
