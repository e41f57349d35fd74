use Rattle.std.proofs.Common.{◌++◌, refl, ◌∙◌, ap}
use Rattle.std.specs.declared.alloc.Global.{Global}
use Rattle.std.specs.Prelude.{Vec}
use Rattle.server_trait.specs.declared.FaultPoint.{FaultPoint}
use Rattle.cluster.specs.Kept.{kept}
use Rattle.cluster.proofs.StepClauses.{steps_went}
use Rattle.cluster.proofs.cluster.state.Cluster.step.Goals as goal

pub returns-clause-steps : goal.returns-clause-steps
returns-clause-steps g c = steps_went _ (kept c.args.self.now) (kept c.take.new.self) _ _ _ _ _ c.take.new.met.items _ _
    c.args.event _ c.in_ok-take.ensures.went refl
    (c.in_ok-push_points.ensures.ok ∙ ap (λ ms. c.take.new.bench.downs.items ++ ms) c.as_slice.ensures.value
    ∙ ap (λ (d : Vec FaultPoint Global). d.items ++ c.take.new.met.items) c.take.ensures.downs)
