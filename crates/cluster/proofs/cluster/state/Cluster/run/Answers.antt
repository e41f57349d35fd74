use Rattle.std.proofs.Common.{◌<◌, ◌+◌, ◌*◌, arith}
use Rattle.cluster.specs.Kept.{kept}
use Rattle.cluster.proofs.StepClauses.{went_run, went_idle}
use Rattle.cluster.proofs.cluster.state.Cluster.run.Goals as goal

pub returns-in_ok-push_line-clause-went : goal.returns-in_ok-push_line-clause-went
returns-in_ok-push_line-clause-went g c = went_idle _ c.args.r (kept c.args.self.now) (kept c.turn.new.self) _ _ _ _ _ _ _
    _ _ _ c.in-Some.cause c.in-Some.is c.requires.none.0 c.requires.none.1 c.in_ok-cause.ensures.idle
    c.in_ok-push_line.ensures

pub returns-in_default-clause-went : goal.returns-in_default-clause-went
returns-in_default-clause-went g c =
    let small : c.args.r < 3 * c.args.self.now.limits.f + 1 =
    omega (arith, c.requires.replica, c.args.self.now.seats.ok.0, c.args.self.now.sized) in
    went_run _ c.args.r (kept c.args.self.now) (kept c.turn.new.self) _ _ _ _ _ _ _ _ c.requires.none.0
    c.requires.none.1 small c.in_ok-cause.ensures.turned c.in_ok-cause.ensures.stays.same _ c.in_default.is
    c.in_ok-cause.ensures.idle
