use Rattle.cluster.specs.Kept.{kept}
use Rattle.cluster.proofs.StepClauses.{run_all_went}
use Rattle.cluster.proofs.cluster.state.Cluster.run_all.Goals as goal

pub returns-clause-went : goal.returns-clause-went
returns-clause-went g c = run_all_went _ c.rounds.result (kept c.args.self.now) (kept c.rounds.new.self) _ _ _ _ _ _ _ _
    c.requires.none.0 c.requires.none.1 c.args.self.now.sized c.rounds.ensures.ran
