use Rattle.std.proofs.Common.{sym}
use Rattle.cluster.specs.Kept.{kept}
use Rattle.cluster.proofs.Ends.{ask_went, ask_arrays, end_went}
use Rattle.cluster.proofs.StepClauses.{went_of}
use Rattle.cluster.proofs.cluster.state.Cluster.take.Goals as goal

pub returns-in-Request-clause-went : goal.returns-in-Request-clause-went
returns-in-Request-clause-went g c = went_of _ c.ask.result _ _ (sym c.in-Request.is) (kept c.args.self.now)
    (kept c.ask.new.self) _ _ _ _ _ _
    (ask_went _ c.ask.result (kept c.args.self.now) (kept c.ask.new.self) c.in-Request.client c.in-Request.time
    c.in-Request.bytes _ _ _ _ c.requires.none.0 c.requires.none.1 c.ask.ensures)

pub returns-in-Request-clause-arrays : goal.returns-in-Request-clause-arrays
returns-in-Request-clause-arrays g c = ask_arrays _ c.ask.result (kept c.args.self.now) (kept c.ask.new.self) _ _ _
    c.requires.arrays c.ask.ensures

pub returns-in-Run-clause-went : goal.returns-in-Run-clause-went
returns-in-Run-clause-went g c = went_of _ c.run.result _ _ (sym c.in-Run.is) (kept c.args.self.now)
    (kept c.run.new.self) _ _ _ _ _ _ c.run.ensures.went

pub returns-in-Reboot-clause-went : goal.returns-in-Reboot-clause-went
returns-in-Reboot-clause-went g c = went_of _ c.reboot.result _ _ (sym c.in-Reboot.is) (kept c.args.self.now)
    (kept c.reboot.new.self) _ _ _ _ _ _ c.reboot.ensures.went

pub returns-in-Fetch-clause-went : goal.returns-in-Fetch-clause-went
returns-in-Fetch-clause-went g c = went_of _ c.fetch.result _ _ (sym c.in-Fetch.is) (kept c.args.self.now)
    (kept c.fetch.new.self) _ _ _ _ _ _ c.fetch.ensures.went

pub returns-in-End-clause-went : goal.returns-in-End-clause-went
returns-in-End-clause-went g c = went_of _ c.end.result _ _ (sym c.in-End.is) (kept c.args.self.now)
    (kept c.args.self.now) _ _ _ _ _ _
    (end_went _ c.end.result (kept c.args.self.now) _ _ _ _ _ c.requires.none.0 c.requires.none.1 c.end.ensures)

pub returns-in-Rogue-clause-went : goal.returns-in-Rogue-clause-went
returns-in-Rogue-clause-went g c = went_of _ c.rogue.result _ _ (sym c.in-Rogue.is) (kept c.args.self.now)
    (kept c.rogue.new.self) _ _ _ _ _ _ c.rogue.ensures.went

pub returns-in-Skip-clause-went : goal.returns-in-Skip-clause-went
returns-in-Skip-clause-went g c = went_of _ c.skip.result _ _ (sym c.in-Skip.is) (kept c.args.self.now)
    (kept c.skip.new.self) _ _ _ _ _ _ c.skip.ensures.went

pub returns-in-Wipe-clause-went : goal.returns-in-Wipe-clause-went
returns-in-Wipe-clause-went g c = went_of _ c.wipe.result _ _ (sym c.in-Wipe.is) (kept c.args.self.now)
    (kept c.wipe.new.self) _ _ _ _ _ _ c.wipe.ensures.went

pub returns-in-LieReply-clause-went : goal.returns-in-LieReply-clause-went
returns-in-LieReply-clause-went g c = went_of _ c.lie.result _ _ (sym c.in-LieReply.is) (kept c.args.self.now)
    (kept c.lie.new.self) _ _ _ _ _ _ (c.lie.ensures.went _ c.requires.none.0)

pub returns-in-LieRoot-clause-went : goal.returns-in-LieRoot-clause-went
returns-in-LieRoot-clause-went g c = went_of _ c.lie-in-LieRoot.result _ _ (sym c.in-LieRoot.is) (kept c.args.self.now)
    (kept c.lie-in-LieRoot.new.self) _ _ _ _ _ _ (c.lie-in-LieRoot.ensures.went _ c.requires.none.0)

pub returns-in-LieItem-clause-went : goal.returns-in-LieItem-clause-went
returns-in-LieItem-clause-went g c = went_of _ c.lie-in-LieItem.result _ _ (sym c.in-LieItem.is) (kept c.args.self.now)
    (kept c.lie-in-LieItem.new.self) _ _ _ _ _ _ (c.lie-in-LieItem.ensures.went _ c.requires.none.0)
