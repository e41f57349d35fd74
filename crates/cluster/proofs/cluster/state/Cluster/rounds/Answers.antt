use Rattle.std.proofs.Common.{◌+◌, length, Ok, refl, ap, ◌∙◌, arith}
use Rattle.cluster.specs.Kept.{kept}
use Rattle.cluster.proofs.Struck.{later_none, later_more}
use Rattle.cluster.proofs.Goings.{going_none, going_round}
use Rattle.cluster.proofs.cluster.state.Cluster.rounds.Goals as goal

pub loop-done-init : goal.loop-done-init
loop-done-init g c = record {
  going = going_none _ (kept c.args.self.now) _ _ _ _ c.requires.arrays c.requires.room;
  later = later_none _ _ _;
  downs = refl;
}

pub returns-in_err-round-clause-servers : goal.returns-in_err-round-clause-servers
returns-in_err-round-clause-servers g c =
    let size = c.loop-done.invariant.going.stays.same.seats in
    later_more _ c.args.self.now.seats.len c.loop-done.self.seats.len _ _ _
    (omega (arith, size, c.loop-done.self.seats.ok.0, c.args.self.now.seats.ok.0)) c.loop-done.invariant.later
    c.round.ensures.servers

pub returns-then-not-branch-clause-servers : goal.returns-then-not-branch-clause-servers
returns-then-not-branch-clause-servers g c =
    let size = c.loop-done.invariant.going.stays.same.seats in
    later_more _ c.args.self.now.seats.len c.loop-done.self.seats.len _ _ _
    (omega (arith, size, c.loop-done.self.seats.ok.0, c.args.self.now.seats.ok.0)) c.loop-done.invariant.later
    c.round.ensures.servers

pub returns-then-not-branch-clause-ran : goal.returns-then-not-branch-clause-ran
returns-then-not-branch-clause-ran g c =
    let same = c.loop-done.invariant.going.stays.same.seats in
    let n = c.loop-done.self.seats.ok.0 in
    record {
      rounds = c.loop-done.done + 1;
      going = going_round _ c.loop-done.done (length c.args.self.now.seats.items) c.loop-done.self.seats.len
          (kept c.args.self.now) (kept c.loop-done.self) (kept c.round.new.self) _ _ _ _ _ _ _ _ _ _ _ _
          (omega (arith, same, n)) c.loop-done.invariant.going c.in_ok-round.ensures.going;
      few = omega (arith, c.loop-done-test.true, c.len-done-end.ensures, c.args.self.now.requests.ok.0);
      ended = λ ne. c.in_ok-round.ensures.quiet (ap Ok c.if-not-branch.true);
    }

pub loop-done-preserved : goal.loop-done-preserved
loop-done-preserved g c =
    let same = c.loop-done.invariant.going.stays.same.seats in
    let n = c.loop-done.self.seats.ok.0 in
    record {
      going = going_round _ c.loop-done.done (length c.args.self.now.seats.items) c.loop-done.self.seats.len
          (kept c.args.self.now) (kept c.loop-done.self) (kept c.round.new.self) _ _ _ _ _ _ _ _ _ _ _ _
          (omega (arith, same, n)) c.loop-done.invariant.going c.in_ok-round.ensures.going;
      later = later_more _ c.args.self.now.seats.len c.loop-done.self.seats.len _ _ _
          (omega (arith, same, n, c.args.self.now.seats.ok.0)) c.loop-done.invariant.later c.round.ensures.servers;
      downs = c.round.ensures.downs ∙ c.loop-done.invariant.downs;
    }
