use Rattle.std.proofs.Common.{◌≡◌, true, false, refl, sym, ◌∙◌, arith}
use Rattle.cluster.specs.Kept.{kept}
use Rattle.cluster.proofs.Struck.{later_none, later_more}
use Rattle.cluster.proofs.Goings.{going_none, going_more, idled_none, idled_more, quiet_from, ok_same}
use Rattle.cluster.proofs.cluster.state.Cluster.round.Goals as goal
use Rattle.cluster.proofs.cluster.state.Cluster.round.Goals.{in-None, in-Some}

pub loop-r-init : goal.loop-r-init
loop-r-init g c = record {
  going = going_none _ (kept c.args.self.now) _ _ _ _ c.requires.arrays c.requires.room;
  idled = λ e. idled_none _ (kept c.args.self.now) _ _;
  later = later_none _ _ _;
  downs = refl;
}

pub returns-in_err-turn-clause-servers : goal.returns-in_err-turn-clause-servers
returns-in_err-turn-clause-servers g c =
    let size = c.loop-r.invariant.going.stays.same.seats in
    later_more _ c.args.self.now.seats.len c.loop-r.self.seats.len _ _ _
    (omega (arith, size, c.loop-r.self.seats.ok.0, c.args.self.now.seats.ok.0)) c.loop-r.invariant.later
    c.turn.ensures.servers

pub loop-r-preserved : goal.loop-r-preserved
loop-r-preserved g c = record {
  going = going_more _ c.args.round c.loop-r.r (kept c.args.self.now) (kept c.loop-r.self) (kept c.turn.new.self) _ _ _ _
      _ _ _ _ _ _ _ _ c.loop-r.invariant.going c.in_ok-turn.ensures.turned c.in_ok-turn.ensures.stays;
  idled = λ e. elim c.match-branch-2.branch [
    | in-None w ↦ absurd (let bad : true ≡ false = sym w.ran-is ∙ e in cc)
    | in-Some w ↦ idled_more _ c.loop-r.r (kept c.args.self.now) (kept c.loop-r.self) (kept c.turn.new.self) _ _ _ _ _ _
        _ _ _ _
        c.in_ok-turn.field-0 _ w.in-Some.is
        c.in_ok-turn.ensures.idle (c.loop-r.invariant.idled (sym w.ran-is ∙ e))
  ];
  later = (
      let size = c.loop-r.invariant.going.stays.same.seats in
      later_more _ c.args.self.now.seats.len c.loop-r.self.seats.len _ _ _
      (omega (arith, size, c.loop-r.self.seats.ok.0, c.args.self.now.seats.ok.0)) c.loop-r.invariant.later
      c.turn.ensures.servers);
  downs = c.turn.ensures.downs ∙ c.loop-r.invariant.downs;
}

pub returns-clause-going : goal.returns-clause-going
returns-clause-going g c =
    let e : c.loop-r.r ≡ c.args.self.now.seats.len =
    omega (arith, c.loop-r-test.false, c.loop-r.auto.r-end, c.len-r-end.ensures) in
    rw e at c.loop-r.invariant.going

pub returns-clause-quiet : goal.returns-clause-quiet
returns-clause-quiet g c = λ is. (
    let n = c.args.self.now.seats.ok.0 in
    quiet_from _ c.loop-r.r (kept c.args.self.now) (kept c.loop-r.self) _ _ _ _
    (omega (arith, c.loop-r-test.false, c.loop-r.auto.r-end, c.len-r-end.ensures, n))
    (c.loop-r.invariant.idled (ok_same c.loop-r.ran false is)))
