use Rattle.std.proofs.Common.{◌≡◌, ◌<◌, refl, ap, ◌∙◌, arith, length}
use Rattle.cluster_model.specs.Tree.{item}
use Rattle.seats.specs.declared.Seat.TheVariants.{Down as DownSeat}
use Rattle.seats.specs.Seats.{next_of}
use Rattle.cluster.specs.Kept.{kept}
use Rattle.cluster.specs.Fetching.{scene}
use Rattle.cluster.proofs.ListFacts.{read_same}
use Rattle.cluster.proofs.Struck.{later_none, later_more}
use Rattle.cluster.proofs.Sources.{refused_none, refused_own, refused_more, gets_one}
use Rattle.cluster.proofs.cluster.state.Cluster.get_item.Goals as goal

pub loop-source-init : goal.loop-source-init
loop-source-init g c = record {
  refused = refused_none _ c.args.r c.args.stage (item c.args.item.level c.args.item.number)
      (scene (kept c.args.self.now) _ _ _ _) c.requires.arrays c.requires.room;
  later = later_none _ _ _;
  downs = refl;
}

pub loop-source-preserved-then-source-r : goal.loop-source-preserved-then-source-r
loop-source-preserved-then-source-r g c = record {
  refused = refused_own _ c.args.r c.args.stage (item c.args.item.level c.args.item.number) c.loop-source.source
      (scene (kept c.args.self.now) _ _ _ _) (scene (kept c.loop-source.self) _ _ _ _) c.if-source-r.true
      c.loop-source.invariant.refused;
  later = c.loop-source.invariant.later;
  downs = c.loop-source.invariant.downs;
}

pub offer-requires-clause-wanted : goal.offer-requires-clause-wanted
offer-requires-clause-wanted g c =
    ap next_of (read_same c.loop-source.self.seats.items c.args.self.now.seats.items c.args.r DownSeat
    c.loop-source.invariant.refused.same) ∙ c.requires.wanted

pub returns-in_err-offer-clause-servers : goal.returns-in_err-offer-clause-servers
returns-in_err-offer-clause-servers g c =
    let size = c.loop-source.invariant.refused.led.stays.same.seats in
    later_more _ c.args.self.now.seats.len c.loop-source.self.seats.len _ _ _
    (omega (arith, size, c.loop-source.self.seats.ok.0, c.args.self.now.seats.ok.0)) c.loop-source.invariant.later
    c.offer.ensures.servers

pub returns-then-branch-clause-staged : goal.returns-then-branch-clause-staged
returns-then-branch-clause-staged g c =
    let v = kept c.args.self.now in
    let within : c.loop-source.source < length v.seats =
    omega (arith, c.loop-source-test.true, c.len-source-end.ensures, c.args.self.now.seats.ok.0) in
    gets_one _ c.args.r c.args.stage (item c.args.item.level c.args.item.number) c.loop-source.source
    (scene v _ _ _ _) (scene (kept c.loop-source.self) _ _ _ _) (scene (kept c.offer.new.self) _ _ _ _)
    c.if-source-r.false c.loop-source.invariant.refused within (rw c.if-branch.true at c.in_ok-offer.ensures.offered)

pub returns-then-branch-clause-servers : goal.returns-then-branch-clause-servers
returns-then-branch-clause-servers g c =
    let size = c.loop-source.invariant.refused.led.stays.same.seats in
    later_more _ c.args.self.now.seats.len c.loop-source.self.seats.len _ _ _
    (omega (arith, size, c.loop-source.self.seats.ok.0, c.args.self.now.seats.ok.0)) c.loop-source.invariant.later
    c.offer.ensures.servers

pub loop-source-preserved : goal.loop-source-preserved
loop-source-preserved g c = record {
  refused = refused_more _ c.args.r c.args.stage (item c.args.item.level c.args.item.number) c.loop-source.source
      (scene (kept c.args.self.now) _ _ _ _) (scene (kept c.loop-source.self) _ _ _ _)
      (scene (kept c.offer.new.self) _ _ _ _) c.if-source-r.false c.loop-source.invariant.refused
      (rw c.if-branch.false at c.in_ok-offer.ensures.offered);
  later = (
      let size = c.loop-source.invariant.refused.led.stays.same.seats in
      later_more _ c.args.self.now.seats.len c.loop-source.self.seats.len _ _ _
      (omega (arith, size, c.loop-source.self.seats.ok.0, c.args.self.now.seats.ok.0)) c.loop-source.invariant.later
      c.offer.ensures.servers);
  downs = c.offer.ensures.downs ∙ c.loop-source.invariant.downs;
}

pub returns-clause-staged : goal.returns-clause-staged
returns-clause-staged g c =
    let v = kept c.args.self.now in
    let e : c.loop-source.source ≡ length v.seats = omega (
      arith,
      c.loop-source-test.false,
      c.loop-source.auto.source-end,
      c.len-source-end.ensures,
      c.args.self.now.seats.ok.0,
    ) in
    rw e at c.loop-source.invariant.refused
