use Rattle.std.proofs.Common.{◌<◌, length, inr, refl, ◌∙◌, arith}
use Rattle.cluster.specs.Kept.{kept}
use Rattle.cluster.specs.Fetching.{scene}
use Rattle.cluster.proofs.Casts.{sized_of}
use Rattle.cluster.proofs.Struck.{later_none, later_more}
use Rattle.cluster.proofs.Collecting.{next_read, gathered_none, gathered_room, gathered_more, collected_refused, collected_all, collected_top}
use Rattle.cluster.proofs.cluster.state.Cluster.collect.Goals as goal

pub loop-stage-init : goal.loop-stage-init
loop-stage-init g c = record {
  gathered = gathered_none _ c.args.r (scene (kept c.args.self.now) _ _ _ _) c.requires.arrays c.requires.room;
  later = later_none _ _ _;
  downs = refl;
}

pub index-requires : goal.index-requires
index-requires g c =
    let size = c.loop-stage.invariant.gathered.stays.same.seats in
    omega (arith, size, c.requires.replica, c.loop-stage.self.seats.ok.0, c.args.self.now.seats.ok.0)

pub get_item-requires-clause-arrays : goal.get_item-requires-clause-arrays
get_item-requires-clause-arrays g c = c.loop-stage.invariant.gathered.stays.arrays

pub get_item-requires-clause-room : goal.get_item-requires-clause-room
get_item-requires-clause-room g c = gathered_room _ c.args.r (scene (kept c.args.self.now) _ _ _ _) c.loop-stage.stage
    (scene (kept c.loop-stage.self) _ _ _ _) c.loop-stage.invariant.gathered

pub get_item-requires-clause-replica : goal.get_item-requires-clause-replica
get_item-requires-clause-replica g c =
    let size = c.loop-stage.invariant.gathered.stays.same.seats in
    omega (arith, size, c.requires.replica, c.loop-stage.self.seats.ok.0, c.args.self.now.seats.ok.0)

pub get_item-requires-clause-wanted : goal.get_item-requires-clause-wanted
get_item-requires-clause-wanted g c =
    let size = c.loop-stage.invariant.gathered.stays.same.seats in
    next_read c.loop-stage.self.seats.items c.args.r c.index.result.now c.next_item.result
    (omega (arith, size, c.requires.replica, c.args.self.now.seats.ok.0)) c.index.ensures c.next_item.ensures
    ∙ c.in-Some.is

pub get_item-requires-clause-few : goal.get_item-requires-clause-few
get_item-requires-clause-few g c =
    let same = c.loop-stage.invariant.gathered.stays.same.events in
    omega (arith, same, c.requires.few)

pub loop-stage-preserved : goal.loop-stage-preserved
loop-stage-preserved g c =
    let s = c.args.self.now in
    let size = c.loop-stage.invariant.gathered.stays.same.seats in
    let here : c.args.r < length c.loop-stage.self.seats.items =
    omega (arith, size, c.requires.replica, s.seats.ok.0) in
    record {
      gathered = gathered_more _ c.args.r (scene (kept s) _ _ _ _) c.loop-stage.stage
          (scene (kept c.loop-stage.self) _ _ _ _) c.loop-stage.invariant.gathered c.in-Some.item
          (scene (kept c.get_item.new.self) _ _ _ _) (sized_of s.limits s.within s.sizes)
          (omega (arith, c.requires.replica, s.seats.ok.0))
          (next_read c.loop-stage.self.seats.items c.args.r c.index.result.now c.next_item.result here c.index.ensures
          c.next_item.ensures ∙ c.in-Some.is)
          c.in_ok-get_item.field-0 c.if-not-branch.false c.in_ok-get_item.ensures.staged;
      later = later_more _ s.seats.len c.loop-stage.self.seats.len _ _ _
          (omega (arith, size, c.loop-stage.self.seats.ok.0, s.seats.ok.0)) c.loop-stage.invariant.later
          c.get_item.ensures.servers;
      downs = c.get_item.ensures.downs ∙ c.loop-stage.invariant.downs;
    }

pub returns-in_err-get_item-clause-servers : goal.returns-in_err-get_item-clause-servers
returns-in_err-get_item-clause-servers g c =
    let size = c.loop-stage.invariant.gathered.stays.same.seats in
    later_more _ c.args.self.now.seats.len c.loop-stage.self.seats.len _ _ _
    (omega (arith, size, c.loop-stage.self.seats.ok.0, c.args.self.now.seats.ok.0)) c.loop-stage.invariant.later
    c.get_item.ensures.servers

pub returns-in_default-clause-collected : goal.returns-in_default-clause-collected
returns-in_default-clause-collected g c =
    let s = c.args.self.now in
    let size = c.loop-stage.invariant.gathered.stays.same.seats in
    collected_all _ c.args.r (scene (kept s) _ _ _ _) c.loop-stage.stage (scene (kept c.loop-stage.self) _ _ _ _)
    c.loop-stage.invariant.gathered c.args.n c.loop-stage.auto.stage-end
    (inr (next_read c.loop-stage.self.seats.items c.args.r c.index.result.now c.next_item.result
    (omega (arith, size, c.requires.replica, s.seats.ok.0)) c.index.ensures c.next_item.ensures ∙ c.in_default.is))

pub returns-then-not-branch-clause-collected : goal.returns-then-not-branch-clause-collected
returns-then-not-branch-clause-collected g c =
    let s = c.args.self.now in
    let size = c.loop-stage.invariant.gathered.stays.same.seats in
    let here : c.args.r < length c.loop-stage.self.seats.items =
    omega (arith, size, c.requires.replica, s.seats.ok.0) in
    collected_refused _ c.args.r (scene (kept s) _ _ _ _) c.loop-stage.stage
    (scene (kept c.loop-stage.self) _ _ _ _) c.loop-stage.invariant.gathered c.in-Some.item
    (scene (kept c.get_item.new.self) _ _ _ _) (sized_of s.limits s.within s.sizes)
    (omega (arith, c.requires.replica, s.seats.ok.0))
    (next_read c.loop-stage.self.seats.items c.args.r c.index.result.now c.next_item.result here c.index.ensures
    c.next_item.ensures ∙ c.in-Some.is) c.args.n c.loop-stage.auto.stage-end
    c.in_ok-get_item.field-0 c.if-not-branch.true c.in_ok-get_item.ensures.staged

pub returns-then-not-branch-clause-servers : goal.returns-then-not-branch-clause-servers
returns-then-not-branch-clause-servers g c =
    let size = c.loop-stage.invariant.gathered.stays.same.seats in
    later_more _ c.args.self.now.seats.len c.loop-stage.self.seats.len _ _ _
    (omega (arith, size, c.loop-stage.self.seats.ok.0, c.args.self.now.seats.ok.0)) c.loop-stage.invariant.later
    c.get_item.ensures.servers

pub returns-clause-collected : goal.returns-clause-collected
returns-clause-collected g c =
    collected_top _ c.args.r (scene (kept c.args.self.now) _ _ _ _) c.loop-stage.stage
    (scene (kept c.loop-stage.self) _ _ _ _) c.loop-stage.invariant.gathered c.args.n
    (omega (arith, c.loop-stage-test.false, c.loop-stage.auto.stage-end))
