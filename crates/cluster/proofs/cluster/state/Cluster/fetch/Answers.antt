use Rattle.std.proofs.Common.{◌<◌, length, refl, ◌∙◌, arith}
use Rattle.std.specs.Prelude.{slice_set}
use Rattle.std.proofs.lemmas.List.{length-set}
use Rattle.seats.specs.declared.Seat.TheVariants.{Rebuilding as RebuildingSeat}
use Rattle.cluster.specs.Kept.{kept}
use Rattle.cluster.specs.Fetching.{scene}
use Rattle.cluster.proofs.Casts.{sized_of}
use Rattle.cluster.proofs.Struck.{later_more}
use Rattle.cluster.proofs.TurnClauses.{at_index, stays_none}
use Rattle.cluster.proofs.Aims.{aims_have, over_aimed}
use Rattle.cluster.proofs.FetchSteps.{went_unfetched, aim_set, aimed_collected, went_if, stays_if}
use Rattle.cluster.proofs.cluster.state.Cluster.fetch.Goals as goal

pub returns-in_default-clause-went : goal.returns-in_default-clause-went
returns-in_default-clause-went g c =
    let v = kept c.args.self.now in
    let within : c.args.r < length v.seats = omega (arith, c.requires.replica, c.args.self.now.seats.ok.0) in
    went_unfetched _ v _ _ c.args.r c.args.n within c.index.result.now
    (at_index v.seats c.args.r c.index.result.now c.index.result.now within c.index.ensures refl)
    c.in_default.not-Rebuilding _ c.requires.none.0 _ _ c.requires.none.1 c.in_ok-push_line.ensures

pub returns-in_default-clause-stays : goal.returns-in_default-clause-stays
returns-in_default-clause-stays g c = stays_none _ (kept c.args.self.now) _ _ c.requires.arrays c.requires.room

pub invariant_of-self : goal.invariant_of-self
invariant_of-self g c =
    let s = c.args.self.now in
    let r = c.args.r in
    let xs = s.seats.items in
    let o = c.index_mut.result.now in
    let within : r < length xs = omega (arith, c.requires.replica, s.seats.ok.0) in
    record {
      within = s.within;
      sizes = s.sizes;
      replicas = s.replicas;
      interval = s.interval;
      few = s.few;
      times = s.times;
      sized = length-set xs r c.aim.new.self ∙ s.sized;
      over = over_aimed s.limits.n r xs o c.aim.new.self s.stable s.root
          (at_index xs r o o within c.index_mut.ensures.value refl) c.aim.ensures s.over;
      voters = s.voters;
      root_voters = s.root_voters;
    }

pub collect-requires-clause-arrays : goal.collect-requires-clause-arrays
collect-requires-clause-arrays g c =
    let v = kept c.args.self.now in
    let r = c.args.r in
    let o = c.index_mut.result.now in
    let within : r < length v.seats = omega (arith, c.requires.replica, c.args.self.now.seats.ok.0) in
    aims_have _ v _ _ r o c.aim.new.self (at_index v.seats r o o within c.index_mut.ensures.value refl)
    c.requires.arrays v.stable v.root c.aim.ensures

pub end_fetch-requires-clause-aimed : goal.end_fetch-requires-clause-aimed
end_fetch-requires-clause-aimed g c =
    let v = kept c.args.self.now in
    let r = c.args.r in
    let within : r < length v.seats = omega (arith, c.requires.replica, c.args.self.now.seats.ok.0) in
    let at = at_index v.seats r c.index.result.now (RebuildingSeat c.in-Rebuilding.field-0) within c.index.ensures
    c.in-Rebuilding.is in
    aimed_collected _ v _ _ r c.args.n within c.in-Rebuilding.field-0 at c.in_ok-stage.stage _ _
    (record v { seats = slice_set v.seats r c.aim.new.self })
    (aim_set v r c.aim.new.self c.index_mut.result.now c.in-Rebuilding.field-0
    (at_index v.seats r c.index_mut.result.now c.index_mut.result.now within c.index_mut.ensures.value refl) at
    c.aim.ensures) (scene (kept c.collect.new.self) _ _ _ _) c.in_ok-stage.ensures.collected

pub returns-clause-went : goal.returns-clause-went
returns-clause-went g c =
    let s = c.args.self.now in
    let v = kept s in
    let r = c.args.r in
    let within : r < length v.seats = omega (arith, c.requires.replica, s.seats.ok.0) in
    let at = at_index v.seats r c.index.result.now (RebuildingSeat c.in-Rebuilding.field-0) within c.index.ensures
    c.in-Rebuilding.is in
    went_if _ v _ _ r c.args.n within c.in-Rebuilding.field-0 at c.in_ok-stage.stage _ _
    (record v { seats = slice_set v.seats r c.aim.new.self })
    (aim_set v r c.aim.new.self c.index_mut.result.now c.in-Rebuilding.field-0
    (at_index v.seats r c.index_mut.result.now c.index_mut.result.now within c.index_mut.ensures.value refl) at
    c.aim.ensures) (scene (kept c.collect.new.self) _ _ _ _) c.in_ok-stage.ensures.collected c.requires.none.0
    c.requires.none.1 (scene (kept c.end_fetch.new.self) _ _ _ _) (sized_of s.limits s.within s.sizes) s.within.3 s.sized
    c.end_fetch.result c.end_fetch.ensures.ended

pub returns-clause-stays : goal.returns-clause-stays
returns-clause-stays g c =
    let s = c.args.self.now in
    let v = kept s in
    let r = c.args.r in
    let within : r < length v.seats = omega (arith, c.requires.replica, s.seats.ok.0) in
    let at = at_index v.seats r c.index.result.now (RebuildingSeat c.in-Rebuilding.field-0) within c.index.ensures
    c.in-Rebuilding.is in
    stays_if _ v _ _ r c.args.n within c.in-Rebuilding.field-0 at c.in_ok-stage.stage _ _
    (record v { seats = slice_set v.seats r c.aim.new.self })
    (aim_set v r c.aim.new.self c.index_mut.result.now c.in-Rebuilding.field-0
    (at_index v.seats r c.index_mut.result.now c.index_mut.result.now within c.index_mut.ensures.value refl) at
    c.aim.ensures) (scene (kept c.collect.new.self) _ _ _ _) c.in_ok-stage.ensures.collected c.requires.none.0
    c.requires.none.1 (scene (kept c.end_fetch.new.self) _ _ _ _) (sized_of s.limits s.within s.sizes) s.within.3 s.sized
    c.end_fetch.result c.end_fetch.ensures.ended

pub returns-clause-servers : goal.returns-clause-servers
returns-clause-servers g c =
    let s = c.args.self.now in
    let size = c.in_ok-stage.ensures.collected.led.stays.same.seats in
    let same = length-set s.seats.items c.args.r c.aim.new.self in
    later_more _ s.seats.len c.collect.new.self.seats.len _ _ _
    (omega (arith, size, same, c.collect.new.self.seats.ok.0, s.seats.ok.0)) c.collect.ensures.servers
    c.end_fetch.ensures.servers
