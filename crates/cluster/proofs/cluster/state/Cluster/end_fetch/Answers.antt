use Rattle.std.proofs.Common.{◌≡◌, ◌<◌, ◌+◌, ◌++◌, ◌∷◌, [], Err, refl, sym, ap, ◌∙◌, arith, length}
use Rattle.std.specs.Prelude.{slice_set}
use Rattle.std.proofs.lemmas.List.{set-set, length-set}
use Rattle.std.proofs.lemmas.Result.{on_ok_weaker}
use Rattle.recovery.specs.declared.FinishErr.TheVariants.{Down, Invalid}
use Rattle.seats.specs.declared.Seat.TheVariants.{Live as LiveSeat, Rebuilding as RebuildingSeat}
use Rattle.cluster.specs.Kept.{kept}
use Rattle.cluster.specs.OverBench.{Kept}
use Rattle.cluster.proofs.Casts.{sized_of}
use Rattle.cluster.proofs.Checkpoints.{tree_size}
use Rattle.cluster.proofs.Harms.{set_read}
use Rattle.cluster.proofs.Seated.{over_set}
use Rattle.cluster.proofs.TurnClauses.{at_index}
use Rattle.cluster.proofs.EndFacts.{seat_taken, stays_cleared, down_cleared, over_cleared, over_whole, aimed_is, is_missing, is_whole, on_both, later_finished}
use Rattle.cluster.proofs.FetchEnds.{ended_idle, ended_missing, ended_whole, ended_forgotten, ended_down}
use Rattle.cluster.proofs.cluster.state.Cluster.end_fetch.Goals as goal

pub returns-in_default-clause-ended : goal.returns-in_default-clause-ended
returns-in_default-clause-ended g c =
    let s = c.args.self.now in
    let v = kept s in
    let r = c.args.r in
    let o = c.index_mut.result.now in
    let within : r < length v.seats = omega (arith, c.requires.replica, s.seats.ok.0) in
    let at = at_index v.seats r o o within c.index_mut.ensures.value refl in
    let idle = sym c.take_rebuilding.ensures.rebuilding ∙ c.in_default.is in
    ended_idle _ _ r c.args.stage within c.requires.arrays c.requires.room o at idle
    (record v { seats = slice_set v.seats r c.take_rebuilding.new.self })
    (ap (λ xs. let x : Kept = record v { seats = xs } in x)
    (ap (slice_set v.seats r) (c.take_rebuilding.ensures.left ∙ stays_cleared o idle) ∙ set_read v.seats r o at))

pub returns-then-is_some-clause-ended : goal.returns-then-is_some-clause-ended
returns-then-is_some-clause-ended g c =
    let s = c.args.self.now in
    let v = kept s in
    let r = c.args.r in
    let b = c.in-Some.rebuild in
    let x = c.take_rebuilding.new.self in
    let within : r < length v.seats = omega (arith, c.requires.replica, s.seats.ok.0) in
    let at = seat_taken r v.seats _ b _ within c.index_mut.ensures.value c.take_rebuilding.ensures.rebuilding
    c.in-Some.is in
    let missing = is_missing _ _ _ c.next_item.ensures c.is_some.ensures c.if-is_some.true in
    on_ok_weaker c.push_line.result
    (ended_missing _ _ r c.args.stage within c.requires.arrays c.requires.room b at missing _
    (rw (c.counts-counts.ensures.nodes, c.counts-counts.ensures.objects) refl)
    (record v { seats = slice_set (slice_set v.seats r x) r (RebuildingSeat b) })
    (ap (λ xs. let y : Kept = record v { seats = xs } in y)
    (set-set v.seats r x (RebuildingSeat b) ∙ set_read v.seats r (RebuildingSeat b) at)) _)
    c.push_line.ensures

pub finish_at-requires-clause-stands : goal.finish_at-requires-clause-stands
finish_at-requires-clause-stands g c =
    let s = c.args.self.now in
    let v = kept s in
    let r = c.args.r in
    let b = c.in-Some.rebuild in
    let within : r < length v.seats = omega (arith, c.requires.replica, s.seats.ok.0) in
    let at = seat_taken r v.seats _ b _ within c.index_mut.ensures.value c.take_rebuilding.ensures.rebuilding
    c.in-Some.is in
    c.requires.arrays r (RebuildingSeat b) at

pub finish_at-requires-clause-size : goal.finish_at-requires-clause-size
finish_at-requires-clause-size g c =
    let s = c.args.self.now in
    tree_size s.limits (sized_of s.limits s.within s.sizes)

pub finish_at-requires-clause-room : goal.finish_at-requires-clause-room
finish_at-requires-clause-room g c = c.requires.room c.args.r

pub returns-in-Ok-clause-ended : goal.returns-in-Ok-clause-ended
returns-in-Ok-clause-ended g c =
    let s = c.args.self.now in
    let v = kept s in
    let r = c.args.r in
    let b = c.in-Some.rebuild in
    let x = c.take_rebuilding.new.self in
    let within : r < length v.seats = omega (arith, c.requires.replica, s.seats.ok.0) in
    let at = seat_taken r v.seats _ b _ within c.index_mut.ensures.value c.take_rebuilding.ensures.rebuilding
    c.in-Some.is in
    let aimed = aimed_is v.stable r v.seats b at c.requires.aimed in
    let none = is_whole _ _ _ c.next_item.ensures c.is_some.ensures c.if-is_some.false in
    let k = c.in-Ok.replica in
    on_ok_weaker c.push_line-in-Ok.result
    (ended_whole _ _ r c.args.stage within c.requires.arrays c.requires.room b at aimed none _ _
    c.finish_at.ensures.servers c.finish_at.ensures.tables c.finish_at.result c.finish_at.ensures.watched k c.in-Ok.is
    c.in-Ok.ensures.stands c.in-Ok.ensures.live _ _ c.counts-counts.ensures.nodes c.counts-counts.ensures.objects
    (record v { seats = slice_set (slice_set v.seats r x) r (LiveSeat k) })
    (ap (λ xs. let y : Kept = record v { seats = xs } in y) (set-set v.seats r x (LiveSeat k))) _)
    c.push_line-in-Ok.ensures

pub returns-in-Ok-clause-servers : goal.returns-in-Ok-clause-servers
returns-in-Ok-clause-servers g c =
    let s = c.args.self.now in
    later_finished _ _ _ c.args.r _ c.finish_at.result c.finish_at.ensures.servers c.finish_at.ensures.watched
    (omega (arith, c.requires.replica, s.seats.ok.0))

pub returns-in-Err-Invalid-clause-ended : goal.returns-in-Err-Invalid-clause-ended
returns-in-Err-Invalid-clause-ended g c =
    let s = c.args.self.now in
    let v = kept s in
    let r = c.args.r in
    let b = c.in-Some.rebuild in
    let x = c.take_rebuilding.new.self in
    let within : r < length v.seats = omega (arith, c.requires.replica, s.seats.ok.0) in
    let at = seat_taken r v.seats _ b _ within c.index_mut.ensures.value c.take_rebuilding.ensures.rebuilding
    c.in-Some.is in
    let aimed = aimed_is v.stable r v.seats b at c.requires.aimed in
    let none = is_whole _ _ _ c.next_item.ensures c.is_some.ensures c.if-is_some.false in
    let d = c.in-Err-Invalid.back in
    let e : c.finish_at.result ≡ Err c.in-Err-Invalid.field-0 = c.in-Err-Invalid.is in
    let f : c.in-Err-Invalid.field-0 ≡ Invalid d = c.in-Err-Invalid.field-0-is in
    on_ok_weaker c.push_line-in-Err-Invalid.result
    (ended_forgotten _ _ r c.args.stage within c.requires.arrays c.requires.room b at aimed none _ _
    c.finish_at.ensures.servers c.finish_at.ensures.tables c.finish_at.result c.finish_at.ensures.watched d
    (e ∙ ap Err f) c.finish_at.ensures.invalid c.finish_at.ensures.back c.finish_at.ensures.unchanged
    (record v { seats = slice_set (slice_set v.seats r x) r (RebuildingSeat d) })
    (ap (λ xs. let y : Kept = record v { seats = xs } in y) (set-set v.seats r x (RebuildingSeat d))) _)
    c.push_line-in-Err-Invalid.ensures

pub returns-in-Err-Invalid-clause-servers : goal.returns-in-Err-Invalid-clause-servers
returns-in-Err-Invalid-clause-servers g c =
    let s = c.args.self.now in
    later_finished _ _ _ c.args.r _ c.finish_at.result c.finish_at.ensures.servers c.finish_at.ensures.watched
    (omega (arith, c.requires.replica, s.seats.ok.0))

pub returns-in-Err-Down-clause-servers : goal.returns-in-Err-Down-clause-servers
returns-in-Err-Down-clause-servers g c =
    let s = c.args.self.now in
    later_finished _ _ _ c.args.r _ c.finish_at.result c.finish_at.ensures.servers c.finish_at.ensures.watched
    (omega (arith, c.requires.replica, s.seats.ok.0))

pub returns-in-Err-NoMemory-clause-servers : goal.returns-in-Err-NoMemory-clause-servers
returns-in-Err-NoMemory-clause-servers g c =
    let s = c.args.self.now in
    later_finished _ _ _ c.args.r _ c.finish_at.result c.finish_at.ensures.servers c.finish_at.ensures.watched
    (omega (arith, c.requires.replica, s.seats.ok.0))

pub returns-in-Err-Down-clause-ended : goal.returns-in-Err-Down-clause-ended
returns-in-Err-Down-clause-ended g c =
    let s = c.args.self.now in
    let v = kept s in
    let r = c.args.r in
    let b = c.in-Some.rebuild in
    let x = c.take_rebuilding.new.self in
    let within : r < length v.seats = omega (arith, c.requires.replica, s.seats.ok.0) in
    let at = seat_taken r v.seats _ b _ within c.index_mut.ensures.value c.take_rebuilding.ensures.rebuilding
    c.in-Some.is in
    let aimed = aimed_is v.stable r v.seats b at c.requires.aimed in
    let none = is_whole _ _ _ c.next_item.ensures c.is_some.ensures c.if-is_some.false in
    let e : c.finish_at.result ≡ Err c.in-Err-Down.field-0 = c.in-Err-Down.is in
    let f : c.in-Err-Down.field-0 ≡ Down = c.in-Err-Down.field-0-is in
    on_both c.push_fall_at.result
    (λ said fell. ended_down _ _ r c.args.stage within c.requires.arrays c.requires.room b at aimed none _ _
    c.finish_at.ensures.servers c.finish_at.ensures.tables c.finish_at.result c.finish_at.ensures.watched (e ∙ ap Err f)
    (record v { seats = slice_set v.seats r x })
    (ap (λ o. let y : Kept = record v { seats = slice_set v.seats r o } in y)
    (c.take_rebuilding.ensures.left ∙ down_cleared _ b
    (sym c.take_rebuilding.ensures.rebuilding ∙ c.in-Some.is))) _ said _
    (fell ∙ ap (λ n. c.args.met.now.items ++ record { event = v.events + 1; stage = n; replica = r } ∷ [])
    c.from.ensures))
    c.push_fall_at.ensures.lines c.push_fall_at.ensures.points

pub invariant_of-self : goal.invariant_of-self
invariant_of-self g c =
    let s = c.args.self.now in
    let r = c.args.r in
    let xs = s.seats.items in
    let x = c.take_rebuilding.new.self in
    let within : r < length xs = omega (arith, c.requires.replica, s.seats.ok.0) in
    let cleared = over_cleared s.limits.n r xs _ x within c.index_mut.ensures.value c.take_rebuilding.ensures.left
    s.over in
    record {
      within = s.within;
      sizes = s.sizes;
      replicas = s.replicas;
      interval = s.interval;
      few = s.few;
      times = s.times;
      sized = length-set xs r x ∙ s.sized;
      over = cleared;
      voters = s.voters;
      root_voters = s.root_voters;
    }

pub invariant_of-self-then-is_some : goal.invariant_of-self-then-is_some
invariant_of-self-then-is_some g c =
    let s = c.args.self.now in
    let r = c.args.r in
    let xs = s.seats.items in
    let x = c.take_rebuilding.new.self in
    let within : r < length xs = omega (arith, c.requires.replica, s.seats.ok.0) in
    let cleared = over_cleared s.limits.n r xs _ x within c.index_mut.ensures.value c.take_rebuilding.ensures.left
    s.over in
    record {
      within = s.within;
      sizes = s.sizes;
      replicas = s.replicas;
      interval = s.interval;
      few = s.few;
      times = s.times;
      sized = length-set (slice_set xs r x) r (RebuildingSeat c.in-Some.rebuild) ∙ length-set xs r x ∙ s.sized;
      over = over_set s.limits.n r (slice_set xs r x) (RebuildingSeat c.in-Some.rebuild) cleared (λ j e. absurd (cc));
      voters = s.voters;
      root_voters = s.root_voters;
    }

pub invariant_of-self-in-Ok : goal.invariant_of-self-in-Ok
invariant_of-self-in-Ok g c =
    let s = c.args.self.now in
    let r = c.args.r in
    let xs = s.seats.items in
    let x = c.take_rebuilding.new.self in
    let within : r < length xs = omega (arith, c.requires.replica, s.seats.ok.0) in
    let cleared = over_cleared s.limits.n r xs _ x within c.index_mut.ensures.value c.take_rebuilding.ensures.left
    s.over in
    let b = c.in-Some.rebuild in
    let k = c.in-Ok.replica in
    let at = seat_taken r xs _ b _ within c.index_mut.ensures.value c.take_rebuilding.ensures.rebuilding c.in-Some.is in
    record {
      within = s.within;
      sizes = s.sizes;
      replicas = s.replicas;
      interval = s.interval;
      few = s.few;
      times = s.times;
      sized = length-set (slice_set xs r x) r (LiveSeat k) ∙ length-set xs r x ∙ s.sized;
      over = over_set s.limits.n r (slice_set xs r x) (LiveSeat k) cleared
          (over_whole _ s.limits _ _ _ _ b k s.stable (c.requires.arrays r (RebuildingSeat b) at)
          (aimed_is s.stable r xs b at c.requires.aimed) c.in-Ok.ensures.stands c.in-Ok.ensures.live);
      voters = s.voters;
      root_voters = s.root_voters;
    }

pub invariant_of-self-in-Err-Invalid : goal.invariant_of-self-in-Err-Invalid
invariant_of-self-in-Err-Invalid g c =
    let s = c.args.self.now in
    let r = c.args.r in
    let xs = s.seats.items in
    let x = c.take_rebuilding.new.self in
    let within : r < length xs = omega (arith, c.requires.replica, s.seats.ok.0) in
    let cleared = over_cleared s.limits.n r xs _ x within c.index_mut.ensures.value c.take_rebuilding.ensures.left
    s.over in
    record {
      within = s.within;
      sizes = s.sizes;
      replicas = s.replicas;
      interval = s.interval;
      few = s.few;
      times = s.times;
      sized = length-set (slice_set xs r x) r (RebuildingSeat c.in-Err-Invalid.back) ∙ length-set xs r x ∙ s.sized;
      over = over_set s.limits.n r (slice_set xs r x) (RebuildingSeat c.in-Err-Invalid.back) cleared
          (λ j e. absurd (cc));
      voters = s.voters;
      root_voters = s.root_voters;
    }

pub invariant_of-self-in-Err-Down : goal.invariant_of-self-in-Err-Down
invariant_of-self-in-Err-Down g c =
    let s = c.args.self.now in
    let r = c.args.r in
    let xs = s.seats.items in
    let x = c.take_rebuilding.new.self in
    let within : r < length xs = omega (arith, c.requires.replica, s.seats.ok.0) in
    let cleared = over_cleared s.limits.n r xs _ x within c.index_mut.ensures.value c.take_rebuilding.ensures.left
    s.over in
    record {
      within = s.within;
      sizes = s.sizes;
      replicas = s.replicas;
      interval = s.interval;
      few = s.few;
      times = s.times;
      sized = length-set xs r x ∙ s.sized;
      over = cleared;
      voters = s.voters;
      root_voters = s.root_voters;
    }

pub invariant_of-self-in-Err-NoMemory : goal.invariant_of-self-in-Err-NoMemory
invariant_of-self-in-Err-NoMemory g c =
    let s = c.args.self.now in
    let r = c.args.r in
    let xs = s.seats.items in
    let x = c.take_rebuilding.new.self in
    let within : r < length xs = omega (arith, c.requires.replica, s.seats.ok.0) in
    let cleared = over_cleared s.limits.n r xs _ x within c.index_mut.ensures.value c.take_rebuilding.ensures.left
    s.over in
    record {
      within = s.within;
      sizes = s.sizes;
      replicas = s.replicas;
      interval = s.interval;
      few = s.few;
      times = s.times;
      sized = length-set xs r x ∙ s.sized;
      over = cleared;
      voters = s.voters;
      root_voters = s.root_voters;
    }
