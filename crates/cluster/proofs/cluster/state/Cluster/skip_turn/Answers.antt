use Rattle.std.proofs.Common.{◌≡◌, ◌<◌, refl, sym, ap, ◌∙◌, subst, arith, length, slice_get, Some, Err}
use Rattle.std.specs.Prelude.{slice_set}
use Rattle.std.proofs.lemmas.List.{set-set, length-set}
use Rattle.replica.specs.Replicas.{IsOver}
use Rattle.std.proofs.lemmas.Option.{slice_get_within}
use Rattle.server_trait.specs.declared.WrapErr.TheVariants.{Down}
use Rattle.seats.specs.declared.Seat.TheVariants.{Live as LiveSeat, Down as DownSeat}
use Rattle.seats.proofs.Seats.{down_after, live_is, left_of_live, left_unlive}
use Rattle.cluster.specs.Kept.{kept}
use Rattle.cluster.specs.OverBench.{Kept}
use Rattle.cluster.proofs.Casts.{sized_of}
use Rattle.cluster.proofs.Turns.{live_same, next_is, next_here}
use Rattle.cluster.proofs.Seated.{over_set, rooted_if, stays_voted}
use Rattle.cluster.proofs.Struck.{later_at}
use Rattle.cluster.proofs.TurnClauses.{at_index, turned_skip, turned_skip_fails, stays_set}
use Rattle.cluster.proofs.Harms.{request_at}
use Rattle.cluster.proofs.cluster.state.Cluster.skip_turn.Goals as goal

pub skip_at-requires-clause-stands : goal.skip_at-requires-clause-stands
skip_at-requires-clause-stands g c =
    let v = kept c.args.self.now in
    let r = c.args.r in
    let within : r < length v.seats = omega (arith, c.requires.replica, c.args.self.now.seats.ok.0) in
    c.requires.arrays r (LiveSeat c.in-Some.replica)
    (at_index v.seats r c.index_mut.result.now (LiveSeat c.in-Some.replica) within c.index_mut.ensures.value
    (live_is _ _ (sym c.take_live.ensures.live ∙ c.in-Some.is)))

pub skip_at-requires-clause-over : goal.skip_at-requires-clause-over
skip_at-requires-clause-over g c =
    let v = kept c.args.self.now in
    let r = c.args.r in
    let within : r < length v.seats = omega (arith, c.requires.replica, c.args.self.now.seats.ok.0) in
    c.args.self.now.over r c.in-Some.replica
    (at_index v.seats r c.index_mut.result.now (LiveSeat c.in-Some.replica) within c.index_mut.ensures.value
    (live_is _ _ (sym c.take_live.ensures.live ∙ c.in-Some.is)))

pub skip_at-requires-clause-place : goal.skip_at-requires-clause-place
skip_at-requires-clause-place g c =
    let v = kept c.args.self.now in
    let r = c.args.r in
    let within : r < length v.seats = omega (arith, c.requires.replica, c.args.self.now.seats.ok.0) in
    let k = c.in-Some.replica in
    let h = next_here v r c.args.next (next_is v r c.args.next within c.requires.next) k
    (at_index v.seats r c.index_mut.result.now (LiveSeat k) within c.index_mut.ensures.value
    (live_is _ _ (sym c.take_live.ensures.live ∙ c.in-Some.is))) in
    let few = c.args.self.now.few in
    let place = h.place in
    let low = h.request in
    omega (arith, few, place, low)

pub returns-in_ok-vote_root-in-Ok-clause-turned : goal.returns-in_ok-vote_root-in-Ok-clause-turned
returns-in_ok-vote_root-in-Ok-clause-turned g c =
    let s = c.args.self.now in
    let v = kept s in
    let r = c.args.r in
    let k = c.in-Some.replica in
    let k' = c.skip_at.new.replica in
    let within : r < length v.seats = omega (arith, c.requires.replica, s.seats.ok.0) in
    let at = at_index v.seats r c.index_mut.result.now (LiveSeat k) within c.index_mut.ensures.value
    (live_is _ _ (sym c.take_live.ensures.live ∙ c.in-Some.is)) in
    let h = next_here v r c.args.next (next_is v r c.args.next within c.requires.next) k at in
    let q = request_at v c.args.next h.request in
    turned_skip _ v _ _ _ _ r k q.0 (sized_of v.limits s.within s.sizes) within at
    (subst (λ n. slice_get v.requests n ≡ Some q.0) h.place q.1) h.near
    c.skip_at.ensures.servers c.skip_at.ensures.tables _ (kept c.vote_root.new.self) k' _ _ _
    c.skip_at.result c.in-Ok.root c.in-Ok.is (s.over r k at) c.in-Ok.ensures.over c.skip_at.ensures.watched
    c.in-Ok.ensures.skipped
    (ap (λ xs. let x : Kept = record v { seats = xs } in x) (set-set v.seats r c.take_live.new.self (LiveSeat k')))
    c.in_ok-vote_root-in-Ok.ensures.rooted

pub returns-in_ok-vote_root-in-Ok-clause-stays : goal.returns-in_ok-vote_root-in-Ok-clause-stays
returns-in_ok-vote_root-in-Ok-clause-stays g c =
    let s = c.args.self.now in
    let v = kept s in
    let r = c.args.r in
    let k = c.in-Some.replica in
    let k' = c.skip_at.new.replica in
    let within : r < length v.seats = omega (arith, c.requires.replica, s.seats.ok.0) in
    let at = at_index v.seats r c.index_mut.result.now (LiveSeat k) within c.index_mut.ensures.value
    (live_is _ _ (sym c.take_live.ensures.live ∙ c.in-Some.is)) in
    let mid : Kept = record v { seats = slice_set (slice_set v.seats r c.take_live.new.self) r (LiveSeat k') } in
    stays_voted _ v mid (kept c.vote_root.new.self) _ _
    (stays_set _ v mid _ _ _ _ r (LiveSeat k') c.requires.arrays c.requires.room
    (length v.seats) (later_at _ _ _ r (slice_get_within _ r _ c.skip_at.ensures.watched.is_before)
    c.skip_at.ensures.servers c.skip_at.result c.skip_at.ensures.watched (length v.seats) within)
    c.skip_at.ensures.servers c.skip_at.ensures.tables refl refl (set-set v.seats r c.take_live.new.self (LiveSeat k')) refl
    ((
    let has = c.requires.arrays r (LiveSeat k) at in
    (has.0, (c.in-Ok.ensures.skipped.step has.0 has.1).0))))
    (rooted_if r k'.place c.in-Ok.root mid (kept c.vote_root.new.self) _ _ c.in_ok-vote_root-in-Ok.ensures.rooted)

pub returns-in_ok-vote_root-in-Ok-clause-servers : goal.returns-in_ok-vote_root-in-Ok-clause-servers
returns-in_ok-vote_root-in-Ok-clause-servers g c =
    later_at _ _ _ c.args.r (slice_get_within _ c.args.r _ c.skip_at.ensures.watched.is_before)
    c.skip_at.ensures.servers c.skip_at.result c.skip_at.ensures.watched _ c.requires.replica

pub returns-in_err-vote_root-in-Ok-clause-servers : goal.returns-in_err-vote_root-in-Ok-clause-servers
returns-in_err-vote_root-in-Ok-clause-servers g c =
    later_at _ _ _ c.args.r (slice_get_within _ c.args.r _ c.skip_at.ensures.watched.is_before)
    c.skip_at.ensures.servers c.skip_at.result c.skip_at.ensures.watched _ c.requires.replica

pub returns-in_ok-push_fall-in-Err-Down-clause-turned : goal.returns-in_ok-push_fall-in-Err-Down-clause-turned
returns-in_ok-push_fall-in-Err-Down-clause-turned g c =
    let s = c.args.self.now in
    let v = kept s in
    let r = c.args.r in
    let k = c.in-Some.replica in
    let within : r < length v.seats = omega (arith, c.requires.replica, s.seats.ok.0) in
    let at = at_index v.seats r c.index_mut.result.now (LiveSeat k) within c.index_mut.ensures.value
    (live_is _ _ (sym c.take_live.ensures.live ∙ c.in-Some.is)) in
    let h = next_here v r c.args.next (next_is v r c.args.next within c.requires.next) k at in
    let q = request_at v c.args.next h.request in
    let e : c.skip_at.result ≡ Err c.in-Err-Down.field-0 = c.in-Err-Down.is in
    let f : c.in-Err-Down.field-0 ≡ Down = c.in-Err-Down.field-0-is in
    turned_skip_fails _ v _ _ _ _ r k q.0 (sized_of v.limits s.within s.sizes) within at
    (subst (λ n. slice_get v.requests n ≡ Some q.0) h.place q.1) h.near
    c.skip_at.ensures.servers c.skip_at.ensures.tables _ _ _ _ _ c.skip_at.result
    (e ∙ ap Err f) c.skip_at.ensures.watched
    (ap (λ o. let x : Kept = record v { seats = slice_set v.seats r o } in x) (c.take_live.ensures.left ∙ left_of_live _ _ (sym c.take_live.ensures.live ∙ c.in-Some.is)))
    c.in_ok-push_fall-in-Err-Down.ensures.lines c.in_ok-push_fall-in-Err-Down.ensures.points

pub returns-in_ok-push_fall-in-Err-Down-clause-stays : goal.returns-in_ok-push_fall-in-Err-Down-clause-stays
returns-in_ok-push_fall-in-Err-Down-clause-stays g c =
    let s = c.args.self.now in
    let v = kept s in
    let r = c.args.r in
    let within : r < length v.seats = omega (arith, c.requires.replica, s.seats.ok.0) in
    let k = c.in-Some.replica in
    let at = at_index v.seats r c.index_mut.result.now (LiveSeat k) within c.index_mut.ensures.value
    (live_is _ _ (sym c.take_live.ensures.live ∙ c.in-Some.is)) in
    stays_set _ v _ _ _ _ _ r DownSeat c.requires.arrays c.requires.room (length v.seats)
    (later_at _ _ _ r (slice_get_within _ r _ c.skip_at.ensures.watched.is_before)
    c.skip_at.ensures.servers c.skip_at.result c.skip_at.ensures.watched (length v.seats) within)
    c.skip_at.ensures.servers c.skip_at.ensures.tables refl refl
    (ap (slice_set v.seats r) (c.take_live.ensures.left ∙ left_of_live _ _ (sym c.take_live.ensures.live ∙ c.in-Some.is))) refl
    (down_after _ v.limits _ _ _ _ r c.skip_at.result c.skip_at.ensures.watched c.skip_at.ensures.tables (LiveSeat k)
    (c.requires.arrays r (LiveSeat k) at))

pub invariant_of-self-in-Ok : goal.invariant_of-self-in-Ok
invariant_of-self-in-Ok g c =
    let s = c.args.self.now in
    let r = c.args.r in
    let xs = s.seats.items in
    let x = c.take_live.new.self in
    let k' = c.skip_at.new.replica in
    record {
      within = s.within;
      sizes = s.sizes;
      replicas = s.replicas;
      interval = s.interval;
      few = s.few;
      times = s.times;
      sized = length-set (slice_set xs r x) r (LiveSeat k') ∙ length-set xs r x ∙ s.sized;
      over = over_set s.limits.n r (slice_set xs r x) (LiveSeat k')
          (over_set s.limits.n r xs x s.over (λ k e. absurd (left_unlive _ k (sym c.take_live.ensures.left ∙ e))))
          (λ k e. subst (IsOver s.limits.n) (live_same _ k e) c.in-Ok.ensures.over);
      voters = s.voters;
      root_voters = s.root_voters;
    }

pub invariant_of-self-in-Err-1 : goal.invariant_of-self-in-Err-1
invariant_of-self-in-Err-1 g c =
    let s = c.args.self.now in
    let r = c.args.r in
    let xs = s.seats.items in
    let x = c.take_live.new.self in
    record {
      within = s.within;
      sizes = s.sizes;
      replicas = s.replicas;
      interval = s.interval;
      few = s.few;
      times = s.times;
      sized = length-set xs r x ∙ s.sized;
      over = over_set s.limits.n r xs x s.over (λ k e. absurd (left_unlive _ k (sym c.take_live.ensures.left ∙ e)));
      voters = s.voters;
      root_voters = s.root_voters;
    }
