use Rattle.std.proofs.Common.{◌≡◌, ◌<◌, ◌+◌, ◌*◌, refl, sym, ap, ◌∙◌, subst, arith, length, Err}
use Rattle.std.specs.Prelude.{slice_set}
use Rattle.std.proofs.lemmas.List.{set-set, length-set}
use Rattle.std.proofs.lemmas.Option.{slice_get_within}
use Rattle.abs_model.specs.Array.{empty_array}
use Rattle.server_trait.specs.declared.WrapErr.TheVariants.{Down}
use Rattle.replica.specs.Replicas.{IsOver}
use Rattle.replica.proofs.Overs.{over_harmed}
use Rattle.seats.specs.declared.Seat.TheVariants.{Live as LiveSeat, Down as DownSeat}
use Rattle.seats.proofs.Seats.{down_after, live_is, stays_unlive, left_of_live, left_unlive}
use Rattle.cluster.specs.Kept.{kept}
use Rattle.cluster.specs.OverBench.{Kept}
use Rattle.cluster.proofs.Turns.{live_same}
use Rattle.cluster.proofs.Seated.{over_set}
use Rattle.cluster.proofs.Struck.{later_at, later_none}
use Rattle.cluster.proofs.TurnClauses.{at_index, stays_set}
use Rattle.cluster.proofs.Harms.{set_read, changes_none}
use Rattle.cluster.proofs.Wipes.{went_unwiped, went_wiped, wipe_down}
use Rattle.cluster.proofs.cluster.state.Cluster.wipe.Goals as goal

pub returns-in_default-clause-went : goal.returns-in_default-clause-went
returns-in_default-clause-went g c =
    let s = c.args.self.now in
    let v = kept s in
    let r = c.args.r in
    let o = c.index_mut.result.now in
    let within : r < length v.seats = omega (arith, c.requires.replica, s.seats.ok.0) in
    let at = at_index v.seats r o o within c.index_mut.ensures.value refl in
    let unlive = sym c.take_live.ensures.live ∙ c.in_default.is in
    went_unwiped _ v _ _ r within _ c.requires.none.0 _ c.requires.none.1 o at unlive
    (record v { seats = slice_set v.seats r c.take_live.new.self })
    (ap (λ xs. let x : Kept = record v { seats = xs } in x)
    (ap (slice_set v.seats r) (c.take_live.ensures.left ∙ stays_unlive o unlive) ∙ set_read v.seats r o at)) _
    c.in_ok-push_line.ensures

pub returns-in_default-clause-stays : goal.returns-in_default-clause-stays
returns-in_default-clause-stays g c =
    let s = c.args.self.now in
    let v = kept s in
    let r = c.args.r in
    let o = c.index_mut.result.now in
    let within : r < length v.seats = omega (arith, c.requires.replica, s.seats.ok.0) in
    let at = at_index v.seats r o o within c.index_mut.ensures.value refl in
    stays_set _ v _ _ _ _ _ r o c.requires.arrays c.requires.room (length v.seats) (later_none _ _ _)
    (changes_none r _) (changes_none r _) refl refl
    (ap (slice_set v.seats r) (c.take_live.ensures.left ∙ stays_unlive o (sym c.take_live.ensures.live ∙ c.in_default.is)))
    refl (c.requires.arrays r o at)

pub wipe_at-requires-clause-server : goal.wipe_at-requires-clause-server
wipe_at-requires-clause-server g c =
    let v = kept c.args.self.now in
    let r = c.args.r in
    let within : r < length v.seats = omega (arith, c.requires.replica, c.args.self.now.seats.ok.0) in
    let has = c.requires.arrays r (LiveSeat c.in-Some.replica)
    (at_index v.seats r c.index_mut.result.now (LiveSeat c.in-Some.replica) within c.index_mut.ensures.value
    (live_is _ _ (sym c.take_live.ensures.live ∙ c.in-Some.is))) in
    let there : r < length c.args.bench.now.servers.items = slice_get_within _ r _ has.1.is_server in
    let size = c.args.bench.now.servers.ok.0 in
    omega arith

pub wipe_at-requires-clause-table : goal.wipe_at-requires-clause-table
wipe_at-requires-clause-table g c =
    let v = kept c.args.self.now in
    let r = c.args.r in
    let within : r < length v.seats = omega (arith, c.requires.replica, c.args.self.now.seats.ok.0) in
    let has = c.requires.arrays r (LiveSeat c.in-Some.replica)
    (at_index v.seats r c.index_mut.result.now (LiveSeat c.in-Some.replica) within c.index_mut.ensures.value
    (live_is _ _ (sym c.take_live.ensures.live ∙ c.in-Some.is))) in
    let there : r < length c.args.bench.now.tables.items = slice_get_within _ r _ has.1.is_table in
    let size = c.args.bench.now.tables.ok.0 in
    omega arith

pub returns-in-Ok-clause-went : goal.returns-in-Ok-clause-went
returns-in-Ok-clause-went g c =
    let s = c.args.self.now in
    let v = kept s in
    let r = c.args.r in
    let k = c.in-Some.replica in
    let x = c.take_live.new.self in
    let k' = c.wipe_at.new.replica in
    let within : r < length v.seats = omega (arith, c.requires.replica, s.seats.ok.0) in
    let small : r < 3 * v.limits.f + 1 = omega (arith, c.requires.replica, s.seats.ok.0, s.sized) in
    let at = at_index v.seats r c.index_mut.result.now (LiveSeat k) within c.index_mut.ensures.value
    (live_is _ _ (sym c.take_live.ensures.live ∙ c.in-Some.is)) in
    let new : Kept = record v { seats = slice_set (slice_set v.seats r x) r (LiveSeat k') } in
    went_wiped _ v _ _ r within _ c.requires.none.0 _ c.requires.none.1 k at _ _ c.wipe_at.ensures.servers
    c.wipe_at.ensures.tables small c.wipe_at.result c.wipe_at.ensures.watched tt c.in-Ok.is c.in-Ok.ensures.stands new
    (ap (λ xs. let x : Kept = record v { seats = xs } in x) (set-set v.seats r x (LiveSeat k')
    ∙ ap (λ j. slice_set v.seats r (LiveSeat j)) c.in-Ok.ensures.harmed))
    (record {
      limits = refl;
      requests = refl;
      seats = length-set (slice_set v.seats r x) r (LiveSeat k') ∙ length-set v.seats r x;
      events = refl;
    })

pub returns-in-Ok-clause-stays : goal.returns-in-Ok-clause-stays
returns-in-Ok-clause-stays g c =
    let s = c.args.self.now in
    let v = kept s in
    let r = c.args.r in
    let k' = c.wipe_at.new.replica in
    let within : r < length v.seats = omega (arith, c.requires.replica, s.seats.ok.0) in
    stays_set _ v _ _ _ _ _ r (LiveSeat k') c.requires.arrays c.requires.room (length v.seats)
    (later_at _ _ _ r (slice_get_within _ r _ c.wipe_at.ensures.watched.is_before)
    c.wipe_at.ensures.servers c.wipe_at.result c.wipe_at.ensures.watched (length v.seats) within)
    c.wipe_at.ensures.servers c.wipe_at.ensures.tables refl refl (set-set v.seats r c.take_live.new.self (LiveSeat k')) refl
    ((empty_array v.limits.n, c.in-Ok.ensures.stands))

pub returns-in-Ok-clause-servers : goal.returns-in-Ok-clause-servers
returns-in-Ok-clause-servers g c =
    later_at _ _ _ c.args.r (slice_get_within _ c.args.r _ c.wipe_at.ensures.watched.is_before)
    c.wipe_at.ensures.servers c.wipe_at.result c.wipe_at.ensures.watched _ c.requires.replica

pub returns-in_ok-push_fall-in-Err-Down-clause-went : goal.returns-in_ok-push_fall-in-Err-Down-clause-went
returns-in_ok-push_fall-in-Err-Down-clause-went g c =
    let s = c.args.self.now in
    let v = kept s in
    let r = c.args.r in
    let k = c.in-Some.replica in
    let x = c.take_live.new.self in
    let within : r < length v.seats = omega (arith, c.requires.replica, s.seats.ok.0) in
    let small : r < 3 * v.limits.f + 1 = omega (arith, c.requires.replica, s.seats.ok.0, s.sized) in
    let at = at_index v.seats r c.index_mut.result.now (LiveSeat k) within c.index_mut.ensures.value
    (live_is _ _ (sym c.take_live.ensures.live ∙ c.in-Some.is)) in
    let e : c.wipe_at.result ≡ Err c.in-Err-Down.field-0 = c.in-Err-Down.is in
    let f : c.in-Err-Down.field-0 ≡ Down = c.in-Err-Down.field-0-is in
    let new : Kept = record v { seats = slice_set v.seats r x } in
    wipe_down _ v _ _ r within _ c.requires.none.0 _ c.requires.none.1 k at _ _ c.wipe_at.ensures.servers
    c.wipe_at.ensures.tables small c.wipe_at.result c.wipe_at.ensures.watched (e ∙ ap Err f) new
    (ap (λ o. let x : Kept = record v { seats = slice_set v.seats r o } in x) (c.take_live.ensures.left ∙ left_of_live _ _ (sym c.take_live.ensures.live ∙ c.in-Some.is))) _
    c.in_ok-push_fall-in-Err-Down.ensures.lines _ c.in_ok-push_fall-in-Err-Down.ensures.points
    (record { limits = refl; requests = refl; seats = length-set v.seats r x; events = refl })

pub returns-in_ok-push_fall-in-Err-Down-clause-stays : goal.returns-in_ok-push_fall-in-Err-Down-clause-stays
returns-in_ok-push_fall-in-Err-Down-clause-stays g c =
    let s = c.args.self.now in
    let v = kept s in
    let r = c.args.r in
    let within : r < length v.seats = omega (arith, c.requires.replica, s.seats.ok.0) in
    let k = c.in-Some.replica in
    let at = at_index v.seats r c.index_mut.result.now (LiveSeat k) within c.index_mut.ensures.value
    (live_is _ _ (sym c.take_live.ensures.live ∙ c.in-Some.is)) in
    stays_set _ v _ _ _ _ _ r DownSeat c.requires.arrays c.requires.room (length v.seats)
    (later_at _ _ _ r (slice_get_within _ r _ c.wipe_at.ensures.watched.is_before)
    c.wipe_at.ensures.servers c.wipe_at.result c.wipe_at.ensures.watched (length v.seats) within)
    c.wipe_at.ensures.servers c.wipe_at.ensures.tables refl refl
    (ap (slice_set v.seats r) (c.take_live.ensures.left ∙ left_of_live _ _ (sym c.take_live.ensures.live ∙ c.in-Some.is))) refl
    (down_after _ v.limits _ _ _ _ r c.wipe_at.result c.wipe_at.ensures.watched c.wipe_at.ensures.tables (LiveSeat k)
    (c.requires.arrays r (LiveSeat k) at))

pub invariant_of-self : goal.invariant_of-self
invariant_of-self g c =
    let s = c.args.self.now in
    let r = c.args.r in
    let xs = s.seats.items in
    let x = c.take_live.new.self in
    record {
      within = s.within;
      sizes = s.sizes;
      replicas = s.replicas;
      interval = s.interval;
      few = s.few;
      times = s.times;
      sized = length-set xs r x ∙ s.sized;
      over = over_set s.limits.n r xs x s.over (λ k e. absurd (left_unlive _ k (sym c.take_live.ensures.left ∙ e)));
      voters = s.voters;
      root_voters = s.root_voters;
    }

pub invariant_of-self-in-Ok : goal.invariant_of-self-in-Ok
invariant_of-self-in-Ok g c =
    let s = c.args.self.now in
    let r = c.args.r in
    let xs = s.seats.items in
    let x = c.take_live.new.self in
    let k = c.in-Some.replica in
    let k' = c.wipe_at.new.replica in
    let within : r < length xs = omega (arith, c.requires.replica, s.seats.ok.0) in
    let at = at_index xs r c.index_mut.result.now (LiveSeat k) within c.index_mut.ensures.value
    (live_is _ _ (sym c.take_live.ensures.live ∙ c.in-Some.is)) in
    let over' : IsOver s.limits.n k' = subst (IsOver s.limits.n) (sym c.in-Ok.ensures.harmed)
    (over_harmed s.limits.n k (s.over r k at)) in
    record {
      within = s.within;
      sizes = s.sizes;
      replicas = s.replicas;
      interval = s.interval;
      few = s.few;
      times = s.times;
      sized = length-set (slice_set xs r x) r (LiveSeat k') ∙ length-set xs r x ∙ s.sized;
      over = over_set s.limits.n r (slice_set xs r x) (LiveSeat k')
          (over_set s.limits.n r xs x s.over (λ j e. absurd (let gone = (c.take_live.ensures.left ∙ left_of_live _ _ (sym c.take_live.ensures.live ∙ c.in-Some.is)) in cc)))
          (λ j e. subst (IsOver s.limits.n) (live_same _ j e) over');
      voters = s.voters;
      root_voters = s.root_voters;
    }

pub invariant_of-self-in-Err-1 : goal.invariant_of-self-in-Err-1
invariant_of-self-in-Err-1 g c =
    let s = c.args.self.now in
    let r = c.args.r in
    let xs = s.seats.items in
    let x = c.take_live.new.self in
    record {
      within = s.within;
      sizes = s.sizes;
      replicas = s.replicas;
      interval = s.interval;
      few = s.few;
      times = s.times;
      sized = length-set xs r x ∙ s.sized;
      over = over_set s.limits.n r xs x s.over (λ k e. absurd (left_unlive _ k (sym c.take_live.ensures.left ∙ e)));
      voters = s.voters;
      root_voters = s.root_voters;
    }
