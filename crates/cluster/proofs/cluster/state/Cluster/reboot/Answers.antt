use Rattle.std.proofs.Common.{◌≡◌, ◌<◌, ◌+◌, ◌*◌, refl, ap, ◌∙◌, arith, length, Err}
use Rattle.std.proofs.lemmas.List.{length-set}
use Rattle.std.proofs.lemmas.Option.{slice_get_within}
use Rattle.server_trait.specs.declared.WrapErr.TheVariants.{Down}
use Rattle.reply_vote.specs.Ballots.{ballots}
use Rattle.seats.specs.declared.Seat.TheVariants.{Rebuilding as RebuildingSeat, Down as DownSeat}
use Rattle.seats.proofs.Seats.{down_after, has_server, has_table, is_within}
use Rattle.cluster.specs.Kept.{kept}
use Rattle.cluster.proofs.Casts.{sized_of}
use Rattle.cluster.proofs.Checkpoints.{tree_size}
use Rattle.cluster.proofs.Seated.{over_set}
use Rattle.cluster.proofs.Struck.{later_at}
use Rattle.cluster.proofs.TurnClauses.{at_index, stays_set}
use Rattle.cluster.proofs.Reboots.{went_rebooted, reboot_down, restarted_array}
use Rattle.cluster.proofs.cluster.state.Cluster.reboot.Goals as goal

pub rebuild_at-requires-clause-array : goal.rebuild_at-requires-clause-array
rebuild_at-requires-clause-array g c =
    let v = kept c.args.self.now in
    let r = c.args.r in
    let o = c.index.result.now in
    let within : r < length v.seats = omega (arith, c.requires.replica, c.args.self.now.seats.ok.0) in
    c.requires.arrays r o (at_index v.seats r o o within c.index.ensures refl)

pub rebuild_at-requires-clause-size : goal.rebuild_at-requires-clause-size
rebuild_at-requires-clause-size g c =
    let s = c.args.self.now in
    tree_size s.limits (sized_of s.limits s.within s.sizes)

pub rebuild_at-requires-clause-server : goal.rebuild_at-requires-clause-server
rebuild_at-requires-clause-server g c =
    let v = kept c.args.self.now in
    let r = c.args.r in
    let o = c.index.result.now in
    let within : r < length v.seats = omega (arith, c.requires.replica, c.args.self.now.seats.ok.0) in
    let there = is_within _ r (has_server _ v.limits o _ _
    (c.requires.arrays r o (at_index v.seats r o o within c.index.ensures refl))) in
    let size = c.args.bench.now.servers.ok.0 in
    omega (arith, there, size)

pub rebuild_at-requires-clause-table : goal.rebuild_at-requires-clause-table
rebuild_at-requires-clause-table g c =
    let v = kept c.args.self.now in
    let r = c.args.r in
    let o = c.index.result.now in
    let within : r < length v.seats = omega (arith, c.requires.replica, c.args.self.now.seats.ok.0) in
    let there = is_within _ r (has_table _ v.limits o _ _
    (c.requires.arrays r o (at_index v.seats r o o within c.index.ensures refl))) in
    let size = c.args.bench.now.tables.ok.0 in
    omega (arith, there, size)

pub returns-in-Ok-clause-went : goal.returns-in-Ok-clause-went
returns-in-Ok-clause-went g c =
    let s = c.args.self.now in
    let v = kept s in
    let r = c.args.r in
    let o = c.index.result.now in
    let b = c.in-Ok.rebuild in
    let within : r < length v.seats = omega (arith, c.requires.replica, s.seats.ok.0) in
    let small : r < 3 * v.limits.f + 1 = omega (arith, c.requires.replica, s.seats.ok.0, s.sized) in
    went_rebooted _ v (ballots c.withdraw.new.self) (ballots c.withdraw-2.new.self) _ _ _ _ r within
    c.withdraw.ensures.withdraws c.withdraw-2.ensures.withdraws o (at_index v.seats r o o within c.index.ensures refl)
    _ c.requires.none.0 _ c.requires.none.1 c.rebuild_at.ensures.servers c.rebuild_at.ensures.tables small
    c.rebuild_at.result c.rebuild_at.ensures.watched b c.in-Ok.is c.in-Ok.ensures.restarted _ refl
    (record { limits = refl; requests = refl; seats = length-set v.seats r (RebuildingSeat b); events = refl })

pub returns-in-Ok-clause-stays : goal.returns-in-Ok-clause-stays
returns-in-Ok-clause-stays g c =
    let s = c.args.self.now in
    let v = kept s in
    let r = c.args.r in
    let o = c.index.result.now in
    let b = c.in-Ok.rebuild in
    let within : r < length v.seats = omega (arith, c.requires.replica, s.seats.ok.0) in
    stays_set _ v _ _ _ _ _ r (RebuildingSeat b) c.requires.arrays c.requires.room (length v.seats)
    (later_at _ _ _ r (slice_get_within _ r _ c.rebuild_at.ensures.watched.is_before)
    c.rebuild_at.ensures.servers c.rebuild_at.result c.rebuild_at.ensures.watched (length v.seats) within)
    c.rebuild_at.ensures.servers c.rebuild_at.ensures.tables refl refl refl refl
    (restarted_array _ v.limits o _ _ _ _ b
    (c.requires.arrays r o (at_index v.seats r o o within c.index.ensures refl)) c.in-Ok.ensures.restarted)

pub returns-in-Ok-clause-servers : goal.returns-in-Ok-clause-servers
returns-in-Ok-clause-servers g c =
    later_at _ _ _ c.args.r (slice_get_within _ c.args.r _ c.rebuild_at.ensures.watched.is_before)
    c.rebuild_at.ensures.servers c.rebuild_at.result c.rebuild_at.ensures.watched _ c.requires.replica

pub returns-in_ok-push_fall-in-Err-Down-clause-went : goal.returns-in_ok-push_fall-in-Err-Down-clause-went
returns-in_ok-push_fall-in-Err-Down-clause-went g c =
    let s = c.args.self.now in
    let v = kept s in
    let r = c.args.r in
    let o = c.index.result.now in
    let within : r < length v.seats = omega (arith, c.requires.replica, s.seats.ok.0) in
    let small : r < 3 * v.limits.f + 1 = omega (arith, c.requires.replica, s.seats.ok.0, s.sized) in
    let e : c.rebuild_at.result ≡ Err c.in-Err-Down.field-0 = c.in-Err-Down.is in
    let f : c.in-Err-Down.field-0 ≡ Down = c.in-Err-Down.field-0-is in
    reboot_down _ v (ballots c.withdraw.new.self) (ballots c.withdraw-2.new.self) _ _ _ _ r within
    c.withdraw.ensures.withdraws c.withdraw-2.ensures.withdraws o (at_index v.seats r o o within c.index.ensures refl)
    _ c.requires.none.0 _ c.requires.none.1 c.rebuild_at.ensures.servers c.rebuild_at.ensures.tables small
    c.rebuild_at.result c.rebuild_at.ensures.watched (e ∙ ap Err f) _ refl _
    c.in_ok-push_fall-in-Err-Down.ensures.lines _ c.in_ok-push_fall-in-Err-Down.ensures.points
    (record { limits = refl; requests = refl; seats = length-set v.seats r DownSeat; events = refl })

pub returns-in_ok-push_fall-in-Err-Down-clause-stays : goal.returns-in_ok-push_fall-in-Err-Down-clause-stays
returns-in_ok-push_fall-in-Err-Down-clause-stays g c =
    let s = c.args.self.now in
    let v = kept s in
    let r = c.args.r in
    let o = c.index.result.now in
    let within : r < length v.seats = omega (arith, c.requires.replica, s.seats.ok.0) in
    stays_set _ v _ _ _ _ _ r DownSeat c.requires.arrays c.requires.room (length v.seats)
    (later_at _ _ _ r (slice_get_within _ r _ c.rebuild_at.ensures.watched.is_before)
    c.rebuild_at.ensures.servers c.rebuild_at.result c.rebuild_at.ensures.watched (length v.seats) within)
    c.rebuild_at.ensures.servers c.rebuild_at.ensures.tables refl refl refl refl
    (down_after _ v.limits _ _ _ _ r c.rebuild_at.result c.rebuild_at.ensures.watched c.rebuild_at.ensures.tables o
    (c.requires.arrays r o (at_index v.seats r o o within c.index.ensures refl)))

pub invariant_of-self : goal.invariant_of-self
invariant_of-self g c =
    let s = c.args.self.now in
    let r = c.args.r in
    let xs = s.seats.items in
    let x = RebuildingSeat c.in-Ok.rebuild in
    record {
      within = s.within;
      sizes = s.sizes;
      replicas = s.replicas;
      interval = s.interval;
      few = s.few;
      times = s.times;
      sized = length-set xs r x ∙ s.sized;
      over = over_set s.limits.n r xs x s.over (λ k e. absurd (cc));
      voters = c.withdraw.ensures.withdraws.size ∙ s.voters;
      root_voters = c.withdraw-2.ensures.withdraws.size ∙ s.root_voters;
    }

pub invariant_of-self-in-Err-Down : goal.invariant_of-self-in-Err-Down
invariant_of-self-in-Err-Down g c =
    let s = c.args.self.now in
    let r = c.args.r in
    let xs = s.seats.items in
    record {
      within = s.within;
      sizes = s.sizes;
      replicas = s.replicas;
      interval = s.interval;
      few = s.few;
      times = s.times;
      sized = length-set xs r DownSeat ∙ s.sized;
      over = over_set s.limits.n r xs DownSeat s.over (λ k e. absurd (cc));
      voters = c.withdraw.ensures.withdraws.size ∙ s.voters;
      root_voters = c.withdraw-2.ensures.withdraws.size ∙ s.root_voters;
    }
