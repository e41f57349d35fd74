use Rattle.std.proofs.Common.{arith}
use Rattle.basefs.proofs.Replaying.{stopped_unread, stopped_bench, large_have_room, header_sized, replayed_early, replayed_run}
use Rattle.basefs.proofs.replay.replay.Goals as goal

pub returns-in-Err-clause-replayed : goal.returns-in-Err-clause-replayed
returns-in-Err-clause-replayed g c =
    rw c.read_status.ensures (replayed_early _ _ _ _ _ _ _ _ (stopped_unread _ _ _ _ _ c.in-Err.ensures.bytes))

pub returns-in-Some-clause-replayed : goal.returns-in-Some-clause-replayed
returns-in-Some-clause-replayed g c = replayed_early _ _ _ _ _ _ _ _
    (stopped_bench _ _ _ _ c.in-Ok.header c.in-Some.status c.in-Ok.ensures.bytes
    (rw c.deref.ensures.value at c.in-Some.ensures))

pub run_log-requires-clause-sizes : goal.run_log-requires-clause-sizes
run_log-requires-clause-sizes g c = header_sized c.in-Ok.header c.in-Ok.ensures.within

pub run_log-requires-clause-enough : goal.run_log-requires-clause-enough
run_log-requires-clause-enough g c =
    let enough = (rw c.deref.ensures.value at c.in_default.ensures).0 in
    omega (arith, enough, c.args.bench.now.servers.ok.0)

pub run_log-requires-clause-room : goal.run_log-requires-clause-room
run_log-requires-clause-room g c = large_have_room _ c.in-Ok.header c.args.bench.now.servers.items
    (rw c.deref.ensures.value at c.in_default.ensures)

pub returns-clause-replayed : goal.returns-clause-replayed
returns-clause-replayed g c = replayed_run _ _ _ _ _ _ _ _ _ _ _ _ c.in-Ok.header c.run_log.result
    c.in-Ok.ensures.bytes (rw c.deref.ensures.value at c.in_default.ensures) c.run_log.ensures.ran
