use Rattle.std.proofs.Common.{◌≡◌, length, inl, inr, sym, arith}
use Rattle.cluster.specs.Kept.{kept}
use Rattle.basefs.proofs.Records.{can_step}
use Rattle.basefs.proofs.Turning.{turn_read, turn_wrong, turn_waits, turn_goes, turn_failed, turn_ends, not_wanted}
use Rattle.basefs.proofs.turn.take_turn.Goals as goal

pub returns-in-Err-clause-turn : goal.returns-in-Err-clause-turn
returns-in-Err-clause-turn g c =
    let count : c.narrow-servers.result ≡ length c.args.bench.now.servers.items =
    omega (arith, c.narrow-servers.ensures, c.len.ensures, c.args.bench.now.servers.ok.0) in
    rw c.read_status.ensures (turn_read c.requires.limits.0 (rw count at c.in-Err.ensures.bytes))

pub step_and_write-requires-clause-event : goal.step_and_write-requires-clause-event
step_and_write-requires-clause-event g c =
    rw (← c.requires.limits.0) (can_step c.args.limits.now c.narrow-servers.result (kept c.args.cluster.now).requests
    c.in-Ok.ensures.bytes.taken c.in-Ok.event c.in-Ok.ensures.bytes.outcome (sym c.in-Goes.ensures))

pub returns-in-Wrong-clause-turn : goal.returns-in-Wrong-clause-turn
returns-in-Wrong-clause-turn g c =
    let count : c.narrow-servers.result ≡ length c.args.bench.now.servers.items =
    omega (arith, c.narrow-servers.ensures, c.len.ensures, c.args.bench.now.servers.ok.0) in
    turn_wrong _ c.args.limits.now _ _ _ _ _ _ (kept c.args.cluster.now) c.args.place c.in-Ok.event c.requires.limits.0
    (rw count at c.in-Ok.ensures.bytes) (sym c.in-Wrong.ensures)

pub returns-in-Waits-clause-turn : goal.returns-in-Waits-clause-turn
returns-in-Waits-clause-turn g c =
    let count : c.narrow-servers.result ≡ length c.args.bench.now.servers.items =
    omega (arith, c.narrow-servers.ensures, c.len.ensures, c.args.bench.now.servers.ok.0) in
    turn_waits _ c.args.limits.now _ _ _ _ _ _ (kept c.args.cluster.now) c.args.place c.in-Ok.event c.requires.limits.0
    (rw count at c.in-Ok.ensures.bytes) (sym c.in-Waits.ensures)

pub returns-in-Ok-step_and_write-clause-turn : goal.returns-in-Ok-step_and_write-clause-turn
returns-in-Ok-step_and_write-clause-turn g c =
    let count : c.narrow-servers.result ≡ length c.args.bench.now.servers.items =
    omega (arith, c.narrow-servers.ensures, c.len.ensures, c.args.bench.now.servers.ok.0) in
    rw c.in-Ok.ensures.next (turn_goes _ c.args.limits.now _ _ _ _ _ _ (kept c.args.cluster.now) c.args.place
    c.in-Ok.event c.requires.limits.0 (rw count at c.in-Ok.ensures.bytes) _ _ _ _ _ c.step_and_write.ensures.servers _
    (sym c.in-Goes.ensures) (not_wanted c.in-Ok-step_and_write.ensures.stepped))

pub returns-in-Err-step_and_write-clause-turn : goal.returns-in-Err-step_and_write-clause-turn
returns-in-Err-step_and_write-clause-turn g c =
    let count : c.narrow-servers.result ≡ length c.args.bench.now.servers.items =
    omega (arith, c.narrow-servers.ensures, c.len.ensures, c.args.bench.now.servers.ok.0) in
    rw c.run_status.ensures.status (turn_failed _ c.args.limits.now _ _ _ _ _ _ (kept c.args.cluster.now) c.args.place
    c.in-Ok.event c.requires.limits.0 (rw count at c.in-Ok.ensures.bytes) _ _ _ _ _ c.step_and_write.ensures.servers _
    (inl (sym c.in-Goes.ensures)) c.in-Err-step_and_write.ensures.stepped)

pub returns-in-Ok-step_and_write-2-clause-turn : goal.returns-in-Ok-step_and_write-2-clause-turn
returns-in-Ok-step_and_write-2-clause-turn g c =
    let count : c.narrow-servers.result ≡ length c.args.bench.now.servers.items =
    omega (arith, c.narrow-servers.ensures, c.len.ensures, c.args.bench.now.servers.ok.0) in
    turn_ends _ c.args.limits.now _ _ _ _ _ _ (kept c.args.cluster.now) c.args.place c.in-Ok.event c.requires.limits.0
    (rw count at c.in-Ok.ensures.bytes) _ _ _ _ _ c.step_and_write-in-Ends.ensures.servers _ _ _
    (sym c.in-Ends.ensures) (not_wanted c.in-Ok-step_and_write-2.ensures.stepped)
    (rw c.in-Ok.ensures.next at c.finish.ensures.bytes)

pub returns-in-Err-step_and_write-2-clause-turn : goal.returns-in-Err-step_and_write-2-clause-turn
returns-in-Err-step_and_write-2-clause-turn g c =
    let count : c.narrow-servers.result ≡ length c.args.bench.now.servers.items =
    omega (arith, c.narrow-servers.ensures, c.len.ensures, c.args.bench.now.servers.ok.0) in
    rw c.run_status-in-Err-step_and_write-2.ensures.status (turn_failed _ c.args.limits.now _ _ _ _ _ _
    (kept c.args.cluster.now) c.args.place c.in-Ok.event c.requires.limits.0 (rw count at c.in-Ok.ensures.bytes)
    _ _ _ _ _ c.step_and_write-in-Ends.ensures.servers _ (inr (sym c.in-Ends.ensures))
    c.in-Err-step_and_write-2.ensures.stepped)
