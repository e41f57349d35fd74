use Rattle.std.proofs.Common.{inl, refl, arith}
use Rattle.cluster.proofs.Struck.{room_later}
use Rattle.cluster.specs.Kept.{kept}
use Rattle.basefs.proofs.Beginning.{begun_over, turned, turned_over, turned_most}
use Rattle.basefs.proofs.run.run_log.Goals as goal

pub loop-turn-init : goal.loop-turn-init
loop-turn-init g c = record {
  going = (c.in-Ok.ensures.begun (g.S.Source.left c.args.input.now)).0;
  arrays = c.in-Ok.ensures.arrays;
  near = omega arith;
  counted = (c.in-Ok.ensures.begun (g.S.Source.left c.args.input.now)).1;
  reads = omega arith;
  writes = c.in-Ok.ensures.writes;
}

pub returns-in-Err-clause-ran : goal.returns-in-Err-clause-ran
returns-in-Err-clause-ran g c = rw c.run_status.ensures.status
    (begun_over _ _ _ _ c.in-Err.error (c.in-Err.ensures.begun (g.S.Source.left c.args.input.now)))

pub take_turn-requires-clause-servers : goal.take_turn-requires-clause-servers
take_turn-requires-clause-servers g c =
    let size = c.loop-turn.invariant.going.here.later.size in
    omega (arith, size, c.requires.few, c.args.bench.now.servers.ok.0, c.loop-turn.bench.servers.ok.0)

pub take_turn-requires-clause-limits : goal.take_turn-requires-clause-limits
take_turn-requires-clause-limits g c = (rw c.loop-turn.invariant.going.here.limits_are refl, c.requires.replicas)

pub take_turn-requires-clause-place : goal.take_turn-requires-clause-place
take_turn-requires-clause-place g c = omega (arith, c.loop-turn.invariant.near, c.loop-turn-test.true)

pub take_turn-requires-clause-arrays : goal.take_turn-requires-clause-arrays
take_turn-requires-clause-arrays g c = c.loop-turn.invariant.arrays

pub take_turn-requires-clause-room : goal.take_turn-requires-clause-room
take_turn-requires-clause-room g c =
    room_later _ c.args.limits.now _ _ _ c.loop-turn.invariant.going.here.later c.requires.room

pub take_turn-requires-clause-few : goal.take_turn-requires-clause-few
take_turn-requires-clause-few g c = omega (arith, c.loop-turn.invariant.counted, c.loop-turn-test.true)

pub returns-in-Over-clause-ran : goal.returns-in-Over-clause-ran
returns-in-Over-clause-ran g c = inl (turned_over 16777216 c.loop-turn._turn (kept c.take_turn.new.cluster)
    c.loop-turn-test.true c.loop-turn.invariant.going c.in-Over.ensures.turn)

pub returns-in-Over-clause-reads : goal.returns-in-Over-clause-reads
returns-in-Over-clause-reads g c = omega (arith, c.loop-turn.invariant.reads, c.in-Over.ensures.reads)

pub returns-in-Over-clause-writes : goal.returns-in-Over-clause-writes
returns-in-Over-clause-writes g c = omega (arith, c.loop-turn.invariant.writes, c.in-Over.ensures.writes)

pub loop-turn-preserved : goal.loop-turn-preserved
loop-turn-preserved g c = record {
  going = turned 16777216 c.loop-turn._turn c.loop-turn-test.true c.loop-turn.invariant.going c.in-Goes.ensures.turn;
  arrays = c.in-Goes.ensures.arrays;
  near = omega (arith, c.loop-turn.invariant.near, c.in-Goes.ensures.near.0);
  counted = omega (arith, c.loop-turn.invariant.counted, c.in-Goes.ensures.near.1);
  reads = omega (arith, c.loop-turn.invariant.reads, c.in-Goes.ensures.reads);
  writes = omega (arith, c.loop-turn.invariant.writes, c.in-Goes.ensures.writes);
}

pub returns-clause-ran : goal.returns-clause-ran
returns-clause-ran g c =
    inl (turned_most 16777216 c.loop-turn._turn c.loop-turn-test.false c.loop-turn.invariant.going)

pub returns-clause-reads : goal.returns-clause-reads
returns-clause-reads g c = c.loop-turn.invariant.reads

pub returns-clause-writes : goal.returns-clause-writes
returns-clause-writes g c = c.loop-turn.invariant.writes
