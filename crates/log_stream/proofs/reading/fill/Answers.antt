use Rattle.std.proofs.Common.{arith}
use Rattle.std.proofs.lemmas.Grind.{common_steps}
use Rattle.log_stream.proofs.Taken.{filling_more, fills_all, fills_failed, fills_short}
use Rattle.log_stream.proofs.reading.fill.Goals as goal

pub returns-in-Err-clause-bytes : goal.returns-in-Err-clause-bytes
returns-in-Err-clause-bytes g c = fills_failed _ _ _ _ _ _ c.loop-filled.invariant.0 c.loop-filled-test.true
    (grind (arith, common_steps)) c.in-Err.ensures.bytes

pub returns-then-count-eq0-clause-bytes : goal.returns-then-count-eq0-clause-bytes
returns-then-count-eq0-clause-bytes g c = fills_short _ _ _ _ _ _ _ c.loop-filled.invariant.0 c.loop-filled-test.true
    (grind (arith, common_steps)) c.if-count-eq0.true c.in-Ok.ensures.bytes

pub loop-filled-preserved : goal.loop-filled-preserved
loop-filled-preserved g c = (
  filling_more _ _ _ _ _ _ _ c.loop-filled.invariant.0
      (grind (arith, common_steps)) c.in-Ok.ensures.bound.0 c.in-Ok.ensures.bytes.0,
  omega (arith, c.in-Ok.ensures.cause),
  λ i. omega (arith, c.type_inv.buf i),
)

pub returns-clause-bytes : goal.returns-clause-bytes
returns-clause-bytes g c = fills_all _ _ _ _ _ c.loop-filled.invariant.0 c.loop-filled-test.false
