use Rattle.std.proofs.Common.{length-drop, arith}
use Rattle.std.proofs.lemmas.List.{take_rest}
use Rattle.log_stream.proofs.WriteSteps.{writes_failed, writes_stuck, writes_exit, Appends-more}
use Rattle.log_stream.proofs.writing.write_all.Goals as goal

pub returns-in_err-count-clause-bytes : goal.returns-in_err-count-clause-bytes
returns-in_err-count-clause-bytes g c =
    writes_exit _ c.from_residual.ensures.1
    (writes_failed {T = Unit {0}}
    (g.O.Sink.written c.loop-done.out) c.loop-done.done c.loop-done.invariant.appended c.in_err-count.ensures.bytes)

pub returns-then-count-eq0-clause-bytes : goal.returns-then-count-eq0-clause-bytes
returns-then-count-eq0-clause-bytes g c =
    writes_stuck (g.O.Sink.written c.loop-done.out) _ c.loop-done.done _ c.loop-done.invariant.appended c.if-count-eq0.true c.in_ok-count.ensures.bytes

pub loop-done-preserved : goal.loop-done-preserved
loop-done-preserved g c = record {
  appended = Appends-more (g.O.Sink.written c.args.out.now) (g.O.Sink.written c.loop-done.out)
      (g.O.Sink.written c.write.new.self) c.args.text.now _ c.loop-done.done c.in_ok-count.count
      (take_rest c.args.text.now c.loop-done.done) c.loop-done.invariant.appended c.in_ok-count.ensures.bytes;
  within = (let bound = rw (take_rest c.args.text.now c.loop-done.done) at c.in_ok-count.ensures.bound in
      omega (arith, bound, length-drop c.loop-done.done c.args.text.now));
  later = omega (arith, c.in_ok-count.ensures.cause);
}
