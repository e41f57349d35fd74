use Rattle.log_stream.proofs.WriteSteps.{writes_exit, lines_failed}
use Rattle.log_stream.proofs.writing.write_lines.Goals as goal

pub returns-in_err-put_line-clause-bytes : goal.returns-in_err-put_line-clause-bytes
returns-in_err-put_line-clause-bytes g c = writes_exit _ c.from_residual.ensures.1
    (lines_failed {T = Unit {0}} _ _ c.line-item.result c.loop-line-test.true c.line-item.is c.loop-line.invariant.appended c.in_err-put_line.ensures.bytes)
