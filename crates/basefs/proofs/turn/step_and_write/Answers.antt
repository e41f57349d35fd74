use Rattle.std.proofs.Common.{inl}
use Rattle.std.proofs.lemmas.Result.{err_from_is_err_and}
use Rattle.basefs.proofs.Stepped.{writes_err}
use Rattle.basefs.proofs.turn.step_and_write.Goals as goal

pub returns-in_err-write_lines-clause-stepped : goal.returns-in_err-write_lines-clause-stepped
returns-in_err-write_lines-clause-stepped g c =
    let p = err_from_is_err_and c.from_residual-in_err-write_lines.result
    c.from_residual-in_err-write_lines.ensures.1 in
    rw (p.1, p.2) (inl (record {
      lines = c.in_ok-lines.lines.items;
      steps = c.in_ok-lines.ensures.steps;
      writes = writes_err _ (rw c.deref.ensures.value at c.in_err-write_lines.ensures.bytes);
    }))
