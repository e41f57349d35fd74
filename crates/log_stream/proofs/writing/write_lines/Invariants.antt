use Rattle.std.proofs.Common.{◌≤◌, take}
use Rattle.std.specs.Io.KnownBytes.{Appends}
use Rattle.log_format.specs.Lines.{text_of}
use Rattle.log_stream.proofs.writing.write_lines.Given as goal

abbrev pub invariant-loop-line : goal.invariant-loop-line
invariant-loop-line g l = record {
  appended : Appends (g.O.Sink.written l.fn.out) (g.O.Sink.written l.out) (text_of (take l.line-index l.lines));
  later : g.O.Sink.faults l.fn.out ≤ g.O.Sink.faults l.out;
}
