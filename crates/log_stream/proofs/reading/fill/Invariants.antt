use Rattle.std.proofs.Common.{length, ◌-◌, ◌≤◌}
use Rattle.xdr_core.specs.Items.{IsBytes}
use Rattle.log_stream.proofs.Taken.{Filling}
use Rattle.log_stream.proofs.reading.fill.Given as goal

abbrev pub invariant-loop-filled : goal.invariant-loop-filled
invariant-loop-filled g l = Filling (g.S.Source.left l.fn.input) (g.S.Source.left l.input) l.buf l.filled
    × (g.S.Source.faults l.fn.input ≤ g.S.Source.faults l.input) × IsBytes l.buf

abbrev pub decreases-loop-filled : goal.decreases-loop-filled
decreases-loop-filled g l = length l.initial.buf - l.filled
