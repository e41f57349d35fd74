use Rattle.std.proofs.Common.{length, ◌-◌, ◌≤◌}
use Rattle.log_format.specs.Records.{event_form}
use Rattle.log_stream.proofs.RecordSteps.{InHand}
use Rattle.log_stream.proofs.reading.read_record.Given as goal

abbrev pub invariant-loop-event : goal.invariant-loop-event
invariant-loop-event g l = record {
  hand : InHand (event_form l.f l.servers) (g.S.Source.left l.fn.input) (g.S.Source.left l.input) l.bytes.items;
  later : g.S.Source.faults l.fn.input ≤ g.S.Source.faults l.input;
}

abbrev pub decreases-loop-event : goal.decreases-loop-event
decreases-loop-event g l = 65557 - length l.bytes.items
