use Rattle.log_segments.proofs.Prefixes.{IsPassed}
use Rattle.log_segments.proofs.places.Places.under.Given as goal

abbrev pub invariant-loop-key : goal.invariant-loop-key
invariant-loop-key l = IsPassed l.self l.prefix l.key-iterator l.places
