use Rattle.std.proofs.Common.{◌≡◌}
use Rattle.log_segments.specs.Segments.{IsLog, half_of}
use Rattle.log_segments.proofs.tests.fill.Given as goal

abbrev pub invariant-loop-turn : goal.invariant-loop-turn
invariant-loop-turn g l = record {
  log : IsLog g.M.Medium.content g.M.Medium.size l.log;
  half : half_of g.M.Medium.size l.log ≡ half_of g.M.Medium.size l.fn.log;
}
