use Rattle.std.proofs.Common.{◌≡◌, ◌≤◌}
use Rattle.log_segments.specs.Segments.{medium_of, IsLog}
use Rattle.log_segments.proofs.tests.live_count.Given as goal

abbrev pub invariant-loop-place : goal.invariant-loop-place
invariant-loop-place g l =
    let content = g.M.Medium.content in
    let size = g.M.Medium.size in
    record {
      log : IsLog content size l.log;
      content_is : content (medium_of l.log) ≡ content (medium_of l.fn.log);
      size_is : size (medium_of l.log) ≡ size (medium_of l.fn.log);
      few : l.count ≤ l.place;
    }
