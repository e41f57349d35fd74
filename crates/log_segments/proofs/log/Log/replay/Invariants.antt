use Rattle.std.proofs.Common.{◌≡◌, ◌<◌, ◌^◌}
use Rattle.log_segments.specs.Segments.{half_size, start_of}
use Rattle.log_segments.proofs.Replays.{HasRead}
use Rattle.log_segments.proofs.log.Log.replay.Given as goal

abbrev pub invariant-loop-place : goal.invariant-loop-place
invariant-loop-place g l =
    let content = g.M.Medium.content in
    let size = g.M.Medium.size in
    record {
      content_is : content l.self.medium ≡ content l.fn.self.medium;
      size_is : size l.self.medium ≡ size l.fn.self.medium;
      few : size l.fn.self.medium < 2 ^ 32;
      half : l.half ≡ half_size (size l.fn.self.medium);
      start : l.self.start ≡ start_of (content l.fn.self.medium) (size l.fn.self.medium);
      end : l.self.end ≡ l.place;
      read : HasRead (content l.fn.self.medium) (size l.fn.self.medium) l.self.start l.place l.self.places;
      faults : g.M.Medium.faults l.self.medium ≡ g.M.Medium.faults l.fn.self.medium;
    }
