use Rattle.std.proofs.Common.{◌≡◌, ◌<◌, ◌≤◌, ◌^◌}
use Rattle.log_segments.specs.Segments.{half_size, IsOther}
use Rattle.log_segments.proofs.Copies.{HasCopied}
use Rattle.log_segments.proofs.log.Log.compact.Given as goal

abbrev pub invariant-loop-place : goal.invariant-loop-place
invariant-loop-place g l =
    let content = g.M.Medium.content in
    let size = g.M.Medium.size in
    record {
      start : l.self.start ≡ l.fn.self.start;
      end : l.self.end ≡ l.fn.self.end;
      kept : l.self.places ≡ l.fn.self.places;
      size_is : size l.self.medium ≡ size l.fn.self.medium;
      few : size l.fn.self.medium < 2 ^ 32;
      most : l.fn.self.end ≤ half_size (size l.fn.self.medium);
      other : IsOther (size l.fn.self.medium) l.fn.self.start l.target;
      copied : HasCopied (content l.fn.self.medium) (content l.self.medium)
          (size l.fn.self.medium) l.fn.self.start l.target l.place l.count l.places;
      faults : g.M.Medium.faults l.self.medium ≡ g.M.Medium.faults l.fn.self.medium;
    }
