use Rattle.std.proofs.Common.{◌≡◌, ◌+◌, ap, arith, length, subst}
use Rattle.std.specs.Prelude.{max}
use Rattle.log_segments.specs.Segments.{half_size}
use Rattle.log_files.specs.Chunked.{IsChunked}
use Rattle.log_files.proofs.ChunkLaws.{chunked_none}
use Rattle.log_files.proofs.tests.write_and_read.Goals as goal

pub write_bytes-requires-clause-room : goal.write_bytes-requires-clause-room
write_bytes-requires-clause-room g c =
    omega (arith, ap length c.in_ok-clear.ensures.empty, ap half_size c.in_ok-clear.ensures.size, c.requires)

pub write_bytes-requires-clause-chunked : goal.write_bytes-requires-clause-chunked
write_bytes-requires-clause-chunked g c = chunked_none _ _ c.in_ok-clear.ensures.empty

pub read_bytes-requires-clause-chunked : goal.read_bytes-requires-clause-chunked
read_bytes-requires-clause-chunked g c =
    let same : max 0 (0 + c.in_ok-count.count) ≡ c.in_ok-count.count = omega arith in
    subst (IsChunked _ _) same c.in_ok-count.ensures.wrote.chunked
