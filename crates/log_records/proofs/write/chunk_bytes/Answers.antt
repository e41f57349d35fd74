use Rattle.std.proofs.Common.{refl}
use Rattle.log_records.proofs.Writes.{chunk_spelled}
use Rattle.log_records.proofs.write.chunk_bytes.Goals as goal

pub returns : goal.returns
returns c = rw c.copy_from_slice.ensures.after (chunk_spelled _ _ c.args.bytes.now _ refl)
