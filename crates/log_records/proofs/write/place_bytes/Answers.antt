use Rattle.std.proofs.Common.{refl}
use Rattle.log_records.proofs.Writes.{place_spelled}
use Rattle.log_records.proofs.write.place_bytes.Goals as goal

pub returns : goal.returns
returns c = rw (c.copy_from_slice.ensures.after, c.copy_from_slice-2.ensures.after, c.to_be_bytes.ensures)
    (place_spelled 3 c.args.id.now _ c.told-id refl)
