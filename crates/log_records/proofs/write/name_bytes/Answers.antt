use Rattle.std.proofs.Common.{refl}
use Rattle.log_records.proofs.Writes.{name_spelled}
use Rattle.log_records.proofs.write.name_bytes.Goals as goal

pub returns : goal.returns
returns c = rw (c.copy_from_slice.ensures.after, c.copy_from_slice-2.ensures.after)
    (name_spelled 2 c.args.dir.now c.args.name.now _ c.told-dir refl)
