use Rattle.log_records.specs.Spelling.{record_of}
use Rattle.log_records.proofs.Writes.{block_spelled}
use Rattle.log_records.proofs.write.block_of.Goals as goal

pub returns : goal.returns
unfolding record_of
returns c = rw (c.copy_from_slice.ensures.after, c.copy_from_slice-2.ensures.after)
    (block_spelled c.args.mark _ _ c.args.key.now c.args.value.now)
