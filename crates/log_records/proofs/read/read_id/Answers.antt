use Rattle.std.proofs.Common.{◌∙◌, sym}
use Rattle.log_records.proofs.Keys.{id_is}
use Rattle.log_records.proofs.read.read_id.Goals as goal

pub returns : goal.returns
returns c = c.copy_from_slice.ensures.after ∙ sym (id_is c.args.block.now c.requires)
