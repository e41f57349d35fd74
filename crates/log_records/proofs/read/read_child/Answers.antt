use Rattle.std.proofs.Common.{◌∙◌, ap, take}
use Rattle.log_records.proofs.read.read_child.Goals as goal

pub returns : goal.returns
returns c = c.copy_from_slice.ensures.after ∙ ap (take 8) c.value.ensures.value
