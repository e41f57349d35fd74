use Rattle.std.proofs.Common.{◌==◌, ap, sym}
use Rattle.log_records.proofs.Keys.{about_is}
use Rattle.log_records.proofs.read.is_of_name.Goals as goal

pub returns : goal.returns
returns c = ap (λ n. n == 2) (sym (about_is c.args.block.now c.requires))
