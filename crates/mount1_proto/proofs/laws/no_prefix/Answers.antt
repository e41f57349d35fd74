use Rattle.xdr_core.proofs.Formats.{no_prefix}
use Rattle.mount1_proto.specs.Forms.{mount_form}
use Rattle.mount1_proto.proofs.laws.no_prefix.Goals as goal

pub returns : goal.returns
returns c = λ proc. no_prefix (mount_form proc)
