use Rattle.xdr_core.proofs.Formats.{no_prefix}
use Rattle.xdr_cut.specs.Cut.{plain}
use Rattle.log_format.specs.Records.{event_plan}
use Rattle.log_format.proofs.laws.no_prefix.Goals as goal

pub returns : goal.returns
returns c = λ f servers. no_prefix (plain (event_plan f servers))
