use Rattle.log_format.specs.Records.{event_form}
use Rattle.xdr_cut.proofs.Scans.{taken_whole}
use Rattle.log_format.proofs.laws.taken_whole.Goals as goal

pub returns : goal.returns
returns c = λ f servers. taken_whole (event_form f servers)
