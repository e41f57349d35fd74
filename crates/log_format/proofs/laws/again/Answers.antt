use Rattle.xdr_core.proofs.Formats.{reads_again}
use Rattle.log_format.specs.Records.{event_form}
use Rattle.log_format.proofs.EventTexts.{event_told, event_small}
use Rattle.log_format.proofs.laws.again.Goals as goal

pub returns-clause-one : goal.returns-clause-one
returns-clause-one c = λ f servers e text s. (event_told f servers e text s).0

pub returns-clause-read : goal.returns-clause-read
returns-clause-read c = λ f servers e text more s. reads_again (event_form f servers) e text more 0 s

pub returns-clause-len : goal.returns-clause-len
returns-clause-len c = λ f servers e text s. event_small f servers e text s
