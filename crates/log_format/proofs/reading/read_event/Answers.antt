use Rattle.log_format.specs.Records.{event_form}
use Rattle.xdr_cut.proofs.Scans.{exact_short, exact_wrong}
use Rattle.log_format.proofs.EventTexts.{has_text, short_small}
use Rattle.log_format.proofs.reading.read_event.Goals as goal

pub returns-clause-exact : goal.returns-clause-exact
returns-clause-exact c = exact_short (λ x. (x.0, x.1))
    (event_form c.args.f c.args.servers) c.args.bytes.now c.front.result c.front.ensures

pub returns-clause-otherwise : goal.returns-clause-otherwise
returns-clause-otherwise c = exact_wrong (λ x. (x.0, x.1))
    (event_form c.args.f c.args.servers) c.args.bytes.now c.front.result c.front.ensures

pub returns-clause-text : goal.returns-clause-text
returns-clause-text c = has_text c.args.f c.args.servers c.args.bytes.now c.front.result c.front.ensures

pub returns-clause-small : goal.returns-clause-small
returns-clause-small c = short_small c.args.f c.args.servers c.args.bytes.now c.front.result c.front.ensures
