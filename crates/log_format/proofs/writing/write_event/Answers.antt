use Rattle.std.proofs.Common.{rules, ◌≡◌, ◌∙◌}
use Rattle.log_format.specs.Spelling.{event_text}
use Rattle.log_format.proofs.EventTexts.{event_told, has_within}
use Rattle.log_format.proofs.writing.write_event.Goals as goal

pub put_event-requires : goal.put_event-requires
put_event-requires c = has_within c.args.e.now c.requires

pub returns-clause-again : goal.returns-clause-again
returns-clause-again c = λ f servers text s.
    (let e : c.into_bytes.result.items ≡ event_text c.args.e.now = search rules in e)
    ∙ (event_told f servers c.args.e.now text s).0
