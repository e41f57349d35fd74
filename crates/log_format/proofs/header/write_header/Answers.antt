use Rattle.std.proofs.Common.{rules, ◌≡◌, ◌∙◌}
use Rattle.log_format.specs.Spelling.{header_text}
use Rattle.log_format.proofs.HeaderTexts.{header_told}
use Rattle.log_format.proofs.header.write_header.Goals as goal

pub returns-clause-again : goal.returns-clause-again
returns-clause-again c = λ text s. (let e : c.into_bytes.result.items ≡ header_text c.args.h.now = search rules in e)
    ∙ header_told c.args.h.now text s
