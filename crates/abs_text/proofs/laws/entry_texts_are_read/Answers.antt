use Rattle.xdr_core.proofs.Formats.{no_prefix}
use Rattle.abs_text.specs.Forms.{entry_form}
use Rattle.abs_text.proofs.Spelled.{entry_spelled, text_is}
use Rattle.abs_text.proofs.Good.{good_spelled}
use Rattle.abs_text.proofs.laws.entry_texts_are_read.Goals as goal

pub returns-clause-again : goal.returns-clause-again
returns-clause-again c = entry_spelled

pub returns-clause-text : goal.returns-clause-text
returns-clause-text c = text_is

pub returns-clause-no_prefix : goal.returns-clause-no_prefix
returns-clause-no_prefix c = no_prefix entry_form

pub returns-clause-good : goal.returns-clause-good
returns-clause-good c limits n t A good i below = good_spelled limits n A good t i below
