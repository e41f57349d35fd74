use Rattle.abs_text.proofs.laws.entries_are_spelled_apart.Goals as goal
use Rattle.abs_text.proofs.Apart.{text_apart}

pub returns : goal.returns
returns c = text_apart
