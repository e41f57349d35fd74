use Rattle.state_transfer.proofs.Roots.{root_fetched}
use Rattle.state_transfer.proofs.laws.fetched_texts_have_the_root.Goals as goal

pub returns : goal.returns
returns c = root_fetched
