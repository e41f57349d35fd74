use Rattle.fetch_laws.proofs.Made.{made_walked}
use Rattle.fetch_laws.proofs.laws.made_fetches_are_walked.Goals as goal

pub returns : goal.returns
returns c = made_walked
