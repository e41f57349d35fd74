use Rattle.log_held.proofs.Lists.{live_once}
use Rattle.log_held.proofs.laws.live_are_once.Goals as goal

pub returns : goal.returns
returns c = live_once
