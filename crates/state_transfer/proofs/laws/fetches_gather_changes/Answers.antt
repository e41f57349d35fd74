use Rattle.state_transfer.specs.Fetch.{begun}
use Rattle.state_transfer.proofs.Gathered.{texts_gathered}
use Rattle.state_transfer.proofs.Rising.{changes_rise}
use Rattle.state_transfer.proofs.laws.fetches_gather_changes.Goals as goal

pub returns-clause-texts : goal.returns-clause-texts
returns-clause-texts c own place levels root got end h = texts_gathered (begun own place levels root) got end h

pub returns-clause-rising : goal.returns-clause-rising
returns-clause-rising c = changes_rise
