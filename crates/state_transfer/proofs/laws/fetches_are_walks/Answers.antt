use Rattle.cluster_model.specs.Tested.{tested}
use Rattle.state_transfer.proofs.Walks.{fetch_walks}
use Rattle.state_transfer.proofs.Rising.{got_inside}
use Rattle.state_transfer.proofs.laws.fetches_are_walks.Goals as goal

pub returns : goal.returns
returns c T real own place root got end h =
    let S = tested T in
    let w = fetch_walks S real own place root got end h in
    (w.0, w.1, got_inside S own place root got end h, w.2)
