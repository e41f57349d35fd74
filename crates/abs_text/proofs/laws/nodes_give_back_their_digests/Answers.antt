use Rattle.abs_text.proofs.laws.nodes_give_back_their_digests.Goals as goal
use Rattle.abs_text.proofs.Nodes.{parts_back}

pub returns : goal.returns
returns c = parts_back
