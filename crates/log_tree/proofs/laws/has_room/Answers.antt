use Rattle.std.proofs.Common.{arith}
use Rattle.log_tree.proofs.laws.has_room.Goals as goal

pub returns : goal.returns
returns c = λ nodes names chunks bytes most_nodes most_bytes blocks half budget. omega arith
