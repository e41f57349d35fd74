use Rattle.rpc_core.proofs.Heads.{one_head}
use Rattle.rpc_core.proofs.laws.one_head.Goals as goal

pub returns : goal.returns
returns c = one_head
