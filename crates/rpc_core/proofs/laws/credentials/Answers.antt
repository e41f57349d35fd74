use Rattle.rpc_core.proofs.Requests.{cred_known, cred_only}
use Rattle.rpc_core.proofs.laws.credentials.Goals as goal

pub returns-clause-spelled : goal.returns-clause-spelled
returns-clause-spelled c = λ body cred. cred_known cred body

pub returns-clause-only : goal.returns-clause-only
returns-clause-only c = cred_only
