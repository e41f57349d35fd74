use Rattle.nfs2_types.proofs.HandleFacts as facts
use Rattle.nfs2_types.proofs.laws.handles_and_ids.Goals as goal

pub returns : goal.returns
returns c = record { spelled = facts.spelled; read = facts.oid_in-handle_bytes }
