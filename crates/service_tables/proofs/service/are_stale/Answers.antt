use Rattle.std.proofs.Common.{ap, ◌∙◌, is_some}
use Rattle.service_tables.proofs.service.are_stale.Goals as goal

pub is_stale-requires : goal.is_stale-requires
is_stale-requires g c = ap is_some c.loop-row.invariant.same ∙ c.requires
