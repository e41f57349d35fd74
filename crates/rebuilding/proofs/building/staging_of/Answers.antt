use Rattle.std.proofs.Common.{◌∙◌}
use Rattle.rebuilding.proofs.Finals.{root_there, staging_found, staging_there}
use Rattle.rebuilding.proofs.building.staging_of.Goals as goal

pub unreachable-requires : goal.unreachable-requires
unreachable-requires g c = staging_there _ c.args.table.now c.requires.stands.0 c.requires.stands.1 c.root-root.result c.root-root.ensures (λ t at. c.in_ok-found.ensures.found t at ∙ c.in-None.is)

pub returns-clause-staging : goal.returns-clause-staging
returns-clause-staging g c A st = staging_found _ c.args.table.now A st c.root-root.result c.root-root.ensures c.in-Some.handle (λ t at. c.in_ok-found.ensures.found t at ∙ c.in-Some.is) _ c.in_ok-found.ensures.same
