use Rattle.seats.proofs.Positions.{changes_none, changes_set, watched_at, skipped_at}
use Rattle.seats.proofs.harming.skip_at.Goals as goal

pub returns-clause-skipped : goal.returns-clause-skipped
returns-clause-skipped g c =
    let b = c.args.bench.now in
    skipped_at _ b.servers.items b.tables.items c.args.r c.args.limits.now c.requires.stands.1 _ _ _ c.index.result.now
    c.index_mut.ensures.value c.index.ensures c.skip.result c.args.replica.now c.skip.new.self c.skip.ensures.skipped

pub returns-clause-servers : goal.returns-clause-servers
returns-clause-servers g c = changes_set _ _ _

pub returns-clause-tables : goal.returns-clause-tables
returns-clause-tables g c = changes_none _ _

pub returns-clause-watched : goal.returns-clause-watched
returns-clause-watched g c =
    let b = c.args.bench.now in
    watched_at _ b.servers.items b.tables.items c.args.r c.args.limits.now c.requires.stands.1 _ _ _ c.index.result.now
    c.index_mut.ensures.value c.index.ensures c.skip.ensures.watched
