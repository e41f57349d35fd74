use Rattle.seats.proofs.Positions.{changes_set, watched_at, passed_at}
use Rattle.seats.proofs.running.run_at.Goals as goal

pub returns-clause-passed : goal.returns-clause-passed
returns-clause-passed g c =
    let b = c.args.bench.now in
    passed_at _ b.servers.items b.tables.items c.args.r c.args.limits.now c.requires.stands.1 _ _ _ _
    c.index_mut.ensures.value c.index_mut-2.ensures.value c.run_next.result c.args.request.now c.args.replica.now
    c.run_next.new.self (rw c.as_slice.ensures at c.run_next.ensures.passed)

pub returns-clause-servers : goal.returns-clause-servers
returns-clause-servers g c = changes_set _ _ _

pub returns-clause-tables : goal.returns-clause-tables
returns-clause-tables g c = changes_set _ _ _

pub returns-clause-watched : goal.returns-clause-watched
returns-clause-watched g c =
    let b = c.args.bench.now in
    watched_at _ b.servers.items b.tables.items c.args.r c.args.limits.now c.requires.stands.1 _ _ _
    c.run_next.new.table c.index_mut.ensures.value c.index_mut-2.ensures.value c.run_next.ensures.watched
